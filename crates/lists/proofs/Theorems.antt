-- What holds of operation lists, for every text and every lent length: acceptance in both directions, the first fault, numbers with a sign,
-- the work area. The page of the demands cites these. Assumes nothing.
use mathlib.Core.Path.{◌≡◌, refl, sym, ap, ◌∙◌}
use mathlib.Core.Bool.{Bool, true, false, cond}
use mathlib.Core.List.{List, [], Memᴰ}
use mathlib.Core.Logic.{◌⊎◌, inl, inr, ◌↔◌}
use mathlib.Core.Option.{Option, some}
use mathlib.Core.Option.{none as nothing}
use Prim.Native.Nat.{ℕ, zero, suc, ◌≤◌, ◌<◌}
use native.Mathlib.Omega.{arith}
use lib.Dec.{leb}
use lib.ListN.{length, replicate}
use lib.IntN.{nat_abs}
use borrow.Author.Tests.{le-leb, lt-leb, leb-true, eq-eqb, ne_eqb}
use Rattle.lexis.specs.Sizes.{max_text, max_brackets, work_words, max_extent}
use Rattle.lexis.specs.Code as Code
use Rattle.lexis.specs.Kind as Kind
use Rattle.lexis.specs.Number.{value_from, signed}
use Rattle.lexis.specs.Answer.{answer}
use Rattle.lexis.specs.declared.Answer.{Answer}
use Rattle.lexis.specs.Lexer.{Token, accepted, refused, lex}
use Rattle.syntax.specs.Tree.{Literal, Header}
use Rattle.syntax.specs.Tree.Value.{literal}
use Rattle.syntax.specs.Tree.Ty.{extent}
use Rattle.syntax.specs.Grammar.{IsList}
use Rattle.syntax.specs.Fault.{FirstFault}
use Rattle.syntax.specs.Table.{place_of}
use Rattle.syntax.proofs.Theorems.{list-parsed, list-fault-given}
use Rattle.lists.specs.Fault.{Fault, first, IsFirst}
use Rattle.lists.specs.Reading.{is_extent, read_at, fits}
use Rattle.lists.specs.ListRules.{list_faults}
use Rattle.lists.specs.Answer.{Stage, pass, stop, guard, stage_answer, list_stages, declared, declarations_answer, work_after}
use Rattle.lists.specs.Accepted.{AcceptedList}
use Rattle.lists.proofs.Extents.{abs-signed, extent-bound}
use Rattle.lists.proofs.Leaves.{where-some}
use Rattle.lists.proofs.First.{before-antisym, first-is, first-none}
use Rattle.lists.proofs.Refusals.{list-codes}
use Rattle.lists.proofs.Acceptance.{list-passed, list-passes}

-- ---- the answer of a stage

-- it is the fault of the list that none lies before, and no other
pub first-fault : (xs : List Fault) (x : Fault) → (first xs ≡ some x → IsFirst x xs) × (IsFirst x xs → first xs ≡ some x)
first-fault xs x = (first-is xs x, λ h. go h (first xs) refl)
  where
    none : {xs : List Fault} → xs ≡ [] → Memᴰ x xs → ⊥
    none e m = empty (rw e at m)
      where
        empty : Memᴰ x [] → ⊥
        empty m = elim m [ ]

    go : IsFirst x xs → (o : Option Fault) → first xs ≡ o → first xs ≡ some x
    go h nothing e = absurd (none (first-none xs e) h.member)
    go h (some y) e = let i = first-is xs y e in e ∙ ap (λ (z : Fault). some z) (before-antisym y x (i.lowest x h.member) (h.lowest y i.member))

-- ---- the first fault of a list: of the bytes; of the syntax, whose place the grammar gives; of the rules

pub list-bytes : (list : List ℕ) (c p : ℕ) → lex list ≡ refused c p → list_stages list ≡ stop (answer c 1 p 0)
unfolding list_stages
list-bytes list c p e = rw e

pub list-syntax : (list : List ℕ) (c : ℕ) (ts us : List Token) → lex list ≡ accepted ts
    → FirstFault (λ b xs. (hs : List Header) × IsList b xs hs) max_brackets c ts us
    → list_stages list ≡ stop (answer c 1 (place_of (length list) us) 0)
unfolding list_stages
list-syntax list c ts us e f = rw (e, list-fault-given max_brackets c ts us f)

pub list-rules : (list : List ℕ) (ts : List Token) (hs : List Header) (x : Fault) → lex list ≡ accepted ts → IsList max_brackets ts hs
    → IsFirst x (list_faults hs)
    → list_stages list ≡ stop (answer x.code 1 x.at x.detail)
unfolding list_stages
list-rules list ts hs x e s f = rw (e, (list-parsed max_brackets ts hs).1 s, (first-fault (list_faults hs) x).1 f)

-- ---- numbers with a sign

-- a whole number fits extent exactly when it is at most 2,147,483,647, and with a sign exactly when it is at most one more
pub extent-ends : (l : Literal) → l.token.kind ≡ Kind.whole
    → (fits (literal l) extent ≡ true) ↔ (value_from 0 l.token.bytes ≤ cond l.negative (suc max_extent) max_extent)
unfolding fits read_at
extent-ends l k =
    let n = value_from 0 l.token.bytes in
    let m = cond l.negative (suc max_extent) max_extent in
    let e : fits (literal l) extent ≡ leb n m = simp (eq-eqb l.token.kind Kind.whole k) (where-some (is_extent (signed l.negative n)) _)
    ∙ sym (extent-bound l.negative n) in
    (λ h. leb-true n m (sym e ∙ h), λ h. e ∙ le-leb n m h)

-- two signed numbers are equal exactly when the numbers are, and the signs too unless the numbers are zero
pub signed_same : (a b : Bool) (m n : ℕ) → (signed a m ≡ signed b n) ↔ ((m ≡ n) × (0 < m → a ≡ b))
signed_same a b m n = (λ h. (same h, λ l. signs a b m n l h), λ h. back m n a b h.0 h.1)
  where
    same : signed a m ≡ signed b n → m ≡ n
    same h = sym (abs-signed a m) ∙ (ap nat_abs h ∙ abs-signed b n)

    clash : ◌≡◌ {A = ℕ} 0 1 → ⊥
    clash z = omega arith

    signs : (a b : Bool) (m n : ℕ) → 0 < m → signed a m ≡ signed b n → a ≡ b
    signs false false m n l h = refl
    signs true true m n l h = refl
    signs true false zero n l h = absurd (omega arith)
    signs true false (suc m) n l h = absurd (clash cc)
    signs false true zero n l h = absurd (omega arith)
    signs false true (suc m) zero l h = absurd (clash cc)
    signs false true (suc m) (suc n) l h = absurd (clash cc)

    back : (m n : ℕ) (a b : Bool) → m ≡ n → (0 < m → a ≡ b) → signed a m ≡ signed b n
    back (suc m) n a b e f = rw (← e, f (omega arith))
    back zero n false false e f = rw (← e)
    back zero n false true e f = rw (← e)
    back zero n true false e f = rw (← e)
    back zero n true true e f = rw (← e)

-- ---- declarations

module _ (list : List ℕ) (work : ℕ) where
  pub declarations-room : work < work_words → declarations_answer list work ≡ answer Code.short_room 0 0 0
  unfolding declarations_answer declared
  declarations-room r = rw (lt-leb work_words work r)

  pub declarations-long : work_words ≤ work → max_text < length list → declarations_answer list work ≡ answer Code.long_text 1 max_text 0
  unfolding declarations_answer declared
  declarations-long r l = rw (le-leb work_words work r, lt-leb (length list) max_text l)

  -- lent the room asked, and with a text that is not too long, the answer is that of the stages
  pub declarations-stages : work_words ≤ work → length list ≤ max_text → declarations_answer list work ≡ stage_answer (list_stages list) length
  unfolding declarations_answer declared
  declarations-stages r l = rw (le-leb work_words work r, le-leb (length list) max_text l)

  -- an accepted list is answered 0, 0, 0 and the number of its operations
  pub declarations-accepts : (hs : List Header) → work_words ≤ work → AcceptedList list hs → declarations_answer list work ≡ answer Code.accepted 0 0 (length hs)
  declarations-accepts hs r a = declarations-stages r a.short ∙ ap (λ (s : Stage (List Header)). stage_answer s length) (list-passes list hs a)

  -- and code 0 is answered to no other
  pub declarations-accepted : (declarations_answer list work).code ≡ Code.accepted → (hs : List Header) × AcceptedList list hs
  unfolding declarations_answer declared
  declarations-accepted e = go (leb work_words work) (leb (length list) max_text) refl e
    where
      by : length list ≤ max_text → (s : Stage (List Header)) → list_stages list ≡ s → (stage_answer s length).code ≡ 0 → (hs : List Header) × AcceptedList list hs
      by l (pass hs) q e = (hs, list-passed list hs l q)
      by l (stop r) q e = absurd (omega (arith, list-codes list r q))

      go : (a b : Bool) → leb (length list) max_text ≡ b
          → (stage_answer (guard a (answer 1 0 0 0) (guard b (answer 2 1 max_text 0) (list_stages list))) length).code ≡ 0
          → (hs : List Header) × AcceptedList list hs
      go false b q e = absurd (omega arith)
      go true false q e = absurd (omega arith)
      go true true q e = by (leb-true (length list) max_text q) (list_stages list) refl e

-- ---- lent words

-- after any answer but codes 1 and 2 a work area is zero over its full length, and these two leave it as it was
pub work-zero : (r : Answer) (work : List ℕ) → (r.code ≡ Code.short_room → ⊥) → (r.code ≡ Code.long_text → ⊥) → work_after r work ≡ replicate (length work) 0
unfolding work_after
work-zero r work a b = rw (ne_eqb r.code 1 a, ne_eqb r.code 2 b)

pub work-kept : (r : Answer) (work : List ℕ) → (r.code ≡ Code.short_room) ⊎ (r.code ≡ Code.long_text) → work_after r work ≡ work
unfolding work_after
work-kept r work (inl e) = rw e
work-kept r work (inr e) = rw e
