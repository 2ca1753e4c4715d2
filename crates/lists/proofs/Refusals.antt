-- What a refusal by the stages of a text is: of its bytes, of its syntax, or of its rules; once for any text, then for operation lists. Its
-- code is 3 or more, so the work areas are cleared after it. Relies on `Lines` for the rules.
use mathlib.Core.Path.{◌≡◌, refl, sym, ap, ◌∙◌}
use mathlib.Core.List.{List, [], ◌∷◌, ◌++◌, append_assoc}
use mathlib.Core.Logic.{◌⊎◌, inl, inr}
use mathlib.Core.Option.{Option, some}
use mathlib.Core.Option.{none as nothing}
use Prim.Native.Nat.{ℕ, ◌≤◌}
use native.Mathlib.Omega.{arith}
use lib.ListN.{length}
use Rattle.lexis.specs.Sizes.{max_brackets}
use Rattle.lexis.specs.Lexer.{Token, Lexed, accepted, refused, lex}
use Rattle.lexis.specs.Answer.{answer}
use Rattle.lexis.specs.declared.Answer.{Answer}
use Rattle.lexis.proofs.Theorems.{coded}
use Rattle.syntax.specs.Code as Code
use Rattle.syntax.specs.Grammar.{IsList}
use Rattle.syntax.specs.Fault.{FirstFault}
use Rattle.syntax.specs.Table.{place_of}
use Rattle.syntax.specs.Parser.{Parse, Reader, operations}
use Rattle.syntax.specs.Parser.Parse.{ok, bad}
use Rattle.syntax.proofs.Theorems.{list-parsed, list-all-read, list-fault, list-bracket}
use Rattle.lists.specs.Fault.{Fault, first}
use Rattle.lists.specs.ListRules.{list_faults}
use Rattle.lists.specs.Accepted.{StartsToken}
use Rattle.lists.specs.Answer.{stop, and_then, bytes_stage, syntax_stage, rules_stage, list_stages}
use Rattle.lists.proofs.Acceptance.{stages}
use Rattle.lists.proofs.Members.{Each, list-good}
use Rattle.lists.proofs.Lines.{ListCode, list-over-size, list-repeated-name, bad-default, OnLine, first-lined, list-lined}

-- ---- one text

-- a refusal of text n, whose tokens are to spell a tree, and whose rules give codes with these details
pub data Refusal {A : Type 0} (Spells : ℕ → List Token → A → Type 0) (C : ℕ → ℕ → Type 0) (n : ℕ) (text : List ℕ) : Answer → Type 0 where
  of-bytes : {c p : ℕ} → lex text ≡ refused c p → Refusal Spells C n text (answer c n p 0)
  of-syntax : {c : ℕ} {ts us : List Token} → lex text ≡ accepted ts → FirstFault (λ b xs. (a : A) × Spells b xs a) max_brackets c ts us
      → (c ≡ Code.bracket → (t : Token) × ((ws : List Token) × (us ≡ t ∷ ws)))
      → Refusal Spells C n text (answer c n (place_of (length text) us) 0)
  of-rules : {c p k : ℕ} → C c k → StartsToken text p → Refusal Spells C n text (answer c n p k)

-- every token of a text starts a token
each-starts : (text : List ℕ) (before ts : List Token) → lex text ≡ accepted (before ++ ts) → Each (λ (t : Token). StartsToken text t.start) ts
each-starts text before [] e = tt
each-starts text before (t ∷ ts) e = (
  record { before = before; token = t; after = ts; among = e; start = refl },
  each-starts text (before ++ (t ∷ [])) ts (e ∙ ap (λ (xs : List Token). accepted xs) (sym (append_assoc before (t ∷ []) ts))),
)

module _ {A : Type 0} (Spells : ℕ → List Token → A → Type 0) (C : ℕ → ℕ → Type 0) (n : ℕ) (text : List ℕ) (f : Reader A) (faults_of : A → List Fault)
    (spelt : (c : ℕ) (ts us : List Token) → f ts ≡ bad c us → FirstFault (λ b xs. (a : A) × Spells b xs a) max_brackets c ts us)
    (opened : (c : ℕ) (ts us : List Token) → f ts ≡ bad c us → c ≡ Code.bracket → (t : Token) × ((ws : List Token) × (us ≡ t ∷ ws)))
    (lined : (ts us : List Token) (a : A) → f ts ≡ ok a us → Each (λ (t : Token). StartsToken text t.start) ts
    → Each (OnLine C (StartsToken text)) (faults_of a))
  where
    by-rules : (a : A) (o : Option Fault) → first (faults_of a) ≡ o → Each (OnLine C (StartsToken text)) (faults_of a) → (r : Answer)
        → rules_stage n a o ≡ stop r → Refusal Spells C n text r
    by-rules a nothing e h r k = let z : ◌≡◌ {A = ℕ} 0 1 = cc in absurd (omega arith)
    by-rules a (some x) e h r k =
        let l = first-lined C (StartsToken text) (faults_of a) x h e in
        let q : answer x.code n x.at x.detail ≡ r = cc in
        let w : Refusal Spells C n text (answer x.code n x.at x.detail) = of-rules l.code l.place in
        rw q at w

    by-syntax : (ts : List Token) → lex text ≡ accepted ts → (p : Parse A) → f ts ≡ p → (r : Answer)
        → and_then (syntax_stage n text p) (λ a. rules_stage n a (first (faults_of a))) ≡ stop r → Refusal Spells C n text r
    by-syntax ts l (ok a us) e r k = by-rules a (first (faults_of a)) refl (lined ts us a e (each-starts text [] ts l)) r k
    by-syntax ts l (bad c us) e r k =
        let q : answer c n (place_of (length text) us) 0 ≡ r = cc in
        let w : Refusal Spells C n text (answer c n (place_of (length text) us) 0) = of-syntax l (spelt c ts us e) (opened c ts us e) in rw q at w

    pub refusal : (r : Answer) → stages n f faults_of text ≡ stop r → Refusal Spells C n text r
    refusal r k = go (lex text) refl k
      where
        go : (l : Lexed) → lex text ≡ l
            → and_then (bytes_stage n l) (λ ts. and_then (syntax_stage n text (f ts)) (λ a. rules_stage n a (first (faults_of a)))) ≡ stop r → Refusal Spells C n text r
        go (accepted ts) e k = by-syntax ts e (f ts) refl r k
        go (refused c p) e k = let q : answer c n p 0 ≡ r = cc in let w : Refusal Spells C n text (answer c n p 0) = of-bytes e in rw q at w

-- its code is 3 or more
pub refusal-high : {A : Type 0} {Spells : ℕ → List Token → A → Type 0} {C : ℕ → ℕ → Type 0} {n : ℕ} {text : List ℕ} {r : Answer}
    → ((c k : ℕ) → C c k → 3 ≤ c) → Refusal Spells C n text r → 3 ≤ r.code
refusal-high {text = text} h (of-bytes {c = c} {p = p} e) = (coded text c p e).0
refusal-high h (of-syntax {c = c} e f g) = go f.code
  where
    go : (c ≡ 9) ⊎ (c ≡ 10) → 3 ≤ c
    go (inl q) = omega (arith, q)
    go (inr q) = omega (arith, q)
refusal-high h (of-rules {c = c} {k = k} d s) = h c k d

-- ---- lists

pub list-refusal : (list : List ℕ) (r : Answer) → list_stages list ≡ stop r → Refusal IsList ListCode 1 list r
unfolding list_stages
list-refusal list r e =
    refusal IsList ListCode 1 list (operations max_brackets) list_faults (list-fault max_brackets) (list-bracket max_brackets)
    (λ ts us hs q g. list-lined (StartsToken list) hs
    (list-good (λ t. StartsToken list t.start) ((list-parsed max_brackets ts hs).0 (q ∙ ap (ok hs) (list-all-read max_brackets ts hs us q))) g))
    r e

-- ---- their codes

pub list-high : (c k : ℕ) → ListCode c k → 3 ≤ c
list-high c k list-over-size = omega arith
list-high c k list-repeated-name = omega arith
list-high c k bad-default = omega arith

pub list-codes : (list : List ℕ) (r : Answer) → list_stages list ≡ stop r → 3 ≤ r.code
list-codes list r e = refusal-high list-high (list-refusal list r e)
