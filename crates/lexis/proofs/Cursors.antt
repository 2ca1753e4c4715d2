-- What the token cursor finds: first a law for each answer of `next`, then what each answer says of the tokens of the text (`step-says`).
use mathlib.Core.Path.{◌≡◌, refl, sym, ap, ◌∙◌, subst}
use mathlib.Core.Bool.{Bool, true, false, cond}
use mathlib.Core.List.{List, []}
use Prim.Native.Nat.{ℕ, suc, ◌+◌, ◌-◌, ◌≤◌, ◌<◌}
use native.Mathlib.Nat.{le_refl}
use native.Mathlib.Numerals.{add-one}
use native.Mathlib.Omega.{arith}
use lib.Dec.{eqb, ltb, leb}
use lib.ListN.{length, take, drop, get_or, length-drop, drop_of_length-le}
use lib.Seq.{drop-drop, length-take-le}
use borrow.Author.Tests.{le-leb, lt-leb, ne_eqb, leb-true, leb-false, ltb-true, eqb-true, eqb-false}
use Rattle.lexis.specs.Sizes.{max_tokens}
use Rattle.lexis.specs.Kind.{IsKind}
use Rattle.lexis.specs.Bytes.{class_of, span_len, gap_from, gap_len}
use Rattle.lexis.specs.Lexeme.{lexeme}
use Rattle.lexis.specs.Lexer.{Lexed, accepted, refused, prepend, lex_from}
use Rattle.lexis.specs.Runs.{is_space, in_comment}
use Rattle.lexis.specs.Steps.{step_to, gap_to, step_at}
use Rattle.lexis.specs.Lexeme.{Lexeme}
use Rattle.lexis.specs.Lexeme as L
use Rattle.lexis.specs.declared.cursor.Cursor.{Cursor}
use Rattle.lexis.specs.Steps.{Record}
use Rattle.lexis.specs.Steps.{Step}
use Rattle.lexis.specs.Steps.{Next, Gap, End, Fault}
use Rattle.lexis.proofs.Lengths.{Sized, sized}
use Rattle.lexis.proofs.Verdicts.{Told, told}
use Rattle.lexis.proofs.Lexer.{lex-nil, after, lex-token}
use Rattle.lexis.proofs.Runs.{gap-stop}
use Rattle.lexis.proofs.Positions.{span-in}
use Rattle.lexis.proofs.Gaps.{pass-spaces, pass-comment}

-- ---- what `next` returns

module _ (text : List ℕ) (c : Cursor) where
  pub step_end : length text ≤ c.at → End ≡ step_at text c
  unfolding step_at
  step_end h = rw (le-leb _ _ h)

  module _ (h : c.at < length text) (k : ℕ) (is : k ≡ class_of (get_or text c.at 0)) where
    pub step-spaces : (end : ℕ) → k ≡ 1 → end ≡ c.at + 1 + span_len is_space (drop (c.at + 1) text)
        → Gap (record { at = end; count = c.count }) ≡ step_at text c
    unfolding step_at
    step-spaces end e q = rw (lt-leb _ _ h, ← is, e, q)

    pub step-comment : (end : ℕ) → k ≡ 5 → end ≡ c.at + 1 + span_len in_comment (drop (c.at + 1) text)
        → Gap (record { at = end; count = c.count }) ≡ step_at text c
    unfolding step_at
    step-comment end e q = rw (lt-leb _ _ h, ← is, e, q)

    module _ (n1 : k ≡ 1 → ⊥) (n5 : k ≡ 5 → ⊥) (l : Lexeme) (found : l ≡ lexeme (drop c.at text)) where
      step-here : step_at text c ≡ step_to l c.at c.count
      unfolding step_at
      step-here = rw (lt-leb _ _ h, ← is, ne_eqb k 1 n1, ne_eqb k 5 n5, found)

      pub step-fault : (code : ℕ) → l ≡ L.Fault code → Fault code c.at ≡ step_at text c
      step-fault code e = rw (step-here, e)

      pub step-many : (k n : ℕ) → l ≡ L.Token k n → ltb c.count max_tokens ≡ false → Fault 8 c.at ≡ step_at text c
      step-many k n e t = rw (step-here, e, t)

      pub step-next : (k n : ℕ) → l ≡ L.Token k n → ltb c.count max_tokens ≡ true
          → Next (record { kind = k; start = c.at; end = c.at + n }) (record { at = c.at + n; count = c.count + 1 }) ≡ step_at text c
      step-next k n e t = rw (step-here, e, t)

  pub token-in : (l : Lexeme) (k n : ℕ) → c.at < length text → l ≡ lexeme (drop c.at text) → l ≡ L.Token k n → c.at + n ≤ length text
  token-in l k n h found e =
      let z : Sized (length (drop c.at text)) (L.Token k n) = subst (Sized (length (drop c.at text))) (sym found ∙ e) (sized (drop c.at text)) in
      omega (arith, z.1, length-drop c.at text)

-- ---- what that says of the tokens

-- the tokens from a cursor on
abbrev pub lex_here : List ℕ → Cursor → Lexed
lex_here text c = lex_from 0 c.count c.at (drop c.at text)

pub record Stepped (text : List ℕ) (c : Cursor) (r : Record) (d : Cursor) : Type 0 where
  pub bytes : List ℕ
  pub lexes : lex_here text c ≡ prepend (record { kind = r.kind; start = r.start; bytes = bytes }) (lex_here text d)
  pub ends : r.start + length bytes ≡ r.end
  pub spelt : bytes ≡ take (r.end - r.start) (drop r.start text)
  pub kinded : IsKind r.kind
  pub some : r.start < r.end
  pub inside : r.end ≤ length text
  pub moves : c.at < d.at
  pub within : d.at ≤ length text
  pub room : c.count < max_tokens
  pub counts : d.count ≡ c.count + 1

-- a gap, or a part of one, that is passed
pub record Passed (text : List ℕ) (c d : Cursor) : Type 0 where
  pub lexes : lex_here text c ≡ lex_here text d
  pub moves : c.at < d.at
  pub within : d.at ≤ length text
  pub counts : d.count ≡ c.count

abbrev pub Says : List ℕ → Cursor → Step → Type 0
Says text c (Next r d) = Stepped text c r d
Says text c (Gap d) = Passed text c d
Says text c End = lex_here text c ≡ accepted []
Says text c (Fault code p) = (lex_here text c ≡ refused code p) × (p ≤ length text)

-- a token of length n at `start`
token-says : (text : List ℕ) (c : Cursor) (start k n : ℕ) → c.at ≤ start → start ≤ length text
    → lex_here text c ≡ after (L.Token k n) c.count start (drop start text) → Sized (length (drop start text)) (L.Token k n) → IsKind k
    → (b : Bool) → ltb c.count max_tokens ≡ b
    → Says text c (cond b (Next (record { kind = k; start = start; end = start + n }) (record { at = start + n; count = c.count + 1 })) (Fault 8 start))
token-says text c start k n h l e z kind true t =
    let fits : start + n ≤ length text = omega (arith, z.1, length-drop start text) in
    record {
      bytes = take n (drop start text);
      lexes =
          e
          ∙ ap
          (λ (b : Bool). cond b
          (prepend (record { kind = k; start = start; bytes = take n (drop start text) }) (lex_from 0 (suc c.count) (start + n) (drop n (drop start text))))
          (refused 8 start))
          t
          ∙ rw (drop-drop n start text, add-one);
      ends = ap (λ (m : ℕ). start + m) (length-take-le n (drop start text) z.1);
      spelt = let m : n ≡ (start + n) - start = omega arith in ap (λ (i : ℕ). take i (drop start text)) m;
      kinded = kind;
      some = omega (arith, z.0);
      inside = fits;
      moves = omega (arith, z.0);
      within = fits;
      room = ltb-true c.count max_tokens t;
      counts = refl;
    }
token-says text c start k n h l e z kind false t = (
  e
      ∙ ap
      (λ (b : Bool). cond b
      (prepend (record { kind = k; start = start; bytes = take n (drop start text) }) (lex_from 0 (suc c.count) (start + n) (drop n (drop start text))))
      (refused 8 start))
      t,
  l,
)

lexeme-says : (text : List ℕ) (c : Cursor) (start : ℕ) (l : Lexeme) → c.at ≤ start → start ≤ length text
    → lex_here text c ≡ after l c.count start (drop start text) → Sized (length (drop start text)) l → Told l → Says text c (step_to l start c.count)
lexeme-says text c start (L.Fault code) h k e z t = (e, k)
lexeme-says text c start (L.Token k n) h l e z t = token-says text c start k n h l e z t (ltb c.count max_tokens) refl

module _ (text : List ℕ) (c : Cursor) where
  gap-says : (test : ℕ → Bool) → c.at < length text
      →
      ((e : ℕ) → e ≡ c.at + 1 + span_len test (drop (c.at + 1) text)
      → lex_from 0 c.count c.at (drop c.at text) ≡ lex_from 0 c.count e (drop e text))
      → Says text c (gap_to test text c)
  gap-says test h p = record {
    lexes = p (c.at + 1 + span_len test (drop (c.at + 1) text)) refl;
    moves = omega arith;
    within = span-in test text (c.at + 1) (omega arith);
    counts = refl;
  }

  token-step-says : c.at < length text → (class_of (get_or text c.at 0) ≡ 1 → ⊥) → (class_of (get_or text c.at 0) ≡ 5 → ⊥)
      → Says text c (step_to (lexeme (drop c.at text)) c.at c.count)
  token-step-says h n1 n5 =
      let none : c.at + gap_from false (drop c.at text) ≡ c.at = gap-stop text c.at false h refl n5 n1 in
      let bare : gap_len (drop c.at text) ≡ 0 = omega arith in
      let some : 0 < length (drop c.at text) = omega (arith, length-drop c.at text) in
      lexeme-says text c c.at (lexeme (drop c.at text)) (le_refl c.at) (omega arith) (lex-token c.count c.at (drop c.at text) some bare)
      (sized (drop c.at text)) (told (drop c.at text))

  pick-says : (a b d : Bool) → leb (length text) c.at ≡ a → eqb (class_of (get_or text c.at 0)) 1 ≡ b → eqb (class_of (get_or text c.at 0)) 5 ≡ d
      → Says text c (cond a End (cond b (gap_to is_space text c) (cond d (gap_to in_comment text c) (step_to (lexeme (drop c.at text)) c.at c.count))))
  pick-says true b d e f g = ap (lex_from 0 c.count c.at) (drop_of_length-le text (leb-true (length text) c.at e)) ∙ lex-nil 0 c.count c.at
  pick-says false true d e f g =
      let h = leb-false (length text) c.at e in gap-says is_space h (λ e q. pass-spaces text c.at c.count e h (eqb-true _ 1 f) q)
  pick-says false false true e f g =
      let h = leb-false (length text) c.at e in gap-says in_comment h (λ e q. pass-comment text c.at c.count e h (eqb-true _ 5 g) q)
  pick-says false false false e f g = token-step-says (leb-false (length text) c.at e) (eqb-false _ 1 f) (eqb-false _ 5 g)

  pub step-says : Says text c (step_at text c)
  unfolding step_at
  step-says = pick-says (leb (length text) c.at) (eqb (class_of (get_or text c.at 0)) 1) (eqb (class_of (get_or text c.at 0)) 5) refl refl refl
