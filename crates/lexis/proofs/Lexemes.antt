-- The token at a position, by the class of its first byte: number, word, string, mark.
use mathlib.Core.Path.{◌≡◌}
use mathlib.Core.Bool.{cond}
use mathlib.Core.List.{List}
use Prim.Native.Nat.{ℕ, suc, ◌+◌, ◌<◌}
use native.Mathlib.Numerals.{add-one}
use native.Mathlib.Omega.{arith}
use lib.Dec.{eqb}
use lib.ListN.{length, drop, get_or}
use lib.Seq.{drop-cons}
use borrow.Author.Tests.{eq-eqb, ne_eqb}
use Rattle.lexis.specs.Bytes.{class_of}
use Rattle.lexis.specs.Lexeme.{number_lexeme, word_lexeme, string_lexeme, mark_lexeme, lexeme}
use Rattle.lexis.specs.Lexeme.{Lexeme}
use Rattle.lexis.specs.Lexeme.{Token}
use Rattle.lexis.proofs.Positions.{front}
use Rattle.lexis.proofs.Marks.{mark-alone, mark-equal}

module _ (s : List ℕ) (at : ℕ) (h : at < length s) (k : ℕ) (is : k ≡ class_of (get_or s at 0)) where
  here : lexeme (drop at s) ≡ cond (eqb k 2) (number_lexeme (drop at s))
      (cond (eqb k 3) (word_lexeme (drop at s)) (cond (eqb k 4) (string_lexeme (get_or s at 0) (drop (at + 1) s)) (mark_lexeme (get_or s at 0) (get_or s (at + 1) 0))))
  unfolding lexeme
  here = rw (is, add-one, drop-cons s at 0 h, front s (suc at))

  pub number-here : (r : Lexeme) → k ≡ 2 → r ≡ number_lexeme (drop at s) → r ≡ lexeme (drop at s)
  number-here r e q = rw (here, eq-eqb _ 2 e) q

  pub word-here : (r : Lexeme) → k ≡ 3 → r ≡ word_lexeme (drop at s) → r ≡ lexeme (drop at s)
  word-here r e q = rw (here, ne_eqb k 2 (λ z. omega arith), eq-eqb _ 3 e) q

  pub string-here : (r : Lexeme) → k ≡ 4 → r ≡ string_lexeme (get_or s at 0) (drop (at + 1) s) → r ≡ lexeme (drop at s)
  string-here r e q = rw (here, ne_eqb k 2 (λ z. omega arith), ne_eqb k 3 (λ z. omega arith), eq-eqb _ 4 e) q

  pub mark-here : (r : Lexeme) → (k ≡ 2 → ⊥) → (k ≡ 3 → ⊥) → (k ≡ 4 → ⊥) → r ≡ mark_lexeme (get_or s at 0) (get_or s (at + 1) 0) → r ≡ lexeme (drop at s)
  mark-here r n m l q = rw (here, ne_eqb _ 2 n, ne_eqb _ 3 m, ne_eqb _ 4 l) q

  pub alone-here : k ≡ 7 → (get_or s at 0 ≡ 61 → ⊥) → Token 8 1 ≡ lexeme (drop at s)
  alone-here e n = mark-here (Token 8 1) (λ z. omega arith) (λ z. omega arith) (λ z. omega arith) (mark-alone k (get_or s at 0) (get_or s (at + 1) 0) is e n)

  pub equal-here : k ≡ 7 → get_or s at 0 ≡ 61 → (get_or s (at + 1) 0 ≡ 61 → ⊥) → Token 8 1 ≡ lexeme (drop at s)
  equal-here e q n = mark-here (Token 8 1) (λ z. omega arith) (λ z. omega arith) (λ z. omega arith) (mark-equal k (get_or s at 0) (get_or s (at + 1) 0) is q n)
