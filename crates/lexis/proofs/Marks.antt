-- Operators and syntactic characters, by the class of their first byte: a law for each way that the code answers.
use mathlib.Core.Path.{◌≡◌, sym, ap, ◌∙◌}
use mathlib.Core.Bool.{true, false, ◌&&◌, and-false}
use Prim.Native.Nat.{ℕ}
use native.Mathlib.Omega.{arith}
use lib.Dec.{eqb}
use borrow.Author.Tests.{eq-eqb, ne_eqb}
use Rattle.lexis.specs.Bytes.{class_of}
use Rattle.lexis.specs.Lexeme.{takes_equal, is_pair, is_arrow, mark_lexeme}
use Rattle.lexis.specs.Lexeme.{Token, Fault}

-- only = and operators take an equal sign
takes-no : (a : ℕ) → (class_of a ≡ 6 → ⊥) → (a ≡ 61 → ⊥) → takes_equal a ≡ false
unfolding takes_equal class_of
takes-no a n m = rw (ne_eqb a 60 (λ e. n (ap class_of e)), ne_eqb a 62 (λ e. n (ap class_of e)), ne_eqb a 61 m, ne_eqb a 33 (λ e. n (ap class_of e)))

not-minus : (a : ℕ) → (class_of a ≡ 6 → ⊥) → a ≡ 45 → ⊥
unfolding class_of
not-minus a n e = n (ap class_of e)

not_equal : (a : ℕ) → (class_of a ≡ 7 → ⊥) → a ≡ 61 → ⊥
unfolding class_of
not_equal a n e = n (ap class_of e)

module _ (k a b : ℕ) (is : k ≡ class_of a) where
  pub mark-same : a ≡ 61 → b ≡ 61 → Token 7 2 ≡ mark_lexeme a b
  unfolding mark_lexeme is_pair is_arrow takes_equal class_of
  mark-same e f = rw (e, f)

  pub mark-equal : a ≡ 61 → (b ≡ 61 → ⊥) → Token 8 1 ≡ mark_lexeme a b
  unfolding mark_lexeme is_pair is_arrow takes_equal class_of
  mark-equal e n = rw (e, ne_eqb b 61 n)

  pub mark-arrow : b ≡ 62 → a ≡ 45 → Token 8 2 ≡ mark_lexeme a b
  unfolding mark_lexeme is_pair is_arrow takes_equal class_of
  mark-arrow e f = rw (e, f)

  pub mark-alone : k ≡ 7 → (a ≡ 61 → ⊥) → Token 8 1 ≡ mark_lexeme a b
  unfolding mark_lexeme is_pair is_arrow
  mark-alone e n =
      let c : class_of a ≡ 7 = sym is ∙ e in
      let six : (class_of a ≡ 6 → ⊥) = λ q. omega arith in
      rw (c, takes-no a six n, and-false (eqb b 61), ne_eqb a 45 (not-minus a six))

  pub mark-pair : k ≡ 6 → b ≡ 61 → takes_equal a ≡ true → Token 7 2 ≡ mark_lexeme a b
  unfolding mark_lexeme is_pair
  mark-pair e f t = let c : class_of a ≡ 6 = sym is ∙ e in rw (c, f, t)

  pub mark-single : k ≡ 6 → (eqb b 61 && takes_equal a) ≡ false → (eqb a 45 && eqb b 62) ≡ false → Token 7 1 ≡ mark_lexeme a b
  unfolding mark_lexeme is_pair is_arrow
  mark-single e t u = let c : class_of a ≡ 6 = sym is ∙ e in rw (c, t, u)

  pub mark-double : k ≡ 8 → b ≡ a → Token 7 2 ≡ mark_lexeme a b
  unfolding mark_lexeme is_pair
  mark-double e f = let c : class_of a ≡ 8 = sym is ∙ e in rw (c, eq-eqb b a f)

  pub mark-lone : k ≡ 8 → (b ≡ a → ⊥) → Fault 3 ≡ mark_lexeme a b
  unfolding mark_lexeme is_pair is_arrow
  mark-lone e n =
      let c : class_of a ≡ 8 = sym is ∙ e in
      let six : (class_of a ≡ 6 → ⊥) = λ q. omega arith in
      rw (c, ne_eqb b a n, ne_eqb a 45 (not-minus a six))

  pub mark-none : (k ≡ 7 → ⊥) → (k ≡ 6 → ⊥) → (k ≡ 8 → ⊥) → Fault 3 ≡ mark_lexeme a b
  unfolding mark_lexeme is_pair is_arrow
  mark-none n7 n6 n8 =
      let six : (class_of a ≡ 6 → ⊥) = λ q. n6 (is ∙ q) in
      let seven : (class_of a ≡ 7 → ⊥) = λ q. n7 (is ∙ q) in
      let eight : (class_of a ≡ 8 → ⊥) = λ q. n8 (is ∙ q) in
      rw (ne_eqb _ 8 eight, takes-no a six (not_equal a seven), and-false (eqb b 61), ne_eqb a 45 (not-minus a six), ne_eqb _ 6 six, ne_eqb _ 7 seven)
