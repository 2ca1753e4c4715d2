-- The tokens of a table from a place on: none at the end, one more before it, and an end of them is those from a later place on.
-- Assumes nothing.
use mathlib.Core.Path.{◌≡◌, refl, sym, ap, ◌∙◌}
use mathlib.Core.Bool.{Bool, true, false}
use Prim.Native.Nat.{ℕ, zero, suc, ◌+◌, ◌-◌, ◌<◌, ◌≤◌}
use native.Mathlib.Omega.{arith}
use mathlib.Core.List.{List, [], ◌∷◌}
use lib.Dec.{leb}
use lib.ListN.{length}
use borrow.Author.Tests.{leb-true, leb-false}
use Rattle.lexis.specs.Lexer.{Token}
use Rattle.syntax.specs.Parser.{rest}
use Rattle.syntax.specs.Table.{token_at, tokens_from, toks}
use Rattle.syntax.proofs.Tails.{Suffix}
use Rattle.syntax.proofs.Tails.Suffix.{all, past}

module _ (text table : List ℕ) where
  from_more : (i k l : ℕ) → k ≡ suc l → tokens_from text table i k ≡ token_at text table i ∷ tokens_from text table (i + 1) l
  unfolding tokens_from
  from_more i k l h = rw h

  from-none : (i k : ℕ) → k ≡ 0 → tokens_from text table i k ≡ []
  unfolding tokens_from
  from-none i k h = rw h

  from-length : (i k : ℕ) → length (tokens_from text table i k) ≡ k
  unfolding tokens_from
  from-length i zero = refl
  from-length i (suc k) = ap suc (from-length (i + 1) k)

  -- the place where an end of k tokens from i starts
  from-suffix : (i k : ℕ) {us : List Token} → Suffix (tokens_from text table i k) us
      → (j : ℕ) × (i ≤ j) × (j ≤ i + k) × (us ≡ tokens_from text table j ((i + k) - j))
  unfolding tokens_from
  from-suffix i zero all = (i, omega arith, omega arith, sym (from-none i ((i + 0) - i) (omega arith)))
  from-suffix i (suc k) all =
      let h : suc k ≡ (i + suc k) - i = omega arith in
      (i, omega arith, omega arith, ap (λ (m : ℕ). tokens_from text table i m) h)
  from-suffix i (suc k) (past h) =
      let r = from-suffix (i + 1) k h in
      let q : (i + 1 + k) - r.0 ≡ (i + suc k) - r.0 = omega arith in
      (r.0, omega arith, omega arith, r.3 ∙ ap (λ (m : ℕ). tokens_from text table r.0 m) q)

  module _ (n : ℕ) where
    pub toks-none : (i : ℕ) → n ≤ i → toks text table n i ≡ []
    toks-none i h = from-none i (n - i) (omega arith)

    pub toks_more : (i : ℕ) → i < n → toks text table n i ≡ token_at text table i ∷ toks text table n (i + 1)
    toks_more i h = from_more i (n - i) (n - (i + 1)) (omega arith)

    pub toks-length : (i : ℕ) → length (toks text table n i) ≡ n - i
    toks-length i = from-length i (n - i)

    pub toks-rest : (i : ℕ) → rest (toks text table n i) ≡ toks text table n (i + 1)
    toks-rest i = go (leb n i) refl
      where
        go : (b : Bool) → leb n i ≡ b → rest (toks text table n i) ≡ toks text table n (i + 1)
        go true e = let h = leb-true n i e in ap rest (toks-none i h) ∙ sym (toks-none (i + 1) (omega arith))
        go false e = ap rest (toks_more i (leb-false n i e))

    pub toks-suffix : (i : ℕ) {us : List Token} → Suffix (toks text table n i) us → us ≡ toks text table n (n - length us)
    toks-suffix i {us} h =
        let r = from-suffix i (n - i) h in
        let l : length us ≡ (i + (n - i)) - r.0 = ap (λ (ws : List Token). length ws) r.3 ∙ from-length r.0 ((i + (n - i)) - r.0) in
        go (leb i n) refl r l
      where
        go : (b : Bool) → leb i n ≡ b → (r : (j : ℕ) × (i ≤ j) × (j ≤ i + (n - i)) × (us ≡ tokens_from text table j ((i + (n - i)) - j)))
            → length us ≡ (i + (n - i)) - r.0 → us ≡ toks text table n (n - length us)
        go true e r l =
            let w = leb-true i n e in
            let p : r.0 ≡ n - length us = omega arith in
            let q : (i + (n - i)) - r.0 ≡ n - r.0 = omega arith in
            r.3 ∙ (ap (λ (m : ℕ). tokens_from text table r.0 m) q ∙ ap (λ (m : ℕ). toks text table n m) p)
        go false e r l =
            let w = leb-false i n e in
            r.3 ∙ (from-none r.0 ((i + (n - i)) - r.0) (omega arith) ∙ sym (toks-none (n - length us) (omega arith)))
