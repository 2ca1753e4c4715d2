-- After how many pairs a comparison ends.
use Prim.Native.Nat.{ℕ, zero, suc, ◌+◌, ◌-◌, ◌<◌, ◌≤◌}
use mathlib.Core.Path.{◌≡◌, refl, sym, ap, ap₂, subst, ◌∙◌}
use mathlib.Core.Bool.{Bool, true, false}
use mathlib.Core.List.{List, [], ◌∷◌}
use native.Mathlib.Omega.{arith}
use lib.Dec.{ltb}
use lib.ListN.{length, get_or}
use borrow.Author.Tests.{eq-eqb, ne_eqb, ltb-true, ltb-false}
use Rattle.spellings.specs.Comparison.{same_bytes, last_byte, through_difference, pairs, told, comparison, Agree}
use Rattle.spellings.proofs.Spellings.{same-is, same_of, same-all, same_not}

-- the pairs through a first difference at d
through-at : (a b : List ℕ) (d : ℕ) → d < length a → d < length b → Agree a b d → (get_or a d 0 ≡ get_or b d 0 → ⊥) → through_difference a b ≡ d + 1
unfolding through_difference
through-at [] b d h k g n = absurd (omega arith)
through-at (x ∷ a) [] d h k g n = absurd (omega arith)
through-at (x ∷ a) (y ∷ b) zero h k g n = simp (ne_eqb x y n)
through-at (x ∷ a) (y ∷ b) (suc d) h k g n =
    let ih = through-at a b d (omega arith) (omega arith) (λ j l. g (suc j) (omega arith)) n in simp (eq-eqb x y (g 0 (omega arith)), ih) (omega arith)

module _ (a b : List ℕ) where
  pub pairs-lengths : (length a ≡ length b → ⊥) → pairs a b ≡ 0
  unfolding pairs
  pairs-lengths n = simp (ne_eqb (length a) (length b) n)

  pub pairs-same : a ≡ b → pairs a b ≡ length a
  unfolding pairs
  pairs-same e = simp (eq-eqb (length a) (length b) (ap length e), same_of a b e)

  module _ (e : length a ≡ length b) where
    pub pairs-last : (last_byte a ≡ last_byte b → ⊥) → pairs a b ≡ 1
    unfolding pairs
    pairs-last n = simp (eq-eqb (length a) (length b) e, same_not a b (λ q. n (ap last_byte q)), ne_eqb (last_byte a) (last_byte b) n)

    pub pairs-front : last_byte a ≡ last_byte b → (d : ℕ) → d < length a → Agree a b d → (get_or a d 0 ≡ get_or b d 0 → ⊥) → pairs a b ≡ d + 2
    unfolding pairs
    pairs-front l d h g n =
        simp (
          eq-eqb (length a) (length b) e,
          same_not a b (λ q. n (ap (λ (w : List ℕ). get_or w d 0) q)),
          eq-eqb (last_byte a) (last_byte b) l,
          through-at a b d h (omega arith) g n,
        ) (omega arith)

-- ---- what a comparison gives

module _ (a b : List ℕ) where
  told_is : (s : Bool) (n : ℕ) → same_bytes a b ≡ s → pairs a b ≡ n → told s n ≡ comparison a b
  unfolding comparison
  told_is s n p q = ap₂ told (sym p) (sym q)

  pub told-lengths : (length a ≡ length b → ⊥) → told false 0 ≡ comparison a b
  told-lengths n = told_is false 0 (same_not a b (λ q. n (ap length q))) (pairs-lengths a b n)

  pub told_same : a ≡ b → told true (length a) ≡ comparison a b
  told_same e = told_is true (length a) (same_of a b e) (pairs-same a b e)

  module _ (e : length a ≡ length b) where
    pub told-last : (last_byte a ≡ last_byte b → ⊥) → told false 1 ≡ comparison a b
    told-last n = told_is false 1 (same_not a b (λ q. n (ap last_byte q))) (pairs-last a b e n)

    pub told-front : last_byte a ≡ last_byte b → (d : ℕ) → d < length a → Agree a b d → (get_or a d 0 ≡ get_or b d 0 → ⊥) → told false (d + 2) ≡ comparison a b
    told-front l d h g n = told_is false (d + 2) (same_not a b (λ q. n (ap (λ (w : List ℕ). get_or w d 0) q))) (pairs-front a b e l d h g n)

-- ---- the same, where the last byte of b is looked at in the place of that of a

module _ (a b : List ℕ) (e : length a ≡ length b) where
  last_of : get_or b (length a - 1) 0 ≡ last_byte b
  last_of = ap (λ (n : ℕ). get_or b (n - 1) 0) e

  pub tells-empty : length a ≡ 0 → told true 0 ≡ comparison a b
  tells-empty z = ap (told true) (sym z) ∙ told_same a b (same-is a b (same-all a b e (λ i l. absurd (omega arith))))

  pub tells-last : (get_or a (length a - 1) 0 ≡ get_or b (length a - 1) 0 → ⊥) → told false 1 ≡ comparison a b
  tells-last n = told-last a b e (λ q. n (q ∙ sym last_of))

  module _ (l : get_or a (length a - 1) 0 ≡ get_or b (length a - 1) 0) where
    pub tells-front : (d : ℕ) → d < length a - 1 → Agree a b d → (get_or a d 0 ≡ get_or b d 0 → ⊥) → told false (d + 2) ≡ comparison a b
    tells-front d h g n = told-front a b e (l ∙ last_of) d (omega arith) g n

    pub tells_all : (i : ℕ) → length a - 1 ≤ i → Agree a b i → told true (length a) ≡ comparison a b
    tells_all i h g = told_same a b (same-is a b (same-all a b e (λ j k. go j k (ltb j i) refl)))
      where
        go : (j : ℕ) → j < length a → (t : Bool) → ltb j i ≡ t → get_or a j 0 ≡ get_or b j 0
        go j k true q = g j (ltb-true j i q)
        go j k false q =
            let m = ltb-false j i q in
            let z : length a - 1 ≡ j = omega arith in subst (λ (x : ℕ). get_or a x 0 ≡ get_or b x 0) z l
