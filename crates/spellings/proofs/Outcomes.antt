-- Each comparison ends in one of four ways; what that says of the count.
use Prim.Native.Nat.{ℕ, zero, suc, ◌+◌, ◌-◌, ◌<◌, ◌≤◌}
use mathlib.Core.Path.{◌≡◌, refl, sym, ap, subst, ◌∙◌}
use mathlib.Core.Bool.{Bool, true, false, ◌&&◌, false≢true}
use mathlib.Core.List.{List, [], ◌∷◌}
use mathlib.Core.Logic.{◌↔◌, ◌⊎◌, inl, inr}
use native.Mathlib.Omega.{arith}
use lib.Dec.{eqb}
use lib.ListN.{length, get_or}
use borrow.Author.Tests.{eqb-true, eqb-false}
use Rattle.spellings.specs.declared.Comparison.{Comparison}
use Rattle.spellings.specs.Comparison.{same_bytes, last_byte, pairs, told, comparison, Agree}
use Rattle.spellings.proofs.Spellings.{same-is, same-all}
use Rattle.spellings.proofs.Pairs.{pairs-lengths, pairs-same, told-lengths, told-last, told-front, told_same}

-- the first difference of two spellings is at place d
record FirstDifference (a b : List ℕ) (d : ℕ) : Type 0 where
  within : d < length a
  agree : Agree a b d
  differ : get_or a d 0 ≡ get_or b d 0 → ⊥

difference-later : {a b : List ℕ} {d : ℕ} (x y : ℕ) → x ≡ y → FirstDifference a b d → FirstDifference (x ∷ a) (y ∷ b) (suc d)
difference-later {a} {b} {d} x y e f = record { within = let w = f.within in omega arith; agree = before; differ = f.differ }
  where
    before : Agree (x ∷ a) (y ∷ b) (suc d)
    before zero k = e
    before (suc j) k = f.agree j (omega arith)

-- spellings of one length that differ have one
first-difference : (a b : List ℕ) → length a ≡ length b → same_bytes a b ≡ false → (d : ℕ) × FirstDifference a b d
unfolding same_bytes
first-difference [] [] e n = absurd (false≢true (sym n))
first-difference [] (y ∷ b) e n = absurd (omega arith)
first-difference (x ∷ a) [] e n = absurd (omega arith)
first-difference (x ∷ a) (y ∷ b) e n = go (eqb x y) refl n (first-difference a b (omega arith))
  where
    go : (c : Bool) → eqb x y ≡ c → (c && same_bytes a b) ≡ false → (same_bytes a b ≡ false → (d : ℕ) × FirstDifference a b d)
        → (d : ℕ) × FirstDifference (x ∷ a) (y ∷ b) d
    go true q m ih = let r = ih m in (suc r.0, difference-later x y (eqb-true x y q) r.1)
    go false q m ih = (0, record { within = omega arith; agree = λ j k. absurd (omega arith); differ = eqb-false x y q })

-- unequal last bytes are those of spellings that are not empty
filled : (a b : List ℕ) → length a ≡ length b → (last_byte a ≡ last_byte b → ⊥) → 0 < length a
filled [] [] e n = absurd (n refl)
filled [] (y ∷ b) e n = absurd (omega arith)
filled (x ∷ a) b e n = omega arith

-- how a comparison ends
data Outcome (a b : List ℕ) : Comparison → Type 0 where
  lengths : (length a ≡ length b → ⊥) → Outcome a b (told false 0)
  last : length a ≡ length b → (last_byte a ≡ last_byte b → ⊥) → Outcome a b (told false 1)
  front : length a ≡ length b → last_byte a ≡ last_byte b → (d : ℕ) → FirstDifference a b d → Outcome a b (told false (d + 2))
  equal : a ≡ b → Outcome a b (told true (length a))

module _ (a b : List ℕ) where
  outcome : Outcome a b (comparison a b)
  outcome = by_lengths (eqb (length a) (length b)) refl
    where
      Ends : Comparison → Type 0
      Ends c = Outcome a b c

      by-same : length a ≡ length b → last_byte a ≡ last_byte b → (t : Bool) → same_bytes a b ≡ t → Outcome a b (comparison a b)
      by-same e l true q = let z = same-is a b q in subst Ends (told_same a b z) (equal z)
      by-same e l false q =
          let r = first-difference a b e q in
          let f = r.1 in
          subst Ends (told-front a b e l r.0 f.within f.agree f.differ) (front e l r.0 f)

      by_last : length a ≡ length b → (t : Bool) → eqb (last_byte a) (last_byte b) ≡ t → Outcome a b (comparison a b)
      by_last e true q = by-same e (eqb-true _ _ q) (same_bytes a b) refl
      by_last e false q = let n = eqb-false _ _ q in subst Ends (told-last a b e n) (last e n)

      by_lengths : (t : Bool) → eqb (length a) (length b) ≡ t → Outcome a b (comparison a b)
      by_lengths true q = by_last (eqb-true _ _ q) (eqb (last_byte a) (last_byte b)) refl
      by_lengths false q = let n = eqb-false _ _ q in subst Ends (told-lengths a b n) (lengths n)

  -- a first difference stands before equal last bytes
  before_last : length a ≡ length b → last_byte a ≡ last_byte b → (d : ℕ) → FirstDifference a b d → d + 2 ≤ length a
  before_last e l d f = go (eqb d (length a - 1)) refl
    where
      go : (t : Bool) → eqb d (length a - 1) ≡ t → d + 2 ≤ length a
      go true q =
          let z = eqb-true d (length a - 1) q in
          absurd (f.differ (ap (λ (i : ℕ). get_or a i 0) z ∙ l ∙ ap (λ (m : ℕ). get_or b (m - 1) 0) (sym e) ∙ ap (λ (i : ℕ). get_or b i 0) (sym z)))
      go false q = let m = eqb-false d (length a - 1) q in let w = f.within in omega arith

  most-of : (c : Comparison) → Outcome a b c → (c.pairs ≤ length a) × (c.pairs ≤ length b)
  most-of c (lengths n) = (omega arith, omega arith)
  most-of c (last e n) = let h = filled a b e n in (omega arith, omega arith)
  most-of c (front e l d f) = let h = before_last e l d f in (omega arith, omega arith)
  most-of c (equal e) = let z = ap length e in (omega arith, omega arith)

  none_of : (c : Comparison) → Outcome a b c → c.pairs ≡ 0 → (length a ≡ length b → ⊥) ⊎ ((a ≡ []) × (b ≡ []))
  none_of c (lengths n) z = inl n
  none_of c (last e n) z = absurd (omega arith)
  none_of c (front e l d f) z = absurd (omega arith)
  none_of c (equal e) z = let y = same-is a [] (same-all a [] z (λ i l. absurd (omega arith))) in inr (y, sym e ∙ y)

  swapped-of : (c : Comparison) → Outcome a b c → c ≡ comparison b a
  swapped-of c (lengths n) = told-lengths b a (λ q. n (sym q))
  swapped-of c (last e n) = told-last b a (sym e) (λ q. n (sym q))
  swapped-of c (front e l d f) =
      let w = f.within in told-front b a (sym e) (sym l) d (omega arith) (λ j k. sym (f.agree j k)) (λ q. f.differ (sym q))
  swapped-of c (equal e) = ap (told true) (ap length e) ∙ told_same b a (sym e)

  pub pairs-most : (pairs a b ≤ length a) × (pairs a b ≤ length b)
  unfolding comparison
  pairs-most = most-of (comparison a b) outcome

  pub pairs-none : (pairs a b ≡ 0) ↔ ((length a ≡ length b → ⊥) ⊎ ((a ≡ []) × (b ≡ [])))
  unfolding comparison
  pairs-none = (none_of (comparison a b) outcome, back)
    where
      back : (length a ≡ length b → ⊥) ⊎ ((a ≡ []) × (b ≡ [])) → pairs a b ≡ 0
      back (inl n) = pairs-lengths a b n
      back (inr (y, z)) = pairs-same a b (y ∙ sym z) ∙ ap length y

  pub swapped : comparison a b ≡ comparison b a
  swapped = swapped-of (comparison a b) outcome
