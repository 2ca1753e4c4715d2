-- When two spellings are the same.
use Prim.Native.Nat.{ℕ, suc, ◌<◌}
use mathlib.Core.Path.{◌≡◌, refl, sym, ap, ap₂, ◌∙◌}
use mathlib.Core.Bool.{Bool, true, false, ◌&&◌, false≢true}
use mathlib.Core.List.{List, [], ◌∷◌}
use native.Mathlib.Omega.{arith}
use lib.Dec.{eqb}
use lib.ListN.{length, get_or}
use borrow.Author.Tests.{eqb-true, eq-eqb}
use Rattle.spellings.specs.Comparison.{same_bytes}

pub same-is : (a b : List ℕ) → same_bytes a b ≡ true → a ≡ b
unfolding same_bytes
same-is [] [] h = refl
same-is [] (y ∷ b) h = absurd (false≢true h)
same-is (x ∷ a) [] h = absurd (false≢true h)
same-is (x ∷ a) (y ∷ b) h = go (eqb x y) refl h (same-is a b)
  where
    go : (c : Bool) → eqb x y ≡ c → (c && same_bytes a b) ≡ true → (same_bytes a b ≡ true → a ≡ b) → x ∷ a ≡ y ∷ b
    go true e q ih = ap₂ (λ (z : ℕ) (r : List ℕ). z ∷ r) (eqb-true x y e) (ih q)
    go false e q ih = absurd (false≢true q)

pub same_self : (a : List ℕ) → same_bytes a a ≡ true
unfolding same_bytes
same_self [] = refl
same_self (x ∷ a) = simp (eq-eqb x x refl, same_self a)

pub same_of : (a b : List ℕ) → a ≡ b → same_bytes a b ≡ true
same_of a b e = ap (same_bytes a) (sym e) ∙ same_self a

pub same-all : (a b : List ℕ) → length a ≡ length b → ((i : ℕ) → i < length a → get_or a i 0 ≡ get_or b i 0) → same_bytes a b ≡ true
unfolding same_bytes
same-all [] [] e h = refl
same-all [] (y ∷ b) e h = absurd (omega arith)
same-all (x ∷ a) [] e h = absurd (omega arith)
same-all (x ∷ a) (y ∷ b) e h = simp (eq-eqb x y (h 0 (omega arith)), same-all a b (omega arith) (λ i l. h (suc i) (omega arith)))

pub same_not : (a b : List ℕ) → (a ≡ b → ⊥) → same_bytes a b ≡ false
same_not a b n = go (same_bytes a b) refl
  where
    go : (c : Bool) → same_bytes a b ≡ c → same_bytes a b ≡ false
    go true e = absurd (n (same-is a b e))
    go false e = e
