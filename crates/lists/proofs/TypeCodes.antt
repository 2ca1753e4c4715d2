-- A type's number and its parts: each is found again, no type has the number of several results, and only tensor that of tensor. Assumes nothing.
use mathlib.Core.Path.{◌≡◌, refl, sym, ap, ◌∙◌}
use mathlib.Core.Bool.{Bool, true, false}
use Prim.Native.Nat.{ℕ, ◌+◌, ◌*◌, ◌/◌, ◌%◌, ◌<◌}
use native.Mathlib.Omega.{arith}
use lib.Dec.{eqb}
use Rattle.syntax.specs.Tree.{Ty}
use Rattle.syntax.specs.Tree.Ty.{tensor, extent, scalar, logical, string, array_of, tuple_of}
use Rattle.lists.specs.Reading.{all_tensor}
use Rattle.lists.specs.Masks.{bit}
use Rattle.lists.specs.Types.{tensor_kinds, kinds_of, pairs_of, type_code, several}
use Rattle.lists.proofs.Masks.{bit_le}

kinds-even : (u : Ty) → (kinds_of u < 64) × (kinds_of u % 2 ≡ 0)
unfolding kinds_of
kinds-even tensor = (omega arith, refl)
kinds-even extent = (omega arith, refl)
kinds-even scalar = (omega arith, refl)
kinds-even logical = (omega arith, refl)
kinds-even string = (omega arith, refl)
kinds-even (array_of u) = kinds-even u
kinds-even (tuple_of us) = (omega arith, refl)

bit-odd : (b : Bool) (k : ℕ) → b ≡ eqb ((bit b + 2 * k) % 2) 1
bit-odd true k = let e : (1 + 2 * k) % 2 ≡ 1 = omega arith in simp e
bit-odd false k = let e : (0 + 2 * k) % 2 ≡ 0 = omega arith in simp e

module _ (u : Ty) where
  pub code-made : (kinds pairs b : ℕ) (x : Bool) → kinds ≡ kinds_of u → pairs ≡ pairs_of u → x ≡ all_tensor u → b ≡ bit x
      → kinds + 512 * (b + 2 * pairs) ≡ type_code u
  unfolding type_code
  code-made kinds pairs b x p q r e = let f = ap bit r in omega arith

  module _ (code : ℕ) (h : code ≡ type_code u) where
    pub code-kinds : code % 512 ≡ kinds_of u
    unfolding type_code
    code-kinds = let q = kinds-even u in omega (arith, q.0)

    upper : code / 512 ≡ bit (all_tensor u) + 2 * pairs_of u
    unfolding type_code
    upper = let q = kinds-even u in omega (arith, q.0)

    pub code-tensor : eqb (code / 512 % 2) 1 ≡ all_tensor u
    code-tensor = sym (bit-odd (all_tensor u) (pairs_of u) ∙ ap (λ (x : ℕ). eqb (x % 2) 1) (sym upper))

    pub code-pairs : code / 1024 ≡ pairs_of u
    code-pairs = let b = bit_le (all_tensor u) in let e = upper in omega arith

    pub code-single : code ≡ several → ⊥
    unfolding type_code
    code-single e = let q = kinds-even u in omega (arith, q.1)

-- ---- the type tensor

pub tensor-code : type_code tensor ≡ 558
unfolding type_code kinds_of all_tensor pairs_of
tensor-code = refl

plain-tensor : (u : Ty) → kinds_of u ≡ tensor_kinds → pairs_of u ≡ 0 → u ≡ tensor
unfolding kinds_of pairs_of
plain-tensor tensor p q = refl
plain-tensor extent p q = absurd (omega (arith, p))
plain-tensor scalar p q = absurd (omega (arith, p))
plain-tensor logical p q = absurd (omega (arith, p))
plain-tensor string p q = absurd (omega (arith, p))
plain-tensor (array_of u) p q = absurd (omega (arith, q))
plain-tensor (tuple_of us) p q = absurd (omega (arith, p))

pub only-tensor : (u : Ty) → type_code tensor ≡ type_code u → u ≡ tensor
unfolding kinds_of pairs_of
only-tensor u h =
    plain-tensor u (sym (code-kinds u (type_code tensor) h) ∙ code-kinds tensor (type_code tensor) refl)
    (sym (code-pairs u (type_code tensor) h) ∙ code-pairs tensor (type_code tensor) refl)
