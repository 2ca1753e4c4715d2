-- Masks of flags: one flag set, looked at, or more. What a mask lacks of another: `Masks` of crate `documents`. Assumes nothing.
use mathlib.Core.Path.{◌≡◌, refl, sym, ap, ◌∙◌}
use mathlib.Core.Bool.{Bool, true, false}
use mathlib.Core.List.{List, [], ◌∷◌, ◌++◌}
use Prim.Native.Nat.{ℕ, zero, suc, ◌+◌, ◌*◌, ◌/◌, ◌%◌, ◌^◌, ◌≤◌, ◌<◌, max}
use native.Mathlib.Nat.{pow-suc, zero-div, div-one, mul_comm, div-div-eq-div-mul, one-mul, mod-eq_of_lt}
use native.Mathlib.Omega.{arith}
use lib.Dec.{eqb}
use lib.Pow.{pow_pos, pow_mono}
use lib.ListN.{length, get_or, set}
use lib.Bits.{bit_and, bit_or, or_step, or_zero_r, and_mask}
use Rattle.lists.specs.Masks.{bit, mask_of}

pub half : (m : ℕ) (b : Bool) → (m * 2 + bit b) / 2 ≡ m
half m true = omega arith
half m false = omega arith

pub odd : (m : ℕ) (b : Bool) → (m * 2 + bit b) % 2 ≡ bit b
odd m true = omega arith
odd m false = omega arith

pub bit_le : (b : Bool) → bit b ≤ 1
bit_le true = omega arith
bit_le false = omega arith

-- ---- one flag

-- a bit of a word
pub small-shift : (k : ℕ) → k < 32 → (1 * 2 ^ k) % 4294967296 ≡ 2 ^ k
small-shift k h =
    let l : 2 ^ suc k ≤ 2 ^ 32 = pow_mono h in
    let p = pow_pos k in
    let e = pow-suc 2 k in
    let q : 2 ^ k < 4294967296 = omega arith in
    ap (λ (x : ℕ). x % 4294967296) (one-mul (2 ^ k)) ∙ mod-eq_of_lt q

-- one flag more
set-bit : (b : Bool) → max (bit b) 1 ≡ 1
set-bit true = refl
set-bit false = refl

leave-bit : (b : Bool) → max (bit b) 0 ≡ bit b
leave-bit true = refl
leave-bit false = refl

pub with-flag : (k : ℕ) (bs : List Bool) → k < length bs → bit_or (mask_of bs) (2 ^ k) ≡ mask_of (set bs k true)
unfolding mask_of
with-flag k [] h = absurd (omega arith)
with-flag zero (b ∷ bs) h = or_step (mask_of (b ∷ bs)) 1 ∙ simp (half (mask_of bs) b, odd (mask_of bs) b, set-bit b, or_zero_r (mask_of bs))
with-flag (suc k) (b ∷ bs) h =
    let e = pow-suc 2 k in
    let d : 2 ^ suc k / 2 ≡ 2 ^ k = omega arith in
    let m : 2 ^ suc k % 2 ≡ 0 = omega arith in
    or_step (mask_of (b ∷ bs)) (2 ^ suc k) ∙ simp (half (mask_of bs) b, odd (mask_of bs) b, d, m, with-flag k bs (omega arith), leave-bit b)

-- a flag
one_bit : (b : Bool) → eqb (bit b) 1 ≡ b
one_bit true = refl
one_bit false = refl

a-flag : (k : ℕ) (bs : List Bool) → mask_of bs / 2 ^ k % 2 ≡ bit (get_or bs k false)
unfolding mask_of
a-flag zero [] = refl
a-flag (suc k) [] = simp (zero-div (2 ^ suc k))
a-flag zero (b ∷ bs) = simp (div-one (mask_of bs * 2 + bit b), odd (mask_of bs) b)
a-flag (suc k) (b ∷ bs) =
    let e : (mask_of bs * 2 + bit b) / 2 ^ suc k ≡ mask_of bs / 2 ^ k =
    ap (λ (x : ℕ). (mask_of bs * 2 + bit b) / x) (pow-suc 2 k ∙ mul_comm (2 ^ k) 2)
    ∙ sym (div-div-eq-div-mul (mask_of bs * 2 + bit b) 2 (2 ^ k))
    ∙ ap (λ (x : ℕ). x / 2 ^ k) (half (mask_of bs) b) in
    simp e (a-flag k bs)

pub holds-flag : (k : ℕ) (bs : List Bool) → eqb (bit_and (mask_of bs / 2 ^ k) 1) 1 ≡ get_or bs k false
holds-flag k bs = simp (and_mask (mask_of bs / 2 ^ k) 1, a-flag k bs, one_bit (get_or bs k false))

-- ---- one flag more

pub mask-off : (bs : List Bool) → mask_of (bs ++ (false ∷ [])) ≡ mask_of bs
unfolding mask_of
mask-off [] = refl
mask-off (b ∷ bs) = ap (λ (k : ℕ). k * 2 + bit b) (mask-off bs)

set_last : (bs : List Bool) → set (bs ++ (false ∷ [])) (length bs) true ≡ bs ++ (true ∷ [])
set_last [] = refl
set_last (b ∷ bs) = ap (λ (r : List Bool). b ∷ r) (set_last bs)

-- a flag set behind the last one
pub mask-on : (bs : List Bool) → mask_of (set (bs ++ (false ∷ [])) (length bs) true) ≡ mask_of (bs ++ (true ∷ []))
mask-on bs = ap mask_of (set_last bs)

pub last_fits : (bs : List Bool) → length bs < length (bs ++ (false ∷ []))
last_fits [] = omega arith
last_fits (b ∷ bs) = let i = last_fits bs in omega arith
