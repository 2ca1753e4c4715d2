-- What a mask of flags lacks of another; the first flag is where the zeros end. One flag: `Masks` of crate `lists`.
use mathlib.Core.Path.{◌≡◌, refl, sym, ap, ◌∙◌}
use mathlib.Core.Bool.{Bool, true, false, not, ◌&&◌}
use mathlib.Core.List.{List, [], ◌∷◌}
use Prim.Native.Nat.{ℕ, zero, suc, ◌+◌, ◌-◌, ◌*◌, ◌/◌, ◌%◌, ◌^◌, ◌≤◌, ◌<◌, min}
use native.Mathlib.Nat.{pow-suc, add-zero}
use native.Mathlib.Omega.{arith}
use lib.Pow.{pow_pos}
use lib.ListN.{length}
use lib.Bits.{bit_and, and_step, and_zero_l}
use lib.Count.{count_trailing_zeros}
use Rattle.lists.specs.Fault.{Fault}
use Rattle.lists.specs.Masks.{bit, mask_of}
use Rattle.lists.proofs.Masks.{half, odd, bit_le}
use Rattle.documents.specs.Binding.{lacked}
use Rattle.documents.specs.Arguments.{without}

-- as many flags, as many bits
mask_lt : (k : ℕ) (bs : List Bool) → length bs ≤ k → mask_of bs < 2 ^ k
unfolding mask_of
mask_lt k [] h = pow_pos k
mask_lt zero (b ∷ bs) h = absurd (omega arith)
mask_lt (suc k) (b ∷ bs) h = let i = mask_lt k bs (omega arith) in let e = pow-suc 2 k in let l = bit_le b in omega arith

-- the bits of one mask that another of k bits lacks
minus-bit : (r b : Bool) → min (bit r) (1 - bit b) ≡ bit (r && not b)
minus-bit true true = refl
minus-bit true false = refl
minus-bit false true = refl
minus-bit false false = refl

keep-bit : (r : Bool) → min (bit r) 1 ≡ bit r
keep-bit true = refl
keep-bit false = refl

pub lacks : (k : ℕ) (rs bs : List Bool) → length rs ≤ k → length bs ≤ k → bit_and (mask_of rs) ((2 ^ k - 1) - mask_of bs) ≡ mask_of (without rs bs)
unfolding without mask_of
lacks k [] bs h l = and_zero_l ((2 ^ k - 1) - mask_of bs)
lacks zero (r ∷ rs) bs h l = absurd (omega arith)
lacks (suc k) (r ∷ rs) [] h l =
    let e = pow-suc 2 k in
    let p = pow_pos k in
    let x = (2 ^ suc k - 1) - 0 in
    let d : x / 2 ≡ (2 ^ k - 1) - 0 = omega arith in
    let m : x % 2 ≡ 1 = omega arith in
    and_step (mask_of (r ∷ rs)) x ∙ simp (half (mask_of rs) r, odd (mask_of rs) r, d, m, lacks k rs [] (omega arith) (omega arith), keep-bit r)
lacks (suc k) (r ∷ rs) (b ∷ bs) h l =
    let e = pow-suc 2 k in
    let i = mask_lt k bs (omega arith) in
    let n = bit_le b in
    let x = (2 ^ suc k - 1) - (mask_of bs * 2 + bit b) in
    let d : x / 2 ≡ (2 ^ k - 1) - mask_of bs = omega arith in
    let m : x % 2 ≡ 1 - bit b = omega arith in
    and_step (mask_of (r ∷ rs)) x ∙ simp (half (mask_of rs) r, odd (mask_of rs) r, d, m, lacks k rs bs (omega arith) (omega arith), minus-bit r b)

-- ---- the first flag

no_flag : (place k : ℕ) (bs : List Bool) → mask_of bs ≡ 0 → lacked place k bs ≡ []
unfolding lacked mask_of
no_flag place k [] h = refl
no_flag place k (true ∷ bs) h = absurd (omega arith)
no_flag place k (false ∷ bs) h = no_flag place (suc k) bs (omega arith)

-- 19 at a place, with its detail
abbrev lack : ℕ → ℕ → Fault
lack place k = record { at = place; code = 19; detail = k }

first-flag : (place j k : ℕ) (bs : List Bool) → length bs ≤ k → (mask_of bs ≡ 0 → ⊥) → lacked place j bs ≡ lack place (count_trailing_zeros k (mask_of bs) + j) ∷ []
unfolding lacked mask_of count_trailing_zeros
first-flag place j k [] h n = absurd (n refl)
first-flag place j zero (b ∷ bs) h n = absurd (omega arith)
first-flag place j (suc k) (true ∷ bs) h n = let e : 0 + j ≡ j = omega arith in simp (odd (mask_of bs) true, e)
first-flag place j (suc k) (false ∷ bs) h n =
    let i = first-flag place (suc j) k bs (omega arith) (λ (z : mask_of bs ≡ 0). n (omega arith)) in
    let e : count_trailing_zeros k (mask_of bs) + suc j ≡ suc (count_trailing_zeros k (mask_of bs)) + j = omega arith in
    simp (odd (mask_of bs) false, half (mask_of bs) false, i, e)

length_without : (rs bs : List Bool) → length (without rs bs) ≡ length rs
unfolding without
length_without [] bs = refl
length_without (r ∷ rs) [] = ap suc (length_without rs [])
length_without (r ∷ rs) (b ∷ bs) = ap suc (length_without rs bs)

module _ (place : ℕ) (rs bs : List Bool) (l : length rs ≤ 32) (m : length bs ≤ 32) where
  -- no required parameter is unbound
  pub none-lacked : bit_and (mask_of rs) ((2 ^ 32 - 1) - mask_of bs) ≡ 0 → lacked place 0 (without rs bs) ≡ []
  none-lacked h = no_flag place 0 (without rs bs) (sym (lacks 32 rs bs l m) ∙ h)

  -- the first one that is
  pub first-lacked : (bit_and (mask_of rs) ((2 ^ 32 - 1) - mask_of bs) ≡ 0 → ⊥)
      → lacked place 0 (without rs bs) ≡ lack place (count_trailing_zeros 32 (bit_and (mask_of rs) ((2 ^ 32 - 1) - mask_of bs))) ∷ []
  first-lacked n =
      let e = lacks 32 rs bs l m in
      let h : length (without rs bs) ≤ 32 = rw (length_without rs bs) l in
      rw e
      (first-flag place 0 32 (without rs bs) h (λ (z : mask_of (without rs bs) ≡ 0). n (e ∙ z))
      ∙ ap (λ (k : ℕ). lack place k ∷ []) (add-zero (count_trailing_zeros 32 (mask_of (without rs bs)))))
