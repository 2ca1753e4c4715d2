-- The number that digits spell, read digit by digit up to a limit: it only grows. Few bytes spell a small one. Signs, and the bound of
-- extent at both ends. Assumes nothing.
use mathlib.Core.Path.{◌≡◌, refl, sym, ◌∙◌}
use mathlib.Core.Bool.{Bool, true, false, cond, ◌&&◌}
use mathlib.Core.List.{List, [], ◌∷◌}
use Prim.Native.Nat.{ℕ, zero, suc, ◌+◌, ◌-◌, ◌*◌, ◌/◌, ◌≤◌, ◌<◌}
use native.Mathlib.Nat.{le_refl, le_trans}
use native.Mathlib.Numerals.{add-one}
use native.Mathlib.Omega.{arith}
use lib.Dec.{leb}
use lib.IntN.{nat_abs}
use lib.ListN.{length, drop, get_or, drop_of_length-le}
use lib.Seq.{drop-cons}
use borrow.Author.Tests.{le-leb, lt-leb, leb-true, leb-false}
use Rattle.lexis.specs.Sizes.{max_extent}
use Rattle.lexis.specs.Number.{value_from, signed}
use Rattle.lists.specs.Reading.{is_extent}

value_grows : (v : ℕ) (ds : List ℕ) → v ≤ value_from v ds
unfolding value_from
value_grows v [] = le_refl v
value_grows v (d ∷ ds) = le_trans (omega arith) (value_grows (v * 10 + (d - 48)) ds)

-- one digit more
pub value-step : (w : List ℕ) (i v : ℕ) → i < length w → value_from v (drop i w) ≡ value_from (v * 10 + (get_or w i 0 - 48)) (drop (i + 1) w)
unfolding value_from
value-step w i v h = rw (add-one i, drop-cons w i 0 h)

-- past the limit
pub too_large : (v m : ℕ) (ds : List ℕ) → m < v → false ≡ leb (value_from v ds) m
too_large v m ds h = sym (lt-leb (value_from v ds) m (le_trans h (value_grows v ds)))

-- all digits read
pub all_read : (w : List ℕ) (i v m : ℕ) → length w ≤ i → v ≤ m → true ≡ leb (value_from v (drop i w)) m
unfolding value_from
all_read w i v m h l = rw (drop_of_length-le w h) (sym (le-leb v m l))

-- ---- few bytes

-- below it a number leaves room for k bytes more under the limit: a byte adds at most 255 - 48
room : ℕ → ℕ
room zero = suc max_extent
room (suc k) = (room k - 207) / 10

room-le : (k : ℕ) → room k ≤ suc max_extent
unfolding room
room-le zero = le_refl (suc max_extent)
room-le (suc k) = let h = room-le k in omega arith

in-room : (k v : ℕ) (w : List ℕ) → ((i : ℕ) → get_or w i 0 < 256) → length w ≤ k → v < room k → value_from v w ≤ max_extent
unfolding value_from room
in-room k v [] h l r = let q = room-le k in omega arith
in-room zero v (b ∷ w) h l r = absurd (omega arith)
in-room (suc k) v (b ∷ w) h l r = let q : b < 256 = h 0 in in-room k (v * 10 + (b - 48)) w (λ i. h (suc i)) (omega arith) (omega arith)

few_bytes : (w : List ℕ) → ((i : ℕ) → get_or w i 0 < 256) → length w < 8 → value_from 0 w ≤ max_extent
unfolding room
few_bytes w h l = let q : 0 < room 7 = omega arith in in-room 7 0 w h (omega arith) q

-- ---- signs

-- the number without its sign
pub abs-signed : (negative : Bool) (n : ℕ) → nat_abs (signed negative n) ≡ n
abs-signed false n = refl
abs-signed true zero = refl
abs-signed true (suc n) = refl

-- ---- both ends of extent

-- the bound is one more after a sign
pub extent-bound : (negative : Bool) (n : ℕ) → leb n (cond negative (suc max_extent) max_extent) ≡ is_extent (signed negative n)
unfolding is_extent
extent-bound false n = refl
extent-bound true zero = refl
extent-bound true (suc n) = go (leb n max_extent) refl
  where
    go : (b : Bool) → leb n max_extent ≡ b → leb (suc n) (suc max_extent) ≡ (b && true)
    go true e = le-leb (suc n) (suc max_extent) (omega (arith, leb-true n max_extent e))
    go false e = lt-leb (suc n) (suc max_extent) (omega (arith, leb-false n max_extent e))

pub bound-small : (negative : Bool) (m : ℕ) → m ≡ cond negative (suc max_extent) max_extent → m ≤ suc max_extent
bound-small true m e = omega arith
bound-small false m e = omega arith

-- few bytes lie between them
pub few-fit : (negative : Bool) (w : List ℕ) → ((i : ℕ) → get_or w i 0 < 256) → length w < 8 → true ≡ is_extent (signed negative (value_from 0 w))
few-fit negative w h l =
    sym (le-leb (value_from 0 w) (cond negative (suc max_extent) max_extent) (go negative)) ∙ extent-bound negative (value_from 0 w)
  where
    go : (b : Bool) → value_from 0 w ≤ cond b (suc max_extent) max_extent
    go true = omega (arith, few_bytes w h l)
    go false = few_bytes w h l
