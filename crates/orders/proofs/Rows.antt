-- The needs of calls as their records have them: how many rows there are, the row of a call, and where its uses lie.
use mathlib.Core.Path.{◌≡◌, refl, ap, ◌∙◌}
use mathlib.Core.Logic.{◌⊎◌, inl, inr}
use mathlib.Core.List.Memᴰ
use mathlib.Core.List.{List, [], Memᴰ}
use Prim.Native.Nat.{ℕ, zero, suc, ◌+◌, ◌<◌, ◌≤◌}
use native.Mathlib.Nat.{le_of_suc-le-suc, not-suc-le-zero}
use native.Mathlib.Omega.{arith}
use lib.ListN.{length, get_or}
use Rattle.orders.specs.Scratch.{uses_of, call_of, first_use, needs_from, rows_from, rows, Bounded}
use Rattle.orders.proofs.Marks.{sum-grows}

rows-from-length : (records : List ℕ) (k u n : ℕ) → length (rows_from records k u n) ≡ n
unfolding rows_from
rows-from-length records k u zero = refl
rows-from-length records k u (suc n) = ap suc (rows-from-length records (k + 1) (u + uses_of records k) n)

pub rows-length : (records : List ℕ) (n : ℕ) → length (rows records n) ≡ n
rows-length records n = rows-from-length records 0 0 n

-- the row of call j + k among those from call j on
row_from : (records : List ℕ) (n j k : ℕ) → k < n
    → get_or (rows_from records j (first_use records j) n) k [] ≡ needs_from records (first_use records (j + k)) (uses_of records (j + k))
unfolding rows_from first_use
row_from records zero j k h = absurd (not-suc-le-zero h)
row_from records (suc n) j zero h =
    let z : j + 0 ≡ j = omega arith in
    rw z
row_from records (suc n) j (suc k) h =
    let y : j + 1 ≡ suc j = omega arith in
    let z : j + suc k ≡ suc j + k = omega arith in
    rw (y, z) (row_from records n (suc j) k (le_of_suc-le-suc h))

module _ (records : List ℕ) (n k : ℕ) (h : k < n) where
  pub row_is : get_or (rows records n) k [] ≡ needs_from records (first_use records k) (uses_of records k)
  unfolding first_use
  row_is =
      let z : 0 + k ≡ k = omega arith in
      row_from records n 0 k h ∙ ap (λ (j : ℕ). needs_from records (first_use records j) (uses_of records j)) z

  -- its uses lie among those of all calls
  pub row_inside : first_use records k + uses_of records k ≤ first_use records n
  unfolding first_use
  row_inside = sum-grows records (suc k) n h

-- calls that uses need, where each of those is below n
needs-below : (records : List ℕ) (n u c : ℕ) → ((v : ℕ) → v < u + c → call_of records v < n) → (m : ℕ) → Memᴰ m (needs_from records u c) → m < n
unfolding needs_from
needs-below records n u zero f m q = elim q [ ]
needs-below records n u (suc c) f m q =
    go (Memᴰ.cases_cons q) (needs-below records n (u + 1) c (λ v l. f v (omega (arith, l))) m)
  where
    go : (m ≡ call_of records u) ⊎ Memᴰ m (needs_from records (u + 1) c) → (Memᴰ m (needs_from records (u + 1) c) → m < n) → m < n
    go (inl e) r = rw e (f u (omega arith))
    go (inr q) r = r q

-- the calls of a row are calls
pub row_below : (records : List ℕ) (n k : ℕ) → Bounded records n → k < n → (m : ℕ) → Memᴰ m (get_or (rows records n) k []) → m < n
row_below records n k b h m q =
    let l = row_inside records n k h in
    needs-below records n (first_use records k) (uses_of records k) (λ v g. b.below v (omega (arith, g, l))) m (rw (row_is records n k h) at q)
