-- The proof of the cycle of calls that fits a value to a type. The measure is three times the tokens of the value that are left, and more
-- where a leaf is settled first, and where items are met. The loops keep that the answer for the items left is the answer for all. What each way
-- answers is a law of `Answers`.
use Prim.Native.Nat.{ℕ, ◌+◌, ◌-◌, ◌*◌, ◌≤◌}
use Rattle.std.specs.Prelude.{Option as Maybe}
use Rattle.syntax.specs.Tokens.{from}
use Rattle.lists.specs.Fitting.{OfArray, OfEach}
use Rattle.lists.proofs.Answers.{OfItems}
use Rattle.lists.proofs.fitting.+fits_array_fits_each_fits_nested_fits_one.Given as goal

abbrev pub decreases-fits_array : goal.decreases-fits_array
decreases-fits_array l = 3 * (l.values.now.count - l.v) + 2

abbrev pub decreases-fits_nested : goal.decreases-fits_nested
decreases-fits_nested l = 3 * (l.values.now.count - l.v)

abbrev pub decreases-fits_each : goal.decreases-fits_each
decreases-fits_each l = 3 * (l.values.now.count - l.v) + 2

abbrev pub decreases-fits_one : goal.decreases-fits_one
decreases-fits_one l = 3 * (l.values.now.count - l.v) + 1

abbrev pub invariant-fits_array-loop-v : goal.invariant-fits_array-loop-v
invariant-fits_array-loop-v l =
    let v = l.values in
    (l.v ≤ l.i) × ((r : Maybe ℕ) → OfItems v.text.now v.table.now v.count l.i (from l.types l.t) l.kinds l.k r
    → OfArray v.text.now v.table.now v.count l.v (from l.types l.t) l.kinds l.k r)

abbrev pub decreases-fits_array-loop-v : goal.decreases-fits_array-loop-v
decreases-fits_array-loop-v l = l.values.count - l.i

abbrev pub invariant-fits_each-loop-next : goal.invariant-fits_each-loop-next
invariant-fits_each-loop-next l =
    let v = l.values in
    (l.v ≤ l.i) × (l.j ≤ l.types.count)
    × ((r : Maybe ℕ) → OfEach v.text.now v.table.now v.count l.i l.close (from l.types l.j) l.lead r
    → OfEach v.text.now v.table.now v.count l.v l.close (from l.types l.t) l.lead r)

abbrev pub decreases-fits_each-loop-next : goal.decreases-fits_each-loop-next
decreases-fits_each-loop-next l = l.values.count - l.i
