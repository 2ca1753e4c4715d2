-- The proof of the cycle of calls that puts a value. The measure is three times the tokens of the value that are left, and more where
-- items or a value that may be nested are met. The loops keep that what puts the items left puts all. What each way has put is a law of `ValuePuts`.
use Prim.Native.Nat.{ℕ, ◌+◌, ◌-◌, ◌*◌, ◌≤◌}
use Rattle.lexis.specs.Ascii.{ascii}
use Rattle.lexis.specs.Symbol.{right_round, right_square}
use Rattle.syntax.specs.Tokens.{from}
use Rattle.writing.specs.declared.writer.Writer.{Writer}
use Rattle.writing.specs.Writing.{PutsArray, PutsTuple}
use Rattle.writing.proofs.ValuePuts.{PutsRow}
use Rattle.writing.proofs.ValuePuts.{AllRead, EachRead}
use Rattle.writing.proofs.value.+put_array_put_base_put_nested_put_tuple.Given as goal

abbrev pub decreases-put_array : goal.decreases-put_array
decreases-put_array l = 3 * (l.values.now.count - l.v) + 2

abbrev pub decreases-put_base : goal.decreases-put_base
decreases-put_base l = 3 * (l.values.now.count - l.v) + 1

abbrev pub decreases-put_nested : goal.decreases-put_nested
decreases-put_nested l = 3 * (l.values.now.count - l.v)

abbrev pub decreases-put_tuple : goal.decreases-put_tuple
decreases-put_tuple l = 3 * (l.values.now.count - l.v) + 2

abbrev pub invariant-put_array-loop-out : goal.invariant-put_array-loop-out
invariant-put_array-loop-out l = (l.v ≤ l.i) × (l.i ≤ l.values.count)
    × ((out' : Writer) (r : ℕ) → PutsRow (AllRead (from l.types l.t) l.k) right_square (ascii "]") l.values.text.now l.values.table.now l.values.count l.i l.out out' r
    → PutsArray l.values.text.now l.values.table.now l.values.count l.v (from l.types l.t) l.k l.initial.out out' r)

abbrev pub decreases-put_array-loop-out : goal.decreases-put_array-loop-out
decreases-put_array-loop-out l = l.values.count - l.i

abbrev pub invariant-put_tuple-loop-u : goal.invariant-put_tuple-loop-u
invariant-put_tuple-loop-u l = (l.v ≤ l.i) × (l.i ≤ l.values.count)
    × ((out' : Writer) (r : ℕ) → PutsRow (EachRead (from l.types l.j)) right_round (ascii ")") l.values.text.now l.values.table.now l.values.count l.i l.out out' r
    → PutsTuple l.values.text.now l.values.table.now l.values.count l.v (from l.types l.t) l.initial.out out' r)

abbrev pub decreases-put_tuple-loop-u : goal.decreases-put_tuple-loop-u
decreases-put_tuple-loop-u l = l.values.count - l.i
