-- The readers of values meet their contracts. The measure is three times the number of tokens left, and a little more for those that call another at
-- the same place. The invariant of the loop of `items`: from `i` on the row answers what it answers from `at` on. Assumes nothing.
use mathlib.Core.Path.{◌≡◌}
use Prim.Native.Nat.{◌≤◌, ◌+◌, ◌-◌, ◌*◌}
use Rattle.syntax.specs.Inner.{leaves_of}
use Rattle.syntax.specs.Tokens.{answer}
use Rattle.syntax.specs.Parser.{value as value_of, values, commas, row}
use Rattle.syntax.proofs.value.+array_items_tuple_value_from.Given as goal

abbrev pub decreases-array : goal.decreases-array
decreases-array l = 3 * (l.tokens.now.count - l.at) + 2

abbrev pub decreases-items : goal.decreases-items
decreases-items l = 3 * (l.tokens.now.count - l.at) + 1

abbrev pub decreases-tuple : goal.decreases-tuple
decreases-tuple l = 3 * (l.tokens.now.count - l.at) + 1

abbrev pub decreases-value_from : goal.decreases-value_from
decreases-value_from l = 3 * (l.tokens.now.count - l.at) + 0

abbrev pub invariant-items-loop-leaves : goal.invariant-items-loop-leaves
invariant-items-loop-leaves l = (l.at ≤ l.i)
    ×
    (answer l.tokens (row values (commas l.close) (value_of (leaves_of l.leaves) l.room)) l.at ≡ answer l.tokens
    (row values (commas l.close) (value_of (leaves_of l.leaves) l.room)) l.i)

abbrev pub decreases-items-loop-leaves : goal.decreases-items-loop-leaves
decreases-items-loop-leaves l = l.tokens.count - l.i
