-- The readers of types meet their contracts. The measure is three times the number of tokens left, and a little more for those that call another at
-- the same place. The invariant of the loop of `type_items`: from `i` on the row answers what it answers from `at` on. Assumes nothing.
use mathlib.Core.Path.{◌≡◌}
use Prim.Native.Nat.{◌≤◌, ◌+◌, ◌-◌, ◌*◌}
use Rattle.syntax.specs.Tokens.{answer}
use Rattle.syntax.specs.Parser.{type, types, commas, row}
use Rattle.lexis.specs.Symbol.{right_round}
use Rattle.syntax.proofs.types.+base_tuple_type_type_at_type_items.Given as goal

abbrev pub decreases-base : goal.decreases-base
decreases-base l = 3 * (l.tokens.now.count - l.at) + 0

abbrev pub decreases-tuple_type : goal.decreases-tuple_type
decreases-tuple_type l = 3 * (l.tokens.now.count - l.at) + 2

abbrev pub decreases-type_at : goal.decreases-type_at
decreases-type_at l = 3 * (l.tokens.now.count - l.at) + 1

abbrev pub decreases-type_items : goal.decreases-type_items
decreases-type_items l = 3 * (l.tokens.now.count - l.at) + 2

abbrev pub invariant-type_items-loop-next : goal.invariant-type_items-loop-next
invariant-type_items-loop-next l = (l.at ≤ l.i)
    × (answer l.tokens (row types (commas right_round) (type l.room)) l.at ≡ answer l.tokens (row types (commas right_round) (type l.room)) l.i)

abbrev pub decreases-type_items-loop-next : goal.decreases-type_items-loop-next
decreases-type_items-loop-next l = l.tokens.count - l.i
