-- `list::list` meets its contract. The invariant: from `i` on the row answers what it answers from `at` on. The measure is the number of tokens left.
-- Assumes nothing.
use mathlib.Core.Path.{◌≡◌}
use Prim.Native.Nat.{◌-◌}
use Rattle.syntax.specs.Inner.{reader}
use Rattle.syntax.specs.Tokens.{answer}
use Rattle.syntax.specs.Parser.{plain, commas, row}
use Rattle.lexis.specs.Symbol.{right_round}
use Rattle.syntax.proofs.tokens.Tokens.list.Given as goal

abbrev pub invariant-loop-next : goal.invariant-loop-next
invariant-loop-next l =
    answer l.self (row plain (commas right_round) (reader l.which)) l.at ≡ answer l.self (row plain (commas right_round) (reader l.which)) l.i

abbrev pub decreases-loop-next : goal.decreases-loop-next
decreases-loop-next l = l.self.count - l.i
