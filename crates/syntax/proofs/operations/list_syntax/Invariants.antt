-- `operations::list_syntax` meets its contract. The invariant: from `i` on the list answers what it answers from the start. The measure is the number of
-- tokens left. Assumes nothing.
use mathlib.Core.Path.{◌≡◌}
use Prim.Native.Nat.{◌-◌}
use Rattle.lexis.specs.Sizes.{max_brackets}
use Rattle.syntax.specs.Tokens.{answer}
use Rattle.syntax.specs.Parser.{operations}
use Rattle.syntax.proofs.operations.list_syntax.Given as goal

abbrev pub invariant-loop-i : goal.invariant-loop-i
invariant-loop-i l = answer l.tokens (operations max_brackets) 0 ≡ answer l.tokens (operations max_brackets) l.i

abbrev pub decreases-loop-i : goal.decreases-loop-i
decreases-loop-i l = l.tokens.count - l.i
