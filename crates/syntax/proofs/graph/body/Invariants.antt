-- `graph::body` meets its contract. The invariant: from `i` on the body answers what it answers from `at` on. The measure is the number of tokens left.
-- Assumes nothing.
use mathlib.Core.Path.{◌≡◌}
use Prim.Native.Nat.{◌-◌}
use Rattle.lexis.specs.Sizes.{max_brackets}
use Rattle.syntax.specs.Tokens.{answer}
use Rattle.syntax.specs.Parser.{row, plain, closed, call}
use Rattle.lexis.specs.Symbol.{right_curly}
use Rattle.syntax.proofs.graph.body.Given as goal

abbrev pub invariant-loop-i : goal.invariant-loop-i
invariant-loop-i l =
    answer l.tokens (row plain (closed right_curly) (call max_brackets)) l.at ≡ answer l.tokens (row plain (closed right_curly) (call max_brackets)) l.i

abbrev pub decreases-loop-i : goal.decreases-loop-i
decreases-loop-i l = l.tokens.count - l.i
