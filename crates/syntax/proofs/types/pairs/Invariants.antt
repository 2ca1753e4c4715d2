-- `types::pairs` meets its contract. The invariant: from `i` on the pairs answer what they answer from `at` on. The measure is the number of tokens left.
-- Assumes nothing.
use mathlib.Core.Path.{◌≡◌}
use Prim.Native.Nat.{◌≤◌, ◌-◌}
use lib.Dec.{ltb}
use Rattle.syntax.specs.Tokens.{answer}
use Rattle.syntax.specs.Parser.{dims}
use Rattle.syntax.specs.Tree.Ty.{tensor}
use Rattle.syntax.proofs.types.pairs.Given as goal

abbrev pub invariant-loop-at : goal.invariant-loop-at
invariant-loop-at l = (l.i ≤ l.tokens.count) × (answer l.tokens (dims (ltb 0 l.room) tensor) l.at ≡ answer l.tokens (dims (ltb 0 l.room) tensor) l.i)

abbrev pub decreases-loop-at : goal.decreases-loop-at
decreases-loop-at l = l.tokens.count - l.i
