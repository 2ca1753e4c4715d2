-- The walk from the start is the walk from place i with `depth` brackets open.
use mathlib.Core.Path.{◌≡◌}
use mathlib.Core.Bool.{true}
use Prim.Native.Nat.{◌+◌, ◌≤◌, ◌<◌}
use Rattle.syntax.specs.Tokens.{from}
use Rattle.lists.specs.Fitting.{type_walk}
use Rattle.lists.proofs.types.inside.Given as goal

abbrev pub invariant-loop-i : goal.invariant-loop-i
invariant-loop-i l =
    (0 < l.depth) × (l.depth ≤ l.i + 1) × (type_walk 1 true (from l.tokens l.at) ≡ type_walk l.depth l.tensor (from l.tokens l.i))
