-- The number that all digits spell is the one that those that are left spell after v, and v is within the limit.
use mathlib.Core.Path.{◌≡◌}
use Prim.Native.Nat.{◌≤◌}
use lib.ListN.{drop}
use Rattle.lexis.specs.Number.{value_from}
use Rattle.lists.proofs.fitting.is_at_most.Given as goal

abbrev pub invariant-loop-b : goal.invariant-loop-b
invariant-loop-b l = (l.v ≤ l.bound) × (value_from 0 l.w ≡ value_from l.v (drop l.b-index l.w))
