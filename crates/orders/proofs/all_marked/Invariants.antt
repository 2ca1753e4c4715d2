-- The uses from here on are all marked exactly when those from the first on are.
use mathlib.Core.Path.{◌≡◌}
use Prim.Native.Nat.{◌+◌, ◌-◌}
use Rattle.orders.specs.Scratch.{needs_from, all_marked}
use Rattle.orders.proofs.all_marked.Given as goal

abbrev pub invariant-loop-u : goal.invariant-loop-u
invariant-loop-u l = all_marked l.marks (needs_from l.records l.from l.count) ≡ all_marked l.marks (needs_from l.records l.u (l.from + l.count - l.u))
