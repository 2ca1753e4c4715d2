-- The slots hold what the arguments passed bind; those left stand from the walk's place on.
use mathlib.Core.Path.{◌≡◌}
use Prim.Native.Nat.{◌-◌, ◌<◌, ◌≤◌}
use lib.ListN.{length}
use Rattle.writing.proofs.ArgumentPlaces.{Passes}
use Rattle.writing.proofs.argument.bind_all.Given as goal

abbrev pub invariant-loop-w : goal.invariant-loop-w
invariant-loop-w l = (length l.slots ≡ length l.initial.slots) × (l.w.at ≤ l.doc.count) × (0 < l.w.at) × (l.at ≤ l.w.at) × (l.w.index ≤ l.w.at)
    × Passes l.doc l.callee l.at l.initial.slots l.slots l.w

abbrev pub decreases-loop-w : goal.decreases-loop-w
decreases-loop-w l = l.doc.count - l.w.at
