-- The tally is that of the arguments passed; those left stand from its place on.
use Prim.Native.Nat.{◌-◌, ◌≤◌}
use Rattle.documents.proofs.Tallying.{Sums}
use Rattle.documents.proofs.arguments.tally_all.Given as goal

abbrev pub invariant-loop-t : goal.invariant-loop-t
invariant-loop-t l = (l.t.index ≤ l.t.at) × (l.t.at ≤ l.doc.count) × (l.at ≤ l.t.at) × Sums l.doc l.callee l.at l.t

abbrev pub decreases-loop-t : goal.decreases-loop-t
decreases-loop-t l = l.doc.count - l.t.at
