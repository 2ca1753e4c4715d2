-- The words passed are copied, the others as they were.
use Prim.Native.Nat.{◌≤◌}
use Rattle.documents.proofs.Recording.{Copied}
use Rattle.documents.proofs.records.copy.Given as goal

abbrev pub invariant-loop-i : goal.invariant-loop-i
invariant-loop-i l = (l.i ≤ l.count) × Copied l.records l.from l.count l.initial.table l.table l.i
