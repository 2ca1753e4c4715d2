-- What the identifiers passed come to.
use Prim.Native.Nat.{◌≤◌}
use mathlib.Core.Path.{◌≡◌}
use lib.ListN.{length}
use Rattle.index.specs.Indexed.{Walkable}
use Rattle.documents.proofs.Walking.{Assigning}
use Rattle.documents.proofs.wiring.assigned.Given as goal

abbrev pub invariant-loop-i : goal.invariant-loop-i
invariant-loop-i l = (l.at ≤ l.i) × (l.i ≤ l.equal) × (l.sum.count ≤ l.i) × Walkable l.index l.i l.source.tokens.count × Assigning l.source.tokens.text.now l.source.tokens.table.now l.initial.index l.index l.at l.equal l.i l.initial.sum l.sum l.k l.external
    × (length l.index ≡ length l.initial.index) × (l.initial.sum.count ≤ l.sum.count)
