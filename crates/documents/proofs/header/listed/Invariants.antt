-- What the names passed come to.
use Prim.Native.Nat.{◌≤◌}
use mathlib.Core.Path.{◌≡◌}
use lib.ListN.{length}
use Rattle.index.specs.Indexed.{Walkable}
use Rattle.documents.specs.Naming.{listed_number}
use Rattle.documents.proofs.Walking.{Listing}
use Rattle.documents.proofs.header.listed.Given as goal

abbrev pub invariant-loop-i : goal.invariant-loop-i
invariant-loop-i l = (l.from ≤ l.i) × (l.i ≤ l.to) × (l.sum.count ≤ l.i) × Walkable l.index l.i l.source.tokens.count × Listing l.source.tokens.text.now l.source.tokens.table.now l.initial.index l.index l.from l.to l.i l.initial.sum l.sum l.size (listed_number l.which)
    × (length l.index ≡ length l.initial.index)
