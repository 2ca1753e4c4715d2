-- What the uses passed come to.
use Prim.Native.Nat.{max, ◌+◌, ◌-◌, ◌≤◌}
use mathlib.Core.Path.{◌≡◌}
use lib.ListN.{length}
use Rattle.documents.proofs.Walking.{Using}
use Rattle.documents.proofs.wiring.used.Given as goal

abbrev pub invariant-loop-i : goal.invariant-loop-i
invariant-loop-i l = (l.from ≤ l.i) × (l.sum.count ≤ l.initial.sum.count + (l.i - l.from)) × (l.i ≤ max l.from l.to) × (length l.records ≡ length l.initial.records)
    × Using l.source.tokens.text.now l.source.tokens.table.now l.initial.records l.records l.from l.to l.i l.initial.sum l.sum l.index l.k × (l.initial.sum.count ≤ l.sum.count)
