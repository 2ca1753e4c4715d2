-- No parameter before number i is spelt so.
use mathlib.Core.Path.{◌≡◌}
use mathlib.Core.Bool.{false}
use Prim.Native.Nat.{ℕ, ◌+◌, ◌<◌, ◌≤◌}
use Rattle.documents.specs.Tallies.{spelt_at}
use Rattle.documents.proofs.callee.Callee.search.Given as goal

abbrev pub invariant-loop-i : goal.invariant-loop-i
invariant-loop-i l = (l.i ≤ l.self.operation.count) × ((k : ℕ) → k < l.i → spelt_at l.self.list.text.now l.self.list.table.now l.self.words.now (l.self.operation.first + k) l.w ≡ false)
