use Prim.Native.Nat.{ℕ, ◌≤◌}
use Rattle.index.specs.Indexed.{Seeks}
use Rattle.index.proofs.chain.seek.Given as goal

abbrev pub invariant-loop-at : goal.invariant-loop-at
invariant-loop-at l = (l.at ≤ l.first) × ((r : ℕ) → Seeks l.tokens.text.now l.tokens.table.now l.index l.w l.at r → Seeks l.tokens.text.now l.tokens.table.now l.index l.w l.first r)

abbrev pub decreases-loop-at : goal.decreases-loop-at
decreases-loop-at l = l.at
