-- Past k pairs the type goes on with the rest of its pairs.
use Prim.Native.Nat.{◌+◌, ◌-◌, ◌*◌, ◌≤◌}
use Rattle.lists.proofs.TypeTokens.{PastPairs}
use Rattle.lists.proofs.types.pairs.Given as goal

abbrev pub invariant-loop-k : goal.invariant-loop-k
invariant-loop-k l = (l.at + 2 * l.k ≤ l.tokens.count + 1) × PastPairs l.tokens.text.now l.tokens.table.now l.tokens.count l.at l.k

abbrev pub decreases-loop-k : goal.decreases-loop-k
decreases-loop-k l = l.tokens.count - l.k
