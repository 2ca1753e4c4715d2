-- One parameter after another, as long as a comma follows.
use Prim.Native.Nat.{◌-◌}
use Rattle.lists.proofs.RowWalks.{ParametersFrom}
use Rattle.lists.proofs.headers.parameters.Given as goal

abbrev pub invariant-loop-r : goal.invariant-loop-r
invariant-loop-r l = ParametersFrom l.tokens.text.now l.tokens.table.now l.tokens.count l.k l.initial.index l.initial.words l.initial.r l.index l.words l.r

abbrev pub decreases-loop-r : goal.decreases-loop-r
decreases-loop-r l = l.tokens.count - l.r.at
