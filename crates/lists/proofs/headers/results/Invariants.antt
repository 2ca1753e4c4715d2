-- One result after another, as long as a comma follows.
use Prim.Native.Nat.{◌-◌}
use Rattle.lists.proofs.RowWalks.{ResultsFrom}
use Rattle.lists.proofs.headers.results.Given as goal

abbrev pub invariant-loop-r : goal.invariant-loop-r
invariant-loop-r l = ResultsFrom l.tokens.text.now l.tokens.table.now l.tokens.count l.k l.initial.index l.initial.r l.index l.r

abbrev pub decreases-loop-r : goal.decreases-loop-r
decreases-loop-r l = l.tokens.count - l.r.at
