-- Up to the call that is reached, the sums are stored and no mark is set.
use Rattle.orders.proofs.Marks.{Prepared}
use Rattle.orders.proofs.prepare.Given as goal

abbrev pub invariant-loop-k : goal.invariant-loop-k
invariant-loop-k l = Prepared l.records l.n l.initial.firsts l.initial.marks l.firsts l.marks l.uses l.k
