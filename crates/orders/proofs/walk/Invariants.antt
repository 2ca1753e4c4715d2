-- Up to the place that is reached, no number is at fault and all are marked.
use Rattle.orders.specs.Scratch.{rows}
use Rattle.orders.proofs.Walked.{Walked}
use Rattle.orders.proofs.walk.Given as goal

abbrev pub invariant-loop-place : goal.invariant-loop-place
invariant-loop-place l = Walked (rows l.records l.n) l.order l.initial.marks l.marks l.place
