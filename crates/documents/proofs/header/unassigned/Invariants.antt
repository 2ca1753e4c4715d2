-- What is missing of the names passed.
use Rattle.lexis.specs.Refusal.{refusal_number}
use Rattle.documents.proofs.Walking.{Missing}
use Rattle.documents.proofs.header.unassigned.Given as goal

abbrev pub invariant-loop-i : goal.invariant-loop-i
invariant-loop-i l = Missing l.tokens.text.now l.tokens.table.now l.index l.from l.to l.i (refusal_number l.refusal) l.initial.sum l.sum
