-- The slot is set where the parameter is one of the operation and has none.
use borrow.Author.Tests.{lt-ltb, le-ltb, eq-eqb, ne_eqb}
use Rattle.writing.specs.Writing.{slot_set}
use Rattle.writing.proofs.argument.bind.Goals as goal
use Rattle.writing.proofs.argument.bind.Goals.{else-p-count-via-then-p-count+else-slots-p-eq0, else-p-count-via-else-p-count}

pub returns-then-slots-p-eq0 : goal.returns-then-slots-p-eq0
unfolding slot_set
returns-then-slots-p-eq0 c = simp (lt-ltb _ _ c.if-p-count.true, eq-eqb _ _ c.if-slots-p-eq0.true)

pub returns-else-p-count : goal.returns-else-p-count
unfolding slot_set
returns-else-p-count c = elim c.else-p-count.branch [
  | else-p-count-via-then-p-count+else-slots-p-eq0 w ↦ simp (lt-ltb _ _ w.if-p-count.true, ne_eqb _ _ w.if-slots-p-eq0.false)
  | else-p-count-via-else-p-count w ↦ simp (le-ltb _ _ w.if-p-count.false)
]
