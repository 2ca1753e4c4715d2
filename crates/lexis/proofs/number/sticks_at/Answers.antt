-- Past the end stands 0, which does not stick.
use lib.ListN.{get_or-eq_default}
use Rattle.lexis.specs.Bytes.{class_of}
use Rattle.lexis.specs.Number.{sticks}
use Rattle.lexis.proofs.number.sticks_at.Goals as goal

pub returns-then-text-at : goal.returns-then-text-at
unfolding sticks class_of
returns-then-text-at c = rw (get_or-eq_default c.args.text.now 0 c.if-text-at.true)
