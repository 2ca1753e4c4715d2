-- The required parameters that are not bound are the mask that the test and the zeros see.
use mathlib.Core.Path.{sym, ap, ◌∙◌}
use Rattle.lists.specs.Fault.{first}
use Rattle.lists.specs.Best.{meant}
use Rattle.documents.proofs.Masks.{none-lacked, first-lacked}
use Rattle.documents.proofs.mask.first_missing.Goals as goal

pub returns-then-missing-eq0 : goal.returns-then-missing-eq0
unfolding meant first
returns-then-missing-eq0 c = λ rs bs p q l m. ap meant c.none.ensures
    ∙ sym (ap first (none-lacked c.args.place rs bs l m (rw (← p, ← q) c.if-missing-eq0.true)))

pub returns : goal.returns
unfolding meant first
returns c = λ rs bs p q l m. rw (c.number.ensures, p, q) (sym (ap first (first-lacked c.args.place rs bs l m (rw (p, q) at c.if-missing-eq0.false))))
