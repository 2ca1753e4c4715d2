use Rattle.lists.proofs.Masks.{with-flag, small-shift}
use Rattle.lists.proofs.mask.with.Goals as goal

pub returns : goal.returns
returns c = λ bs p h. rw (p, small-shift c.args.k c.requires) (with-flag c.args.k bs h)
