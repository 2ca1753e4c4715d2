use Rattle.lists.proofs.Masks.{holds-flag}
use Rattle.lists.proofs.mask.holds.Goals as goal

pub returns : goal.returns
returns c = λ bs p. rw p (holds-flag c.args.k bs)
