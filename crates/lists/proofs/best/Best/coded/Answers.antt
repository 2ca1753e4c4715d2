use mathlib.Core.Path.{refl}
use Rattle.lists.specs.Best.{meant}
use Rattle.lists.proofs.best.Best.coded.Goals as goal

pub returns : goal.returns
unfolding meant
returns c = refl
