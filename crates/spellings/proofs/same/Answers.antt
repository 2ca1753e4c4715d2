use mathlib.Core.Path.{ap}
use Rattle.spellings.specs.declared.Comparison.{Comparison}
use Rattle.spellings.specs.Comparison.{comparison}
use Rattle.spellings.proofs.same.Goals as goal

pub returns : goal.returns
unfolding comparison
returns c = ap (λ (r : Comparison). r.same) c.compare.ensures
