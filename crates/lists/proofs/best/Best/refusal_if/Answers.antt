use mathlib.Core.Path.{ap, ◌∙◌}
use Rattle.lists.specs.Fault.{fault, first}
use Rattle.lists.specs.Walks.{when}
use Rattle.lists.proofs.best.Best.refusal_if.Goals as goal

pub returns : goal.returns
returns c = c.fault_if.ensures ∙ ap (λ code. first (when c.args.test (fault code c.args.at))) c.number.ensures
