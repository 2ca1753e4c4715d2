use mathlib.Core.Path.{ap, ◌∙◌}
use Rattle.lists.specs.Fault.{earlier, fault, first}
use Rattle.lists.specs.Best.{meant}
use Rattle.lists.specs.Walks.{when}
use Rattle.lists.proofs.best.Best.or_refusal_if.Goals as goal

pub returns : goal.returns
returns c = c.or_if.ensures ∙ ap (λ code. earlier (meant c.args.self) (first (when c.args.test (fault code c.args.at)))) c.number.ensures
