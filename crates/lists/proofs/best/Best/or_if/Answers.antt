-- The fault where the test holds, and the earlier of the two.
use mathlib.Core.Path.{ap, ◌∙◌}
use Rattle.lists.specs.Fault.{earlier}
use Rattle.lists.specs.Best.{meant}
use Rattle.lists.proofs.best.Best.or_if.Goals as goal

pub returns : goal.returns
returns c = c.earlier.ensures ∙ ap (earlier (meant c.args.self)) c.fault_if.ensures
