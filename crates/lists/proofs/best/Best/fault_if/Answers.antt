use mathlib.Core.Path.{ap, ◌∙◌}
use Rattle.lists.specs.Best.{meant}
use Rattle.lists.proofs.Bests.{no-fault, one-fault}
use Rattle.lists.proofs.best.Best.fault_if.Goals as goal

pub returns-then-test : goal.returns-then-test
returns-then-test c = c.coded.ensures ∙ one-fault c.args.test _ c.if-test.true

pub returns-else-test : goal.returns-else-test
returns-else-test c = ap meant c.none.ensures ∙ no-fault c.args.test _ c.if-test.false
