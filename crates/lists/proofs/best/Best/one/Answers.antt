use mathlib.Core.Path.{ap, ◌∙◌}
use Rattle.std.proofs.Math.Option.{some}
use Rattle.lists.specs.Fault.{fault}
use Rattle.lists.proofs.best.Best.one.Goals as goal

pub returns : goal.returns
returns c = c.coded.ensures ∙ ap (λ code. some (fault code c.args.at)) c.number.ensures
