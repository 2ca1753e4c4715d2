use mathlib.Core.Path.{ap, ◌∙◌}
use native.Mathlib.Omega.{arith}
use Rattle.std.proofs.Math.Option.{some}
use Rattle.lists.specs.Fault.{fault}
use Rattle.lists.proofs.Defaults.{place_in}
use Rattle.lists.proofs.headers.misfit_at.Goals as goal

pub overflow_cast-place_at : goal.overflow_cast-place_at
overflow_cast-place_at c =
    let s = c.args.tokens.now in
    let p = place_in s.text.now s.table.now s.count c.args.i s.holds in
    omega (arith, c.place_at.ensures, c.requires)

pub returns : goal.returns
returns c = c.one.ensures ∙ ap (λ p. some (fault _ p)) c.place_at.ensures
