use mathlib.Core.Path.{refl, sym, ◌∙◌}
use Rattle.lists.proofs.First.{earlier-none}
use Rattle.lists.specs.Best.{meant}
use Rattle.lists.proofs.best.Best.earlier.Goals as goal

pub returns-in-None-default : goal.returns-in-None-default
unfolding meant
returns-in-None-default c = rw c.in-None-default.is-0 refl

pub returns-in_default-None : goal.returns-in_default-None
unfolding meant
returns-in_default-None c = rw c.in_default-None.is-1 (sym (earlier-none (meant c.args.self)))

pub returns-then-before : goal.returns-then-before
unfolding meant
returns-then-before c = let w = c.in-Some-Some in
    rw (w.is-0, w.is-1) (rw (sym c.before-in-Some-Some.ensures ∙ c.if-before.true) refl)

pub returns-else-before : goal.returns-else-before
unfolding meant
returns-else-before c = let w = c.in-Some-Some in
    rw (w.is-0, w.is-1) (rw (sym c.before-in-Some-Some.ensures ∙ c.if-before.false) refl)
