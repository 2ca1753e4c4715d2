use mathlib.Core.Path.{sym, ◌∙◌}
use Rattle.lexis.proofs.Runs.{span_more, span-stop, span-end}
use Rattle.lexis.proofs.span.run_end.Goals as goal

pub returns-then-not-belongs : goal.returns-then-not-belongs
returns-then-not-belongs g c = λ test same. sym
    (c.loop-i.invariant test same
    ∙ span-stop _ _ _ c.loop-i-test.true (sym (same _ _ (c.type_inv.text c.loop-i.i).fits c.belongs.ensures) ∙ c.if-not-belongs.true))

pub loop-i-preserved : goal.loop-i-preserved
loop-i-preserved g c = λ test same. c.loop-i.invariant test same
    ∙ span_more _ _ _ c.loop-i-test.true (sym (same _ _ (c.type_inv.text c.loop-i.i).fits c.belongs.ensures) ∙ c.if-not-belongs.false)

pub returns : goal.returns
returns g c = λ test same. sym (c.loop-i.invariant test same ∙ span-end _ _ _ c.loop-i-test.false)
