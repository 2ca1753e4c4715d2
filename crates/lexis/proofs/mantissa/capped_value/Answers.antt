use mathlib.Core.Path.{refl, ◌∙◌}
use Rattle.lexis.specs.Number.{value_from}
use Rattle.lexis.proofs.Caps.{value-more}
use Rattle.lexis.proofs.mantissa.capped_value.Goals as goal

pub loop-b-init : goal.loop-b-init
unfolding value_from
loop-b-init c = refl

pub loop-b-preserved : goal.loop-b-preserved
loop-b-preserved c = value-more c.args.digits.now c.loop-b.b-index _ _ c.loop-b-test.true c.loop-b.invariant
    (c.min-v.ensures ∙ rw (c.from.ensures, c.saturating_sub.ensures))
