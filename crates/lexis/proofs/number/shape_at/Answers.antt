-- One law of `Shapes` for each answer: a byte that does not stick ends the number.
use mathlib.Core.Path.{sym, ◌∙◌}
use native.Mathlib.Omega.{arith}
use Rattle.lexis.specs.Bytes.{is_digit}
use Rattle.lexis.proofs.Positions.{run_in}
use Rattle.lexis.proofs.Shapes.{frac-in, exp_in, shape-whole, shape-frac, shape-exp, shape-stuck}
use Rattle.lexis.proofs.number.shape_at.Goals as goal

pub returns-then-not-sticks_at : goal.returns-then-not-sticks_at
returns-then-not-sticks_at c = shape-whole c.args.text.now c.args.at _ c.digits_end-end.ensures
    (sym c.sticks_at.ensures ∙ c.if-not-sticks_at.true)

pub frac_len-frac-requires : goal.frac_len-frac-requires
frac_len-frac-requires c = (run_in is_digit c.args.text.now c.args.at _ c.digits_end-end.ensures c.requires)

pub overflow_add-mid : goal.overflow_add-mid
overflow_add-mid c = let text = c.args.text.now in
    omega (arith, frac-in text _ _ c.frac_len-frac.ensures (run_in is_digit text c.args.at _ c.digits_end-end.ensures c.requires))

pub returns-then-not-sticks_at-2 : goal.returns-then-not-sticks_at-2
returns-then-not-sticks_at-2 c = shape-frac c.args.text.now c.args.at _ c.digits_end-end.ensures _ c.frac_len-frac.ensures
    (sym c.sticks_at-2.ensures ∙ c.if-not-sticks_at-2.true)

pub exp_len-exp-requires : goal.exp_len-exp-requires
exp_len-exp-requires c = let text = c.args.text.now in
    frac-in text _ _ c.frac_len-frac.ensures (run_in is_digit text c.args.at _ c.digits_end-end.ensures c.requires)

pub overflow_add-mid-2 : goal.overflow_add-mid-2
overflow_add-mid-2 c = let text = c.args.text.now in
    omega (
      arith,
      exp_in text _ _ c.exp_len-exp.ensures
          (frac-in text _ _ c.frac_len-frac.ensures (run_in is_digit text c.args.at _ c.digits_end-end.ensures c.requires)),
    )

pub returns-then-sticks_at : goal.returns-then-sticks_at
returns-then-sticks_at c = shape-stuck c.args.text.now c.args.at _ c.digits_end-end.ensures _ _ c.frac_len-frac.ensures
    c.exp_len-exp.ensures (sym c.sticks_at-3.ensures ∙ c.if-sticks_at.true)

pub returns : goal.returns
returns c = shape-exp c.args.text.now c.args.at _ c.digits_end-end.ensures _ _ c.frac_len-frac.ensures
    c.exp_len-exp.ensures (sym c.sticks_at-3.ensures ∙ c.if-sticks_at.false)
