-- One law of `Shapes` for each answer. The number's own bytes have the parts that were found in the text.
use mathlib.Core.Path.{sym, ◌∙◌}
use native.Mathlib.Nat.{le_of_lt}
use native.Mathlib.Omega.{arith}
use Rattle.lexis.proofs.Shapes.{parts_in, number-long, number-out, number-whole, number-real, is-good, is_stuck}
use Rattle.lexis.proofs.Prefixes.{parts-own, range-own}
use Rattle.lexis.proofs.number.number_at.Goals as goal

pub returns-in_default : goal.returns-in_default
returns-in_default c = is_stuck c.args.text.now c.args.at _ c.shape_at.ensures c.in_default.is

pub overflow_add-len : goal.overflow_add-len
overflow_add-len c = let good = is-good c.args.text.now c.args.at _ _ c.shape_at.ensures c.in-Some.is in
    omega (arith, parts_in c.args.text.now c.args.at _ good.is (le_of_lt c.requires))

pub overflow_add-len-2 : goal.overflow_add-len-2
overflow_add-len-2 c = let good = is-good c.args.text.now c.args.at _ _ c.shape_at.ensures c.in-Some.is in
    omega (arith, parts_in c.args.text.now c.args.at _ good.is (le_of_lt c.requires))

pub returns-then-not-number_fits : goal.returns-then-not-number_fits
returns-then-not-number_fits c = let good = is-good c.args.text.now c.args.at _ _ c.shape_at.ensures c.in-Some.is in
    number-long c.args.text.now c.args.at _ good.is good.free (sym c.number_fits.ensures ∙ c.if-not-number_fits.true)

pub slice_bounds-numeral-end : goal.slice_bounds-numeral-end
slice_bounds-numeral-end c = let good = is-good c.args.text.now c.args.at _ _ c.shape_at.ensures c.in-Some.is in
    omega (arith, parts_in c.args.text.now c.args.at _ good.is (le_of_lt c.requires))

pub invariant_of-numeral-clause-shaped : goal.invariant_of-numeral-clause-shaped
invariant_of-numeral-clause-shaped c = let good = is-good c.args.text.now c.args.at _ _ c.shape_at.ensures c.in-Some.is in
    parts-own c.args.text.now c.args.at _ good.is

pub returns-then-not-in_range : goal.returns-then-not-in_range
returns-then-not-in_range c = let good = is-good c.args.text.now c.args.at _ _ c.shape_at.ensures c.in-Some.is in
    number-out c.args.text.now c.args.at _ good.is good.free (sym c.number_fits.ensures ∙ c.if-not-number_fits.false)
    (range-own c.args.text.now c.args.at _ good.is _ _ c.in_range.ensures c.if-not-in_range.true)

pub returns-then-len-p : goal.returns-then-len-p
returns-then-len-p c = let good = is-good c.args.text.now c.args.at _ _ c.shape_at.ensures c.in-Some.is in
    number-whole c.args.text.now c.args.at _ good.is good.free (sym c.number_fits.ensures ∙ c.if-not-number_fits.false)
    (range-own c.args.text.now c.args.at _ good.is _ _ c.in_range.ensures c.if-not-in_range.false) c.if-len-p.true

pub returns-else-len-p : goal.returns-else-len-p
returns-else-len-p c = let good = is-good c.args.text.now c.args.at _ _ c.shape_at.ensures c.in-Some.is in
    number-real c.args.text.now c.args.at _ good.is good.free (sym c.number_fits.ensures ∙ c.if-not-number_fits.false)
    (range-own c.args.text.now c.args.at _ good.is _ _ c.in_range.ensures c.if-not-in_range.false) c.if-len-p.false
