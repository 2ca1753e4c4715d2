-- The negation of a small number fits an i32.
use mathlib.Core.Path.{◌∙◌}
use mathlib.Core.Bool.{true, false}
use native.Mathlib.Omega.{arith}
use Rattle.lexis.proofs.Signs.{signed_sub, neg_is, sub-fits, back, small-sub}
use Rattle.lexis.proofs.exponent.signed.Goals as goal

pub overflow_sub-result : goal.overflow_sub-result
overflow_sub-result c = rw (neg_is c.args.w (omega arith)) (sub-fits 0 c.args.w (omega arith) (omega arith))

pub returns-then-minus : goal.returns-then-minus
returns-then-minus c = let w = c.args.w in
    rw (neg_is w (omega arith), c.if-minus.true) (back 0 w (omega arith) (omega arith) ∙ signed_sub true w)

pub returns : goal.returns
returns c = rw c.if-minus.false (small-sub c.args.w (omega arith) ∙ signed_sub false c.args.w)
