-- The sum and the difference fit an i32, as the written exponent is at most 9999 and the two counts at most 64.
use mathlib.Core.Path.{sym, ◌∙◌}
use Rattle.lexis.proofs.Signs.{signed_sub, diff-fits, sum_fits, sum_is, cond_small}
use Prim.Native.Nat.{zero-le}
use Rattle.lexis.proofs.exponent.exponent.Goals as goal

pub overflow_sub-result : goal.overflow_sub-result
overflow_sub-result c = diff-fits _ _ c.args.points c.args.zeros (cond_small c.args.minus _ _ _ zero-le c.requires.w_le_max_written)
    (cond_small c.args.minus _ _ _ c.requires.w_le_max_written zero-le) c.requires.points_le_max_number c.requires.zeros_le_max_number c.signed-e.result
    (c.signed-e.ensures ∙ sym (signed_sub c.args.minus c.args.w))

pub overflow_add-result : goal.overflow_add-result
overflow_add-result c = sum_fits _ _ c.args.points c.args.zeros (cond_small c.args.minus _ _ _ zero-le c.requires.w_le_max_written)
    (cond_small c.args.minus _ _ _ c.requires.w_le_max_written zero-le) c.requires.points_le_max_number c.requires.zeros_le_max_number c.signed-e.result
    (c.signed-e.ensures ∙ sym (signed_sub c.args.minus c.args.w))

pub returns : goal.returns
returns c = sum_is _ _ c.args.points c.args.zeros (cond_small c.args.minus _ _ _ zero-le c.requires.w_le_max_written)
    (cond_small c.args.minus _ _ _ c.requires.w_le_max_written zero-le) c.requires.points_le_max_number c.requires.zeros_le_max_number c.signed-e.result
    (c.signed-e.ensures ∙ sym (signed_sub c.args.minus c.args.w))
