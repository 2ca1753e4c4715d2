-- The cases of `exp_len`: no e, no digits after the sign, some.
use mathlib.Core.Path.{sym, ap, ◌∙◌}
use Prim.Native.Nat.{◌+◌}
use native.Mathlib.Omega.{arith}
use lib.ListN.{drop}
use Rattle.lexis.specs.Number.{is_e}
use Rattle.lexis.proofs.Shapes.{sign_small, exp-none, exp-bare, exp-some}
use Rattle.lexis.proofs.number.exp_len.Goals as goal

pub returns-then-not-is_e : goal.returns-then-not-is_e
returns-then-not-is_e c = exp-none c.args.text.now c.args.at
    (ap is_e (sym c.byte_at-b.ensures) ∙ sym c.is_e.ensures ∙ c.if-not-is_e.true)

pub overflow_add-from : goal.overflow_add-from
overflow_add-from c = omega (arith, c.sign_len-sign.ensures, sign_small (drop (c.args.at + 1) c.args.text.now))

pub overflow_add-from-2 : goal.overflow_add-from-2
overflow_add-from-2 c = omega (arith, c.sign_len-sign.ensures, sign_small (drop (c.args.at + 1) c.args.text.now))

pub returns-then-end-from : goal.returns-then-end-from
returns-then-end-from c = exp-bare c.args.text.now c.args.at _ _ c.sign_len-sign.ensures c.digits_end-end.ensures
    (ap is_e (sym c.byte_at-b.ensures) ∙ sym c.is_e.ensures ∙ c.if-not-is_e.false) c.if-end-from.true

pub returns : goal.returns
returns c = exp-some c.args.text.now c.args.at _ _ c.sign_len-sign.ensures c.digits_end-end.ensures
    (ap is_e (sym c.byte_at-b.ensures) ∙ sym c.is_e.ensures ∙ c.if-not-is_e.false) c.if-end-from.false
