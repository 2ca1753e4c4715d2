-- The cases of `frac_len`: no point, no digits after it, some.
use mathlib.Core.Path.{sym, ◌∙◌}
use Rattle.lexis.proofs.Shapes.{frac-none, frac-bare, frac-some}
use Rattle.lexis.proofs.number.frac_len.Goals as goal

pub returns-then-byte_at-ne46 : goal.returns-then-byte_at-ne46
returns-then-byte_at-ne46 c = frac-none c.args.text.now c.args.at (λ e. c.if-byte_at-ne46.true (c.byte_at.ensures ∙ e))

pub returns-then-end-from : goal.returns-then-end-from
returns-then-end-from c = frac-bare c.args.text.now c.args.at _ (sym c.byte_at.ensures ∙ c.if-byte_at-ne46.false) c.digits_end-end.ensures
    c.if-end-from.true

pub returns : goal.returns
returns c = frac-some c.args.text.now c.args.at _ (sym c.byte_at.ensures ∙ c.if-byte_at-ne46.false) c.digits_end-end.ensures
    c.if-end-from.false
