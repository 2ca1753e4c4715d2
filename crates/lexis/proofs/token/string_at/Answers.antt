-- The cases of `string_lexeme`: no closing quote, too long, good.
use mathlib.Core.Path.{sym, ◌∙◌}
use native.Mathlib.Numerals.{add-one}
use native.Mathlib.Omega.{arith}
use Rattle.lexis.proofs.Positions.{run_in, string-open, string-long, string-good}
use Rattle.lexis.proofs.token.string_at.Goals as goal

pub returns-then-byte_at-q : goal.returns-then-byte_at-q
returns-then-byte_at-q c = string-open _ _ _ _ c.content_end-end.ensures (λ e. c.if-byte_at-q.true (c.byte_at.ensures ∙ e))

pub returns-then-not-string_fits : goal.returns-then-not-string_fits
returns-then-not-string_fits c = string-long _ _ _ _ c.content_end-end.ensures (sym c.byte_at.ensures ∙ c.if-byte_at-q.false)
    (sym c.string_fits.ensures ∙ c.if-not-string_fits.true)

pub overflow_add-result : goal.overflow_add-result
overflow_add-result c = omega (arith, c.content_end-end.ensures, run_in _ _ _ _ c.content_end-end.ensures (rw add-one c.requires))

pub returns : goal.returns
returns c = string-good _ _ _ _ c.content_end-end.ensures (sym c.byte_at.ensures ∙ c.if-byte_at-q.false)
    (sym c.string_fits.ensures ∙ c.if-not-string_fits.false)
