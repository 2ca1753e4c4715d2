-- The cases of `word_lexeme`: too long, good.
use mathlib.Core.Path.{sym, ◌∙◌}
use native.Mathlib.Nat.{le_of_lt}
use native.Mathlib.Omega.{arith}
use Rattle.lexis.proofs.Positions.{run_in, word-long, word_good}
use Rattle.lexis.proofs.token.word_at.Goals as goal

pub returns-then-not-name_fits : goal.returns-then-not-name_fits
returns-then-not-name_fits c = word-long _ _ _ c.name_end-end.ensures (sym c.name_fits.ensures ∙ c.if-not-name_fits.true)

pub slice_bounds-kind_of_word-end : goal.slice_bounds-kind_of_word-end
slice_bounds-kind_of_word-end c = omega (
  arith,
  c.name_end-end.ensures,
  run_in _ _ _ _ c.name_end-end.ensures (le_of_lt c.requires),
)

pub returns : goal.returns
returns c = word_good _ _ _ c.name_end-end.ensures _
    (sym c.name_fits.ensures ∙ c.if-not-name_fits.false) c.kind_of_word-kind.ensures
