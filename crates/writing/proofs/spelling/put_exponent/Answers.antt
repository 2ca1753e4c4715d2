-- A minus and the digits of the opposite, or the digits.
use mathlib.Core.List.{[], ◌∷◌}
use Rattle.lexis.specs.Ascii.{byte}
use Rattle.writing.proofs.Putting.{wrote-then}
use Rattle.writing.proofs.Spelled.{minus-fits, minus-casts, minus-spelt, plus-casts, plus-spelt}
use Rattle.writing.proofs.spelling.put_exponent.Goals as goal

pub overflow_sub-e : goal.overflow_sub-e
overflow_sub-e c = minus-fits c.args.e c.requires c.if-e-lt0.true

pub overflow_cast-e : goal.overflow_cast-e
overflow_cast-e c = minus-casts c.args.e c.requires c.if-e-lt0.true

pub returns-then-e-lt0 : goal.returns-then-e-lt0
returns-then-e-lt0 c = rw (minus-spelt c.args.e c.requires c.if-e-lt0.true) (wrote-then (byte "-" ∷ []) _ c.put_byte.ensures c.put_digits.ensures)

pub overflow_cast-e-2 : goal.overflow_cast-e-2
overflow_cast-e-2 c = plus-casts c.args.e c.requires c.if-e-lt0.false

pub returns : goal.returns
returns c = rw (plus-spelt c.args.e c.requires c.if-e-lt0.false) c.put_digits-2.ensures
