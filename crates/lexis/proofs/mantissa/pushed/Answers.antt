-- The cases of `push`; without zeros and well below the cap one product is enough.
use mathlib.Core.Path.{◌∙◌}
use borrow.Author.Rules.{rules}
use borrow.Author.Tests.{eq-eqb, ne_eqb}
use Rattle.lexis.specs.Push.{push}
use Rattle.lexis.proofs.Caps.{push-fast, saturated}
use Rattle.lexis.proofs.mantissa.pushed.Goals as goal

pub returns-then-value-eq0 : goal.returns-then-value-eq0
unfolding push
returns-then-value-eq0 c = rw (eq-eqb _ 48 c.if-b-eq48.true, eq-eqb _ 0 c.if-value-eq0.true)

pub returns-then-b-eq48 : goal.returns-then-b-eq48
unfolding push
returns-then-b-eq48 c = rw (eq-eqb _ 48 c.if-b-eq48.true, ne_eqb _ 0 c.if-value-eq0.false)

pub returns-then-value-lt10000000000000000 : goal.returns-then-value-lt10000000000000000
returns-then-value-lt10000000000000000 c = push-fast _ _ _ c.if-b-eq48.false c.if-zeros-eq0.true c.if-value-lt10000000000000000.true
    (c.from-digit.ensures ∙ c.saturating_sub.ensures) (search rules)

pub returns : goal.returns
unfolding push
returns c = rw (
  ne_eqb _ 48 c.if-b-eq48.false,
  c.min.ensures,
  c.min-scaled.ensures,
  c.saturating_mul.ensures,
  c.saturating_pow.ensures,
  saturated c.args.m.value _,
  c.from-digit.ensures,
  c.saturating_sub.ensures,
)
