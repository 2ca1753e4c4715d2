-- A short number is in range; any other is where its reduction is a number.
use mathlib.Core.Path.{ap, ◌∙◌}
use native.Mathlib.Omega.{arith}
use Rattle.std.specs.Prelude.{is_some}
use Rattle.lexis.proofs.Ranges.{in-range-some, short-in-range}
use Rattle.lexis.proofs.numeral.Numeral.in_range.Goals as goal

pub returns-then-is_short : goal.returns-then-is_short
returns-then-is_short c = c.if-is_short.true
    ∙ short-in-range c.args.self.now.bytes.now c.args.self.now.parts c.is_short.result c.args.self.now.shaped (omega (arith, c.args.self.now.inside, c.args.self.now.few)) c.is_short.ensures c.if-is_short.true

pub returns-else-is_short : goal.returns-else-is_short
returns-else-is_short c = c.is_some.ensures ∙ ap is_some c.reduction.ensures ∙ in-range-some c.args.self.now.bytes.now c.args.self.now.parts
