-- The digits of the whole part, then those of the fraction.
use native.Mathlib.Omega.{arith}
use Rattle.lexis.proofs.Exponents.{whole-only, with-fraction, mantissa-bounded}
use Rattle.lexis.proofs.numeral.Numeral.mantissa.Goals as goal

pub returns-then-p-eq0 : goal.returns-then-p-eq0
returns-then-p-eq0 c = whole-only c.args.self.now.bytes.now c.args.self.now.parts _ c.if-p-eq0.true c.pushed_all-whole.ensures

pub pushed_all-requires-clause-value_le_mantissa_end : goal.pushed_all-requires-clause-value_le_mantissa_end
pushed_all-requires-clause-value_le_mantissa_end c = (mantissa-bounded c.pushed_all-whole.result _ _ c.pushed_all-whole.ensures (omega (arith, c.args.self.now.inside, c.args.self.now.few))).capped

pub pushed_all-requires-clause-zeros_le_max_number : goal.pushed_all-requires-clause-zeros_le_max_number
pushed_all-requires-clause-zeros_le_max_number c = (mantissa-bounded c.pushed_all-whole.result _ _ c.pushed_all-whole.ensures (omega (arith, c.args.self.now.inside, c.args.self.now.few))).few

pub returns : goal.returns
returns c = with-fraction c.args.self.now.bytes.now c.args.self.now.parts _ _ c.pushed_all-whole.ensures c.pushed_all.ensures
