-- Too many bytes before the exponent, or else the exponent decides.
use native.Mathlib.Omega.{arith}
use Rattle.lexis.proofs.Ranges.{few-not, few-then}
use Rattle.lexis.proofs.numeral.Numeral.is_short.Goals as goal

pub returns-then-self-gt-MANTISSA_DIGITS : goal.returns-then-self-gt-MANTISSA_DIGITS
returns-then-self-gt-MANTISSA_DIGITS c = few-not c.args.self.now.bytes.now c.args.self.now.parts c.if-self-gt-MANTISSA_DIGITS.true

pub returns : goal.returns
returns c = few-then c.args.self.now.bytes.now c.args.self.now.parts c.written.result (omega (arith, c.if-self-gt-MANTISSA_DIGITS.false)) c.written.ensures
