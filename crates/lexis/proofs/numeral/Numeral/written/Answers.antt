-- The digits after the sign, which lie within the number.
use native.Mathlib.Omega.{arith}
use Rattle.lexis.proofs.Exponents.{written_none, written-some, from_in, digits_in}
use Rattle.lexis.proofs.numeral.Numeral.written.Goals as goal

pub returns-then-p-eq0 : goal.returns-then-p-eq0
returns-then-p-eq0 c = written_none c.args.self.now.bytes.now c.args.self.now.parts c.if-p-eq0.true

pub overflow_add-from : goal.overflow_add-from
overflow_add-from c = omega (arith, from_in c.args.self.now.bytes.now c.args.self.now.parts _ c.if-p-eq0.false c.sign_len-sign.ensures c.args.self.now.inside)

pub overflow_add-from-2 : goal.overflow_add-from-2
overflow_add-from-2 c = omega (arith, from_in c.args.self.now.bytes.now c.args.self.now.parts _ c.if-p-eq0.false c.sign_len-sign.ensures c.args.self.now.inside)

pub slice_bounds-capped_value-end : goal.slice_bounds-capped_value-end
slice_bounds-capped_value-end c = digits_in c.args.self.now.bytes.now c.args.self.now.parts _ c.if-p-eq0.false c.sign_len-sign.ensures _ c.digits_end-end.ensures c.args.self.now.inside

pub returns : goal.returns
returns c = written-some c.args.self.now.bytes.now c.args.self.now.parts _ c.if-p-eq0.false c.sign_len-sign.ensures _ c.digits_end-end.ensures _ c.capped_value.ensures
