-- The byte after the letter.
use borrow.Author.Tests.{eq-eqb}
use Rattle.lexis.proofs.Exponents.{minus-none, minus-some}
use Rattle.lexis.proofs.numeral.Numeral.is_minus.Goals as goal

pub returns-then-p-ne0 : goal.returns-then-p-ne0
returns-then-p-ne0 c = minus-some c.args.self.now.bytes.now c.args.self.now.parts _ c.if-p-ne0.true c.byte_at.ensures

pub returns-else-p-ne0 : goal.returns-else-p-ne0
returns-else-p-ne0 c = rw (eq-eqb _ 0 c.if-p-ne0.false) (minus-none c.args.self.now.bytes.now c.args.self.now.parts c.if-p-ne0.false)
