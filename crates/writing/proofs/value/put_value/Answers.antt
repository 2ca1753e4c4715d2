-- By the base of the type under its pairs.
use native.Mathlib.Omega.{arith}
use Rattle.writing.proofs.ValuePuts.{value-put, value-inside}
use Rattle.writing.proofs.value.put_value.Goals as goal

pub returns-then-v-values : goal.returns-then-v-values
returns-then-v-values c = value-put c.args.values.now.text.now c.args.values.now.table.now c.args.values.now.count c.args.v c.args.types.now.text.now
    c.args.types.now.table.now c.args.types.now.count c.args.t c.args.k c.put_base.result c.put_base.ensures.meaning

pub returns-else-v-values : goal.returns-else-v-values
returns-else-v-values c = λ m b x us k u ws w f g e q. absurd (omega (
  arith,
  c.if-v-values.false,
  value-inside c.args.values.now.text.now
      c.args.values.now.table.now c.args.values.now.count c.args.v m b f,
))
