use Rattle.documents.proofs.Scanning.{find-here, find-next, find-end}
use mathlib.Core.Path.{sym, ◌∙◌}
use native.Mathlib.Omega.{arith}
use Rattle.documents.proofs.calls.find.Goals as goal

pub returns-then-symbol_at-s : goal.returns-then-symbol_at-s
returns-then-symbol_at-s c = (
  omega (arith, c.loop-i.invariant.0),
  omega arith,
  find-here c.args.tokens.now.text.now c.args.tokens.now.table.now
      c.args.tokens.now.count c.loop-i.i
      c.args.s c.loop-i-test.true c.symbol_at.ensures c.if-symbol_at-s.true
      ∙ sym c.loop-i.invariant.1,
)

pub loop-i-preserved : goal.loop-i-preserved
loop-i-preserved c = (
  omega (arith, c.loop-i.invariant.0),
  c.loop-i.invariant.1
      ∙ find-next c.args.tokens.now.text.now c.args.tokens.now.table.now
      c.args.tokens.now.count c.loop-i.i
      c.args.s c.loop-i-test.true c.symbol_at.ensures c.if-symbol_at-s.false,
)

pub returns : goal.returns
returns c = (
  omega arith,
  omega arith,
  find-end c.args.tokens.now.text.now c.args.tokens.now.table.now
      c.args.tokens.now.count c.loop-i.i c.args.s c.loop-i-test.false
      ∙ sym c.loop-i.invariant.1,
)
