use mathlib.Core.Path.{sym, ◌∙◌}
use Prim.Native.Nat.{◌+◌}
use native.Mathlib.Omega.{arith}
use Rattle.orders.proofs.Marks.{marked_start, marked_next, marked-not, marked-end}
use Rattle.orders.proofs.all_marked.Goals as goal

pub loop-u-init : goal.loop-u-init
loop-u-init c = marked_start c.args.records.now c.args.marks.now c.args.from c.args.count

pub bounds-marks-call : goal.bounds-marks-call
bounds-marks-call c = c.requires.by_index c.loop-u.u (omega (arith, c.loop-u-test.true))

pub returns-then-marks-call-eq0 : goal.returns-then-marks-call-eq0
returns-then-marks-call-eq0 c = sym (c.loop-u.invariant ∙ marked-not c.args.records.now c.args.marks.now c.loop-u.u (c.args.from + c.args.count) c.loop-u-test.true c.if-marks-call-eq0.true)

pub loop-u-preserved : goal.loop-u-preserved
loop-u-preserved c = c.loop-u.invariant ∙ marked_next c.args.records.now c.args.marks.now c.loop-u.u (c.args.from + c.args.count) c.loop-u-test.true c.if-marks-call-eq0.false

pub returns : goal.returns
returns c = sym (c.loop-u.invariant ∙ marked-end c.args.records.now c.args.marks.now c.loop-u.u (c.args.from + c.args.count) c.loop-u-test.false)
