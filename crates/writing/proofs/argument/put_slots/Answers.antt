use native.Mathlib.Omega.{arith}
use Rattle.lexis.specs.Kind as Kind
use Rattle.writing.proofs.ArgumentPuts.{puts-start, puts-nothing, puts-last, puts-on}
use Rattle.writing.proofs.argument.put_slots.Goals as goal

pub returns-then-callee-eq0 : goal.returns-then-callee-eq0
returns-then-callee-eq0 c = puts-nothing c.args.doc.now c.args.slots.now c.args.callee.now c.args.out.now
    c.if-callee-eq0.true

pub loop-i-init : goal.loop-i-init
loop-i-init c = (
  omega (arith, c.if-callee-eq0.false),
  puts-start c.args.doc.now c.args.slots.now c.args.callee.now c.args.out.now,
)

pub bounds-slots-i : goal.bounds-slots-i
bounds-slots-i c = omega (arith, c.loop-i.invariant.0, c.args.callee.now.params_recorded.few, c.requires.max_parameters_in_bounds)

pub overflow_add-i : goal.overflow_add-i
overflow_add-i c = omega (arith, c.loop-i.invariant.0, c.args.callee.now.params_recorded.few)

pub returns-then-callee-i : goal.returns-then-callee-i
returns-then-callee-i c = puts-last c.args.doc.now c.args.slots.now c.args.callee.now c.args.out.now
    c.loop-i.out c.loop-i.i c.loop-i.invariant.1 c.loop-i.invariant.0 c.put_argument.ensures c.if-callee-i.true

pub loop-i-smaller : goal.loop-i-smaller
loop-i-smaller c = omega (arith, c.if-callee-i.false, c.loop-i.invariant.0)

pub loop-i-preserved : goal.loop-i-preserved
loop-i-preserved c = (
  omega (arith, c.if-callee-i.false),
  puts-on c.args.doc.now c.args.slots.now c.args.callee.now c.args.out.now
      c.loop-i.out c.loop-i.i c.loop-i.invariant.1 c.loop-i.invariant.0 c.put_argument.ensures
      (omega (arith, c.if-callee-i.false)) (c.put_mark.ensures Kind.syntactic),
)
