use mathlib.Core.Path.{sym, ◌∙◌}
use native.Mathlib.Omega.{arith}
use lib.ListN.{length-set}
use Rattle.writing.proofs.Spelled.{filled_none, filled-room, filled_more, filled-all}
use Rattle.writing.proofs.spelling.fill.Goals as goal

pub loop-rest-init : goal.loop-rest-init
loop-rest-init c = (omega arith, c.requires, filled_none c.args.n c.args.buffer.now (omega (arith, c.ranges.n)) (omega (arith, c.requires)))

pub overflow_sub-i-in-loop-rest : goal.overflow_sub-i-in-loop-rest
overflow_sub-i-in-loop-rest c = omega (arith, filled-room c.loop-rest.i c.loop-rest-test.true c.loop-rest.invariant.2)

pub loop-rest-preserved : goal.loop-rest-preserved
loop-rest-preserved c = (
  omega (arith, c.loop-rest.invariant.0),
  length-set c.loop-rest.buffer c.loop-rest.i _ ∙ c.loop-rest.invariant.1,
  filled_more c.loop-rest.i c.loop-rest-test.true (omega (arith, c.loop-rest.invariant.0, c.loop-rest.invariant.1))
      c.loop-rest.invariant.2,
)

pub shape_of-buffer : goal.shape_of-buffer
shape_of-buffer c = length-set c.loop-rest.buffer c.loop-rest.i _ ∙ c.loop-rest.invariant.1 ∙ sym c.requires

pub returns : goal.returns
returns c = record {
  range = c.loop-rest.invariant.0;
  digits = filled-all c.loop-rest-test.false c.loop-rest.invariant.0 c.loop-rest.invariant.1 c.loop-rest.invariant.2;
}
