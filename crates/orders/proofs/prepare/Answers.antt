use mathlib.Core.Path.{◌≡◌}
use native.Mathlib.Omega.{arith}
use Rattle.orders.specs.Scratch.{count_at}
use Rattle.orders.proofs.Marks.{prepared-start, prepared-next, sum-grows}
use Rattle.orders.proofs.prepare.Goals as goal

pub loop-k-init : goal.loop-k-init
loop-k-init c = prepared-start c.args.records.now c.args.n c.args.firsts.now c.args.marks.now

pub overflow_cast-firsts : goal.overflow_cast-firsts
overflow_cast-firsts c = omega (arith, c.loop-k.invariant.sum, c.requires.bounded.uses, sum-grows c.args.records.now c.loop-k.k c.args.n c.loop-k.invariant.inside)

pub overflow_add-uses-in-loop-k : goal.overflow_add-uses-in-loop-k
overflow_add-uses-in-loop-k c = omega (
  arith,
  c.loop-k.invariant.sum,
  c.requires.bounded.uses,
  sum-grows c.args.records.now c.loop-k.k c.args.n c.loop-k.invariant.inside,
  c.shared_slice_known-1.given (count_at c.loop-k.k),
)

pub loop-k-preserved : goal.loop-k-preserved
loop-k-preserved c = prepared-next c.args.records.now c.args.n c.args.firsts.now c.args.marks.now c.loop-k.firsts c.loop-k.marks c.loop-k.uses c.loop-k.k
    c.loop-k-test.true c.requires.n_in_bounds.0 c.requires.n_in_bounds.1 c.loop-k.invariant

pub shape_of-firsts : goal.shape_of-firsts
shape_of-firsts c = c.loop-k.invariant.firsts-length

pub shape_of-marks : goal.shape_of-marks
shape_of-marks c = c.loop-k.invariant.marks-length

pub returns : goal.returns
returns c = let end : c.loop-k.k ≡ c.args.n = omega (arith, c.loop-k.invariant.inside, c.loop-k-test.false) in
    record { firsts = rw end at c.loop-k.invariant.numbered; unmarked = rw end at c.loop-k.invariant.blank }
