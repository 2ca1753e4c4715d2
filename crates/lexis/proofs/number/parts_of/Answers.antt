-- The parts one after the other, each found where the one before ends.
use native.Mathlib.Omega.{arith}
use Prim.Native.Nat.{zero-le}
use Rattle.lexis.specs.Bytes.{is_digit}
use Rattle.lexis.proofs.Positions.{run_in}
use Rattle.lexis.proofs.Shapes.{frac-in, parts-front}
use Rattle.lexis.proofs.number.parts_of.Goals as goal

pub frac_len-frac-requires : goal.frac_len-frac-requires
frac_len-frac-requires c = run_in is_digit c.args.w.now 0 _ c.digits_end-whole.ensures zero-le

pub overflow_add-whole : goal.overflow_add-whole
overflow_add-whole c = omega (
  arith,
  frac-in c.args.w.now _ _ c.frac_len-frac.ensures
      (run_in is_digit c.args.w.now 0 _ c.digits_end-whole.ensures zero-le),
)

pub exp_len-exp-requires : goal.exp_len-exp-requires
exp_len-exp-requires c = let w = c.args.w.now in
    frac-in w _ _ c.frac_len-frac.ensures (run_in is_digit w 0 _ c.digits_end-whole.ensures zero-le)

pub returns : goal.returns
returns c = parts-front c.args.w.now _ _ _ c.digits_end-whole.ensures c.frac_len-frac.ensures
    c.exp_len-exp.ensures
