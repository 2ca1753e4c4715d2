use mathlib.Core.Path.{◌≡◌, refl}
use Prim.Native.Nat.{◌+◌}
use native.Mathlib.Omega.{arith}
use Rattle.lexis.specs.Push.{push_all}
use Rattle.lexis.proofs.Caps.{push-bounded, push-more}
use Rattle.lexis.proofs.mantissa.pushed_all.Goals as goal

pub loop-b-init : goal.loop-b-init
unfolding push_all
loop-b-init c = (refl, record { capped = c.requires.value_le_mantissa_end; few = omega arith })

pub pushed-a-requires : goal.pushed-a-requires
pushed-a-requires c = record {
  value_le_mantissa_end = c.loop-b.invariant.1.capped;
  zeros_bound = omega (arith, c.loop-b.invariant.1.few, c.requires.zeros_le_max_number, c.requires.few, c.loop-b-test.true);
}

pub loop-b-preserved : goal.loop-b-preserved
loop-b-preserved c = let at = c.loop-b in
    let regroup : c.args.m.zeros + (at.b-index + 1) ≡ c.args.m.zeros + at.b-index + 1 = omega arith in (
      push-more c.args.digits.now at.b-index _ _ _ c.loop-b-test.true at.invariant.0 c.pushed-a.ensures,
      rw (c.pushed-a.ensures, regroup) (push-bounded _ _ _ at.invariant.1),
    )
