use mathlib.Core.Path.{◌≡◌, ◌∙◌}
use Prim.Native.Nat.{◌+◌, ◌-◌}
use native.Mathlib.Omega.{arith}
use lib.ListN.{drop, get_or}
use Rattle.lists.proofs.Extents.{value-step, too_large, all_read}
use Rattle.lists.proofs.fitting.is_at_most.Goals as goal

pub returns-then-bound-v : goal.returns-then-bound-v
returns-then-bound-v c =
    let d : c.from.result ≡ get_or c.args.w.now c.loop-b.b-index 0 - 48 = c.from.ensures ∙ c.saturating_sub.ensures in
    rw (c.loop-b.invariant.1, value-step c.args.w.now c.loop-b.b-index c.loop-b.v c.loop-b-test.true)
    (too_large _ _ (drop (c.loop-b.b-index + 1) c.args.w.now) (omega (arith, d, c.if-bound-v.true)))

pub loop-b-preserved : goal.loop-b-preserved
loop-b-preserved c =
    let d : c.from.result ≡ get_or c.args.w.now c.loop-b.b-index 0 - 48 = c.from.ensures ∙ c.saturating_sub.ensures in (
      c.if-bound-v.false,
      rw d (c.loop-b.invariant.1 ∙ value-step c.args.w.now c.loop-b.b-index c.loop-b.v c.loop-b-test.true),
    )

pub returns : goal.returns
returns c = rw c.loop-b.invariant.1 (all_read c.args.w.now c.loop-b.b-index c.loop-b.v _ c.loop-b-test.false c.loop-b.invariant.0)
