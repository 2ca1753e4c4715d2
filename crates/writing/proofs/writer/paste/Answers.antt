use mathlib.Core.Path.{refl, sym, ap, ◌∙◌}
use Prim.Native.Nat.{ℕ, ◌+◌, ◌<◌}
use native.Mathlib.Nat.{add-zero}
use native.Mathlib.Omega.{arith}
use lib.ListN.{length, length-set}
use Rattle.writing.specs.Writing.{stored}
use Rattle.writing.proofs.Putting.{paste-step, stored-end}
use Rattle.writing.proofs.writer.paste.Goals as goal

pub loop-i-init : goal.loop-i-init
loop-i-init c = (refl, ap (λ (k : ℕ). stored c.args.out.now k c.args.word.now) (add-zero c.args.at))

pub loop-i-preserved : goal.loop-i-preserved
loop-i-preserved c = let inside : c.args.at + c.loop-i.i < length c.loop-i.out = omega (arith, c.requires, c.loop-i.invariant.0, c.loop-i-test.true) in (
  length-set c.loop-i.out (c.args.at + c.loop-i.i) _ ∙ c.loop-i.invariant.0,
  sym
      (paste-step c.loop-i.out c.args.at c.args.word.now c.loop-i.i c.loop-i-test.true inside (omega (arith, inside, c.loop-i.invariant.0))) ∙ c.loop-i.invariant.1,
)

pub shape_of-out : goal.shape_of-out
shape_of-out c = c.loop-i.invariant.0

pub returns : goal.returns
returns c = sym (stored-end c.loop-i.out (c.args.at + c.loop-i.i) c.args.word.now c.loop-i.i c.loop-i-test.false) ∙ c.loop-i.invariant.1
