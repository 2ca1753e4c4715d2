use Prim.Native.Nat.{◌+◌}
use native.Mathlib.Omega.{arith}
use borrow.Author.Tests.{eq-eqb, ne_eqb, le-leb, lt-leb}
use Rattle.lexis.specs.Symbol.{minus}
use Rattle.lists.proofs.fitting.fits_signed.Goals as goal

pub returns-then-s-ne-MINUS : goal.returns-then-s-ne-MINUS
returns-then-s-ne-MINUS c = simp (ne_eqb _ minus c.if-s-ne-MINUS.true) c.fits_leaf.ensures

pub returns-then-tokens-at : goal.returns-then-tokens-at
returns-then-tokens-at c = simp (eq-eqb c.args.s minus c.if-s-ne-MINUS.false, le-leb c.args.tokens.now.count (c.args.at + 1) c.if-tokens-at.true)

pub returns : goal.returns
returns c = simp (eq-eqb c.args.s minus c.if-s-ne-MINUS.false, lt-leb c.args.tokens.now.count (c.args.at + 1) (omega (arith, c.if-tokens-at.false)))
    c.fits_leaf-2.ensures
