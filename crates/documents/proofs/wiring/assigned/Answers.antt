use Prim.Native.Nat.{ℕ}
use mathlib.Core.Path.{◌≡◌, refl, subst}
use native.Mathlib.Omega.{arith}
use Rattle.index.specs.Indexed.{Walkable}
use Rattle.documents.proofs.Walking.{assigning-start, assigning-next, assigning-end}
use borrow.Author.Rules.{rules}
use Rattle.documents.proofs.wiring.assigned.Goals as goal

pub loop-i-init : goal.loop-i-init
loop-i-init c = (
  omega arith,
  c.requires.at_le_equal.0,
  c.requires.at_le_equal.3,
  c.requires.walkable,
  assigning-start c.args.source.now.tokens.text.now c.args.source.now.tokens.table.now c.args.index.now c.args.at c.args.equal c.args.tally c.args.k c.args.external,
  refl,
  omega arith,
)

pub loop-i-preserved : goal.loop-i-preserved
loop-i-preserved c = (
  omega (arith, c.loop-i.invariant.0),
  omega (arith, c.loop-i-test.true),
  omega (arith, c.assigned_at-sum.ensures.count_le_count.1),
  c.assigned_at-sum.ensures.walkable_2,
  assigning-next c.args.source.now.tokens.text.now c.args.source.now.tokens.table.now c.args.index.now c.args.at c.args.equal c.args.tally c.loop-i.index _ c.loop-i.i c.loop-i.sum c.assigned_at-sum.result c.loop-i-test.true c.args.k
      c.args.external c.loop-i.invariant.4 c.assigned_at-sum.ensures.assigns,
  search rules,
  omega (arith, c.assigned_at-sum.ensures.count_le_count.0, c.loop-i.invariant.6),
)

pub returns : goal.returns
returns c = let end : c.loop-i.i ≡ c.args.equal = omega (arith, c.loop-i.invariant.1, c.loop-i-test.false) in
    record {
      count_le_count = (c.loop-i.invariant.6, omega (arith, c.loop-i.invariant.2, end));
      walkable_2 = subst (λ (j : ℕ). Walkable c.loop-i.index j c.args.source.now.tokens.count) end c.loop-i.invariant.3;
      assigns = assigning-end c.args.source.now.tokens.text.now c.args.source.now.tokens.table.now c.args.index.now c.args.at c.args.equal c.args.tally c.loop-i.index c.loop-i.i c.loop-i.sum c.args.k c.args.external end
          c.loop-i.invariant.4;
    }
