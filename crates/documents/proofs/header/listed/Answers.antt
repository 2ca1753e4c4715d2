use Prim.Native.Nat.{ℕ}
use mathlib.Core.Path.{◌≡◌, refl, subst}
use native.Mathlib.Omega.{arith}
use Rattle.index.specs.Indexed.{Walkable}
use Rattle.documents.specs.Naming.{listed_number}
use Rattle.documents.proofs.Walking.{listing_start, listing-next, listing-end}
use borrow.Author.Rules.{rules}
use Rattle.documents.proofs.header.listed.Goals as goal

pub loop-i-init : goal.loop-i-init
loop-i-init c = (
  omega arith,
  c.requires.from_le_to.0,
  c.requires.from_le_to.2,
  c.requires.walkable,
  listing_start c.args.source.now.tokens.text.now c.args.source.now.tokens.table.now c.args.index.now c.args.from c.args.to c.args.tally c.args.size (listed_number c.args.which),
  refl,
)

pub loop-i-preserved : goal.loop-i-preserved
loop-i-preserved c = (
  omega (arith, c.loop-i.invariant.0),
  omega (arith, c.loop-i-test.true),
  omega (arith, c.listed_at-sum.ensures.count_bound),
  c.listed_at-sum.ensures.walkable_2,
  listing-next c.args.source.now.tokens.text.now c.args.source.now.tokens.table.now c.args.index.now c.args.from c.args.to c.args.tally c.loop-i.index _ c.loop-i.i c.loop-i.sum c.listed_at-sum.result c.loop-i-test.true c.args.size (listed_number c.args.which)
      c.loop-i.invariant.4 c.listed_at-sum.ensures.lists_names,
  search rules,
)

pub returns : goal.returns
returns c = let end : c.loop-i.i ≡ c.args.to = omega (arith, c.loop-i.invariant.1, c.loop-i-test.false) in
    record { walkable_2 = subst (λ (j : ℕ). Walkable c.loop-i.index j c.args.source.now.tokens.count) end c.loop-i.invariant.3; lists_names = listing-end c.args.source.now.tokens.text.now c.args.source.now.tokens.table.now c.args.index.now c.args.from c.args.to c.args.tally c.loop-i.index c.loop-i.i c.loop-i.sum c.args.size (listed_number c.args.which) end c.loop-i.invariant.4 }
