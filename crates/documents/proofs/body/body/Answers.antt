use mathlib.Core.Path.{refl, ap, ◌∙◌}
use native.Mathlib.Omega.{arith}
use Rattle.lists.specs.Best.{meant}
use Rattle.lists.proofs.Bests.{clean-none}
use Rattle.documents.proofs.BodyWalks.{going_start, going_next, going_end}
use borrow.Author.Rules.{rules}
use Rattle.documents.proofs.body.body.Goals as goal

pub loop-walk-init : goal.loop-walk-init
loop-walk-init c = (
  omega arith,
  omega arith,
  omega arith,
  c.requires.walkable.0,
  c.requires.walkable.1,
  refl,
  refl,
  λ hs ins outs cs H h m.
      going_start c.args.source.now.tokens.text.now c.args.source.now.tokens.table.now c.args.source.now.tokens.count c.args.graph.body c.args.graph.end hs ins outs cs c.args.index.now c.args.records.now
      _ refl refl refl refl
      (ap meant c.none.ensures ∙ clean-none) h m,
)

pub loop-walk-preserved : goal.loop-walk-preserved
loop-walk-preserved c = (
  c.call_at-walk.ensures.at_lt_at.1,
  c.call_at-walk.ensures.at_lt_at.2,
  c.call_at-walk.ensures.at_lt_at.3,
  c.call_at-walk.ensures.walkable_2.0,
  c.call_at-walk.ensures.walkable_2.1,
  c.call_at-walk.ensures.walkable_2.2 ∙ c.loop-walk.invariant.5,
  search rules,
  λ hs ins outs cs H h m.
      going_next c.args.source.now.tokens.text.now c.args.source.now.tokens.table.now c.args.source.now.tokens.count c.args.graph.body c.args.graph.end hs ins outs cs c.loop-walk.index c.loop-walk.records _ _ c.loop-walk.walk
      c.call_at-walk.result
      c.loop-walk-test.true c.requires.end_le_dn (c.loop-walk.invariant.7 hs ins outs cs H h m) (λ ds js us k w. c.call_at-walk.ensures.stepped hs ins outs ds js us H k w),
)

pub returns : goal.returns
returns c = record {
  walkable_2 = c.loop-walk.invariant.4;
  body = λ hs ins outs cs H h m.
      going_end c.args.source.now.tokens.text.now c.args.source.now.tokens.table.now c.args.source.now.tokens.count c.args.graph.body c.args.graph.end hs ins outs cs c.loop-walk.index c.loop-walk.records c.loop-walk.walk c.loop-walk-test.false
      (c.loop-walk.invariant.7 hs ins outs cs H h m);
}
