use mathlib.Core.Path.{sym, ◌∙◌}
use native.Mathlib.Omega.{arith}
use Rattle.lists.proofs.TypeTokens.{opens, closes, walk_none, walk_ends, walk-goes}
use Rattle.lists.proofs.types.inside.Goals as goal

pub returns-then-depth-eq0-clause-meaning : goal.returns-then-depth-eq0-clause-meaning
returns-then-depth-eq0-clause-meaning c =
    let s = c.symbol_at-s.result in
    walk_ends _ _ _ c.loop-i.i c.loop-i.depth s _ _ c.loop-i.tensor _ c.loop-i-test.true c.symbol_at-s.ensures
    (c.from-opened.ensures ∙ opens s) (c.from-closed.ensures ∙ closes s) c.still-tensor.ensures c.if-depth-eq0.true
    ∙ sym c.loop-i.invariant.2

pub loop-i-preserved : goal.loop-i-preserved
loop-i-preserved c =
    let s = c.symbol_at-s.result in (
      omega (arith, c.if-depth-eq0.false),
      grind arith,
      c.loop-i.invariant.2
          ∙ walk-goes _ _ _ c.loop-i.i c.loop-i.depth s _ _ c.loop-i.tensor _ c.loop-i-test.true c.symbol_at-s.ensures
          (c.from-opened.ensures ∙ opens s) (c.from-closed.ensures ∙ closes s) c.still-tensor.ensures c.if-depth-eq0.false,
    )

pub returns-clause-meaning : goal.returns-clause-meaning
returns-clause-meaning c = walk_none _ _ _ c.loop-i.i c.loop-i.depth c.loop-i.tensor c.loop-i-test.false ∙ sym c.loop-i.invariant.2
