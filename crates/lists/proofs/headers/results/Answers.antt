use mathlib.Core.Path.{◌∙◌}
use native.Mathlib.Omega.{arith}
use Rattle.lists.proofs.RowWalks.{results-start, results-again, results-done, results-behind, result-inside}
use Rattle.lists.proofs.headers.results.Goals as goal

pub loop-r-init : goal.loop-r-init
loop-r-init c = results-start c.requires.ready_2 c.requires.reads

pub result-r-requires : goal.result-r-requires
result-r-requires c = record { ready = c.loop-r.invariant.ready; at_lt_n = result-inside c.loop-r.invariant.ready c.loop-r.invariant.reads }

pub onward-requires : goal.onward-requires
onward-requires c = omega (
  arith,
  (results-behind c.loop-r.invariant c.result-r.ensures.meaning c.result-r.ensures.walkable
      c.result-r.ensures.carried).1,
  c.loop-r.invariant.ready.small,
)

pub shape_of-index-then-symbol_at-ne-COMMA : goal.shape_of-index-then-symbol_at-ne-COMMA
shape_of-index-then-symbol_at-ne-COMMA c = c.result-r.auto.index ∙ c.loop-r.invariant.size

pub returns-then-symbol_at-ne-COMMA : goal.returns-then-symbol_at-ne-COMMA
returns-then-symbol_at-ne-COMMA c =
    let p = results-done c.loop-r.invariant c.result-r.ensures.meaning c.result-r.ensures.walkable c.result-r.ensures.carried c.symbol_at.ensures
    c.if-symbol_at-ne-COMMA.true in
    record { ready = rw c.onward.ensures p.0; carried = rw c.onward.ensures p.1.0; meaning = rw c.onward.ensures p.1.1 }

pub onward-r-requires : goal.onward-r-requires
onward-r-requires c = omega (
  arith,
  (results-behind c.loop-r.invariant c.result-r.ensures.meaning c.result-r.ensures.walkable
      c.result-r.ensures.carried).1,
  c.loop-r.invariant.ready.small,
)

pub loop-r-smaller : goal.loop-r-smaller
loop-r-smaller c = let b = results-behind c.loop-r.invariant c.result-r.ensures.meaning c.result-r.ensures.walkable c.result-r.ensures.carried in
    rw c.onward-r.ensures (omega (arith, b.0, b.1))

pub loop-r-preserved : goal.loop-r-preserved
loop-r-preserved c = rw c.onward-r.ensures (results-again c.loop-r.invariant c.result-r.ensures.meaning c.result-r.ensures.walkable
    c.result-r.ensures.carried c.result-r.auto.index c.symbol_at.ensures
    c.if-symbol_at-ne-COMMA.false)
