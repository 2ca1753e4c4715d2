use mathlib.Core.Path.{◌∙◌}
use native.Mathlib.Omega.{arith}
use Rattle.lists.proofs.RowWalks.{params-start, params-again, params-done, params-behind, parameter-inside}
use Rattle.lists.proofs.headers.parameters.Goals as goal

pub loop-r-init : goal.loop-r-init
loop-r-init c = params-start c.requires.ready_2 c.requires.roomy c.requires.reads

pub parameter-r-requires : goal.parameter-r-requires
parameter-r-requires c = record {
  ready = c.loop-r.invariant.ready;
  roomy = c.loop-r.invariant.roomy;
  at_bound = parameter-inside
      c.loop-r.invariant.ready c.loop-r.invariant.reads;
}

pub onward-requires : goal.onward-requires
onward-requires c = omega (
  arith,
  (params-behind c.loop-r.invariant c.parameter-r.ensures.meaning c.parameter-r.ensures.walkable).1,
  c.loop-r.invariant.ready.small,
)

pub shape_of-index-then-symbol_at-ne-COMMA : goal.shape_of-index-then-symbol_at-ne-COMMA
shape_of-index-then-symbol_at-ne-COMMA c = c.parameter-r.auto.index ∙ c.loop-r.invariant.index-size

pub shape_of-words-then-symbol_at-ne-COMMA : goal.shape_of-words-then-symbol_at-ne-COMMA
shape_of-words-then-symbol_at-ne-COMMA c = c.parameter-r.auto.words ∙ c.loop-r.invariant.words_size

pub returns-then-symbol_at-ne-COMMA : goal.returns-then-symbol_at-ne-COMMA
returns-then-symbol_at-ne-COMMA c =
    let p = params-done c.loop-r.invariant c.parameter-r.ensures.meaning c.parameter-r.ensures.walkable c.symbol_at.ensures
    c.if-symbol_at-ne-COMMA.true in
    record { ready = rw c.onward.ensures p.0; meaning = rw c.onward.ensures p.1 }

pub onward-r-requires : goal.onward-r-requires
onward-r-requires c = omega (
  arith,
  (params-behind c.loop-r.invariant c.parameter-r.ensures.meaning c.parameter-r.ensures.walkable).1,
  c.loop-r.invariant.ready.small,
)

pub loop-r-smaller : goal.loop-r-smaller
loop-r-smaller c = let b = params-behind c.loop-r.invariant c.parameter-r.ensures.meaning c.parameter-r.ensures.walkable in
    rw c.onward-r.ensures (omega (arith, b.0, b.1))

pub loop-r-preserved : goal.loop-r-preserved
loop-r-preserved c = rw c.onward-r.ensures (params-again c.loop-r.invariant c.parameter-r.ensures.meaning c.parameter-r.ensures.walkable
    c.parameter-r.auto.index
    c.parameter-r.auto.words c.symbol_at.ensures c.if-symbol_at-ne-COMMA.false)
