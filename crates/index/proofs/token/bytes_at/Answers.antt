use mathlib.Core.Path.{refl}
use Rattle.syntax.specs.Table.{token_at}
use native.Mathlib.Omega.{arith}
use Rattle.index.proofs.token.bytes_at.Goals as goal

pub slice_bounds-result-count : goal.slice_bounds-result-count
slice_bounds-result-count c = let w = c.args.tokens.now.holds.within c.args.i c.requires.i_lt_n in
    omega (arith, w)

pub slice_bounds-result-start : goal.slice_bounds-result-start
slice_bounds-result-start c = let w = c.args.tokens.now.holds.within c.args.i c.requires.i_lt_n in
    omega (arith, w)

pub slice_bounds-result-end : goal.slice_bounds-result-end
slice_bounds-result-end c = let w = c.args.tokens.now.holds.within c.args.i c.requires.i_lt_n in
    omega (arith, w)

pub returns : goal.returns
unfolding token_at
returns c = refl
