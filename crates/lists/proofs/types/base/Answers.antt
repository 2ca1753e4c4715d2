use native.Mathlib.Omega.{arith}
use Rattle.lists.proofs.TypeTokens.{based-none, based-tuple, based-word}
use Rattle.lists.proofs.types.base.Goals as goal

pub returns-then-tokens-at : goal.returns-then-tokens-at
returns-then-tokens-at c =
    let s = c.args.tokens.now in
    record { range = omega arith; meaning = λ e. based-none s.text.now s.table.now s.count c.args.at _ _ c.if-tokens-at.true }

pub returns-then-s-eq-LEFT_ROUND : goal.returns-then-s-eq-LEFT_ROUND
returns-then-s-eq-LEFT_ROUND c =
    let s = c.args.tokens.now in
    record {
      range = c.inside.ensures.range;
      meaning = λ e. based-tuple s.text.now s.table.now s.count c.args.at c.args.s c.if-tokens-at.false e c.inside.result.at c.inside.result.tensor
          c.if-s-eq-LEFT_ROUND.true
          c.inside.ensures.meaning;
    }

pub returns : goal.returns
returns c =
    let s = c.args.tokens.now in
    record {
      range = omega (arith, c.if-tokens-at.false);
      meaning = λ e. based-word s.text.now s.table.now s.count c.args.at c.args.s
          c.if-tokens-at.false e c.if-s-eq-LEFT_ROUND.false;
    }
