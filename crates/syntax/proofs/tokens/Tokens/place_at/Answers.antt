-- `symbol::place_at` meets its contract. Assumes nothing.
use Rattle.syntax.proofs.Symbols.{place_none, place-more}
use Rattle.syntax.proofs.tokens.Tokens.place_at.Goals as goal

pub returns-then-self-at : goal.returns-then-self-at
returns-then-self-at c = place_none _ _ _ c.args.at c.if-self-at.true

pub returns : goal.returns
returns c = place-more _ _ _ c.args.at c.if-self-at.false
