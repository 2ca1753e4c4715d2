-- `symbol::symbol_at` meets its contract: the mark at a place is its token's terminal. Assumes nothing.
use Rattle.syntax.proofs.Symbols.{look_none, look-more}
use Rattle.syntax.proofs.tokens.Tokens.symbol_at.Goals as goal

pub returns-then-self-at : goal.returns-then-self-at
returns-then-self-at c = look_none _ _ _ c.args.at c.if-self-at.true

pub returns : goal.returns
returns c = look-more _ _ _ c.args.at c.args.self.now.holds c.if-self-at.false
