-- `list::is_label` meets its contract. Assumes nothing.
use native.Mathlib.Omega.{arith}
use borrow.Author.Rules.{rules}
use Rattle.syntax.proofs.Lists.{no_label, name-label}
use Rattle.syntax.proofs.Symbols.{stands}
use Rattle.syntax.proofs.tokens.Tokens.is_label.Goals as goal

pub returns-else-symbol_at-eq-NAME : goal.returns-else-symbol_at-eq-NAME
returns-else-symbol_at-eq-NAME c = no_label c.args.self.now c.args.at c.symbol_at.ensures c.if-symbol_at-eq-NAME.false

pub overflow_add-at : goal.overflow_add-at
overflow_add-at c = let h = stands _ _ _ _ c.symbol_at.ensures (omega (arith, c.if-symbol_at-eq-NAME.true)) in search rules

pub returns-then-symbol_at-eq-NAME : goal.returns-then-symbol_at-eq-NAME
returns-then-symbol_at-eq-NAME c =
    name-label c.args.self.now c.args.at c.symbol_at.ensures c.symbol_at-then-symbol_at-eq-NAME.ensures c.if-symbol_at-eq-NAME.true
