-- `list::default` meets its contract. Assumes nothing.
use native.Mathlib.Omega.{arith}
use borrow.Author.Rules.{rules}
use Rattle.lexis.specs.Sizes.{max_brackets}
use Rattle.syntax.proofs.Lists.{at_none, at_default}
use Rattle.syntax.proofs.Symbols.{stands}
use Rattle.syntax.proofs.list.default.Goals as goal

pub returns-then-symbol_at-ne-EQUAL : goal.returns-then-symbol_at-ne-EQUAL
returns-then-symbol_at-ne-EQUAL c = at_none c.args.tokens.now c.args.at c.symbol_at.ensures max_brackets c.requires c.if-symbol_at-ne-EQUAL.true

pub overflow_add-at : goal.overflow_add-at
overflow_add-at c = let h = stands _ _ _ _ c.symbol_at.ensures (omega (arith, c.if-symbol_at-ne-EQUAL.false)) in search rules

pub returns : goal.returns
returns c = at_default c.args.tokens.now c.args.at c.symbol_at.ensures max_brackets c.if-symbol_at-ne-EQUAL.false c.value.ensures
