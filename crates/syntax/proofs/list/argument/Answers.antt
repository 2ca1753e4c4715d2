-- `list::argument` meets its contract. Where a label stands there are two tokens, so the place after it fits. Assumes nothing.
use mathlib.Core.Path.{sym, ◌∙◌}
use borrow.Author.Rules.{rules}
use Rattle.lexis.specs.Sizes.{max_brackets}
use Rattle.syntax.proofs.Lists.{label-stands, at_label, at_other}
use Rattle.syntax.proofs.list.argument.Goals as goal

pub overflow_add-at : goal.overflow_add-at
overflow_add-at c = let h = label-stands _ _ _ _ (sym c.is_label.ensures ∙ c.if-is_label.true) in search rules

pub returns-then-is_label : goal.returns-then-is_label
returns-then-is_label c = at_label c.args.tokens.now c.args.at max_brackets (sym c.is_label.ensures ∙ c.if-is_label.true) c.value.ensures

pub returns : goal.returns
returns c = at_other c.args.tokens.now c.args.at max_brackets (sym c.is_label.ensures ∙ c.if-is_label.false) c.value-2.ensures
