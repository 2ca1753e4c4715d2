-- `symbol::expect` meets its contract. Where a terminal is seen, a token stands, so the next place fits. Assumes nothing.
use mathlib.Core.Path.{sym, ◌∙◌}
use borrow.Author.Rules.{rules}
use Rattle.syntax.proofs.Symbols.{stands, one_more, expect-yes, expect-no}
use Rattle.syntax.proofs.tokens.Tokens.expect.Goals as goal

pub returns-then-symbol_at-s : goal.returns-then-symbol_at-s
returns-then-symbol_at-s c = sym (expect-no _ _ _ _ (λ z. c.if-symbol_at-s.true (c.symbol_at.ensures ∙ z)))

pub overflow_add-result : goal.overflow_add-result
overflow_add-result c = let h = stands _ _ _ _ (sym c.if-symbol_at-s.false ∙ c.symbol_at.ensures) c.requires in search rules

pub returns : goal.returns
returns c =
    let e = sym c.if-symbol_at-s.false ∙ c.symbol_at.ensures in
    one_more c.args.self.now c.args.at (stands _ _ _ _ e c.requires) ∙ sym (expect-yes _ _ c.args.s _ c.requires (sym e))
