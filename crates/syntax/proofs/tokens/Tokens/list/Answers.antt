use mathlib.Core.Path.{sym, ◌∙◌}
use native.Mathlib.Omega.{arith}
use borrow.Author.Rules.{rules}
use Rattle.syntax.specs.Parser.{plain}
use Rattle.lexis.specs.Symbol.{right_round}
use Rattle.syntax.proofs.Lists.{item-sound}
use Rattle.syntax.proofs.Rows.{row-fell, row_last, row_next}
use Rattle.syntax.proofs.Symbols.{stands}
use Rattle.syntax.proofs.Chain.{exits, passes}
use Rattle.syntax.proofs.tokens.Tokens.list.Goals as goal

pub returns-in_err-next : goal.returns-in_err-next
returns-in_err-next c = exits c.args.self.now _ _ c.from_residual.ensures.1
    (row-fell plain right_round (item-sound c.args.which) c.args.self.now c.loop-next.i c.in_err-next.ensures)
    ∙ sym c.loop-next.invariant

pub returns-then-symbol_at-ne-COMMA : goal.returns-then-symbol_at-ne-COMMA
returns-then-symbol_at-ne-COMMA c =
    row_last plain right_round (item-sound c.args.which) c.args.self.now c.loop-next.i c.in_ok-next.ensures c.symbol_at.ensures c.if-symbol_at-ne-COMMA.true
    c.expect.ensures
    ∙ sym c.loop-next.invariant

pub overflow_add-i : goal.overflow_add-i
overflow_add-i c = let h = stands _ _ _ _ c.symbol_at.ensures (omega (arith, c.if-symbol_at-ne-COMMA.false)) in search rules

pub loop-next-smaller : goal.loop-next-smaller
loop-next-smaller c = omega (
  arith,
  stands _ _ _ _ c.symbol_at.ensures (omega (arith, c.if-symbol_at-ne-COMMA.false)),
  passes (item-sound c.args.which).small c.args.self.now c.in_ok-next.ensures,
)

pub loop-next-preserved : goal.loop-next-preserved
loop-next-preserved c = c.loop-next.invariant
    ∙ row_next plain right_round (item-sound c.args.which) c.args.self.now c.loop-next.i c.in_ok-next.ensures c.symbol_at.ensures c.if-symbol_at-ne-COMMA.false
