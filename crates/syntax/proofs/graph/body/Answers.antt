use mathlib.Core.Path.{sym, ◌∙◌}
use native.Mathlib.Omega.{arith}
use borrow.Author.Rules.{rules}
use Rattle.lexis.specs.Sizes.{max_brackets}
use Rattle.syntax.proofs.Graphs.{body-fell, body-last, body-next}
use Rattle.syntax.proofs.Chain.{exits, passes, reaches}
use Rattle.syntax.proofs.Symbols.{stands}
use Rattle.syntax.proofs.Shrinks.{call-shrinks}
use Rattle.syntax.proofs.graph.body.Goals as goal

pub returns-in_err-i : goal.returns-in_err-i
returns-in_err-i c = exits c.args.tokens.now _ _ c.from_residual.ensures.1 (body-fell c.args.tokens.now c.loop-i.i c.in_err-i.ensures) ∙ sym c.loop-i.invariant

pub overflow_add-result : goal.overflow_add-result
overflow_add-result c = let h = stands _ _ _ _ c.symbol_at.ensures (omega (arith, c.if-symbol_at-eq-RIGHT_CURLY.true)) in search rules

pub returns-then-symbol_at-eq-RIGHT_CURLY : goal.returns-then-symbol_at-eq-RIGHT_CURLY
returns-then-symbol_at-eq-RIGHT_CURLY c =
    body-last c.args.tokens.now c.loop-i.i c.in_ok-i.ensures c.symbol_at.ensures c.if-symbol_at-eq-RIGHT_CURLY.true ∙ sym c.loop-i.invariant

pub loop-i-smaller : goal.loop-i-smaller
loop-i-smaller c = omega (arith, passes (call-shrinks max_brackets) c.args.tokens.now c.in_ok-i.ensures, reaches _ _ c.in_ok-i.ensures)

pub loop-i-preserved : goal.loop-i-preserved
loop-i-preserved c = c.loop-i.invariant ∙ body-next c.args.tokens.now c.loop-i.i c.in_ok-i.ensures c.symbol_at.ensures c.if-symbol_at-eq-RIGHT_CURLY.false
