use mathlib.Core.Path.{refl, sym, ◌∙◌}
use native.Mathlib.Omega.{arith}
use borrow.Author.Rules.{rules}
use Rattle.lexis.specs.Symbol.{right_square}
use Rattle.syntax.proofs.TypeSpecs.{pairs-stop, pairs-full, pairs-next}
use Rattle.syntax.proofs.Symbols.{stands}
use Rattle.syntax.proofs.Shrinks.{expect-shrinks}
use Rattle.syntax.proofs.Chain.{goes, stops, exits, passes, reaches}
use Rattle.syntax.proofs.types.pairs.Goals as goal

pub returns-then-symbol_at-ne-LEFT_SQUARE : goal.returns-then-symbol_at-ne-LEFT_SQUARE
returns-then-symbol_at-ne-LEFT_SQUARE c =
    pairs-stop c.args.tokens.now c.loop-at.i c.symbol_at.ensures c.args.room c.loop-at.invariant.0 c.if-symbol_at-ne-LEFT_SQUARE.true
    ∙ sym c.loop-at.invariant.1

pub returns-then-room-eq0 : goal.returns-then-room-eq0
returns-then-room-eq0 c =
    pairs-full c.args.tokens.now c.loop-at.i c.symbol_at.ensures c.args.room c.if-symbol_at-ne-LEFT_SQUARE.false c.if-room-eq0.true
    ∙ sym c.loop-at.invariant.1

pub overflow_add-i : goal.overflow_add-i
overflow_add-i c = let h = stands _ _ _ _ c.symbol_at.ensures (omega (arith, c.if-symbol_at-ne-LEFT_SQUARE.false)) in search rules

pub returns-in_err-i : goal.returns-in_err-i
returns-in_err-i c = exits c.args.tokens.now _ _ c.from_residual.ensures.1 (stops _ c.in_err-i.ensures)
    ∙ sym (pairs-next c.args.tokens.now c.loop-at.i c.symbol_at.ensures c.args.room c.if-symbol_at-ne-LEFT_SQUARE.false c.if-room-eq0.false)
    ∙ sym c.loop-at.invariant.1

pub loop-at-smaller : goal.loop-at-smaller
loop-at-smaller c = omega (
  arith,
  stands _ _ _ _ c.symbol_at.ensures (omega (arith, c.if-symbol_at-ne-LEFT_SQUARE.false)),
  passes (expect-shrinks right_square) c.args.tokens.now c.in_ok-i.ensures,
)

pub loop-at-preserved : goal.loop-at-preserved
loop-at-preserved c = (
  reaches _ _ c.in_ok-i.ensures,
  c.loop-at.invariant.1
      ∙ pairs-next c.args.tokens.now c.loop-at.i c.symbol_at.ensures c.args.room c.if-symbol_at-ne-LEFT_SQUARE.false c.if-room-eq0.false
      ∙ sym (goes _ c.in_ok-i.ensures refl),
)
