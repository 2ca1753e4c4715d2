use mathlib.Core.Path.{sym, ◌∙◌}
use native.Mathlib.Omega.{arith}
use borrow.Author.Rules.{rules}
use Rattle.syntax.specs.Parser.{types}
use Rattle.lexis.specs.Symbol.{right_round, comma}
use Rattle.syntax.proofs.TypeSpecs.{type-sound, type-is, tuple-types-is, word_stands, at-word, at-not, at-full, at-tuple}
use Rattle.syntax.proofs.Rows.{row-fell, row_last, row_next}
use Rattle.syntax.proofs.Symbols.{stands}
use Rattle.syntax.proofs.Shrinks.{expect-shrinks, type-shrinks}
use Rattle.syntax.proofs.Chain.{exits, by_law, goes, stops, passes, reaches}
use Rattle.syntax.proofs.types.+base_tuple_type_type_at_type_items.Goals as goal

pub base-overflow_add-result : goal.base-overflow_add-result
base-overflow_add-result t c =
    let h = word_stands c.args.tokens.now c.args.at c.symbol_at-s.ensures (sym c.is_type_word.ensures ∙ c.if-is_type_word.true) in
    search rules

pub base-returns-then-is_type_word : goal.base-returns-then-is_type_word
base-returns-then-is_type_word t c = at-word c.args.tokens.now c.args.at c.symbol_at-s.ensures c.args.room (sym c.is_type_word.ensures ∙ c.if-is_type_word.true)

pub base-returns-then-s-ne-LEFT_ROUND : goal.base-returns-then-s-ne-LEFT_ROUND
base-returns-then-s-ne-LEFT_ROUND t c =
    at-not c.args.tokens.now c.args.at c.symbol_at-s.ensures c.args.room (sym c.is_type_word.ensures ∙ c.if-is_type_word.false) c.if-s-ne-LEFT_ROUND.true

pub base-returns-then-room-eq0 : goal.base-returns-then-room-eq0
base-returns-then-room-eq0 t c = at-full c.args.tokens.now c.args.at c.symbol_at-s.ensures c.args.room c.if-s-ne-LEFT_ROUND.false c.if-room-eq0.true

pub base-overflow_add-at : goal.base-overflow_add-at
base-overflow_add-at t c = let h = stands _ _ _ _ c.symbol_at-s.ensures (omega (arith, c.if-s-ne-LEFT_ROUND.false)) in search rules

pub base-tuple_type-requires : goal.base-tuple_type-requires
base-tuple_type-requires t c = omega (arith, stands _ _ _ _ c.symbol_at-s.ensures (omega (arith, c.if-s-ne-LEFT_ROUND.false)), c.decreases)

pub base-returns : goal.base-returns
base-returns t c = at-tuple c.args.tokens.now c.args.at c.symbol_at-s.ensures c.args.room c.if-s-ne-LEFT_ROUND.false c.if-room-eq0.false c.tuple_type.ensures

pub tuple_type-returns-in_err-first : goal.tuple_type-returns-in_err-first
tuple_type-returns-in_err-first t c =
    exits c.args.tokens.now _ _ c.from_residual.ensures.1
    (by_law (tuple-types-is c.args.tokens.now c.args.at c.args.room) (stops _ c.in_err-first.ensures))

pub tuple_type-returns-in_err-next : goal.tuple_type-returns-in_err-next
tuple_type-returns-in_err-next t c =
    exits c.args.tokens.now _ _ c.from_residual-in_err-next.ensures.1
    (by_law (tuple-types-is c.args.tokens.now c.args.at c.args.room) (goes _ c.in_ok-first.ensures (stops _ c.in_err-next.ensures)))

pub tuple_type-type_items-requires : goal.tuple_type-type_items-requires
tuple_type-type_items-requires t c = omega (
  arith,
  passes (type-shrinks c.args.room) c.args.tokens.now c.in_ok-first.ensures,
  passes (expect-shrinks comma) c.args.tokens.now c.in_ok-next.ensures,
  reaches _ _ c.in_ok-next.ensures,
  c.decreases,
)

pub tuple_type-returns : goal.tuple_type-returns
tuple_type-returns t c =
    by_law (tuple-types-is c.args.tokens.now c.args.at c.args.room) (goes _ c.in_ok-first.ensures (goes _ c.in_ok-next.ensures c.type_items.ensures))

pub type_at-returns-in_err-next : goal.type_at-returns-in_err-next
type_at-returns-in_err-next t c =
    exits c.args.tokens.now _ _ c.from_residual.ensures.1
    (by_law (type-is c.args.tokens.now c.args.at c.args.room) (stops _ c.in_err-next.ensures))

pub type_at-pairs-requires : goal.type_at-pairs-requires
type_at-pairs-requires t c = reaches _ _ c.in_ok-next.ensures

pub type_at-returns : goal.type_at-returns
type_at-returns t c = by_law (type-is c.args.tokens.now c.args.at c.args.room) (goes _ c.in_ok-next.ensures c.pairs.ensures)

pub type_items-returns-in_err-next : goal.type_items-returns-in_err-next
type_items-returns-in_err-next t c =
    exits c.args.tokens.now _ _ c.from_residual.ensures.1
    (row-fell types right_round (type-sound c.args.room) c.args.tokens.now c.loop-next.i c.in_err-next.ensures)
    ∙ sym c.loop-next.invariant.1

pub type_items-returns-then-symbol_at-ne-COMMA : goal.type_items-returns-then-symbol_at-ne-COMMA
type_items-returns-then-symbol_at-ne-COMMA t c =
    row_last types right_round (type-sound c.args.room) c.args.tokens.now c.loop-next.i c.in_ok-next.ensures c.symbol_at.ensures
    c.if-symbol_at-ne-COMMA.true c.expect.ensures
    ∙ sym c.loop-next.invariant.1

pub type_items-overflow_add-i : goal.type_items-overflow_add-i
type_items-overflow_add-i t c = let h = stands _ _ _ _ c.symbol_at.ensures (omega (arith, c.if-symbol_at-ne-COMMA.false)) in search rules

pub type_items-loop-next-smaller : goal.type_items-loop-next-smaller
type_items-loop-next-smaller t c = omega (
  arith,
  stands _ _ _ _ c.symbol_at.ensures (omega (arith, c.if-symbol_at-ne-COMMA.false)),
  passes (type-shrinks c.args.room) c.args.tokens.now c.in_ok-next.ensures,
)

pub type_items-loop-next-preserved : goal.type_items-loop-next-preserved
type_items-loop-next-preserved t c = (
  omega (arith, passes (type-shrinks c.args.room) c.args.tokens.now c.in_ok-next.ensures, c.loop-next.invariant.0),
  c.loop-next.invariant.1
      ∙ row_next types right_round (type-sound c.args.room) c.args.tokens.now c.loop-next.i c.in_ok-next.ensures c.symbol_at.ensures
      c.if-symbol_at-ne-COMMA.false,
)
