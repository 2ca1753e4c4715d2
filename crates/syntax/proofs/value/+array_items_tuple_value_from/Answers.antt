use mathlib.Core.Path.{◌≡◌, sym, ap, ◌∙◌}
use native.Mathlib.Omega.{arith}
use borrow.Author.Rules.{rules}
use Rattle.lexis.specs.Symbol.{comma}
use Rattle.syntax.specs.Inner.{leaves_of}
use Rattle.syntax.specs.Parser.{value, values}
use Rattle.syntax.specs.Tokens.{answer}
use Rattle.syntax.specs.Read.Parsed.{Done}
use Rattle.syntax.proofs.Rows.{row-fell, row_last, row_next}
use Rattle.syntax.proofs.Values.{value-sound, tuple_is, at-close, at-items, leaf-stands, open-stands, at_leaf, at_other, at-full, at-array, at-tuple}
use Rattle.syntax.proofs.Symbols.{stands}
use Rattle.syntax.proofs.Shrinks.{expect-shrinks, value-shrinks}
use Rattle.syntax.proofs.Chain.{exits, by_law, goes, stops, passes, reaches}
use Rattle.syntax.proofs.value.+array_items_tuple_value_from.Goals as goal
use Rattle.syntax.proofs.value.+array_items_tuple_value_from.Goals.{items-then-have, items-else-have+in_ok-next}

pub array-overflow_add-result : goal.array-overflow_add-result
array-overflow_add-result t c = let h = stands _ _ _ _ c.symbol_at.ensures (omega (arith, c.if-symbol_at-eq-RIGHT_SQUARE.true)) in search rules

pub array-returns-then-symbol_at-eq-RIGHT_SQUARE : goal.array-returns-then-symbol_at-eq-RIGHT_SQUARE
array-returns-then-symbol_at-eq-RIGHT_SQUARE t c = at-close c.args.tokens.now c.args.at c.symbol_at.ensures _ c.if-symbol_at-eq-RIGHT_SQUARE.true

pub array-returns : goal.array-returns
array-returns t c = at-items c.args.tokens.now c.args.at c.symbol_at.ensures _ c.if-symbol_at-eq-RIGHT_SQUARE.false c.items.ensures

pub items-value_from-requires : goal.items-value_from-requires
items-value_from-requires t c = (omega (arith, c.decreases, c.loop-leaves.invariant.0), c.symbol_at-c.ensures)

pub items-returns-in_err-next : goal.items-returns-in_err-next
items-returns-in_err-next t c = exits c.args.tokens.now _ _ c.from_residual.ensures.1
    (row-fell values c.args.close (value-sound (leaves_of c.args.leaves) c.args.room) c.args.tokens.now c.loop-leaves.i c.in_err-next.ensures)
    ∙ sym c.loop-leaves.invariant.1

pub items-overflow_add-next : goal.items-overflow_add-next
items-overflow_add-next t c =
    let h = leaf-stands c.args.tokens.now c.loop-leaves.i c.symbol_at-c.ensures (leaves_of c.args.leaves) (sym c.have.ensures ∙ c.if-have.true) in
    search rules

pub items-returns-then-symbol_at-ne-COMMA : goal.items-returns-then-symbol_at-ne-COMMA
items-returns-then-symbol_at-ne-COMMA t c =
    let item : Done c.if-have.next ≡ answer c.args.tokens.now (value (leaves_of c.args.leaves) c.args.room) c.loop-leaves.i =
    elim c.if-have.branch [
      | items-then-have w ↦ ap Done w.next-is
          ∙ at_leaf c.args.tokens.now c.loop-leaves.i c.symbol_at-c.ensures (leaves_of c.args.leaves) c.args.room (sym c.have.ensures ∙ w.if-have.true)
      | items-else-have+in_ok-next w ↦ ap Done w.next-is ∙ w.in_ok-next.ensures
    ] in
    row_last values c.args.close (value-sound (leaves_of c.args.leaves) c.args.room) c.args.tokens.now c.loop-leaves.i item
    c.symbol_at.ensures c.if-symbol_at-ne-COMMA.true c.expect.ensures
    ∙ sym c.loop-leaves.invariant.1

pub items-overflow_add-i : goal.items-overflow_add-i
items-overflow_add-i t c = let h = stands _ _ _ _ c.symbol_at.ensures (omega (arith, c.if-symbol_at-ne-COMMA.false)) in search rules

pub items-loop-leaves-smaller : goal.items-loop-leaves-smaller
items-loop-leaves-smaller t c =
    let item : Done c.if-have.next ≡ answer c.args.tokens.now (value (leaves_of c.args.leaves) c.args.room) c.loop-leaves.i =
    elim c.if-have.branch [
      | items-then-have w ↦ ap Done w.next-is
          ∙ at_leaf c.args.tokens.now c.loop-leaves.i c.symbol_at-c.ensures (leaves_of c.args.leaves) c.args.room (sym c.have.ensures ∙ w.if-have.true)
      | items-else-have+in_ok-next w ↦ ap Done w.next-is ∙ w.in_ok-next.ensures
    ] in
    omega (
      arith,
      stands _ _ _ _ c.symbol_at.ensures (omega (arith, c.if-symbol_at-ne-COMMA.false)),
      passes (value-shrinks (leaves_of c.args.leaves) c.args.room) c.args.tokens.now item,
    )

pub items-loop-leaves-preserved : goal.items-loop-leaves-preserved
items-loop-leaves-preserved t c =
    let item : Done c.if-have.next ≡ answer c.args.tokens.now (value (leaves_of c.args.leaves) c.args.room) c.loop-leaves.i =
    elim c.if-have.branch [
      | items-then-have w ↦ ap Done w.next-is
          ∙ at_leaf c.args.tokens.now c.loop-leaves.i c.symbol_at-c.ensures (leaves_of c.args.leaves) c.args.room (sym c.have.ensures ∙ w.if-have.true)
      | items-else-have+in_ok-next w ↦ ap Done w.next-is ∙ w.in_ok-next.ensures
    ] in (
      omega (arith, passes (value-shrinks (leaves_of c.args.leaves) c.args.room) c.args.tokens.now item, c.loop-leaves.invariant.0),
      c.loop-leaves.invariant.1
          ∙ row_next values c.args.close (value-sound (leaves_of c.args.leaves) c.args.room) c.args.tokens.now c.loop-leaves.i item
          c.symbol_at.ensures c.if-symbol_at-ne-COMMA.false,
    )

pub tuple-returns-in_err-first : goal.tuple-returns-in_err-first
tuple-returns-in_err-first t c =
    exits c.args.tokens.now _ _ c.from_residual.ensures.1
    (by_law (tuple_is c.args.tokens.now c.args.at (leaves_of c.args.leaves) c.args.room) (stops _ c.in_err-first.ensures))

pub tuple-returns-in_err-next : goal.tuple-returns-in_err-next
tuple-returns-in_err-next t c =
    exits c.args.tokens.now _ _ c.from_residual-in_err-next.ensures.1
    (by_law (tuple_is c.args.tokens.now c.args.at (leaves_of c.args.leaves) c.args.room)
    (goes _ c.in_ok-first.ensures
    (stops _ c.in_err-next.ensures)))

pub tuple-items-requires : goal.tuple-items-requires
tuple-items-requires t c = (
  omega (
    arith,
    passes (value-shrinks (leaves_of c.args.leaves) c.args.room) c.args.tokens.now c.in_ok-first.ensures,
    passes (expect-shrinks comma) c.args.tokens.now c.in_ok-next.ensures,
    reaches _ _ c.in_ok-next.ensures,
    c.decreases,
  ),
  omega arith,
)

pub tuple-returns : goal.tuple-returns
tuple-returns t c =
    by_law (tuple_is c.args.tokens.now c.args.at (leaves_of c.args.leaves) c.args.room)
    (goes _ c.in_ok-first.ensures
    (goes _ c.in_ok-next.ensures
    c.items.ensures))

pub value_from-overflow_add-result : goal.value_from-overflow_add-result
value_from-overflow_add-result t c =
    let h = leaf-stands c.args.tokens.now c.args.at c.requires (leaves_of c.args.leaves) (sym c.have.ensures ∙ c.if-have.true) in
    search rules

pub value_from-returns-then-have : goal.value_from-returns-then-have
value_from-returns-then-have t c = at_leaf c.args.tokens.now c.args.at c.requires (leaves_of c.args.leaves) c.args.room (sym c.have.ensures ∙ c.if-have.true)

pub value_from-returns-then-not-opens : goal.value_from-returns-then-not-opens
value_from-returns-then-not-opens t c =
    at_other c.args.tokens.now c.args.at c.requires (leaves_of c.args.leaves) c.args.room (sym c.have.ensures ∙ c.if-have.false)
    (sym c.opens.ensures ∙ c.if-not-opens.true) c.negative.ensures

pub value_from-returns-then-room-eq0 : goal.value_from-returns-then-room-eq0
value_from-returns-then-room-eq0 t c =
    at-full c.args.tokens.now c.args.at c.requires (leaves_of c.args.leaves) c.args.room (sym c.have.ensures ∙ c.if-have.false)
    (sym c.opens.ensures ∙ c.if-not-opens.false) c.if-room-eq0.true

pub value_from-overflow_add-at : goal.value_from-overflow_add-at
value_from-overflow_add-at t c = let h = open-stands c.args.tokens.now c.args.at c.requires (sym c.opens.ensures ∙ c.if-not-opens.false) in search rules

pub value_from-array-requires : goal.value_from-array-requires
value_from-array-requires t c = omega (arith, open-stands c.args.tokens.now c.args.at c.requires (sym c.opens.ensures ∙ c.if-not-opens.false), c.decreases)

pub value_from-returns-then-s-eq-LEFT_SQUARE : goal.value_from-returns-then-s-eq-LEFT_SQUARE
value_from-returns-then-s-eq-LEFT_SQUARE t c =
    at-array c.args.tokens.now c.args.at c.requires (leaves_of c.args.leaves) c.args.room (sym c.have.ensures ∙ c.if-have.false)
    (sym c.opens.ensures ∙ c.if-not-opens.false) c.if-room-eq0.false c.if-s-eq-LEFT_SQUARE.true c.array.ensures

pub value_from-overflow_add-at-2 : goal.value_from-overflow_add-at-2
value_from-overflow_add-at-2 t c = let h = open-stands c.args.tokens.now c.args.at c.requires (sym c.opens.ensures ∙ c.if-not-opens.false) in search rules

pub value_from-tuple-requires : goal.value_from-tuple-requires
value_from-tuple-requires t c = omega (arith, open-stands c.args.tokens.now c.args.at c.requires (sym c.opens.ensures ∙ c.if-not-opens.false), c.decreases)

pub value_from-returns : goal.value_from-returns
value_from-returns t c =
    at-tuple c.args.tokens.now c.args.at c.requires (leaves_of c.args.leaves) c.args.room (sym c.have.ensures ∙ c.if-have.false)
    (sym c.opens.ensures ∙ c.if-not-opens.false) c.if-room-eq0.false c.if-s-eq-LEFT_SQUARE.false c.tuple.ensures
