use mathlib.Core.Path.{sym, ◌∙◌}
use Prim.Native.Nat.{◌+◌}
use native.Mathlib.Omega.{arith}
use Rattle.lexis.specs.Ascii.{ascii}
use Rattle.lexis.specs.Symbol.{right_round, right_square}
use Rattle.syntax.specs.Tokens.{from}
use Rattle.syntax.proofs.Symbols.{stands}
use Rattle.writing.proofs.ValuePuts.{array-flat, array-deep, tuple-each, no-type-there, leaf-there}
use Rattle.writing.proofs.ValuePuts.{row_last, row_next, row-neither}
use Rattle.writing.proofs.ValuePuts.{array-empty, array-some, array-begun, tuple-row, tuple-begun}
use borrow.Author.Rules.{rules}
use Rattle.writing.proofs.value.+put_array_put_base_put_nested_put_tuple.Goals as goal

pub put_array-returns-then-symbol_at-eq-RIGHT_SQUARE : goal.put_array-returns-then-symbol_at-eq-RIGHT_SQUARE
put_array-returns-then-symbol_at-eq-RIGHT_SQUARE t c = let h = stands c.args.values.now.text.now c.args.values.now.table.now c.args.values.now.count
    c.args.v (sym c.if-symbol_at-eq-RIGHT_SQUARE.true ∙ c.symbol_at.ensures) (omega arith) in
    record {
      range = (omega arith, omega (arith, h));
      meaning = array-empty c.args.values.now.text.now c.args.values.now.table.now c.args.values.now.count c.args.v (from c.args.types.now c.args.t)
          c.args.k c.symbol_at.result c.symbol_at.ensures c.if-symbol_at-eq-RIGHT_SQUARE.true c.put_mark.ensures;
    }

pub put_array-loop-out-init : goal.put_array-loop-out-init
put_array-loop-out-init t c = (
  omega arith,
  c.requires.v_le_vn,
  λ out' r f. array-some c.args.values.now.text.now c.args.values.now.table.now c.args.values.now.count c.args.v
      (from c.args.types.now c.args.t) c.args.k r c.symbol_at.result c.symbol_at.ensures c.if-symbol_at-eq-RIGHT_SQUARE.false f,
)

pub put_array-put_base-next-requires : goal.put_array-put_base-next-requires
put_array-put_base-next-requires t c = (omega (arith, c.decreases, c.loop-out.invariant.0), (c.requires.ranged, c.loop-out.invariant.1))

pub put_array-overflow_add-result-then-c-eq-RIGHT_SQUARE : goal.put_array-overflow_add-result-then-c-eq-RIGHT_SQUARE
put_array-overflow_add-result-then-c-eq-RIGHT_SQUARE t c = let h = stands c.args.values.now.text.now c.args.values.now.table.now c.args.values.now.count
    c.put_base-next.result
    (sym c.if-c-eq-RIGHT_SQUARE.true ∙ c.symbol_at-c.ensures) (omega arith) in
    search rules

pub put_array-returns-then-c-eq-RIGHT_SQUARE : goal.put_array-returns-then-c-eq-RIGHT_SQUARE
put_array-returns-then-c-eq-RIGHT_SQUARE t c = let h = stands c.args.values.now.text.now c.args.values.now.table.now c.args.values.now.count
    c.put_base-next.result (sym c.if-c-eq-RIGHT_SQUARE.true ∙ c.symbol_at-c.ensures) (omega arith) in
    let first = array-begun c.args.values.now.text.now c.args.values.now.table.now c.args.values.now.count c.loop-out.i (from c.args.types.now c.args.t)
    c.args.k c.put_base-next.ensures.meaning in
    let last = row_last right_square (ascii "]") first c.symbol_at-c.result c.symbol_at-c.ensures (λ z. omega (arith, z)) c.if-c-eq-RIGHT_SQUARE.true
    c.put_mark-then-c-eq-RIGHT_SQUARE.ensures in
    record {
      range = (omega (arith, c.put_base-next.ensures.range.0, c.loop-out.invariant.0), omega (arith, h));
      meaning = c.loop-out.invariant.2 c.put_mark-then-c-eq-RIGHT_SQUARE.new.self (c.put_base-next.result + 1) last;
    }

pub put_array-returns-then-c-ne-COMMA : goal.put_array-returns-then-c-ne-COMMA
put_array-returns-then-c-ne-COMMA t c = let first = array-begun c.args.values.now.text.now c.args.values.now.table.now c.args.values.now.count c.loop-out.i
    (from c.args.types.now c.args.t) c.args.k c.put_base-next.ensures.meaning in
    let neither = row-neither right_square (ascii "]") first c.symbol_at-c.result c.symbol_at-c.ensures (λ z. omega (arith, z)) c.put_base-next.new.out
    c.put_base-next.result c.if-c-eq-RIGHT_SQUARE.false
    c.if-c-ne-COMMA.true in
    record {
      range = (omega (arith, c.put_base-next.ensures.range.0, c.loop-out.invariant.0), c.put_base-next.ensures.range.1);
      meaning = c.loop-out.invariant.2 c.put_base-next.new.out c.put_base-next.result neither;
    }

pub put_array-overflow_add-i : goal.put_array-overflow_add-i
put_array-overflow_add-i t c = let h = stands c.args.values.now.text.now c.args.values.now.table.now c.args.values.now.count c.put_base-next.result
    (sym c.if-c-ne-COMMA.false ∙ c.symbol_at-c.ensures) (omega arith) in
    search rules

pub put_array-loop-out-smaller : goal.put_array-loop-out-smaller
put_array-loop-out-smaller t c = let h = stands c.args.values.now.text.now c.args.values.now.table.now c.args.values.now.count c.put_base-next.result
    (sym c.if-c-ne-COMMA.false ∙ c.symbol_at-c.ensures) (omega arith) in
    omega (arith, h, c.put_base-next.ensures.range.0)

pub put_array-loop-out-preserved : goal.put_array-loop-out-preserved
put_array-loop-out-preserved t c = let h = stands c.args.values.now.text.now c.args.values.now.table.now c.args.values.now.count c.put_base-next.result
    (sym c.if-c-ne-COMMA.false ∙ c.symbol_at-c.ensures) (omega arith) in
    let first = array-begun c.args.values.now.text.now c.args.values.now.table.now c.args.values.now.count c.loop-out.i (from c.args.types.now c.args.t)
    c.args.k c.put_base-next.ensures.meaning in (
      omega (arith, c.put_base-next.ensures.range.0, c.loop-out.invariant.0),
      omega (arith, h),
      λ out' r f. c.loop-out.invariant.2 out' r (row_next right_square (ascii "]") first c.symbol_at-c.result c.symbol_at-c.ensures (λ z. omega (arith, z))
          r c.if-c-ne-COMMA.false
          c.put_mark-in-loop-out.ensures f),
    )

pub put_base-returns-clause-meaning : goal.put_base-returns-clause-meaning
put_base-returns-clause-meaning t c =
    leaf-there c.args.values.now.text.now c.args.values.now.table.now c.args.values.now.count c.args.v c.args.types.now.text.now c.args.types.now.table.now
    c.args.types.now.count c.args.t c.args.k c.symbol_at-c.result c.symbol_at-c.ensures c.put_plain.result c.symbol_at.result
    c.if-c-eq-LEFT_SQUARE.false c.if-c-eq-LEFT_ROUND.false c.below_256.ensures c.args.values.now.holds c.symbol_at.ensures c.put_plain.ensures.meaning

pub put_nested-returns-then-k-eq0 : goal.put_nested-returns-then-k-eq0
put_nested-returns-then-k-eq0 t c = let h = stands c.args.values.now.text.now c.args.values.now.table.now c.args.values.now.count c.args.v
    (sym c.if-c-eq-LEFT_SQUARE.true ∙ c.requires.opens.seen) (omega arith) in
    record {
      range = (omega arith, omega (arith, h));
      meaning = array-flat c.args.values.now.text.now c.args.values.now.table.now c.args.values.now.count c.args.v c.args.types.now.text.now
          c.args.types.now.table.now c.args.types.now.count c.args.t c.args.k
          c.args.c c.requires.opens.seen c.args.out.now c.args.out.now c.args.v c.if-c-eq-LEFT_SQUARE.true c.if-k-eq0.true;
    }

pub put_nested-overflow_add-v : goal.put_nested-overflow_add-v
put_nested-overflow_add-v t c = let h = stands c.args.values.now.text.now c.args.values.now.table.now c.args.values.now.count c.args.v
    (sym c.if-c-eq-LEFT_SQUARE.true ∙ c.requires.opens.seen) (omega arith) in
    search rules

pub put_nested-put_array-requires : goal.put_nested-put_array-requires
put_nested-put_array-requires t c = let h = stands c.args.values.now.text.now c.args.values.now.table.now c.args.values.now.count c.args.v
    (sym c.if-c-eq-LEFT_SQUARE.true ∙ c.requires.opens.seen) (omega arith) in
    (omega (arith, h, c.decreases), (c.requires.ranged, omega (arith, h)))

pub put_nested-returns-then-c-eq-LEFT_SQUARE : goal.put_nested-returns-then-c-eq-LEFT_SQUARE
put_nested-returns-then-c-eq-LEFT_SQUARE t c = record {
  range = (omega (arith, c.put_array.ensures.range.0), c.put_array.ensures.range.1);
  meaning = array-deep c.args.values.now.text.now c.args.values.now.table.now c.args.values.now.count c.args.v c.args.types.now.text.now
      c.args.types.now.table.now c.args.types.now.count
      c.args.t c.args.k c.args.c c.requires.opens.seen c.put_array.result c.if-c-eq-LEFT_SQUARE.true c.if-k-eq0.false c.put_mark.ensures
      c.put_array.ensures.meaning;
}

pub put_nested-returns-then-types-t : goal.put_nested-returns-then-types-t
put_nested-returns-then-types-t t c = let h = stands c.args.values.now.text.now c.args.values.now.table.now c.args.values.now.count c.args.v
    (sym (c.requires.opens.bracket c.if-c-eq-LEFT_SQUARE.false) ∙ c.requires.opens.seen) (omega arith) in
    record {
      range = (omega arith, omega (arith, h));
      meaning = no-type-there c.args.values.now.text.now c.args.values.now.table.now c.args.values.now.count c.args.v c.args.types.now.text.now
          c.args.types.now.table.now c.args.types.now.count c.args.t c.args.k
          c.args.c c.requires.opens.seen c.args.out.now c.args.out.now c.args.v c.if-types-t.true;
    }

pub put_nested-overflow_add-v-2 : goal.put_nested-overflow_add-v-2
put_nested-overflow_add-v-2 t c = let h = stands c.args.values.now.text.now c.args.values.now.table.now c.args.values.now.count c.args.v
    (sym (c.requires.opens.bracket c.if-c-eq-LEFT_SQUARE.false) ∙ c.requires.opens.seen) (omega arith) in
    search rules

pub put_nested-put_tuple-requires : goal.put_nested-put_tuple-requires
put_nested-put_tuple-requires t c = let h = stands c.args.values.now.text.now c.args.values.now.table.now c.args.values.now.count c.args.v
    (sym (c.requires.opens.bracket c.if-c-eq-LEFT_SQUARE.false) ∙ c.requires.opens.seen) (omega arith) in
    (omega (arith, h, c.decreases), (c.requires.ranged, omega (arith, h)))

pub put_nested-returns : goal.put_nested-returns
put_nested-returns t c = record {
  range = (omega (arith, c.put_tuple.ensures.range.0), c.put_tuple.ensures.range.1);
  meaning = tuple-each c.args.values.now.text.now c.args.values.now.table.now c.args.values.now.count c.args.v c.args.types.now.text.now
      c.args.types.now.table.now c.args.types.now.count
      c.args.t c.args.k c.args.c c.requires.opens.seen c.put_tuple.result (c.requires.opens.bracket c.if-c-eq-LEFT_SQUARE.false) c.put_mark-2.ensures
      c.put_tuple.ensures.meaning;
}

pub put_tuple-loop-u-init : goal.put_tuple-loop-u-init
put_tuple-loop-u-init t c = (
  omega arith,
  c.requires.v_le_vn,
  λ out' r f. tuple-row c.args.values.now.text.now c.args.values.now.table.now c.args.values.now.count c.args.v
      (from c.args.types.now c.args.t) r f,
)

pub put_tuple-put_base-next-requires : goal.put_tuple-put_base-next-requires
put_tuple-put_base-next-requires t c = (omega (arith, c.decreases, c.loop-u.invariant.0), (c.requires.ranged, c.loop-u.invariant.1))

pub put_tuple-overflow_add-result : goal.put_tuple-overflow_add-result
put_tuple-overflow_add-result t c = let h = stands c.args.values.now.text.now c.args.values.now.table.now c.args.values.now.count c.put_base-next.result
    (sym c.if-c-eq-RIGHT_ROUND.true ∙ c.symbol_at-c.ensures) (omega arith) in
    search rules

pub put_tuple-returns-then-c-eq-RIGHT_ROUND : goal.put_tuple-returns-then-c-eq-RIGHT_ROUND
put_tuple-returns-then-c-eq-RIGHT_ROUND t c = let h = stands c.args.values.now.text.now c.args.values.now.table.now c.args.values.now.count
    c.put_base-next.result (sym c.if-c-eq-RIGHT_ROUND.true ∙ c.symbol_at-c.ensures) (omega arith) in
    let first = tuple-begun c.args.values.now.text.now c.args.values.now.table.now c.args.values.now.count c.loop-u.i c.args.types.now.text.now
    c.args.types.now.table.now c.args.types.now.count c.loop-u.j c.shape_at-u.result.pairs
    c.shape_at-u.result.at c.shape_at-u.ensures.meaning c.put_base-next.result c.put_base-next.ensures.meaning in
    let last = row_last right_round (ascii ")") first c.symbol_at-c.result c.symbol_at-c.ensures (λ z. omega (arith, z)) c.if-c-eq-RIGHT_ROUND.true
    c.put_mark.ensures in
    record {
      range = (omega (arith, c.put_base-next.ensures.range.0, c.loop-u.invariant.0), omega (arith, h));
      meaning = c.loop-u.invariant.2 c.put_mark.new.self (c.put_base-next.result + 1) last;
    }

pub put_tuple-returns-then-c-ne-COMMA : goal.put_tuple-returns-then-c-ne-COMMA
put_tuple-returns-then-c-ne-COMMA t c = let first = tuple-begun c.args.values.now.text.now c.args.values.now.table.now c.args.values.now.count c.loop-u.i
    c.args.types.now.text.now c.args.types.now.table.now c.args.types.now.count c.loop-u.j c.shape_at-u.result.pairs
    c.shape_at-u.result.at c.shape_at-u.ensures.meaning c.put_base-next.result c.put_base-next.ensures.meaning in
    let neither = row-neither right_round (ascii ")") first c.symbol_at-c.result c.symbol_at-c.ensures (λ z. omega (arith, z)) c.put_base-next.new.out
    c.put_base-next.result c.if-c-eq-RIGHT_ROUND.false
    c.if-c-ne-COMMA.true in
    record {
      range = (omega (arith, c.put_base-next.ensures.range.0, c.loop-u.invariant.0), c.put_base-next.ensures.range.1);
      meaning = c.loop-u.invariant.2 c.put_base-next.new.out c.put_base-next.result neither;
    }

pub put_tuple-overflow_add-i : goal.put_tuple-overflow_add-i
put_tuple-overflow_add-i t c = let h = stands c.args.values.now.text.now c.args.values.now.table.now c.args.values.now.count c.put_base-next.result
    (sym c.if-c-ne-COMMA.false ∙ c.symbol_at-c.ensures) (omega arith) in
    search rules

pub put_tuple-overflow_add-j : goal.put_tuple-overflow_add-j
put_tuple-overflow_add-j t c = record { fits = omega (arith, c.shape_at-u.ensures.range, c.args.types.now.holds.room) }

pub put_tuple-loop-u-smaller : goal.put_tuple-loop-u-smaller
put_tuple-loop-u-smaller t c = let h = stands c.args.values.now.text.now c.args.values.now.table.now c.args.values.now.count c.put_base-next.result
    (sym c.if-c-ne-COMMA.false ∙ c.symbol_at-c.ensures) (omega arith) in
    omega (arith, h, c.put_base-next.ensures.range.0)

pub put_tuple-loop-u-preserved : goal.put_tuple-loop-u-preserved
put_tuple-loop-u-preserved t c = let h = stands c.args.values.now.text.now c.args.values.now.table.now c.args.values.now.count c.put_base-next.result
    (sym c.if-c-ne-COMMA.false ∙ c.symbol_at-c.ensures) (omega arith) in
    let first = tuple-begun c.args.values.now.text.now c.args.values.now.table.now c.args.values.now.count c.loop-u.i c.args.types.now.text.now
    c.args.types.now.table.now c.args.types.now.count c.loop-u.j c.shape_at-u.result.pairs
    c.shape_at-u.result.at c.shape_at-u.ensures.meaning c.put_base-next.result c.put_base-next.ensures.meaning in (
      omega (arith, c.put_base-next.ensures.range.0, c.loop-u.invariant.0),
      omega (arith, h),
      λ out' r f. c.loop-u.invariant.2 out' r (row_next right_round (ascii ")") first c.symbol_at-c.result c.symbol_at-c.ensures (λ z. omega (arith, z)) r
          c.if-c-ne-COMMA.false
          c.put_mark-in-loop-u.ensures f),
    )
