use mathlib.Core.Path.{refl, sym, ap, subst, ◌∙◌}
use Prim.Native.Nat.{◌+◌}
use native.Mathlib.Omega.{arith}
use borrow.Author.Rules.{rules}
use Rattle.std.specs.Prelude.{Some, None}
use Rattle.syntax.specs.Tokens.{from}
use Rattle.syntax.proofs.Symbols.{stands, stands_by}
use Rattle.lists.specs.Fitting.{starts_leaf}
use Rattle.lists.proofs.Answers.{Answered, one-within, wider, never}
use Rattle.lists.proofs.Answers.{array-flat, array-deep, flat-deep, tuple-word, tuple-each, signed-answered}
use Rattle.lists.proofs.Answers.{array-empty, array-some, items-no, items-last, items-next, items-neither}
use Rattle.lists.proofs.Answers.{each-no, each-stop, each_last, each_next}
use Rattle.lists.proofs.fitting.+fits_array_fits_each_fits_nested_fits_one.Goals as goal
use Rattle.lists.proofs.fitting.+fits_array_fits_each_fits_nested_fits_one.Goals.{fits_array-then-starts_leaf+in_ok-next, fits_array-else-starts_leaf+in_ok-next-2}

pub fits_array-overflow_add-result : goal.fits_array-overflow_add-result
fits_array-overflow_add-result t c =
    let v = c.args.values.now in
    let h = stands v.text.now v.table.now v.count c.args.v (sym c.if-symbol_at-eq-RIGHT_SQUARE.true ∙ c.symbol_at.ensures) (omega arith) in
    search rules

pub fits_array-returns-then-symbol_at-eq-RIGHT_SQUARE : goal.fits_array-returns-then-symbol_at-eq-RIGHT_SQUARE
fits_array-returns-then-symbol_at-eq-RIGHT_SQUARE t c =
    let v = c.args.values.now in
    let h = stands v.text.now v.table.now v.count c.args.v (sym c.if-symbol_at-eq-RIGHT_SQUARE.true ∙ c.symbol_at.ensures) (omega arith) in
    record {
      range = one-within v.count c.args.v c.args.v (omega arith) h;
      meaning = array-empty v.text.now v.table.now v.count c.args.v (from c.args.types.now c.args.t) c.args.kinds c.args.k
          c.symbol_at.result c.symbol_at.ensures c.if-symbol_at-eq-RIGHT_SQUARE.true;
    }

pub fits_array-loop-v-init : goal.fits_array-loop-v-init
fits_array-loop-v-init t c =
    let v = c.args.values.now in (
      omega arith,
      λ r h. array-some v.text.now v.table.now v.count c.args.v (from c.args.types.now c.args.t) c.args.kinds c.args.k
          c.symbol_at.result c.symbol_at.ensures r c.if-symbol_at-eq-RIGHT_SQUARE.false h,
    )

pub fits_array-fits_signed-requires : goal.fits_array-fits_signed-requires
fits_array-fits_signed-requires t c =
    let v = c.args.values.now in
    stands_by v.text.now v.table.now v.count c.loop-v.i starts_leaf refl c.symbol_at-c.ensures (sym c.starts_leaf.ensures ∙ c.if-starts_leaf.true)

pub fits_array-returns-in_err-next-clause-meaning : goal.fits_array-returns-in_err-next-clause-meaning
fits_array-returns-in_err-next-clause-meaning t c =
    let v = c.args.values.now in
    let u = c.args.types.now in
    let leaf = sym c.starts_leaf.ensures ∙ c.if-starts_leaf.true in
    let h = stands_by v.text.now v.table.now v.count c.loop-v.i starts_leaf refl c.symbol_at-c.ensures leaf in
    let item = signed-answered v.text.now v.table.now v.count c.loop-v.i u.text.now u.table.now u.count c.args.t c.args.k c.symbol_at-c.result
    c.symbol_at-c.ensures v.holds c.below_256.ensures h leaf c.args.kinds c.fits_signed.result c.fits_signed.ensures in
    rw c.from_residual.ensures (c.loop-v.invariant.1 None
    (items-no v.text.now v.table.now v.count c.loop-v.i (from u c.args.t) c.args.kinds c.args.k c.fits_signed.result item.meaning c.in_err-next.was))

pub fits_array-returns-in_err-next-2-clause-meaning : goal.fits_array-returns-in_err-next-2-clause-meaning
fits_array-returns-in_err-next-2-clause-meaning t c =
    let v = c.args.values.now in
    rw c.from_residual-in_err-next-2.ensures (c.loop-v.invariant.1 None
    (items-no v.text.now v.table.now v.count c.loop-v.i (from c.args.types.now c.args.t) c.args.kinds c.args.k
    c.fits_nested.result c.fits_nested.ensures.meaning c.in_err-next-2.was))

pub fits_array-fits_nested-requires : goal.fits_array-fits_nested-requires
fits_array-fits_nested-requires t c =
    (omega (arith, c.decreases, c.loop-v.invariant.0), (c.symbol_at-c.ensures, sym c.starts_leaf.ensures ∙ c.if-starts_leaf.false))

pub fits_array-overflow_add-result-then-s-eq-RIGHT_SQUARE : goal.fits_array-overflow_add-result-then-s-eq-RIGHT_SQUARE
fits_array-overflow_add-result-then-s-eq-RIGHT_SQUARE t c =
    let v = c.args.values.now in
    let h = stands v.text.now v.table.now v.count c.if-starts_leaf.next (sym c.if-s-eq-RIGHT_SQUARE.true ∙ c.symbol_at-s.ensures) (omega arith) in
    search rules

pub fits_array-returns-then-s-eq-RIGHT_SQUARE : goal.fits_array-returns-then-s-eq-RIGHT_SQUARE
fits_array-returns-then-s-eq-RIGHT_SQUARE t c =
    let v = c.args.values.now in
    let u = c.args.types.now in
    let next = c.if-starts_leaf.next in
    let h = stands v.text.now v.table.now v.count next (sym c.if-s-eq-RIGHT_SQUARE.true ∙ c.symbol_at-s.ensures) (omega arith) in
    let item : Answered v.text.now v.table.now v.count c.loop-v.i (from u c.args.t) c.args.kinds c.args.k (Some c.if-starts_leaf.next) =
    elim c.if-starts_leaf.branch [
      | fits_array-then-starts_leaf+in_ok-next w ↦
          let leaf = sym c.starts_leaf.ensures ∙ w.if-starts_leaf.true in
          let h = stands_by v.text.now v.table.now v.count c.loop-v.i starts_leaf refl c.symbol_at-c.ensures leaf in
          subst (Answered v.text.now v.table.now v.count c.loop-v.i (from u c.args.t) c.args.kinds c.args.k) (w.in_ok-next.was ∙ ap Some (sym w.next-is))
          (signed-answered v.text.now v.table.now v.count c.loop-v.i u.text.now u.table.now u.count c.args.t c.args.k c.symbol_at-c.result
          c.symbol_at-c.ensures v.holds c.below_256.ensures h leaf c.args.kinds w.fits_signed.result w.fits_signed.ensures)
      | fits_array-else-starts_leaf+in_ok-next-2 w ↦
          subst (Answered v.text.now v.table.now v.count c.loop-v.i (from u c.args.t) c.args.kinds c.args.k) (w.in_ok-next-2.was ∙ ap Some (sym w.next-is))
          (record { range = w.fits_nested.ensures.range; meaning = w.fits_nested.ensures.meaning })
    ] in
    record {
      range = one-within v.count c.args.v next (omega (arith, item.range.past refl, c.loop-v.invariant.0)) h;
      meaning = c.loop-v.invariant.1 (Some (next + 1))
          (items-last v.text.now v.table.now v.count c.loop-v.i (from u c.args.t) c.args.kinds c.args.k
          (Some next) item.meaning c.symbol_at-s.result next refl c.symbol_at-s.ensures c.if-s-eq-RIGHT_SQUARE.true);
    }

pub fits_array-returns-then-s-ne-COMMA-clause-meaning : goal.fits_array-returns-then-s-ne-COMMA-clause-meaning
fits_array-returns-then-s-ne-COMMA-clause-meaning t c =
    let v = c.args.values.now in
    let u = c.args.types.now in
    let next = c.if-starts_leaf.next in
    let item : Answered v.text.now v.table.now v.count c.loop-v.i (from u c.args.t) c.args.kinds c.args.k (Some c.if-starts_leaf.next) =
    elim c.if-starts_leaf.branch [
      | fits_array-then-starts_leaf+in_ok-next w ↦
          let leaf = sym c.starts_leaf.ensures ∙ w.if-starts_leaf.true in
          let h = stands_by v.text.now v.table.now v.count c.loop-v.i starts_leaf refl c.symbol_at-c.ensures leaf in
          subst (Answered v.text.now v.table.now v.count c.loop-v.i (from u c.args.t) c.args.kinds c.args.k) (w.in_ok-next.was ∙ ap Some (sym w.next-is))
          (signed-answered v.text.now v.table.now v.count c.loop-v.i u.text.now u.table.now u.count c.args.t c.args.k c.symbol_at-c.result
          c.symbol_at-c.ensures v.holds c.below_256.ensures h leaf c.args.kinds w.fits_signed.result w.fits_signed.ensures)
      | fits_array-else-starts_leaf+in_ok-next-2 w ↦
          subst (Answered v.text.now v.table.now v.count c.loop-v.i (from u c.args.t) c.args.kinds c.args.k) (w.in_ok-next-2.was ∙ ap Some (sym w.next-is))
          (record { range = w.fits_nested.ensures.range; meaning = w.fits_nested.ensures.meaning })
    ] in
    c.loop-v.invariant.1 None
    (items-neither v.text.now v.table.now v.count c.loop-v.i (from u c.args.t) c.args.kinds c.args.k
    (Some next) item.meaning c.symbol_at-s.result next refl c.symbol_at-s.ensures None c.if-s-eq-RIGHT_SQUARE.false c.if-s-ne-COMMA.true)

pub fits_array-overflow_add-i : goal.fits_array-overflow_add-i
fits_array-overflow_add-i t c =
    let v = c.args.values.now in
    let h = stands v.text.now v.table.now v.count c.if-starts_leaf.next (sym c.if-s-ne-COMMA.false ∙ c.symbol_at-s.ensures) (omega arith) in
    search rules

pub fits_array-loop-v-smaller : goal.fits_array-loop-v-smaller
fits_array-loop-v-smaller t c =
    let v = c.args.values.now in
    let u = c.args.types.now in
    let item : Answered v.text.now v.table.now v.count c.loop-v.i (from u c.args.t) c.args.kinds c.args.k (Some c.if-starts_leaf.next) =
    elim c.if-starts_leaf.branch [
      | fits_array-then-starts_leaf+in_ok-next w ↦
          let leaf = sym c.starts_leaf.ensures ∙ w.if-starts_leaf.true in
          let h = stands_by v.text.now v.table.now v.count c.loop-v.i starts_leaf refl c.symbol_at-c.ensures leaf in
          subst (Answered v.text.now v.table.now v.count c.loop-v.i (from u c.args.t) c.args.kinds c.args.k) (w.in_ok-next.was ∙ ap Some (sym w.next-is))
          (signed-answered v.text.now v.table.now v.count c.loop-v.i u.text.now u.table.now u.count c.args.t c.args.k c.symbol_at-c.result
          c.symbol_at-c.ensures v.holds c.below_256.ensures h leaf c.args.kinds w.fits_signed.result w.fits_signed.ensures)
      | fits_array-else-starts_leaf+in_ok-next-2 w ↦
          subst (Answered v.text.now v.table.now v.count c.loop-v.i (from u c.args.t) c.args.kinds c.args.k) (w.in_ok-next-2.was ∙ ap Some (sym w.next-is))
          (record { range = w.fits_nested.ensures.range; meaning = w.fits_nested.ensures.meaning })
    ] in
    omega (arith, item.range.past refl, item.range.inside refl)

pub fits_array-loop-v-preserved : goal.fits_array-loop-v-preserved
fits_array-loop-v-preserved t c =
    let v = c.args.values.now in
    let u = c.args.types.now in
    let next = c.if-starts_leaf.next in
    let item : Answered v.text.now v.table.now v.count c.loop-v.i (from u c.args.t) c.args.kinds c.args.k (Some c.if-starts_leaf.next) =
    elim c.if-starts_leaf.branch [
      | fits_array-then-starts_leaf+in_ok-next w ↦
          let leaf = sym c.starts_leaf.ensures ∙ w.if-starts_leaf.true in
          let h = stands_by v.text.now v.table.now v.count c.loop-v.i starts_leaf refl c.symbol_at-c.ensures leaf in
          subst (Answered v.text.now v.table.now v.count c.loop-v.i (from u c.args.t) c.args.kinds c.args.k) (w.in_ok-next.was ∙ ap Some (sym w.next-is))
          (signed-answered v.text.now v.table.now v.count c.loop-v.i u.text.now u.table.now u.count c.args.t c.args.k c.symbol_at-c.result
          c.symbol_at-c.ensures v.holds c.below_256.ensures h leaf c.args.kinds w.fits_signed.result w.fits_signed.ensures)
      | fits_array-else-starts_leaf+in_ok-next-2 w ↦
          subst (Answered v.text.now v.table.now v.count c.loop-v.i (from u c.args.t) c.args.kinds c.args.k) (w.in_ok-next-2.was ∙ ap Some (sym w.next-is))
          (record { range = w.fits_nested.ensures.range; meaning = w.fits_nested.ensures.meaning })
    ] in (
      omega (arith, item.range.past refl, c.loop-v.invariant.0),
      λ r h. c.loop-v.invariant.1 r
          (items-next v.text.now v.table.now v.count c.loop-v.i (from u c.args.t) c.args.kinds c.args.k
          (Some next) item.meaning c.symbol_at-s.result next refl c.symbol_at-s.ensures r c.if-s-ne-COMMA.false h),
    )

pub fits_nested-returns-then-k-eq0-clause-meaning : goal.fits_nested-returns-then-k-eq0-clause-meaning
fits_nested-returns-then-k-eq0-clause-meaning t c =
    let v = c.args.values.now in
    let u = c.args.types.now in
    never v.text.now v.table.now v.count c.args.v u.text.now u.table.now u.count c.args.t c.args.k c.args.s c.requires.0
    (array-flat v.text.now v.table.now v.count c.args.v u.text.now u.table.now u.count c.args.t c.args.k c.args.s c.requires.0
    c.if-s-eq-LEFT_SQUARE.true c.if-k-eq0.true)

pub fits_nested-overflow_add-v : goal.fits_nested-overflow_add-v
fits_nested-overflow_add-v t c =
    let v = c.args.values.now in
    let h = stands v.text.now v.table.now v.count c.args.v (sym c.if-s-eq-LEFT_SQUARE.true ∙ c.requires.0) (omega arith) in
    search rules

pub fits_nested-fits_array-requires : goal.fits_nested-fits_array-requires
fits_nested-fits_array-requires t c =
    let v = c.args.values.now in
    let h = stands v.text.now v.table.now v.count c.args.v (sym c.if-s-eq-LEFT_SQUARE.true ∙ c.requires.0) (omega arith) in
    omega (arith, h, c.decreases)

pub fits_nested-returns-then-s-eq-LEFT_SQUARE : goal.fits_nested-returns-then-s-eq-LEFT_SQUARE
fits_nested-returns-then-s-eq-LEFT_SQUARE t c =
    let v = c.args.values.now in
    let u = c.args.types.now in
    record {
      range = wider v.count c.args.v (c.args.v + 1) c.fits_array.result (omega arith) c.fits_array.ensures.range;
      meaning = array-deep v.text.now v.table.now v.count c.args.v u.text.now u.table.now u.count c.args.t c.args.k c.args.s c.requires.0
          c.fits_array.result c.if-s-eq-LEFT_SQUARE.true c.if-k-eq0.false c.fits_array.ensures.meaning;
    }

pub fits_nested-returns-then-k-ne0-clause-meaning : goal.fits_nested-returns-then-k-ne0-clause-meaning
fits_nested-returns-then-k-ne0-clause-meaning t c =
    let v = c.args.values.now in
    let u = c.args.types.now in
    never v.text.now v.table.now v.count c.args.v u.text.now u.table.now u.count c.args.t c.args.k c.args.s c.requires.0
    (flat-deep v.text.now v.table.now v.count c.args.v u.text.now u.table.now u.count c.args.t c.args.k c.args.s c.requires.0
    c.if-s-eq-LEFT_SQUARE.false c.if-k-ne0.true)

pub fits_nested-returns-then-not-both-clause-meaning : goal.fits_nested-returns-then-not-both-clause-meaning
fits_nested-returns-then-not-both-clause-meaning t c =
    let v = c.args.values.now in
    let u = c.args.types.now in
    never v.text.now v.table.now v.count c.args.v u.text.now u.table.now u.count c.args.t c.args.k c.args.s c.requires.0
    (tuple-word v.text.now v.table.now v.count c.args.v u.text.now u.table.now u.count c.args.t c.args.k c.args.s c.requires.0
    c.if-k-ne0.false c.requires.1 c.if-s-eq-LEFT_SQUARE.false c.symbol_at.result c.symbol_at.ensures (c.both.ensures.no c.if-not-both.true))

pub fits_nested-overflow_add-v-2 : goal.fits_nested-overflow_add-v-2
fits_nested-overflow_add-v-2 t c =
    let v = c.args.values.now in
    let y = c.both.ensures.yes c.if-not-both.false in
    let h = stands v.text.now v.table.now v.count c.args.v (sym y.0 ∙ c.requires.0) (omega arith) in
    search rules

pub fits_nested-overflow_add-t : goal.fits_nested-overflow_add-t
fits_nested-overflow_add-t t c =
    let u = c.args.types.now in
    let y = c.both.ensures.yes c.if-not-both.false in
    let h = stands u.text.now u.table.now u.count c.args.t (sym y.1 ∙ c.symbol_at.ensures) (omega arith) in
    search rules

pub fits_nested-fits_each-requires : goal.fits_nested-fits_each-requires
fits_nested-fits_each-requires t c =
    let v = c.args.values.now in
    let u = c.args.types.now in
    let y = c.both.ensures.yes c.if-not-both.false in
    let h = stands v.text.now v.table.now v.count c.args.v (sym y.0 ∙ c.requires.0) (omega arith) in
    let l = stands u.text.now u.table.now u.count c.args.t (sym y.1 ∙ c.symbol_at.ensures) (omega arith) in
    (omega (arith, h, c.decreases), (omega arith, λ z. omega (arith, z), omega (arith, l), omega arith))

pub fits_nested-returns : goal.fits_nested-returns
fits_nested-returns t c =
    let v = c.args.values.now in
    let u = c.args.types.now in
    let y = c.both.ensures.yes c.if-not-both.false in
    record {
      range = wider v.count c.args.v (c.args.v + 1) c.fits_each.result (omega arith) c.fits_each.ensures.range;
      meaning = tuple-each v.text.now v.table.now v.count c.args.v u.text.now u.table.now u.count c.args.t c.args.k c.args.s c.requires.0
          c.if-k-ne0.false c.requires.1 c.if-s-eq-LEFT_SQUARE.false c.symbol_at.result c.symbol_at.ensures c.fits_each.result y.1
          c.fits_each.ensures.meaning;
    }

pub fits_each-returns-in_err-next-clause-meaning : goal.fits_each-returns-in_err-next-clause-meaning
fits_each-returns-in_err-next-clause-meaning t c =
    let v = c.args.values.now in
    let u = c.args.types.now in
    rw c.from_residual.ensures (c.loop-next.invariant.2 None
    (each-no v.text.now v.table.now v.count c.loop-next.i c.args.close u.text.now u.table.now u.count c.loop-next.j c.args.lead
    c.type_of-u.result c.type_of-u.ensures.meaning c.fits_one.result c.fits_one.ensures.meaning c.in_err-next.was))

pub fits_each-returns-then-both : goal.fits_each-returns-then-both
fits_each-returns-then-both t c =
    let v = c.args.values.now in
    let u = c.args.types.now in
    let next = c.in_ok-next.next in
    let y = c.both.ensures.yes c.if-both.true in
    let h = stands v.text.now v.table.now v.count next (sym y.0 ∙ c.symbol_at-s.ensures) c.requires.0 in
    let w = c.fits_one.ensures.range.past c.in_ok-next.was in
    record {
      range = one-within v.count c.args.v next (omega (arith, w, c.loop-next.invariant.0)) h;
      meaning = c.loop-next.invariant.2 (Some (next + 1))
          (each_last v.text.now v.table.now v.count c.loop-next.i c.args.close u.text.now u.table.now u.count c.loop-next.j c.args.lead
          c.type_of-u.result c.type_of-u.ensures.meaning c.fits_one.result c.fits_one.ensures.meaning
          c.symbol_at-s.result c.symbol_at-w.result next c.in_ok-next.was c.symbol_at-s.ensures c.symbol_at-w.ensures c.requires.1 y.0 y.1);
    }

pub fits_each-returns-then-not-both-clause-meaning : goal.fits_each-returns-then-not-both-clause-meaning
fits_each-returns-then-not-both-clause-meaning t c =
    let v = c.args.values.now in
    let u = c.args.types.now in
    c.loop-next.invariant.2 None
    (each-stop v.text.now v.table.now v.count c.loop-next.i c.args.close u.text.now u.table.now u.count c.loop-next.j c.args.lead
    c.type_of-u.result c.type_of-u.ensures.meaning c.fits_one.result c.fits_one.ensures.meaning
    c.symbol_at-s.result c.symbol_at-w.result c.in_ok-next.next c.in_ok-next.was c.symbol_at-s.ensures c.symbol_at-w.ensures
    (c.both.ensures.no c.if-both.false) (c.both-in-loop-next.ensures.no c.if-not-both.true))

pub fits_each-loop-next-preserved : goal.fits_each-loop-next-preserved
fits_each-loop-next-preserved t c =
    let v = c.args.values.now in
    let u = c.args.types.now in
    let next = c.in_ok-next.next in
    let y = c.both-in-loop-next.ensures.yes c.if-not-both.false in
    let h = stands u.text.now u.table.now u.count c.type_of-u.result.end (sym y.1 ∙ c.symbol_at-w.ensures) (omega arith) in
    let w = c.fits_one.ensures.range.past c.in_ok-next.was in (
      omega (arith, w, c.loop-next.invariant.0),
      omega (arith, h),
      λ r q. c.loop-next.invariant.2 r
          (each_next v.text.now v.table.now v.count c.loop-next.i c.args.close u.text.now u.table.now u.count c.loop-next.j c.args.lead
          c.type_of-u.result c.type_of-u.ensures.meaning c.fits_one.result c.fits_one.ensures.meaning
          c.symbol_at-s.result c.symbol_at-w.result next c.in_ok-next.was c.symbol_at-s.ensures c.symbol_at-w.ensures c.requires.1 r y.0 y.1 q),
    )

pub fits_one-fits_signed-requires : goal.fits_one-fits_signed-requires
fits_one-fits_signed-requires t c =
    let v = c.args.values.now in
    stands_by v.text.now v.table.now v.count c.args.v starts_leaf refl c.symbol_at-s.ensures (sym c.starts_leaf.ensures ∙ c.if-starts_leaf.true)

pub fits_one-returns-then-starts_leaf : goal.fits_one-returns-then-starts_leaf
fits_one-returns-then-starts_leaf t c =
    let v = c.args.values.now in
    let u = c.args.types.now in
    let leaf = sym c.starts_leaf.ensures ∙ c.if-starts_leaf.true in
    let h = stands_by v.text.now v.table.now v.count c.args.v starts_leaf refl c.symbol_at-s.ensures leaf in
    let item = signed-answered v.text.now v.table.now v.count c.args.v u.text.now u.table.now u.count c.args.t c.args.k c.symbol_at-s.result
    c.symbol_at-s.ensures v.holds c.below_256.ensures h leaf c.args.kinds c.fits_signed.result c.fits_signed.ensures in
    record { range = item.range; meaning = item.meaning }

pub fits_one-fits_nested-requires : goal.fits_one-fits_nested-requires
fits_one-fits_nested-requires t c = (omega (arith, c.decreases), (c.symbol_at-s.ensures, sym c.starts_leaf.ensures ∙ c.if-starts_leaf.false))
