-- Each test of the code is one of the definition.
use mathlib.Core.Bool.{true, false}
use native.Mathlib.Omega.{arith}
use Rattle.orders.proofs.Rows.{row_inside}
use Rattle.orders.proofs.Codes.{row-range, row-repeated, row-uses}
use Rattle.orders.proofs.refusal_at.Goals as goal

pub returns-then-n-k : goal.returns-then-n-k
returns-then-n-k c = row-range c.args.records.now c.args.n c.args.marks.now c.args.k c.if-n-k.true

pub returns-then-marks-k-ne0 : goal.returns-then-marks-k-ne0
returns-then-marks-k-ne0 c = row-repeated c.args.records.now c.args.n c.args.marks.now c.args.k c.if-n-k.false c.if-marks-k-ne0.true

pub all_marked-requires : goal.all_marked-requires
all_marked-requires c = let e = c.requires.firsts c.args.k c.if-n-k.false in
    let l = row_inside c.args.records.now c.args.n c.args.k c.if-n-k.false in
    record { records_words_in_bounds = (c.requires.bounded.room, omega (arith, e, l, c.requires.bounded.uses)); by_index = λ u q. let m = c.requires.bounded.below u (omega (arith, q, e, l)) in omega (arith, m, c.requires.n_in_bounds.1) }

pub returns-then-not-all_marked : goal.returns-then-not-all_marked
returns-then-not-all_marked c = row-uses c.args.records.now c.args.n c.args.marks.now c.args.k c.if-n-k.false c.if-marks-k-ne0.false _ (c.requires.firsts c.args.k c.if-n-k.false)
    c.all_marked.ensures false c.if-not-all_marked.true

pub returns : goal.returns
returns c = row-uses c.args.records.now c.args.n c.args.marks.now c.args.k c.if-n-k.false c.if-marks-k-ne0.false _ (c.requires.firsts c.args.k c.if-n-k.false)
    c.all_marked.ensures true c.if-not-all_marked.false
