use mathlib.Core.Path.{sym, ap, ◌∙◌}
use Prim.Native.Nat.{ℕ}
use native.Mathlib.Omega.{arith}
use Rattle.lexis.specs.Answer.{answer}
use Rattle.orders.specs.Scratch.{rows}
use Rattle.documents.proofs.RefusalNumbers.{refusal-positive}
use Rattle.orders.proofs.Codes.{row-none}
use Rattle.orders.proofs.Walked.{walked_start, walked_next, walked_stop, walked_end, rows-below, rows-unmarked}
use Rattle.orders.proofs.walk.Goals as goal

pub loop-place-init : goal.loop-place-init
loop-place-init c = walked_start (rows c.args.records.now c.args.n) c.args.order.now c.args.marks.now (rows-unmarked c.args.records.now c.args.n c.args.marks.now c.requires.firsts.1)

pub refusal_at-requires : goal.refusal_at-requires
refusal_at-requires c = record { bounded = c.requires.bounded; n_in_bounds = (c.requires.n_in_bounds.0, omega (arith, c.loop-place.invariant.same, c.requires.n_in_bounds.1)); firsts = c.requires.firsts.0 }

pub overflow_cast-place : goal.overflow_cast-place
overflow_cast-place c = omega (arith, c.loop-place-test.true, c.requires.order_len, c.requires.bounded.few)

pub shape_of-marks-in-Some : goal.shape_of-marks-in-Some
shape_of-marks-in-Some c = c.loop-place.invariant.same

pub returns-in-Some : goal.returns-in-Some
returns-in-Some c = c.refused.ensures
    ∙ ap (λ (x : ℕ). answer x 0 c.loop-place.place 0) c.in-Some.ensures
    ∙ sym
    (walked_stop (rows c.args.records.now c.args.n) c.args.order.now c.args.marks.now c.loop-place.marks c.loop-place.place c.loop-place.invariant
    c.loop-place-test.true (rows-below c.args.records.now c.args.n c.requires.bounded) c.args.n
    (λ q. let l = refusal-positive c.in-Some.refusal in omega (arith, l, c.in-Some.ensures, q)))

pub offset_bounds-marks-k : goal.offset_bounds-marks-k
offset_bounds-marks-k c = let h = row-none c.args.records.now c.args.n c.loop-place.marks _ (sym c.in_default.ensures) in
    omega (arith, h, c.requires.bounded.few)

pub bounds-marks-k : goal.bounds-marks-k
bounds-marks-k c = let h = row-none c.args.records.now c.args.n c.loop-place.marks _ (sym c.in_default.ensures) in
    omega (arith, h, c.loop-place.invariant.same, c.requires.n_in_bounds.1)

pub loop-place-preserved : goal.loop-place-preserved
loop-place-preserved c = let e = sym c.in_default.ensures in
    let h = row-none c.args.records.now c.args.n c.loop-place.marks _ e in
    walked_next (rows c.args.records.now c.args.n) c.args.order.now c.args.marks.now c.loop-place.marks c.loop-place.place c.loop-place.invariant
    c.loop-place-test.true (rows-below c.args.records.now c.args.n c.requires.bounded) e (omega (arith, h, c.loop-place.invariant.same, c.requires.n_in_bounds.1))

pub overflow_cast-n : goal.overflow_cast-n
overflow_cast-n c = omega (arith, c.requires.bounded.few)

pub shape_of-marks : goal.shape_of-marks
shape_of-marks c = c.loop-place.invariant.same

pub returns : goal.returns
returns c = c.accepted.ensures
    ∙ sym (walked_end (rows c.args.records.now c.args.n) c.args.order.now c.args.marks.now c.loop-place.marks c.loop-place.place c.args.n c.loop-place.invariant c.loop-place-test.false)
