-- The digits from the first that is no leading zero on are those of the number, and that one tells whether it is zero.
use mathlib.Core.Path.{◌∙◌}
use Prim.Native.Nat.{◌-◌}
use native.Mathlib.Omega.{arith}
use lib.ListN.{length, drop, length-drop}
use lib.Seq.{take_all}
use Rattle.lexis.specs.Number.{value_from}
use Rattle.writing.proofs.Spelled.{digits-kept, zero-first}
use Rattle.writing.proofs.Signs.{puts-extent}
use Rattle.writing.proofs.spelling.put_extent.Goals as goal

pub slice_bounds-put_word-count : goal.slice_bounds-put_word-count
slice_bounds-put_word-count c = omega (arith, c.zeros-from.ensures.within)

pub slice_bounds-put_word-start : goal.slice_bounds-put_word-start
slice_bounds-put_word-start c = omega (arith, c.zeros-from.ensures.within)

pub returns : goal.returns
returns c = λ d. let all = take_all (length c.args.word.now - c.zeros-from.result) (drop c.zeros-from.result c.args.word.now)
    (omega (arith, length-drop c.zeros-from.result c.args.word.now)) in
    let own = all ∙ digits-kept c.args.word.now c.zeros-from.result d c.zeros-from.ensures in
    let nought = c.is_zero.ensures ∙ zero-first c.args.word.now c.zeros-from.result d c.zeros-from.ensures in
    puts-extent c.args.negative _ (value_from 0 c.args.word.now) nought c.put_sign.ensures (λ k. rw own at (c.put_word.ensures k))
