use mathlib.Core.Path.{◌≡◌, refl, ap, ◌∙◌}
use mathlib.Core.List.{List}
use Prim.Native.Nat.{ℕ, ◌+◌, ◌*◌}
use native.Mathlib.Omega.{arith}
use lib.ListN.{length, set, length-set}
use Rattle.lexis.specs.Sizes.{token_words}
use Rattle.lexis.proofs.Filling.{filling-first, turn, turned, filled}
use Rattle.lexis.proofs.lent.fill.Goals as goal

pub loop-i-init : goal.loop-i-init
loop-i-init c = filling-first c.args.text.now c.args.work.now c.args.table.now c.args.n c.requires.held

pub bounds-work-from : goal.bounds-work-from
bounds-work-from c = let t = turn c.loop-i.invariant (omega (arith, c.loop-i-test.true)) in
    omega (arith, t.in-work)

pub bounds-work-from-in-loop-i : goal.bounds-work-from-in-loop-i
bounds-work-from-in-loop-i c = let t = turn c.loop-i.invariant (omega (arith, c.loop-i-test.true)) in
    t.in-work

pub bounds-work-from-in-loop-i-2 : goal.bounds-work-from-in-loop-i-2
bounds-work-from-in-loop-i-2 c = let t = turn c.loop-i.invariant (omega (arith, c.loop-i-test.true)) in
    omega (arith, t.in-work)

pub put_words-requires : goal.put_words-requires
put_words-requires c = let t = turn c.loop-i.invariant (omega (arith, c.loop-i-test.true)) in
    omega (arith, t.in_table c.requires.text_len_bound.1)

pub overflow_cast-start : goal.overflow_cast-start
overflow_cast-start c = let t = turn c.loop-i.invariant (omega (arith, c.loop-i-test.true)) in
    record { fits = omega (arith, t.starts, c.requires.text_len_bound.0) }

pub line_after-line-requires : goal.line_after-line-requires
line_after-line-requires c = let t = turn c.loop-i.invariant (omega (arith, c.loop-i-test.true)) in
    record { to_in_bounds = (t.starts, c.requires.text_len_bound.0); from_le_to = (t.after, t.low) }

pub bounds-table-to : goal.bounds-table-to
bounds-table-to c = let t = turn c.loop-i.invariant (omega (arith, c.loop-i-test.true)) in
    let long : length c.put_words.new.area ≡ length c.loop-i.table = ap length c.put_words.ensures ∙ simp length-set refl in
    omega (arith, long, t.in_table c.requires.text_len_bound.1)

pub overflow_cast-end : goal.overflow_cast-end
overflow_cast-end c = let t = turn c.loop-i.invariant (omega (arith, c.loop-i-test.true)) in
    record { fits = omega (arith, t.ends, c.requires.text_len_bound.0) }

pub loop-i-preserved : goal.loop-i-preserved
loop-i-preserved c = let t = turn c.loop-i.invariant (omega (arith, c.loop-i-test.true)) in
    let put = c.put_words in
    turned c.loop-i.i
    (t.on _ _ (ap (λ (x : List ℕ). set x (c.loop-i.i * token_words + 3) c.line_after-line.result) put.ensures) c.line_after-line.ensures)

pub returns : goal.returns
returns c = let l = c.loop-i in
    filled l.invariant (omega (arith, c.loop-i-test.false))
