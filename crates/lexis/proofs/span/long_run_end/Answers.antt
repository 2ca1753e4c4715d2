use mathlib.Core.Path.{sym, ◌∙◌}
use Prim.Native.Nat.{ℕ, ◌+◌, ◌<◌}
use native.Mathlib.Omega.{arith}
use lib.ListN.{get_or}
use Rattle.lexis.proofs.Runs.{span-stop, span-step}
use Rattle.lexis.proofs.span.long_run_end.Goals as goal

pub returns-then-not-belongs : goal.returns-then-not-belongs
returns-then-not-belongs g c = let i = c.loop-i.i in
    let text = c.args.text.now in
    let low : (j : ℕ) → get_or text j 0 < 256 = λ j. (c.type_inv.text j).fits in
    λ test same. sym
    (c.loop-i.invariant.1 test same
    ∙ span-stop test text i (omega arith) (sym (same _ _ (low i) c.belongs.ensures) ∙ c.if-not-belongs.true))

pub returns-then-not-belongs-2 : goal.returns-then-not-belongs-2
returns-then-not-belongs-2 g c = let i = c.loop-i.i in
    let text = c.args.text.now in
    let low : (j : ℕ) → get_or text j 0 < 256 = λ j. (c.type_inv.text j).fits in
    λ test same. sym
    (c.loop-i.invariant.1 test same
    ∙ span-step test text i (i + 1) (omega arith) (omega arith) (sym (same _ _ (low i) c.belongs.ensures) ∙ c.if-not-belongs.false)
    ∙ span-stop test text (i + 1) (omega arith) (sym (same _ _ (low (i + 1)) c.belongs-in-loop-i.ensures) ∙ c.if-not-belongs-2.true))

pub returns-then-not-belongs-3 : goal.returns-then-not-belongs-3
returns-then-not-belongs-3 g c = let i = c.loop-i.i in
    let text = c.args.text.now in
    let low : (j : ℕ) → get_or text j 0 < 256 = λ j. (c.type_inv.text j).fits in
    λ test same. sym
    (c.loop-i.invariant.1 test same
    ∙ span-step test text i (i + 1) (omega arith) (omega arith) (sym (same _ _ (low i) c.belongs.ensures) ∙ c.if-not-belongs.false)
    ∙ span-step test text (i + 1) (i + 2) (omega arith) (omega arith) (sym (same _ _ (low (i + 1)) c.belongs-in-loop-i.ensures) ∙ c.if-not-belongs-2.false)
    ∙ span-stop test text (i + 2) (omega arith) (sym (same _ _ (low (i + 2)) c.belongs-in-loop-i-2.ensures) ∙ c.if-not-belongs-3.true))

pub returns-then-not-belongs-4 : goal.returns-then-not-belongs-4
returns-then-not-belongs-4 g c = let i = c.loop-i.i in
    let text = c.args.text.now in
    let low : (j : ℕ) → get_or text j 0 < 256 = λ j. (c.type_inv.text j).fits in
    λ test same. sym
    (c.loop-i.invariant.1 test same
    ∙ span-step test text i (i + 1) (omega arith) (omega arith) (sym (same _ _ (low i) c.belongs.ensures) ∙ c.if-not-belongs.false)
    ∙ span-step test text (i + 1) (i + 2) (omega arith) (omega arith) (sym (same _ _ (low (i + 1)) c.belongs-in-loop-i.ensures) ∙ c.if-not-belongs-2.false)
    ∙ span-step test text (i + 2) (i + 3) (omega arith) (omega arith) (sym (same _ _ (low (i + 2)) c.belongs-in-loop-i-2.ensures) ∙ c.if-not-belongs-3.false)
    ∙ span-stop test text (i + 3) (omega arith) (sym (same _ _ (low (i + 3)) c.belongs-in-loop-i-3.ensures) ∙ c.if-not-belongs-4.true))

pub loop-i-preserved : goal.loop-i-preserved
loop-i-preserved g c = let i = c.loop-i.i in
    let text = c.args.text.now in
    let low : (j : ℕ) → get_or text j 0 < 256 = λ j. (c.type_inv.text j).fits in (
      omega arith,
      λ test same. c.loop-i.invariant.1 test same
          ∙ span-step test text i (i + 1) (omega arith) (omega arith) (sym (same _ _ (low i) c.belongs.ensures) ∙ c.if-not-belongs.false)
          ∙ span-step test text (i + 1) (i + 2) (omega arith) (omega arith) (sym (same _ _ (low (i + 1)) c.belongs-in-loop-i.ensures) ∙ c.if-not-belongs-2.false)
          ∙ span-step test text (i + 2) (i + 3) (omega arith) (omega arith) (sym (same _ _ (low (i + 2)) c.belongs-in-loop-i-2.ensures) ∙ c.if-not-belongs-3.false)
          ∙ span-step test text (i + 3) (i + 4) (omega arith) (omega arith) (sym (same _ _ (low (i + 3)) c.belongs-in-loop-i-3.ensures) ∙ c.if-not-belongs-4.false),
    )
