use mathlib.Core.Path.{refl, sym, subst, ◌∙◌}
use mathlib.Core.List.{List}
use Prim.Native.Nat.{ℕ, ◌+◌, ◌≤◌}
use native.Mathlib.Omega.{arith}
use lib.ListN.{length}
use Rattle.syntax.proofs.Symbols.{stands}
use Rattle.writing.specs.Writing.{BindsAll}
use Rattle.writing.proofs.ArgumentPlaces.{Passes, passes_none, passes-ended, passes_on}
use Rattle.writing.proofs.argument.bind_all.Goals as goal

pub loop-w-init : goal.loop-w-init
loop-w-init c = (
  refl,
  c.requires.at_nonzero.1,
  c.requires.at_nonzero.0,
  omega arith,
  omega arith,
  passes_none c.args.doc.now c.args.callee.now c.args.at c.args.slots.now 0,
)

pub bind-requires : goal.bind-requires
bind-requires c = (
  omega (arith, c.args.callee.now.params_recorded.few, c.requires.at_nonzero.3, c.loop-w.invariant.0),
  omega (arith, c.aim_of-a.ensures.range.1, c.requires.at_nonzero.2),
)

pub shape_of-slots-then-symbol_at-ne-COMMA : goal.shape_of-slots-then-symbol_at-ne-COMMA
shape_of-slots-then-symbol_at-ne-COMMA c = c.slots-1.given ∙ c.loop-w.invariant.0

pub returns-then-symbol_at-ne-COMMA : goal.returns-then-symbol_at-ne-COMMA
returns-then-symbol_at-ne-COMMA c = let room : c.args.callee.now.operation.count ≤ length c.loop-w.slots = omega (
  arith,
  c.args.callee.now.params_recorded.few,
  c.requires.at_nonzero.3,
  c.loop-w.invariant.0,
) in
    let done = passes-ended c.args.doc.now c.args.callee.now c.args.at c.args.slots.now
    c.loop-w.slots c.loop-w.w c.loop-w.invariant.5 room c.aim_of-a.ensures.meaning (omega (arith, c.aim_of-a.ensures.range.0, c.loop-w.invariant.2))
    c.value_end-end.result c.value_end-end.ensures.meaning c.symbol_at.ensures c.if-symbol_at-ne-COMMA.true in
    record {
      range = (omega (arith, c.value_end-end.ensures.range.0, c.aim_of-a.ensures.range.0, c.loop-w.invariant.3), c.value_end-end.ensures.range.1);
      meaning = subst (λ (ss : List ℕ). BindsAll c.args.doc.now c.args.at c.args.callee.now
          c.args.slots.now ss c.value_end-end.result) (sym c.bind.ensures) done;
    }

pub overflow_add-w : goal.overflow_add-w
overflow_add-w c = omega (arith, c.value_end-end.ensures.range.1, c.requires.at_nonzero.2)

pub overflow_add-w-in-loop-w : goal.overflow_add-w-in-loop-w
overflow_add-w-in-loop-w c = omega (arith, c.loop-w.invariant.4, c.loop-w.invariant.1, c.requires.at_nonzero.2)

pub overflow_add-w-in-loop-w-2 : goal.overflow_add-w-in-loop-w-2
overflow_add-w-in-loop-w-2 c = omega (
  arith,
  c.aim_of-a.ensures.range.2,
  c.loop-w.invariant.4,
  c.loop-w.invariant.1,
  c.requires.at_nonzero.2,
  c.args.callee.now.params_recorded.few,
)

pub loop-w-smaller : goal.loop-w-smaller
loop-w-smaller c = let q = stands c.args.doc.now.text.now c.args.doc.now.table.now c.args.doc.now.count c.value_end-end.result c.symbol_at.ensures
    (omega (arith, c.if-symbol_at-ne-COMMA.false)) in
    omega (arith, q, c.value_end-end.ensures.range.0, c.aim_of-a.ensures.range.0)

pub loop-w-preserved : goal.loop-w-preserved
loop-w-preserved c = let q = stands c.args.doc.now.text.now c.args.doc.now.table.now c.args.doc.now.count c.value_end-end.result c.symbol_at.ensures
    (omega (arith, c.if-symbol_at-ne-COMMA.false)) in
    let room : c.args.callee.now.operation.count ≤ length c.loop-w.slots = omega (arith, c.args.callee.now.params_recorded.few, c.requires.at_nonzero.3, c.loop-w.invariant.0) in
    let on = passes_on c.args.doc.now c.args.callee.now c.args.at c.args.slots.now
    c.loop-w.slots c.loop-w.w c.loop-w.invariant.5 room c.aim_of-a.ensures.meaning (omega (arith, c.aim_of-a.ensures.range.0, c.loop-w.invariant.2))
    c.value_end-end.result c.value_end-end.ensures.meaning c.symbol_at.ensures c.if-symbol_at-ne-COMMA.false
    (c.aim_of-a.result.number + 1) in (
      c.slots-1.given ∙ c.loop-w.invariant.0,
      omega (arith, q),
      omega arith,
      omega (arith, q, c.value_end-end.ensures.range.0, c.aim_of-a.ensures.range.0, c.loop-w.invariant.3),
      omega (arith, q, c.value_end-end.ensures.range.0, c.aim_of-a.ensures.range.0, c.loop-w.invariant.4),
      subst (λ (ss : List ℕ). Passes c.args.doc.now c.args.callee.now c.args.at
          c.args.slots.now ss (record { at = c.value_end-end.result + 1; index = c.loop-w.w.index + 1; guess = c.aim_of-a.result.number + 1 }))
          (sym c.bind.ensures) on,
    )
