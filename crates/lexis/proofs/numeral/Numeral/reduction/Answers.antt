-- One law of `Ranges` for each answer.
use mathlib.Core.Path.{◌≡◌, refl, sym, ap, ◌∙◌}
use mathlib.Core.Bool.{Bool}
use Prim.Native.Nat.{ℕ}
use native.Mathlib.Omega.{arith}
use mir.Val.{to_z, of_z}
use mir.Syntax.{w32}
use mir.Facts.{to_z-of_z}
use Rattle.lexis.specs.Number.{exponent_of, is_near, digits_of, minus_of}
use Rattle.lexis.specs.Push.{no_digits, push_all}
use Rattle.lexis.proofs.Ranges.{reduced, zeros-small, out_written, number-zero, out-mantissa, out-exponent, number-good}
use Rattle.lexis.proofs.numeral.Numeral.reduction.Goals as goal

pub returns-then-w-gt-WRITTEN : goal.returns-then-w-gt-WRITTEN
returns-then-w-gt-WRITTEN c = let parts = c.args.self.now.parts in
    let bytes = c.args.self.now.bytes.now in
    out_written bytes parts c.args.self.now.shaped (push_all no_digits (digits_of bytes parts)) refl _ c.written-w.ensures
    c.if-w-gt-WRITTEN.true

pub returns-then-value-eq0 : goal.returns-then-value-eq0
returns-then-value-eq0 c = number-zero c.args.self.now.bytes.now c.args.self.now.parts c.args.self.now.shaped c.mantissa-m.result
    c.mantissa-m.ensures _ c.written-w.ensures c.if-w-gt-WRITTEN.false c.if-value-eq0.true

pub returns-then-value-ge-MANTISSA_END : goal.returns-then-value-ge-MANTISSA_END
returns-then-value-ge-MANTISSA_END c = out-mantissa c.args.self.now.bytes.now c.args.self.now.parts c.args.self.now.shaped c.mantissa-m.result
    c.mantissa-m.ensures _ c.written-w.ensures c.if-w-gt-WRITTEN.false c.if-value-ge-MANTISSA_END.true

pub exponent-e-requires : goal.exponent-e-requires
exponent-e-requires c = record {
  w_le_max_written = c.if-w-gt-WRITTEN.false;
  points_le_max_number = omega arith;
  zeros_le_max_number = zeros-small c.args.self.now.bytes.now c.args.self.now.parts c.mantissa-m.result c.mantissa-m.ensures (omega (arith, c.args.self.now.inside, c.args.self.now.few));
}

pub returns-then-not-is_near : goal.returns-then-not-is_near
returns-then-not-is_near c = let parts = c.args.self.now.parts in
    let bytes = c.args.self.now.bytes.now in
    let same : to_z w32 (of_z w32 c.exponent-e.result) ≡ c.exponent-e.result = to_z-of_z {w = w32}
    (record { sfits = c.exponent-e.type_inv }) in
    let near = c.exponent-e.ensures
    ∙ ap (λ (b : Bool). exponent_of b c.written-w.result c.points-points.result c.mantissa-m.result.zeros)
    c.is_minus-minus.ensures
    ∙ ap (λ (k : ℕ). exponent_of (minus_of bytes parts) c.written-w.result k c.mantissa-m.result.zeros)
    c.points-points.ensures in
    out-exponent bytes parts c.args.self.now.shaped c.mantissa-m.result c.mantissa-m.ensures _
    c.written-w.ensures c.if-w-gt-WRITTEN.false c.if-value-eq0.false c.if-value-ge-MANTISSA_END.false _ near
    (ap is_near (sym same) ∙ sym c.is_near.ensures ∙ c.if-not-is_near.true)

pub returns : goal.returns
returns c = let parts = c.args.self.now.parts in
    let bytes = c.args.self.now.bytes.now in
    let same : to_z w32 (of_z w32 c.exponent-e.result) ≡ c.exponent-e.result = to_z-of_z {w = w32}
    (record { sfits = c.exponent-e.type_inv }) in
    let near = c.exponent-e.ensures
    ∙ ap (λ (b : Bool). exponent_of b c.written-w.result c.points-points.result c.mantissa-m.result.zeros)
    c.is_minus-minus.ensures
    ∙ ap (λ (k : ℕ). exponent_of (minus_of bytes parts) c.written-w.result k c.mantissa-m.result.zeros)
    c.points-points.ensures in
    let good = number-good bytes parts c.args.self.now.shaped c.mantissa-m.result c.mantissa-m.ensures _
    c.written-w.ensures c.if-w-gt-WRITTEN.false c.if-value-eq0.false c.if-value-ge-MANTISSA_END.false _ near
    (ap is_near (sym same) ∙ sym c.is_near.ensures ∙ c.if-not-is_near.false) in
    ap (reduced c.mantissa-m.result.value) same ∙ good
