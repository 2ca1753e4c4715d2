-- The two comparisons of the code are those of `is_near`.
use mathlib.Core.Path.{◌≡◌, sym, ap, ◌∙◌}
use mathlib.Core.Bool.{true, false}
use Rattle.lexis.specs.Number.{is_near}
use mir.Facts.{to_z-of_z}
use mir.Val.{to_z, of_z}
use mir.Syntax.{w32}
use lib.IntN.{ℤ, negsuc}
use lib.Signed.{le_z}
use Rattle.lexis.proofs.exponent.is_near.Goals as goal

pub returns-then-e : goal.returns-then-e
unfolding is_near
returns-then-e c = let same : to_z w32 (of_z w32 c.args.e) ≡ c.args.e = to_z-of_z c.ranges.e in
    let low : le_z (negsuc 998) c.args.e ≡ true = ap (λ (z : ℤ). le_z (negsuc 998) z) (sym same) ∙ c.if-e.true in
    rw (same, low)

pub returns-else-e : goal.returns-else-e
unfolding is_near
returns-else-e c = let same : to_z w32 (of_z w32 c.args.e) ≡ c.args.e = to_z-of_z c.ranges.e in
    let low : le_z (negsuc 998) c.args.e ≡ false = ap (λ (z : ℤ). le_z (negsuc 998) z) (sym same) ∙ c.if-e.false in
    rw (same, low)
