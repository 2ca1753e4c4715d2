-- The reduction of the numeral, of the parts that were found.
use mathlib.Core.Path.{ap, ◌∙◌}
use native.Mathlib.Omega.{arith}
use Prim.Native.Nat.{zero-le}
use Rattle.lexis.specs.Number.{reduction_of}
use Rattle.lexis.proofs.Shapes.{parts_in}
use Rattle.lexis.proofs.number.reduce.Goals as goal

pub invariant_of-numeral : goal.invariant_of-numeral
invariant_of-numeral c = record { shaped = c.parts_of.ensures; inside = omega (arith, parts_in c.args.w.now 0 _ c.parts_of.ensures zero-le); few = c.requires }

pub returns : goal.returns
returns c = c.reduction.ensures ∙ ap (reduction_of c.args.w.now) c.parts_of.ensures
