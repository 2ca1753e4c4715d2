-- v is the number that the digits so far spell, capped.
use mathlib.Core.Path.{◌≡◌}
use Prim.Native.Nat.{min}
use lib.ListN.{take}
use Rattle.lexis.specs.Sizes.{written_end}
use Rattle.lexis.specs.Number.{value_from}
use Rattle.lexis.proofs.mantissa.capped_value.Given as goal

abbrev pub invariant-loop-b : goal.invariant-loop-b
invariant-loop-b l = l.v ≡ min (value_from 0 (take l.b-index l.digits)) written_end
