-- The digits so far are read, and there are at most as many zeros more than at the start.
use mathlib.Core.Path.{◌≡◌}
use Prim.Native.Nat.{◌+◌}
use lib.ListN.{take}
use Rattle.lexis.specs.Push.{push_all}
use Rattle.lexis.proofs.Caps.{Bounded}
use Rattle.lexis.proofs.mantissa.pushed_all.Given as goal

abbrev pub invariant-loop-b : goal.invariant-loop-b
invariant-loop-b l = (l.a ≡ push_all l.initial.a (take l.b-index l.digits)) × Bounded (l.initial.a.zeros + l.b-index) l.a
