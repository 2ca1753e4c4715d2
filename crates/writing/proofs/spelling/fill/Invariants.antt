-- The digits behind place i are the last of n, and those of `rest` are the others.
use mathlib.Core.Path.{◌≡◌}
use Prim.Native.Nat.{◌<◌}
use lib.ListN.{length}
use Rattle.writing.proofs.Spelled.{Filled}
use Rattle.writing.proofs.spelling.fill.Given as goal

abbrev pub invariant-loop-rest : goal.invariant-loop-rest
invariant-loop-rest l = (l.i < 20) × (length l.buffer ≡ 20) × Filled l.n l.rest l.i l.buffer

abbrev pub decreases-loop-rest : goal.decreases-loop-rest
decreases-loop-rest l = l.rest
