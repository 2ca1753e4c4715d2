use mathlib.Core.Path.{◌≡◌}
use Prim.Native.Nat.{◌+◌, ◌*◌, ◌-◌, ◌/◌}
use lib.ListN.{length}
use Rattle.index.specs.Hash.{mixes}
use Rattle.index.proofs.hash.long_hash.Given as goal

abbrev pub invariant-loop-k : goal.invariant-loop-k
invariant-loop-k l = mixes ((length l.w - 5) / 4) l.w 4 l.first ≡ mixes ((length l.w - 5) / 4 - l.k) l.w (4 + l.k * 4) l.h
