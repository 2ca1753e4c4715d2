use Prim.Native.Nat.{◌*◌}
use Rattle.spellings.specs.Comparison.{Agree}
use Rattle.spellings.proofs.agreeing.Given as goal

abbrev pub invariant-loop-k : goal.invariant-loop-k
invariant-loop-k l = Agree l.a l.b (l.k * 8)
