-- The bytes before i are the same; each return is one law.
use Rattle.spellings.specs.Comparison.{Agree}
use Rattle.spellings.proofs.compare.Given as goal

abbrev pub invariant-loop-i : goal.invariant-loop-i
invariant-loop-i l = Agree l.a l.b l.i
