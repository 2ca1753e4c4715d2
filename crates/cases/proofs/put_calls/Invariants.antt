-- The position is within the output, which keeps its length.
use Rattle.std.proofs.Common.{length, ◌≤◌}
use Rattle.cases.proofs.put_calls.Given as goal

abbrev pub invariant-loop : goal.invariant-loop
invariant-loop l = l.at ≤ length l.out
