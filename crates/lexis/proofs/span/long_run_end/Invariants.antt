-- The end of the run from here is that from the start; four bytes at a turn.
use mathlib.Core.Path.{◌≡◌}
use mathlib.Core.Bool.{Bool}
use Prim.Native.Nat.{ℕ, ◌+◌, ◌-◌, ◌≤◌}
use lib.ListN.{length, drop}
use Rattle.lexis.specs.Bytes.{span_len}
use Rattle.lexis.specs.Runs.{Answers}
use Rattle.lexis.proofs.span.long_run_end.Given as goal

abbrev pub invariant-loop-i : goal.invariant-loop-i
invariant-loop-i g l =
    (l.i ≤ length l.text)
    × ((test : ℕ → Bool) → Answers (goal.F-post g l.belongs) test → l.from + span_len test (drop l.from l.text) ≡ l.i + span_len test (drop l.i l.text))

abbrev pub decreases-loop-i : goal.decreases-loop-i
decreases-loop-i g l = length l.text - l.i
