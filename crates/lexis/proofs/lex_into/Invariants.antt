-- What the loop keeps is `Lexing`: the tokens of the text are those written so far, and then those from the cursor on. Each turn moves the
-- cursor, and a token takes at least a byte, so that the records found so far have room.
use Prim.Native.Nat.{◌-◌}
use lib.ListN.{length}
use Rattle.lexis.proofs.Pass.{Lexing}
use Rattle.lexis.proofs.lex_into.Given as goal

abbrev pub invariant-loop-r : goal.invariant-loop-r
invariant-loop-r l = Lexing l.marked l.text l.initial.work l.c l.work

abbrev pub decreases-loop-r : goal.decreases-loop-r
decreases-loop-r l = length l.text - l.c.at
