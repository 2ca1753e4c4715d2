-- What is left after the position is enough for n where all of it is.
use mathlib.Core.Path.{sym}
use Prim.Native.Nat.{◌+◌}
use native.Mathlib.Omega.{arith}
use borrow.Author.Tests.{lt-leb}
use Rattle.writing.proofs.Putting.{room-left}
use Rattle.writing.proofs.writer.lies_in.Goals as goal

pub returns-then-len-at : goal.returns-then-len-at
returns-then-len-at c = sym (lt-leb (c.args.at + c.args.n) c.args.len (omega (arith, c.if-len-at.true)))

pub returns : goal.returns
returns c = room-left _ _ _ c.if-len-at.false
