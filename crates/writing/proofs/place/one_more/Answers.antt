-- A count goes on, up to the end of a word.
use Rattle.writing.proofs.Putting.{counted-on, counted-out}
use Rattle.writing.proofs.place.one_more.Goals as goal

pub returns-then-n-lt-LAST : goal.returns-then-n-lt-LAST
returns-then-n-lt-LAST c = counted-on _ c.if-n-lt-LAST.true

pub returns : goal.returns
returns c = counted-out _ c.if-n-lt-LAST.false
