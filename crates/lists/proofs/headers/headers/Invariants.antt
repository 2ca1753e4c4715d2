-- One header after another up to the end.
use Prim.Native.Nat.{◌-◌}
use Rattle.lists.proofs.HeaderReads.{HeadersFrom}
use Rattle.lists.proofs.headers.headers.Given as goal

abbrev pub invariant-loop-r : goal.invariant-loop-r
invariant-loop-r l = HeadersFrom l.tokens.text.now l.tokens.table.now l.tokens.count l.initial.index l.initial.words l.initial.r l.index l.words l.k l.r

abbrev pub decreases-loop-r : goal.decreases-loop-r
decreases-loop-r l = l.tokens.count - l.r.at
