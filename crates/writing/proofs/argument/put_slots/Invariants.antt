-- With the arguments of the parameters from number i on, all arguments are put.
use Prim.Native.Nat.{◌-◌, ◌<◌}
use Rattle.writing.proofs.ArgumentPuts.{PutsLeft}
use Rattle.writing.proofs.argument.put_slots.Given as goal

abbrev pub invariant-loop-i : goal.invariant-loop-i
invariant-loop-i l = (l.i < l.callee.operation.count) × PutsLeft l.doc l.slots l.callee l.initial.out l.out l.i

abbrev pub decreases-loop-i : goal.decreases-loop-i
decreases-loop-i l = l.callee.operation.count - l.i
