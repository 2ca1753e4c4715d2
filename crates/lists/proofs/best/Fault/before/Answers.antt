use Rattle.lists.proofs.First.{test-place, test-code, test-detail}
use Rattle.lists.specs.Best.{fault_of}
use Rattle.lists.proofs.best.Fault.before.Goals as goal

pub returns-then-self-other : goal.returns-then-self-other
returns-then-self-other c = test-place (fault_of c.args.self) (fault_of c.args.other) c.if-self-other.true

pub returns-then-self-other-2 : goal.returns-then-self-other-2
returns-then-self-other-2 c =
    test-code (fault_of c.args.self) (fault_of c.args.other) c.if-self-other.false c.if-self-other-2.true

pub returns : goal.returns
returns c = test-detail (fault_of c.args.self) (fault_of c.args.other) c.if-self-other.false c.if-self-other-2.false
