use Rattle.lexis.specs.Refusal.{refusal_number}
use Rattle.documents.proofs.Walking.{missing-next, missing-end}
use Rattle.documents.proofs.header.unassigned.Goals as goal

pub loop-i-preserved : goal.loop-i-preserved
loop-i-preserved c = missing-next c.args.tokens.now.text.now c.args.tokens.now.table.now c.args.index.now c.args.from c.args.to c.loop-i.i (refusal_number c.args.refusal) c.args.best c.loop-i.sum c.unassigned_at-sum.result
    c.loop-i-test.true
    c.loop-i.invariant c.unassigned_at-sum.ensures

pub returns : goal.returns
returns c = missing-end c.args.tokens.now.text.now c.args.tokens.now.table.now c.args.index.now c.args.from c.args.to c.loop-i.i (refusal_number c.args.refusal) c.args.best c.loop-i.sum c.loop-i-test.false c.loop-i.invariant
