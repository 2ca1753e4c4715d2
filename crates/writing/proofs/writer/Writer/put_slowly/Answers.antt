use Rattle.writing.proofs.Putting.{wrote-next, wrote-end}
use Rattle.writing.proofs.writer.Writer.put_slowly.Goals as goal

pub loop-b-preserved : goal.loop-b-preserved
loop-b-preserved c = λ out' q. c.loop-b.invariant out' (wrote-next c.args.word.now c.loop-b.b-index c.loop-b-test.true c.put_byte.ensures q)

pub returns : goal.returns
returns c = c.loop-b.invariant _ (wrote-end c.args.word.now c.loop-b.b-index c.loop-b-test.false)
