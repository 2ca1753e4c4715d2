use Rattle.writing.proofs.Patterns.{parts_none, parts_more}
use Rattle.writing.proofs.pattern.put_parts.Goals as goal

pub loop-i-preserved : goal.loop-i-preserved
loop-i-preserved c = λ out' q. c.loop-i.invariant out' (parts_more c.args.tokens.now.text.now c.args.tokens.now.table.now c.args.to c.loop-i.i
    c.loop-i-test.true c.put_part.ensures q)

pub returns : goal.returns
returns c = c.loop-i.invariant _ (parts_none c.args.tokens.now.text.now c.args.tokens.now.table.now c.args.to c.loop-i.i c.loop-i-test.false)
