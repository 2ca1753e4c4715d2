use mathlib.Core.Path.{◌∙◌}
use Rattle.spellings.proofs.Pairs.{told-lengths, tells-empty, tells-last, tells-front, tells_all}
use Rattle.spellings.proofs.compare.Goals as goal

pub returns-then-n-b : goal.returns-then-n-b
returns-then-n-b c = c.tell.ensures ∙ told-lengths c.args.a.now c.args.b.now c.if-n-b.true

pub returns-then-n-eq0 : goal.returns-then-n-eq0
returns-then-n-eq0 c = c.tell-then-n-eq0.ensures ∙ tells-empty c.args.a.now c.args.b.now c.if-n-b.false c.if-n-eq0.true

pub returns-then-a-last : goal.returns-then-a-last
returns-then-a-last c = c.tell-then-a-last.ensures ∙ tells-last c.args.a.now c.args.b.now c.if-n-b.false c.if-a-last.true

pub returns-then-a-i : goal.returns-then-a-i
returns-then-a-i c = c.tell-then-a-i.ensures
    ∙ tells-front c.args.a.now c.args.b.now c.if-n-b.false c.if-a-last.false c.loop-i.i c.loop-i-test.true c.loop-i.invariant c.if-a-i.true

pub returns : goal.returns
returns c = c.tell-2.ensures
    ∙ tells_all c.args.a.now c.args.b.now c.if-n-b.false c.if-a-last.false c.loop-i.i c.loop-i-test.false c.loop-i.invariant
