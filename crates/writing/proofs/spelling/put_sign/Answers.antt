use Rattle.lexis.specs.Kind as Kind
use Rattle.writing.proofs.spelling.put_sign.Goals as goal

pub returns-then-not-zero : goal.returns-then-not-zero
returns-then-not-zero c = simp (c.if-negative.true, c.if-not-zero.true) (c.put_mark.ensures Kind.operator)
