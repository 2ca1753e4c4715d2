use Rattle.lexis.specs.Kind as Kind
use Rattle.writing.proofs.Putting.{puts_then}
use Rattle.writing.proofs.document.put_arrow.Goals as goal

pub returns : goal.returns
returns c = puts_then (c.put_mark.ensures Kind.syntactic)
    (puts_then (c.put_word.ensures Kind.syntactic) (c.put_mark-2.ensures Kind.syntactic))
