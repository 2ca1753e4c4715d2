use Rattle.lexis.specs.Kind as Kind
use Rattle.writing.proofs.Putting.{puts_then}
use Rattle.writing.proofs.Titles.{title}
use Rattle.writing.proofs.document.put_header.Goals as goal

pub returns : goal.returns
returns c = λ d us e r. let t = title c.args.tokens.now.text.now c.args.tokens.now.table.now c.args.tokens.now.count d e in
    puts_then (c.put_title.ensures d e)
    (puts_then (c.put_names.ensures d.inputs t.behind t.inputs)
    (puts_then c.put_arrow.ensures
    (puts_then (c.put_names-2.ensures d.outputs us r)
    (puts_then (c.put_spaced.ensures Kind.syntactic)
    (c.put_spaced-2.ensures Kind.syntactic)))))
