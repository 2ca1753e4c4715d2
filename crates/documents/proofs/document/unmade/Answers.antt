use Rattle.documents.proofs.DocumentWalks.{unmade-is}
use Rattle.documents.proofs.document.unmade.Goals as goal

pub returns : goal.returns
returns c = unmade-is c.args.tokens.now.text.now c.args.tokens.now.table.now c.args.graph c.args.index.now c.args.best c.unassigned-inputs.result c.unassigned.result
    c.unassigned-inputs.ensures
    c.unassigned.ensures
