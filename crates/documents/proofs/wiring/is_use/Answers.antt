use Rattle.documents.proofs.Walking.{no-use, use-if}
use Rattle.documents.proofs.wiring.is_use.Goals as goal

pub returns-then-symbol_at-ne-NAME : goal.returns-then-symbol_at-ne-NAME
returns-then-symbol_at-ne-NAME c = no-use c.args.arguments.now.text.now c.args.arguments.now.table.now c.args.arguments.now.count c.args.i
    c.requires.i_lt_count c.symbol_at.ensures c.if-symbol_at-ne-NAME.true

pub returns : goal.returns
returns c = use-if c.args.arguments.now.text.now c.args.arguments.now.table.now c.args.arguments.now.count c.args.i
    c.requires.i_lt_count c.symbol_at.ensures c.if-symbol_at-ne-NAME.false c.symbol_at-2.ensures
