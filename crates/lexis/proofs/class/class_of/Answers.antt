-- The entry of the table at the byte.
use borrow.Author.Rules.{rules}
use Rattle.lexis.proofs.Table.{class-at}
use Rattle.lexis.proofs.class.class_of.Goals as goal

pub returns : goal.returns
returns c = class-at _ c.table.ensures c.args.b (search rules)
