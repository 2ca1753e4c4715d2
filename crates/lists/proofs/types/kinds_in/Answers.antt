use Rattle.lists.proofs.TypeCodes.{code-kinds}
use Rattle.lists.proofs.types.kinds_in.Goals as goal

pub returns : goal.returns
returns c = λ u h. code-kinds u c.args.code h
