use Rattle.lists.proofs.TypeCodes.{code-pairs}
use Rattle.lists.proofs.types.pairs_in.Goals as goal

pub returns : goal.returns
returns c = λ u h. code-pairs u c.args.code h
