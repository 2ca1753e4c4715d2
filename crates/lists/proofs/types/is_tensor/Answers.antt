use Rattle.lists.proofs.TypeCodes.{code-tensor}
use Rattle.lists.proofs.types.is_tensor.Goals as goal

pub returns : goal.returns
returns c = λ u h. code-tensor u c.args.code h
