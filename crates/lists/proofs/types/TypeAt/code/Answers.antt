use Rattle.lists.proofs.TypeCodes.{code-made}
use Rattle.lists.proofs.types.TypeAt.code.Goals as goal

pub returns : goal.returns
returns c = λ u p q r. code-made u _ _ _ _ p q r c.from.ensures
