-- One flag more, as long as the mask has room for it.
use mathlib.Core.Path.{sym}
use native.Mathlib.Omega.{arith}
use Rattle.lists.proofs.headers.required.Goals as goal

pub returns-then-k-ge-PARAMETERS : goal.returns-then-k-ge-PARAMETERS
returns-then-k-ge-PARAMETERS c = λ bs m l h. absurd (omega (arith, c.if-k-ge-PARAMETERS.true))

pub returns : goal.returns
returns c = λ bs m l h. c.extended.ensures bs m (sym l)
