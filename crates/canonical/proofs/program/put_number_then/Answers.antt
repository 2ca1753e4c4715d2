-- The digits, then the byte.
use mathlib.Core.List.{[], ◌∷◌}
use Rattle.writing.specs.Spelling.{decimal}
use Rattle.writing.proofs.Putting.{wrote-then}
use Rattle.canonical.proofs.program.put_number_then.Goals as goal

pub returns : goal.returns
returns c = wrote-then (decimal c.args.n) (c.args.b ∷ []) (rw c.from.ensures at c.put_digits.ensures) c.put_byte.ensures
