-- Each entry is computed.
use mathlib.Core.Path.{refl}
use Rattle.lexis.specs.Bytes.{class_of, classes_from, class_table}
use Rattle.lexis.proofs.class.table.Goals as goal

pub returns : goal.returns
unfolding class_table classes_from class_of
returns c = refl
