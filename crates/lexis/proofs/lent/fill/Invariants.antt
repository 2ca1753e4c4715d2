-- Every turn puts one record, with its line.
use Prim.Native.Nat.{◌*◌}
use Rattle.lexis.specs.Sizes.{record_words, token_words}
use Rattle.lexis.proofs.Filling.{Filling}
use Rattle.lexis.proofs.lent.fill.Given as goal

abbrev pub invariant-loop-i : goal.invariant-loop-i
invariant-loop-i l = Filling l.text l.work l.initial.table l.n l.end l.line (l.i * record_words) (l.i * token_words) l.table
