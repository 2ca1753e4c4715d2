use mathlib.Core.List.{[], ◌∷◌}
use Rattle.writing.proofs.Putting.{wrote-then, puts-piece}
use Rattle.writing.proofs.writer.Writer.put_spaced.Goals as goal

pub returns : goal.returns
returns c = λ k. puts-piece _ (wrote-then c.args.word.now (c.args.space ∷ []) c.put_bytes.ensures c.put_byte.ensures) c.end_token.ensures
