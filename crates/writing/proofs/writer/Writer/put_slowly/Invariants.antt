-- What is left of the word goes on from where its first bytes ended.
use lib.ListN.{drop}
use Rattle.writing.specs.declared.writer.Writer.{Writer}
use Rattle.writing.specs.Writing.{Wrote}
use Rattle.writing.proofs.writer.Writer.put_slowly.Given as goal

abbrev pub invariant-loop-b : goal.invariant-loop-b
invariant-loop-b l = (out' : Writer) → Wrote (drop l.b-index l.word) l.self out' → Wrote l.word l.initial.self out'
