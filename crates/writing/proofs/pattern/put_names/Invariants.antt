-- What is left of the row goes on from where its first names ended.
use Prim.Native.Nat.{◌-◌}
use Rattle.syntax.specs.Table.{toks}
use Rattle.writing.specs.declared.writer.Writer.{Writer}
use Rattle.writing.proofs.NameRows.{PutsNames}
use Rattle.writing.proofs.pattern.put_names.Given as goal

abbrev pub invariant-loop-i : goal.invariant-loop-i
invariant-loop-i l = (out' : Writer) → PutsNames (toks l.tokens.text.now l.tokens.table.now l.tokens.count l.i) l.out out' → PutsNames
    (toks l.tokens.text.now l.tokens.table.now l.tokens.count l.at) l.initial.out out'

abbrev pub decreases-loop-i : goal.decreases-loop-i
decreases-loop-i l = l.tokens.count - l.i
