-- What is left of the tokens goes on from where the first of them ended.
use Prim.Native.Nat.{◌-◌}
use Rattle.syntax.specs.Table.{toks}
use Rattle.writing.specs.declared.writer.Writer.{Writer}
use Rattle.writing.specs.Writing.{Puts, pattern_pieces}
use Rattle.writing.proofs.pattern.put_parts.Given as goal

abbrev pub invariant-loop-i : goal.invariant-loop-i
invariant-loop-i l = (out' : Writer) → Puts (pattern_pieces (toks l.tokens.text.now l.tokens.table.now l.to l.i)) l.out out'
    → Puts (pattern_pieces (toks l.tokens.text.now l.tokens.table.now l.to l.from)) l.initial.out out'

abbrev pub decreases-loop-i : goal.decreases-loop-i
decreases-loop-i l = l.to - l.i
