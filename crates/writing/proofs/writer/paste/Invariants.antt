-- What is left of the word goes on from where its first i bytes ended.
use mathlib.Core.Path.{◌≡◌}
use Prim.Native.Nat.{◌+◌}
use lib.ListN.{length, drop}
use Rattle.writing.specs.Writing.{stored}
use Rattle.writing.proofs.writer.paste.Given as goal

abbrev pub invariant-loop-i : goal.invariant-loop-i
invariant-loop-i l = (length l.out ≡ length l.initial.out) × (stored l.out (l.at + l.i) (drop l.i l.word) ≡ stored l.initial.out l.at l.word)
