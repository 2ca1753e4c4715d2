-- The name is entered; where it has no number, it gets one.
use mathlib.Core.Path.{ap, ◌∙◌}
use mathlib.Core.Bool.{not}
use Prim.Native.Nat.{ℕ}
use native.Mathlib.Omega.{arith}
use lib.Dec.{eqb}
use Rattle.index.proofs.Theorems.{word-there}
use Rattle.lists.proofs.NameMarks.{numbers}
use Rattle.lists.proofs.headers.operation.Goals as goal

pub returns-clause-meaning : goal.returns-clause-meaning
returns-clause-meaning c =
    numbers c.args.tokens.now.text.now c.args.tokens.now.table.now c.args.index.now c.enter-p.new.index c.args.i c.args.k c.enter-p.result
    c.enter-p.ensures.enters
    (c.is_some.ensures ∙ word-there c.keep_word.result c.keep_word.ensures.nonzero ∙ ap (λ (x : ℕ). not (eqb x 0)) c.keep_word.ensures.value)
    (omega (arith, c.enter-p.ensures.walkable_2.falling.room, c.enter-p.ensures.upper_bound, c.requires.i_lt_n.0))
    c.keep_word.ensures.index_after
