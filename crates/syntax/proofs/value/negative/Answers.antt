-- `value::negative` meets its contract: no sign, a sign where literals may not stand, a sign and what is asked of the token after it. Assumes nothing.
use mathlib.Core.Path.{sym, ◌∙◌}
use native.Mathlib.Omega.{arith}
use borrow.Author.Rules.{rules}
use Rattle.syntax.specs.Inner.{leaves_of}
use Rattle.syntax.proofs.Symbols.{stands}
use Rattle.syntax.proofs.Values.{at-no-sign, at-lost-sign, at_sign}
use Rattle.syntax.proofs.value.negative.Goals as goal
use Rattle.syntax.proofs.value.negative.Goals.{then-s-ne-MINUS-via-then-s-ne-MINUS, then-s-ne-MINUS-via-else-s-ne-MINUS+then-not-take_literals}

pub returns-then-s-ne-MINUS : goal.returns-then-s-ne-MINUS
returns-then-s-ne-MINUS c = elim c.then-s-ne-MINUS.branch [
  | then-s-ne-MINUS-via-then-s-ne-MINUS w ↦ at-no-sign c.args.tokens.now c.args.at c.requires (leaves_of c.args.leaves) w.if-s-ne-MINUS.true
  | then-s-ne-MINUS-via-else-s-ne-MINUS+then-not-take_literals w ↦
      at-lost-sign c.args.tokens.now c.args.at c.requires (leaves_of c.args.leaves) (sym w.take_literals.ensures ∙ w.if-not-take_literals.true)
]

pub overflow_add-at : goal.overflow_add-at
overflow_add-at c = let h = stands _ _ _ _ c.requires (omega (arith, c.if-s-ne-MINUS.false)) in search rules

pub returns : goal.returns
returns c = at_sign c.args.tokens.now c.args.at c.requires (leaves_of c.args.leaves) c.if-s-ne-MINUS.false (sym c.if-not-take_literals.ensures) c.expect.ensures
