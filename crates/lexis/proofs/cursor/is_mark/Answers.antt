-- One law of `Lexemes` for each syntactic character that stands alone.
use mathlib.Core.Path.{ap, ◌∙◌}
use borrow.Author.Tests.{not-true, eqb-false}
use Rattle.lexis.specs.Class.{class_number}
use Rattle.lexis.proofs.Lexemes.{alone-here, equal-here}
use Rattle.lexis.proofs.cursor.is_mark.Goals as goal

pub returns-then-text-at-ne61 : goal.returns-then-text-at-ne61
returns-then-text-at-ne61 c = λ e. alone-here c.args.text.now c.args.at c.requires.at_in_bounds _ c.requires.class_value (ap class_number c.in-Syntactic.is)
    c.if-text-at-ne61.true

pub returns-else-text-at-ne61 : goal.returns-else-text-at-ne61
returns-else-text-at-ne61 c = λ e. equal-here c.args.text.now c.args.at c.requires.at_in_bounds _ c.requires.class_value (ap class_number c.in-Syntactic.is)
    c.if-text-at-ne61.false (λ q. eqb-false _ _ (not-true _ e) (c.byte_at.ensures ∙ q))
