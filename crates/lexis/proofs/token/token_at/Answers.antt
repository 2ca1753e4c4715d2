-- One law of `Lexemes` for each class of the first byte.
use mathlib.Core.Path.{ap, ◌∙◌}
use Rattle.lexis.specs.Class.{class_number}
use Rattle.lexis.specs.Lexeme.{mark_lexeme}
use Rattle.lexis.specs.declared.class.Class.TheVariants.{Digit, Letter, Quote}
use Rattle.lexis.proofs.Table.{class-not}
use Rattle.lexis.proofs.Lexemes.{number-here, word-here, string-here, mark-here}
use Rattle.lexis.proofs.token.token_at.Goals as goal

pub returns-in-Letter : goal.returns-in-Letter
returns-in-Letter c = word-here c.args.text.now c.args.at c.requires.at_in_bounds _ c.requires.class_value _ (ap class_number c.in-Letter.is) c.word_at.ensures

pub returns-in-Digit : goal.returns-in-Digit
returns-in-Digit c = number-here c.args.text.now c.args.at c.requires.at_in_bounds _ c.requires.class_value _ (ap class_number c.in-Digit.is) c.number_at.ensures

pub returns-in-Quote : goal.returns-in-Quote
returns-in-Quote c = string-here c.args.text.now c.args.at c.requires.at_in_bounds _ c.requires.class_value _ (ap class_number c.in-Quote.is) c.string_at.ensures

pub returns-in_default : goal.returns-in_default
returns-in_default c = mark-here c.args.text.now c.args.at c.requires.at_in_bounds _ c.requires.class_value _ (class-not _ Digit c.in_default.not-Digit)
    (class-not _ Letter c.in_default.not-Letter) (class-not _ Quote c.in_default.not-Quote) (c.mark_of.ensures ∙ ap (mark_lexeme _) c.byte_at.ensures)
