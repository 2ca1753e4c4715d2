-- On acceptance the table is filled out of the work area; on a fault it is as it was.
use mathlib.Core.Path.{sym, ap, ◌∙◌}
use Rattle.lexis.specs.Answer.{counted_told, answer_of}
use Rattle.lexis.specs.Lexer.{lex}
use Rattle.lexis.proofs.Answers.{kept-by-fault}
use Rattle.lexis.proofs.listed.Goals as goal

pub fill-requires : goal.fill-requires
fill-requires c = record { text_len_bound = (c.requires.text_len_bound, c.requires.table_words_in_bounds); held = c.requires.found.1 _ (ap counted_told c.in-Ok.is) }

pub returns-in-Ok : goal.returns-in-Ok
returns-in-Ok c = record { value = c.accepted.ensures ∙ ap answer_of (sym (ap counted_told c.in-Ok.is) ∙ c.requires.found.0); table_after = c.fill.ensures }

pub returns-in-Err : goal.returns-in-Err
returns-in-Err c = let e = sym (ap counted_told c.in-Err.is) ∙ c.requires.found.0 in
    record {
      value = c.refused.ensures ∙ ap answer_of e;
      table_after = kept-by-fault (lex c.args.text.now) _ _ c.args.text.now c.args.table.now e;
    }
