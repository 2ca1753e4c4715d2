-- A short table, a long text, and what the bytes give.
use mathlib.Core.Path.{sym, ◌∙◌}
use borrow.Author.Tests.{leb-true}
use Rattle.lexis.specs.Sizes.{max_text, table_words}
use Rattle.lexis.proofs.Answers.{short-table, long-text, tokens-by}
use Rattle.lexis.proofs.tokens.Goals as goal

pub returns-then-not-table_serves : goal.returns-then-not-table_serves
returns-then-not-table_serves c = let p = short-table c.args.text.now c.args.table.now (sym c.table_serves.ensures ∙ c.if-not-table_serves.true) c.short_room.ensures in record { value = p.0; table_after = p.1 }

pub returns-then-not-text_fits : goal.returns-then-not-text_fits
returns-then-not-text_fits c = let p = long-text c.args.text.now c.args.table.now (sym c.table_serves.ensures ∙ c.if-not-table_serves.false)
    (sym c.text_fits.ensures ∙ c.if-not-text_fits.true) c.long_text.ensures in record { value = p.0; table_after = p.1 }

pub tokens_within-requires : goal.tokens_within-requires
tokens_within-requires c = record { text_len_bound = leb-true _ max_text (sym c.text_fits.ensures ∙ c.if-not-text_fits.false); table_words_in_bounds = leb-true table_words _ (sym c.table_serves.ensures ∙ c.if-not-table_serves.false) }

pub returns : goal.returns
returns c = let w = c.tokens_within.ensures in
    let p = tokens-by c.args.text.now c.args.table.now (sym c.table_serves.ensures ∙ c.if-not-table_serves.false)
    (sym c.text_fits.ensures ∙ c.if-not-text_fits.false) _ _ w.value w.table_after in record { value = p.0; table_after = p.1 }
