-- The guards, then all stages, then the work area is cleared.
use mathlib.Core.Path.{sym, ◌∙◌}
use lib.ListN.{length}
use borrow.Author.Tests.{leb-true}
use Rattle.lexis.specs.Sizes.{max_text, work_words}
use Rattle.lists.proofs.ListAnswers.{refused-room, refused-list, ended}
use Rattle.lists.proofs.declarations.Goals as goal

pub returns-then-not-work_serves : goal.returns-then-not-work_serves
returns-then-not-work_serves c = let p = refused-room c.args.list.now c.args.work.now (sym c.work_serves.ensures ∙ c.if-not-work_serves.true) c.short_room.ensures in record { value = p.0; work_after = p.1 }

pub returns-then-not-text_fits : goal.returns-then-not-text_fits
returns-then-not-text_fits c = let p = refused-list c.args.list.now c.args.work.now
    (sym c.work_serves.ensures ∙ c.if-not-work_serves.false)
    (sym c.text_fits.ensures ∙ c.if-not-text_fits.true) c.long_text.ensures in record { value = p.0; work_after = p.1 }

pub list_answer-r-requires : goal.list_answer-r-requires
list_answer-r-requires c = record {
  list_len_bound = leb-true (length c.args.list.now) max_text (sym c.text_fits.ensures ∙ c.if-not-text_fits.false);
  work_words_in_bounds = leb-true work_words (length c.args.work.now)
      (sym c.work_serves.ensures ∙ c.if-not-work_serves.false);
}

pub returns : goal.returns
returns c = let p = ended c.args.list.now c.args.work.now
    (sym c.work_serves.ensures ∙ c.if-not-work_serves.false)
    (sym c.text_fits.ensures ∙ c.if-not-text_fits.false)
    c.list_answer-r.ensures.value c.clear.ensures c.list_answer-r.ensures.work_len_unchanged in record { value = p.0; work_after = p.1 }
