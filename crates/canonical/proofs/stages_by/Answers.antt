-- All stages of both texts, then the text is written where they pass.
use mathlib.Core.Path.{refl}
use lib.ListN.{length}
use Rattle.lists.proofs.ListStages.{served-zeros}
use Rattle.canonical.proofs.CanonStages.{wrote-stopped, text-stopped}
use borrow.Author.Rules.{rules}
use Rattle.canonical.proofs.stages_by.Goals as goal

pub both_stages-requires : goal.both_stages-requires
both_stages-requires g c = record {
  list_len_bound = c.requires.list_len_bound;
  work_words_in_bounds = (c.requires.work_words_in_bounds.0, (c.requires.work_words_in_bounds.1, search rules));
  served = served-zeros g.row.INDEX g.row.WORDS (length c.args.list.now) c.requires.served.index-room c.requires.served.words-room;
}

pub write-requires : goal.write-requires
write-requires g c = record {
  texts_kept = record { index = _; operations = _; uses = _; both = c.in-Ok.ensures.both_done };
  records_words_in_bounds = search rules;
}

pub returns-in-Ok : goal.returns-in-Ok
returns-in-Ok g c = record {
  wrote = c.write.ensures;
  work1_len_unchanged = c.both_stages.ensures.work1_len_unchanged;
  work2_len_unchanged = c.both_stages.ensures.work2_len_unchanged;
}

pub returns-in-Err : goal.returns-in-Err
returns-in-Err g c = let t = c.in-Err.ensures.both_done in
    record {
      wrote = wrote-stopped (text-stopped c.args.list.now c.args.doc.now (length c.args.out.now) t) refl refl;
      work1_len_unchanged = c.both_stages.ensures.work1_len_unchanged;
      work2_len_unchanged = c.both_stages.ensures.work2_len_unchanged;
    }
