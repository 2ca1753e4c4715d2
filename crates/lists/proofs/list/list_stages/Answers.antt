-- Bytes and syntax, then the rules.
use mathlib.Core.Path.{refl}
use lib.ListN.{length}
use Rattle.syntax.proofs.Reading.{room_of}
use Rattle.lists.proofs.ListStages.{read-list, read-stops, list-few, served-less}
use native.Mathlib.Omega.{arith}
use Rattle.lists.proofs.list.list_stages.Goals as goal

pub read-requires : goal.read-requires
read-requires c = record {
  text_len_bound = c.requires.text_len_bound.0;
  work_words_in_bounds = c.requires.text_len_bound.1;
}

pub rules_stage-requires : goal.rules_stage-requires
rules_stage-requires c = let r = room_of (length c.args.work.now) c.in-Ok.ensures.room refl in
    let l = read-list c.args.text.now c.args.work.now _ _ r.0 c.requires.text_len_bound.1 c.in-Ok.ensures.value refl c.in-Ok.ensures.recorded
    c.in-Ok.ensures.room in
    record {
      list_read = l;
      text_len_bound = (c.requires.text_len_bound.0, r.0);
      served = served-less (omega (arith, list-few l, r.0))
          c.requires.served;
    }

pub returns-in-Ok : goal.returns-in-Ok
returns-in-Ok c = c.rules_stage.ensures

pub returns-in-Err : goal.returns-in-Err
returns-in-Err c = rw c.refused.ensures (read-stops c.args.text.now c.in-Err.ensures.value refl)
