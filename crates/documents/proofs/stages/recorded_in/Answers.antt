-- The words are empty and have room.
use Rattle.documents.proofs.BothStages.{records-done}
use Rattle.documents.proofs.stages.recorded_in.Goals as goal

pub returns : goal.returns
returns g c = record { records_done = records-done c.args.list.now c.args.doc.now _ _ _ _ _ c.both_stages.result c.both_stages.ensures.both_done; work1_len_unchanged = c.both_stages.ensures.work1_len_unchanged; work2_len_unchanged = c.both_stages.ensures.work2_len_unchanged }
