-- All stages, then the tables where both texts pass.
use Rattle.documents.proofs.Checks.{ended-passed, ended-stopped}
use Rattle.documents.proofs.check.both_answer.Goals as goal

pub returns-in-Ok : goal.returns-in-Ok
returns-in-Ok c = let stages = c.recorded_stages.ensures in
    record {
      ended = ended-passed c.args.list.now c.args.doc.now c.args.calls.now c.args.wires.now c.in-Ok.ensures.records_done c.write_tables.ensures;
      work1_len_unchanged = stages.work1_len_unchanged;
      work2_len_unchanged = stages.work2_len_unchanged;
    }

pub returns-in-Err : goal.returns-in-Err
returns-in-Err c = let stages = c.recorded_stages.ensures in
    record {
      ended = ended-stopped c.args.list.now c.args.doc.now c.args.calls.now c.args.wires.now c.in-Err.ensures.records_done;
      work1_len_unchanged = stages.work1_len_unchanged;
      work2_len_unchanged = stages.work2_len_unchanged;
    }
