-- All stages of both texts, then the order where they pass.
use native.Mathlib.Omega.{arith}
use Rattle.orders.proofs.Recorded.{records-bounded}
use Rattle.orders.proofs.Judged.{order-passed, order-stopped}
use borrow.Author.Rules.{rules}
use Rattle.orders.proofs.order_stages.Goals as goal

pub judge-requires : goal.judge-requires
judge-requires c = let stages = c.recorded_stages.ensures in
    let b = records-bounded _ c.in-Ok.ensures.records_done c.requires.list_len_bound.0 c.requires.list_len_bound.1 (search rules) in
    record {
      bounded = b;
      n_in_bounds = (
        omega (arith, b.few, stages.work1_len_unchanged, c.requires.work_words_in_bounds.0),
        omega (arith, b.few, stages.work2_len_unchanged, c.requires.work_words_in_bounds.1),
      );
    }

pub returns-in-Ok : goal.returns-in-Ok
returns-in-Ok c = record {
  value = order-passed c.args.list.now c.args.doc.now c.args.order.now c.in-Ok.ensures.records_done c.judge.ensures;
  work1_len_unchanged = search rules;
  work2_len_unchanged = search rules;
}

pub returns-in-Err : goal.returns-in-Err
returns-in-Err c = record {
  value = order-stopped c.args.list.now c.args.doc.now c.args.order.now c.in-Err.ensures.records_done;
  work1_len_unchanged = c.recorded_stages.ensures.work1_len_unchanged;
  work2_len_unchanged = c.recorded_stages.ensures.work2_len_unchanged;
}
