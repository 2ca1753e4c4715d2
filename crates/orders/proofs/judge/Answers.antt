-- The length, then the walk.
use Rattle.orders.proofs.Judged.{rows-wrong, rows_right}
use borrow.Author.Rules.{rules}
use Rattle.orders.proofs.judge.Goals as goal

pub returns-then-order-n : goal.returns-then-order-n
returns-then-order-n c = rows-wrong c.args.records.now c.args.n c.args.order.now c.if-order-n.true c.refused.ensures

pub walk-requires : goal.walk-requires
walk-requires c = record { bounded = c.requires.bounded; n_in_bounds = search rules; firsts = (c.prepare.ensures.firsts, c.prepare.ensures.unmarked); order_len = c.if-order-n.false }

pub returns : goal.returns
returns c = rows_right c.args.records.now c.args.n c.args.order.now c.if-order-n.false c.walk.ensures
