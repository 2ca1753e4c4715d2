use mathlib.Core.Path.{refl}
use lib.ListN.{length}
use Rattle.writing.proofs.Patterns.{not_round, round-ends, round-fault}
use Rattle.writing.proofs.pattern.is_bracketed.Goals as goal

pub returns-then-symbol_at-ne-LEFT_ROUND : goal.returns-then-symbol_at-ne-LEFT_ROUND
returns-then-symbol_at-ne-LEFT_ROUND c = not_round c.args.tokens.now.text.now c.args.tokens.now.table.now c.args.tokens.now.count c.args.at c.args.equal
    c.symbol_at.ensures c.if-symbol_at-ne-LEFT_ROUND.true

pub returns-in-Ok : goal.returns-in-Ok
returns-in-Ok c = let ts = c.args.tokens.now in
    round-ends ts.text.now ts.table.now ts.count c.args.at c.args.equal c.symbol_at.ensures (length ts.text.now) c.if-symbol_at-ne-LEFT_ROUND.false
    c.in-Ok.ensures refl

pub returns-in-Err : goal.returns-in-Err
returns-in-Err c = let ts = c.args.tokens.now in
    round-fault ts.text.now ts.table.now ts.count c.args.at c.args.equal c.symbol_at.ensures (length ts.text.now) c.if-symbol_at-ne-LEFT_ROUND.false
    c.in-Err.ensures refl
