use Rattle.writing.proofs.NameRows.{names-none, names-last, names-next}
use Rattle.writing.proofs.pattern.put_names.Goals as goal

pub returns-then-symbol_at-ne-COMMA : goal.returns-then-symbol_at-ne-COMMA
returns-then-symbol_at-ne-COMMA c = c.loop-i.invariant _ (names-last c.args.tokens.now.text.now c.args.tokens.now.table.now c.args.tokens.now.count
    c.loop-i.i c.put_token.ensures c.symbol_at.ensures
    c.if-symbol_at-ne-COMMA.true)

pub loop-i-preserved : goal.loop-i-preserved
loop-i-preserved c = λ out' k. c.loop-i.invariant out' (names-next c.args.tokens.now.text.now c.args.tokens.now.table.now c.args.tokens.now.count
    c.loop-i.i c.put_token.ensures
    c.symbol_at.ensures c.if-symbol_at-ne-COMMA.false c.put_mark.ensures k)

pub returns : goal.returns
returns c = c.loop-i.invariant _ (names-none c.args.tokens.now.text.now c.args.tokens.now.table.now c.args.tokens.now.count c.loop-i.i c.loop-i-test.false)
