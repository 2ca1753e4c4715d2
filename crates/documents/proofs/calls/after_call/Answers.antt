use Rattle.documents.proofs.Scanning.{past-semicolon, no-semicolon}
use Rattle.syntax.specs.Table.{toks}
use Prim.Native.Nat.{◌+◌}
use Rattle.documents.proofs.calls.after_call.Goals as goal

pub returns-then-symbol_at-eq-SEMICOLON : goal.returns-then-symbol_at-eq-SEMICOLON
returns-then-symbol_at-eq-SEMICOLON c = past-semicolon c.args.close
    (toks c.args.tokens.now.text.now c.args.tokens.now.table.now
    c.args.tokens.now.count (c.args.close + 1))
    c.symbol_at.ensures c.if-symbol_at-eq-SEMICOLON.true

pub returns : goal.returns
returns c = no-semicolon c.args.close
    (toks c.args.tokens.now.text.now c.args.tokens.now.table.now
    c.args.tokens.now.count (c.args.close + 1))
    c.symbol_at.ensures c.if-symbol_at-eq-SEMICOLON.false
