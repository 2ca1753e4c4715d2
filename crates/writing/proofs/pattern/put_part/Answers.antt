use mathlib.Core.Path.{refl}
use Rattle.writing.proofs.Patterns.{mark-put, word-put}
use Rattle.writing.proofs.pattern.put_part.Goals as goal

pub returns-then-c-eq-COMMA : goal.returns-then-c-eq-COMMA
returns-then-c-eq-COMMA c = mark-put c.args.tokens.now.text.now c.args.tokens.now.table.now c.args.tokens.now.count c.args.i c.requires
    c.symbol_at-c.ensures _ refl c.if-c-eq-COMMA.true
    c.put_mark.ensures

pub returns-then-c-eq-LEFT_SQUARE : goal.returns-then-c-eq-LEFT_SQUARE
returns-then-c-eq-LEFT_SQUARE c = mark-put c.args.tokens.now.text.now c.args.tokens.now.table.now c.args.tokens.now.count c.args.i c.requires
    c.symbol_at-c.ensures _ refl c.if-c-eq-LEFT_SQUARE.true
    c.put_mark-then-c-eq-LEFT_SQUARE.ensures

pub returns-then-c-eq-RIGHT_SQUARE : goal.returns-then-c-eq-RIGHT_SQUARE
returns-then-c-eq-RIGHT_SQUARE c = mark-put c.args.tokens.now.text.now c.args.tokens.now.table.now c.args.tokens.now.count c.args.i c.requires
    c.symbol_at-c.ensures _ refl c.if-c-eq-RIGHT_SQUARE.true
    c.put_mark-then-c-eq-RIGHT_SQUARE.ensures

pub returns-then-c-eq-LEFT_ROUND : goal.returns-then-c-eq-LEFT_ROUND
returns-then-c-eq-LEFT_ROUND c = mark-put c.args.tokens.now.text.now c.args.tokens.now.table.now c.args.tokens.now.count c.args.i c.requires
    c.symbol_at-c.ensures _ refl c.if-c-eq-LEFT_ROUND.true
    c.put_mark-then-c-eq-LEFT_ROUND.ensures

pub returns-then-c-eq-RIGHT_ROUND : goal.returns-then-c-eq-RIGHT_ROUND
returns-then-c-eq-RIGHT_ROUND c = mark-put c.args.tokens.now.text.now c.args.tokens.now.table.now c.args.tokens.now.count c.args.i c.requires
    c.symbol_at-c.ensures _ refl c.if-c-eq-RIGHT_ROUND.true
    c.put_mark-then-c-eq-RIGHT_ROUND.ensures

pub returns : goal.returns
returns c = word-put c.args.tokens.now.text.now c.args.tokens.now.table.now c.args.tokens.now.count c.args.i c.requires c.symbol_at-c.ensures
    c.if-c-eq-COMMA.false c.if-c-eq-LEFT_SQUARE.false c.if-c-eq-RIGHT_SQUARE.false c.if-c-eq-LEFT_ROUND.false c.if-c-eq-RIGHT_ROUND.false c.put_token.ensures
