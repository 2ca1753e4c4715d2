use mathlib.Core.Path.{sym, ◌∙◌}
use native.Mathlib.Omega.{arith}
use Rattle.writing.proofs.Patterns.{brackets-past, left-inner, left-whole}
use Rattle.writing.proofs.pattern.put_left.Goals as goal

pub overflow_add-at : goal.overflow_add-at
overflow_add-at c = let h = brackets-past c.args.tokens.now.text.now c.args.tokens.now.table.now c.args.tokens.now.count c.args.at c.args.equal
    (sym c.is_bracketed.ensures ∙ c.if-is_bracketed.true) in
    omega (arith, c.requires)

pub overflow_sub-equal : goal.overflow_sub-equal
overflow_sub-equal c = let h = brackets-past c.args.tokens.now.text.now c.args.tokens.now.table.now c.args.tokens.now.count c.args.at c.args.equal
    (sym c.is_bracketed.ensures ∙ c.if-is_bracketed.true) in
    omega arith

pub returns-then-is_bracketed : goal.returns-then-is_bracketed
returns-then-is_bracketed c = λ v us u w parsed after read. left-inner c.args.tokens.now.text.now c.args.tokens.now.table.now c.args.tokens.now.count
    c.args.at c.args.equal after c.requires u parsed read
    (sym c.is_bracketed.ensures ∙ c.if-is_bracketed.true) c.put_parts.ensures

pub returns : goal.returns
returns c = λ v us u w parsed after read. left-whole c.args.tokens.now.text.now c.args.tokens.now.table.now c.args.tokens.now.count c.args.at c.args.equal
    after c.requires u parsed read
    (sym c.is_bracketed.ensures ∙ c.if-is_bracketed.false) c.put_parts-2.ensures
