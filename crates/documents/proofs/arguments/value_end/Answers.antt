-- One token for a leaf; else the place that the reader has reached, or the end where it has none.
use mathlib.Core.Path.{◌≡◌, refl, sym, ap, ◌∙◌}
use mathlib.Core.Bool.{true}
use native.Mathlib.Omega.{arith}
use lib.ListN.{length}
use Rattle.lexis.specs.Sizes.{max_brackets}
use Rattle.syntax.specs.Grammar.{both}
use Rattle.syntax.specs.Table.{toks}
use Rattle.syntax.specs.Inner.{lookahead}
use Rattle.syntax.proofs.Tails.{value-tails}
use Rattle.syntax.proofs.Shrinks.{value-shrinks}
use Rattle.syntax.proofs.Chain.{passes, reaches}
use Rattle.lists.specs.Fitting.{is_leaf_symbol}
use Rattle.lists.proofs.Phrases.{value-is}
use Rattle.documents.proofs.Items.{no-fault, left_at, leaf-ends, leaf-there}
use Rattle.documents.proofs.arguments.value_end.Goals as goal

pub overflow_add-result : goal.overflow_add-result
overflow_add-result c = let seen = sym (c.is_leaf.ensures ∙ ap is_leaf_symbol c.symbol_at.ensures) ∙ c.if-is_leaf.true in
    let l = leaf-there c.args.tokens.now.text.now c.args.tokens.now.table.now c.args.tokens.now.count c.args.v seen in
    record { fits = omega (arith, l, c.args.tokens.now.holds.room) }

pub returns-then-is_leaf : goal.returns-then-is_leaf
returns-then-is_leaf c = let ts = toks c.args.tokens.now.text.now c.args.tokens.now.table.now c.args.tokens.now.count c.args.v in
    let seen : is_leaf_symbol (lookahead ts) ≡ true = sym (c.is_leaf.ensures ∙ ap is_leaf_symbol c.symbol_at.ensures) ∙ c.if-is_leaf.true in
    let l = leaf-there c.args.tokens.now.text.now c.args.tokens.now.table.now c.args.tokens.now.count c.args.v seen in
    record { range = (omega arith, omega (arith, l)); meaning = λ x us h. leaf-ends c.args.tokens.now.text.now c.args.tokens.now.table.now c.args.tokens.now.count c.args.v seen (value-is both max_brackets ts h) }

pub returns-in_default : goal.returns-in_default
returns-in_default c = let ts = c.args.tokens.now in
    record { range = (omega arith, omega arith); meaning = λ x us h. no-fault (length ts.text.now) ts.count c.in_default.ensures refl h }

pub returns : goal.returns
returns c = let ts = c.args.tokens.now in
    let l = passes (value-shrinks both max_brackets) ts c.in-Ok.ensures in
    record {
      range = (omega (arith, l), reaches _ _ c.in-Ok.ensures);
      meaning = λ x us h.
          left_at (value-tails both max_brackets) ts.text.now ts.table.now (length ts.text.now) ts.count c.args.v c.in-Ok.ensures refl h;
    }
