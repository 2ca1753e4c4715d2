-- `graph::semicolon` meets its contract. Assumes nothing.
use native.Mathlib.Omega.{arith}
use borrow.Author.Rules.{rules}
use Rattle.syntax.proofs.Graphs.{at-semicolon, at_none}
use Rattle.syntax.proofs.Symbols.{stands}
use Rattle.syntax.proofs.graph.semicolon.Goals as goal

pub overflow_add-result : goal.overflow_add-result
overflow_add-result c = let h = stands _ _ _ _ c.symbol_at.ensures (omega (arith, c.if-symbol_at-eq-SEMICOLON.true)) in search rules

pub returns-then-symbol_at-eq-SEMICOLON : goal.returns-then-symbol_at-eq-SEMICOLON
returns-then-symbol_at-eq-SEMICOLON c = at-semicolon c.args.tokens.now c.args.at c.symbol_at.ensures c.if-symbol_at-eq-SEMICOLON.true

pub returns : goal.returns
returns c = at_none c.args.tokens.now c.args.at c.symbol_at.ensures c.requires c.if-symbol_at-eq-SEMICOLON.false
