-- `graph::document_syntax` meets its contract: all up to the closing bracket, and then the end. Assumes nothing.
use mathlib.Core.Path.{sym, ◌∙◌}
use Rattle.syntax.proofs.Graphs.{document-is, at_rest, at-end}
use Rattle.syntax.proofs.Chain.{goes, stops, exits}
use Rattle.syntax.proofs.graph.document_syntax.Goals as goal

pub returns-in_err-end : goal.returns-in_err-end
returns-in_err-end c = exits c.args.tokens.now _ _ c.from_residual.ensures.1 (stops _ c.in_err-end.ensures) ∙ sym (document-is c.args.tokens.now)

pub returns-then-end-tokens : goal.returns-then-end-tokens
returns-then-end-tokens c = goes _ c.in_ok-end.ensures (at_rest c.args.tokens.now c.in_ok-end.end c.if-end-tokens.true) ∙ sym (document-is c.args.tokens.now)

pub returns : goal.returns
returns c = goes _ c.in_ok-end.ensures (at-end c.args.tokens.now c.in_ok-end.end c.if-end-tokens.false) ∙ sym (document-is c.args.tokens.now)
