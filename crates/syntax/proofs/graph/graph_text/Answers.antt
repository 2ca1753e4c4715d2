-- `graph::graph_text` meets its contract: its steps are those of `graph_is`. Assumes nothing.
use Rattle.syntax.proofs.Graphs.{graph_is}
use Rattle.syntax.proofs.Chain.{exits, by_law, goes, stops}
use Rattle.syntax.proofs.graph.graph_text.Goals as goal

pub returns-in_err-arrow : goal.returns-in_err-arrow
returns-in_err-arrow c =
    exits c.args.tokens.now _ _ c.from_residual.ensures.1
    (by_law (graph_is c.args.tokens.now) (stops _ c.in_err-arrow.ensures))

pub returns-in_err-bracket : goal.returns-in_err-bracket
returns-in_err-bracket c =
    exits c.args.tokens.now _ _ c.from_residual-in_err-bracket.ensures.1
    (by_law (graph_is c.args.tokens.now) (goes _ c.in_ok-arrow.ensures (stops _ c.in_err-bracket.ensures)))

pub returns-in_err-outputs : goal.returns-in_err-outputs
returns-in_err-outputs c =
    exits c.args.tokens.now _ _ c.from_residual-in_err-outputs.ensures.1
    (by_law (graph_is c.args.tokens.now) (goes _ c.in_ok-arrow.ensures (goes _ c.in_ok-bracket.ensures (stops _ c.in_err-outputs.ensures))))

pub returns-in_err-opening : goal.returns-in_err-opening
returns-in_err-opening c =
    exits c.args.tokens.now _ _ c.from_residual-in_err-opening.ensures.1
    (by_law (graph_is c.args.tokens.now)
    (goes _ c.in_ok-arrow.ensures
    (goes _ c.in_ok-bracket.ensures
    (goes _ c.in_ok-outputs.ensures
    (stops _ c.in_err-opening.ensures)))))

pub returns-in_err-calls : goal.returns-in_err-calls
returns-in_err-calls c =
    exits c.args.tokens.now _ _ c.from_residual-in_err-calls.ensures.1
    (by_law (graph_is c.args.tokens.now)
    (goes _ c.in_ok-arrow.ensures
    (goes _ c.in_ok-bracket.ensures
    (goes _ c.in_ok-outputs.ensures
    (goes _ c.in_ok-opening.ensures
    (stops _ c.in_err-calls.ensures))))))

pub returns : goal.returns
returns c =
    by_law (graph_is c.args.tokens.now)
    (goes _ c.in_ok-arrow.ensures
    (goes _ c.in_ok-bracket.ensures
    (goes _ c.in_ok-outputs.ensures
    (goes _ c.in_ok-opening.ensures
    (goes _ c.in_ok-calls.ensures
    c.body.ensures)))))
