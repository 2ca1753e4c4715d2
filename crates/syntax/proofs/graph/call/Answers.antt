-- `graph::call` meets its contract: its steps are those of `call-is`. Assumes nothing.
use Rattle.syntax.proofs.Graphs.{call-is}
use Rattle.syntax.proofs.Chain.{exits, by_law, goes, stops, reaches}
use Rattle.syntax.proofs.graph.call.Goals as goal

pub returns-in_err-name : goal.returns-in_err-name
returns-in_err-name c =
    exits c.args.tokens.now _ _ c.from_residual.ensures.1
    (by_law (call-is c.args.tokens.now c.args.at) (stops _ c.in_err-name.ensures))

pub returns-in_err-bracket : goal.returns-in_err-bracket
returns-in_err-bracket c =
    exits c.args.tokens.now _ _ c.from_residual-in_err-bracket.ensures.1
    (by_law (call-is c.args.tokens.now c.args.at) (goes _ c.in_ok-name.ensures (stops _ c.in_err-bracket.ensures)))

pub returns-in_err-arguments : goal.returns-in_err-arguments
returns-in_err-arguments c =
    exits c.args.tokens.now _ _ c.from_residual-in_err-arguments.ensures.1
    (by_law (call-is c.args.tokens.now c.args.at) (goes _ c.in_ok-name.ensures (goes _ c.in_ok-bracket.ensures (stops _ c.in_err-arguments.ensures))))

pub returns-in_err-end : goal.returns-in_err-end
returns-in_err-end c =
    exits c.args.tokens.now _ _ c.from_residual-in_err-end.ensures.1
    (by_law (call-is c.args.tokens.now c.args.at)
    (goes _ c.in_ok-name.ensures
    (goes _ c.in_ok-bracket.ensures
    (goes _ c.in_ok-arguments.ensures
    (stops _ c.in_err-end.ensures)))))

pub semicolon-requires : goal.semicolon-requires
semicolon-requires c = reaches _ _ c.in_ok-end.ensures

pub returns : goal.returns
returns c =
    by_law (call-is c.args.tokens.now c.args.at)
    (goes _ c.in_ok-name.ensures
    (goes _ c.in_ok-bracket.ensures
    (goes _ c.in_ok-arguments.ensures
    (goes _ c.in_ok-end.ensures
    c.semicolon.ensures))))
