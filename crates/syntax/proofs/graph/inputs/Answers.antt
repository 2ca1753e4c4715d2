-- `graph::inputs` meets its contract: its steps are those of `inputs-is`. Assumes nothing.
use Rattle.syntax.proofs.Graphs.{inputs-is}
use Rattle.syntax.proofs.Chain.{exits, by_law, goes, stops}
use Rattle.syntax.proofs.graph.inputs.Goals as goal

pub returns-in_err-number : goal.returns-in_err-number
returns-in_err-number c =
    exits c.args.tokens.now _ _ c.from_residual.ensures.1
    (by_law (inputs-is c.args.tokens.now) (stops _ c.in_err-number.ensures))

pub returns-in_err-word : goal.returns-in_err-word
returns-in_err-word c =
    exits c.args.tokens.now _ _ c.from_residual-in_err-word.ensures.1
    (by_law (inputs-is c.args.tokens.now) (goes _ c.in_ok-number.ensures (stops _ c.in_err-word.ensures)))

pub returns-in_err-name : goal.returns-in_err-name
returns-in_err-name c =
    exits c.args.tokens.now _ _ c.from_residual-in_err-name.ensures.1
    (by_law (inputs-is c.args.tokens.now) (goes _ c.in_ok-number.ensures (goes _ c.in_ok-word.ensures (stops _ c.in_err-name.ensures))))

pub returns-in_err-bracket : goal.returns-in_err-bracket
returns-in_err-bracket c =
    exits c.args.tokens.now _ _ c.from_residual-in_err-bracket.ensures.1
    (by_law (inputs-is c.args.tokens.now)
    (goes _ c.in_ok-number.ensures
    (goes _ c.in_ok-word.ensures
    (goes _ c.in_ok-name.ensures
    (stops _ c.in_err-bracket.ensures)))))

pub returns-in_err-names : goal.returns-in_err-names
returns-in_err-names c =
    exits c.args.tokens.now _ _ c.from_residual-in_err-names.ensures.1
    (by_law (inputs-is c.args.tokens.now)
    (goes _ c.in_ok-number.ensures
    (goes _ c.in_ok-word.ensures
    (goes _ c.in_ok-name.ensures
    (goes _ c.in_ok-bracket.ensures
    (stops _ c.in_err-names.ensures))))))

pub returns : goal.returns
returns c =
    by_law (inputs-is c.args.tokens.now)
    (goes _ c.in_ok-number.ensures
    (goes _ c.in_ok-word.ensures
    (goes _ c.in_ok-name.ensures
    (goes _ c.in_ok-bracket.ensures
    (goes _ c.in_ok-names.ensures
    c.list.ensures)))))
