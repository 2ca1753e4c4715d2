-- `operations::header` meets its contract: its steps are those of `header_is`. Assumes nothing.
use Rattle.syntax.proofs.Headers.{header_is}
use Rattle.syntax.proofs.Chain.{exits, by_law, goes, stops}
use Rattle.syntax.proofs.operations.header.Goals as goal

pub returns-in_err-name : goal.returns-in_err-name
returns-in_err-name c =
    exits c.args.tokens.now _ _ c.from_residual.ensures.1
    (by_law (header_is c.args.tokens.now c.args.at) (stops _ c.in_err-name.ensures))

pub returns-in_err-bracket : goal.returns-in_err-bracket
returns-in_err-bracket c =
    exits c.args.tokens.now _ _ c.from_residual-in_err-bracket.ensures.1
    (by_law (header_is c.args.tokens.now c.args.at) (goes _ c.in_ok-name.ensures (stops _ c.in_err-bracket.ensures)))

pub returns-in_err-parameters : goal.returns-in_err-parameters
returns-in_err-parameters c =
    exits c.args.tokens.now _ _ c.from_residual-in_err-parameters.ensures.1
    (by_law (header_is c.args.tokens.now c.args.at)
    (goes _ c.in_ok-name.ensures
    (goes _ c.in_ok-bracket.ensures
    (stops _ c.in_err-parameters.ensures))))

pub returns-in_err-arrow : goal.returns-in_err-arrow
returns-in_err-arrow c =
    exits c.args.tokens.now _ _ c.from_residual-in_err-arrow.ensures.1
    (by_law (header_is c.args.tokens.now c.args.at)
    (goes _ c.in_ok-name.ensures
    (goes _ c.in_ok-bracket.ensures
    (goes _ c.in_ok-parameters.ensures
    (stops _ c.in_err-arrow.ensures)))))

pub returns-in_err-second : goal.returns-in_err-second
returns-in_err-second c =
    exits c.args.tokens.now _ _ c.from_residual-in_err-second.ensures.1
    (by_law (header_is c.args.tokens.now c.args.at)
    (goes _ c.in_ok-name.ensures
    (goes _ c.in_ok-bracket.ensures
    (goes _ c.in_ok-parameters.ensures
    (goes _ c.in_ok-arrow.ensures
    (stops _ c.in_err-second.ensures))))))

pub returns-in_err-results : goal.returns-in_err-results
returns-in_err-results c =
    exits c.args.tokens.now _ _ c.from_residual-in_err-results.ensures.1
    (by_law (header_is c.args.tokens.now c.args.at)
    (goes _ c.in_ok-name.ensures
    (goes _ c.in_ok-bracket.ensures
    (goes _ c.in_ok-parameters.ensures
    (goes _ c.in_ok-arrow.ensures
    (goes _ c.in_ok-second.ensures
    (stops _ c.in_err-results.ensures)))))))

pub returns : goal.returns
returns c =
    by_law (header_is c.args.tokens.now c.args.at)
    (goes _ c.in_ok-name.ensures
    (goes _ c.in_ok-bracket.ensures
    (goes _ c.in_ok-parameters.ensures
    (goes _ c.in_ok-arrow.ensures
    (goes _ c.in_ok-second.ensures
    (goes _ c.in_ok-results.ensures
    c.list-2.ensures))))))
