-- `list::result` meets its contract: its steps are those of `result-is`. Assumes nothing.
use Rattle.lexis.specs.Sizes.{max_brackets}
use Rattle.syntax.proofs.Lists.{result-is}
use Rattle.syntax.proofs.Chain.{exits, by_law, goes, stops}
use Rattle.syntax.proofs.list.result.Goals as goal

pub returns-in_err-colon : goal.returns-in_err-colon
returns-in_err-colon c =
    exits c.args.tokens.now _ _ c.from_residual.ensures.1
    (by_law (result-is c.args.tokens.now c.args.at max_brackets) (stops _ c.in_err-colon.ensures))

pub returns-in_err-ty : goal.returns-in_err-ty
returns-in_err-ty c =
    exits c.args.tokens.now _ _ c.from_residual-in_err-ty.ensures.1
    (by_law (result-is c.args.tokens.now c.args.at max_brackets) (goes _ c.in_ok-colon.ensures (stops _ c.in_err-ty.ensures)))

pub returns : goal.returns
returns c = by_law (result-is c.args.tokens.now c.args.at max_brackets) (goes _ c.in_ok-colon.ensures (goes _ c.in_ok-ty.ensures c.type_at.ensures))
