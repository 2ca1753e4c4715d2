-- `list::parameter` meets its contract: its steps are those of `param_is`. Assumes nothing.
use Rattle.lexis.specs.Sizes.{max_brackets}
use Rattle.syntax.proofs.Lists.{param_is}
use Rattle.syntax.proofs.Chain.{exits, by_law, goes, stops, reaches}
use Rattle.syntax.proofs.list.parameter.Goals as goal

pub returns-in_err-next : goal.returns-in_err-next
returns-in_err-next c =
    exits c.args.tokens.now _ _ c.from_residual.ensures.1
    (by_law (param_is c.args.tokens.now c.args.at max_brackets) (stops _ c.in_err-next.ensures))

pub default-requires : goal.default-requires
default-requires c = reaches _ _ c.in_ok-next.ensures

pub returns : goal.returns
returns c = by_law (param_is c.args.tokens.now c.args.at max_brackets) (goes _ c.in_ok-next.ensures c.default.ensures)
