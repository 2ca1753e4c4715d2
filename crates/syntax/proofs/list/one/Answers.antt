-- `list::one` meets its contract: one case of `reader` for each arm. Assumes nothing.
use Rattle.syntax.proofs.list.one.Goals as goal

pub returns-in-Name : goal.returns-in-Name
returns-in-Name c = rw c.in-Name.is c.expect.ensures

pub returns-in-Parameter : goal.returns-in-Parameter
returns-in-Parameter c = rw c.in-Parameter.is c.parameter.ensures

pub returns-in-Result : goal.returns-in-Result
returns-in-Result c = rw c.in-Result.is c.result.ensures

pub returns-in-Argument : goal.returns-in-Argument
returns-in-Argument c = rw c.in-Argument.is c.argument.ensures
