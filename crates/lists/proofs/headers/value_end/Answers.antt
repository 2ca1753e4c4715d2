-- What the reader of values says.
use mathlib.Core.Path.{refl}
use Rattle.lists.proofs.GivenDefaults.{value-ends, value-never}
use Rattle.lists.proofs.headers.value_end.Goals as goal

pub returns-in_default : goal.returns-in_default
returns-in_default c = λ x us h. absurd (value-never _ _ _ _ c.in_default.ensures x us refl h)

pub returns : goal.returns
returns c =
    let s = c.args.tokens.now in
    λ x us h. value-ends s.text.now s.table.now s.count c.args.v _ c.in-Ok.ensures refl x us h
