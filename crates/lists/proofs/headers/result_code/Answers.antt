-- One result has the number of its type.
use mathlib.Core.Path.{sym, ◌∙◌}
use native.Mathlib.Omega.{arith}
use Rattle.lists.proofs.ResultCodes.{several-are, one-is}
use Rattle.lists.proofs.headers.result_code.Goals as goal

pub returns-then-count-ne1 : goal.returns-then-count-ne1
returns-then-count-ne1 c = λ rs us h l. several-are rs (λ z. c.if-count-ne1.true (l ∙ z))

pub code-requires : goal.code-requires
code-requires c = (c.type_of.ensures.range.kinds, omega (arith, c.type_of.ensures.range.pairs, c.requires.0))

pub returns : goal.returns
returns c =
    let s = c.args.tokens.now in
    λ rs us h l. one-is s.text.now s.table.now s.count c.args.at h (sym l ∙ c.if-count-ne1.false)
    c.type_of.ensures.meaning c.code.ensures
