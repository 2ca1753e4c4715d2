use mathlib.Core.Path.{ap, ◌∙◌}
use Rattle.std.proofs.Math.Option.{some}
use Rattle.lists.specs.Fault.{fault}
use Rattle.syntax.specs.Table.{token_at}
use Rattle.documents.proofs.arguments.refusal_at.Goals as goal

pub returns : goal.returns
returns c = λ l.
    let ts = c.args.tokens.now in
    c.fault_at.ensures l ∙ ap (λ code. some (fault code (token_at ts.text.now ts.table.now c.args.at).start)) c.number.ensures
