-- The place is that of the token.
use mathlib.Core.Path.{ap, ◌∙◌}
use native.Mathlib.Omega.{arith}
use Rattle.std.proofs.Math.Option.{some}
use Rattle.lists.specs.Fault.{fault}
use Rattle.syntax.specs.Table.{token_at}
use Rattle.documents.proofs.arguments.fault_at.Goals as goal

pub returns-then-tokens-at : goal.returns-then-tokens-at
returns-then-tokens-at c = λ l. absurd (omega (arith, l, c.if-tokens-at.true))

pub returns : goal.returns
unfolding token_at
returns c = λ l. c.coded.ensures ∙ ap (λ p. some (fault c.args.code p)) c.start_at.ensures
