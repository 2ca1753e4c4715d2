-- The argument is refused, or binds the one parameter of its name.
use Prim.Native.Nat.{◌+◌}
use native.Mathlib.Omega.{arith}
use Rattle.syntax.specs.Table.{token_at}
use Rattle.documents.proofs.DirectoryEntries.{number-as}
use Rattle.documents.proofs.Aims.{aim-unknown, aim-again, aim-name}
use Rattle.documents.proofs.arguments.named.Goals as goal

pub returns-in_default-clause-meaning : goal.returns-in_default-clause-meaning
returns-in_default-clause-meaning c = let label = token_at c.args.doc.now.text.now c.args.doc.now.table.now c.args.t.at in
    λ ps xs v d k. aim-unknown d k label v (number-as c.bytes_at-w.ensures c.in_default.ensures.numbers) (c.args.t.at + 2) (omega arith)

pub returns-then-holds-clause-meaning : goal.returns-then-holds-clause-meaning
returns-then-holds-clause-meaning c = let label = token_at c.args.doc.now.text.now c.args.doc.now.table.now c.args.t.at in
    λ ps xs v d k. aim-again d k label v (number-as c.bytes_at-w.ensures c.in-Some.ensures.numbers) (c.args.t.at + 2) c.in-Some.ensures.upper_bound c.holds.ensures c.if-holds.true

pub returns-clause-meaning : goal.returns-clause-meaning
returns-clause-meaning c = let label = token_at c.args.doc.now.text.now c.args.doc.now.table.now c.args.t.at in
    λ ps xs v d k. aim-name d k label v (number-as c.bytes_at-w.ensures c.in-Some.ensures.numbers) (c.args.t.at + 2) c.in-Some.ensures.upper_bound c.holds.ensures c.if-holds.false
