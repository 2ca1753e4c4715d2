-- The number that the index has for the name.
use mathlib.Core.Path.{◌∙◌}
use Rattle.syntax.specs.Table.{token_at}
use Rattle.lists.specs.Found.{found}
use Rattle.lists.proofs.NameMarks.{looked-up, found-none, found-some}
use Rattle.lists.proofs.directory.find.Goals as goal

pub returns-in_err-k : goal.returns-in_err-k
returns-in_err-k c = λ k hs m.
    let t = token_at c.args.doc.now.text.now c.args.doc.now.table.now c.args.t in
    c.from_residual.ensures ∙ found-none (found hs t) (looked-up hs t (rw c.bytes_at.ensures at c.in_err-k.ensures.looks_up) m)

pub returns : goal.returns
returns c = λ k hs m.
    let t = token_at c.args.doc.now.text.now c.args.doc.now.table.now c.args.t in
    found-some (found hs t) _ (looked-up hs t (rw c.bytes_at.ensures at c.in_ok-k.ensures.looks_up) m) c.in_ok-k.ensures.nonzero
