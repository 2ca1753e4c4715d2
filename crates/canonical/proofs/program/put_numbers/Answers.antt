-- The four numbers, one after another.
use mathlib.Core.Path.{◌∙◌}
use borrow.Author.Rules.{rules}
use Rattle.writing.proofs.Putting.{wrote-stores}
use Rattle.canonical.proofs.Shown.{numbers-stored}
use Rattle.canonical.proofs.program.put_numbers.Goals as goal

pub returns : goal.returns
returns c =
    let first = rw (c.new-writer.ensures.0, c.new-writer.ensures.1) at (wrote-stores c.put_number_then.ensures) in
    let p = numbers-stored c.args.a c.args.out.now first (wrote-stores c.put_number_then-2.ensures)
    (wrote-stores c.put_number_then-3.ensures) (wrote-stores c.put_number_then-4.ensures) in
    let same = c.put_number_then-4.ensures.same ∙ c.put_number_then-3.ensures.same ∙ c.put_number_then-2.ensures.same ∙ c.put_number_then.ensures.same in
    let last = p.1 in
    record { value = p.0; out_after = search (rules, last) }
