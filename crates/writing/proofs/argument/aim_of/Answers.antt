-- With a label, or without one.
use mathlib.Core.Path.{sym, ◌∙◌}
use native.Mathlib.Omega.{arith}
use Rattle.syntax.specs.Table.{token_at}
use Rattle.syntax.proofs.Lists.{label-stands}
use Rattle.documents.specs.Tallies.{NumberOf}
use Rattle.documents.proofs.DirectoryEntries.{number-as}
use Rattle.writing.proofs.ArgumentPlaces.{aims-named, aims-placed}
use Rattle.writing.proofs.argument.aim_of.Goals as goal

pub bytes_at-name-requires : goal.bytes_at-name-requires
bytes_at-name-requires c =
    let l = label-stands c.args.doc.now.text.now c.args.doc.now.table.now c.args.doc.now.count c.args.w.at (sym c.is_label.ensures ∙ c.if-is_label.true) in
    record { i_lt_n = omega (arith, l) }

pub overflow_add-result : goal.overflow_add-result
overflow_add-result c = omega (arith, c.args.doc.now.holds.room, c.requires.at_le_dn)

pub returns-then-is_label : goal.returns-then-is_label
returns-then-is_label c = let q = sym c.is_label.ensures ∙ c.if-is_label.true in
    let l = label-stands c.args.doc.now.text.now c.args.doc.now.table.now c.args.doc.now.count c.args.w.at q in
    let f : NumberOf c.args.callee.now.list.text.now c.args.callee.now.list.table.now c.args.callee.now.words.now c.args.callee.now.operation
    (token_at c.args.doc.now.text.now c.args.doc.now.table.now c.args.w.at).bytes c.unwrap_or.result =
    number-as c.bytes_at-name.ensures (rw c.unwrap_or.ensures c.number_of-p.ensures.numbers) in
    record {
      range = (omega arith, omega (arith, l), omega (arith, f.within));
      meaning = λ ps x us d h. aims-named c.args.doc.now.text.now c.args.doc.now.table.now c.args.doc.now.count c.args.w.at h d q c.args.w.index
          c.unwrap_or.result f;
    }

pub returns : goal.returns
returns c = let q = sym c.is_label.ensures ∙ c.if-is_label.false in
    record {
      range = (omega arith, omega (arith, c.requires.at_le_dn), omega arith);
      meaning = λ ps x us d h. aims-placed c.args.doc.now.text.now c.args.doc.now.table.now c.args.doc.now.count c.args.w.at h ps q c.args.w.index;
    }
