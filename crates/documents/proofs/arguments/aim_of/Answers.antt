-- With a label, or without one.
use mathlib.Core.Path.{sym, ◌∙◌}
use native.Mathlib.Omega.{arith}
use Rattle.syntax.proofs.Lists.{label-stands}
use Rattle.documents.proofs.Aims.{aimed-named, aimed-placed}
use Rattle.documents.proofs.arguments.aim_of.Goals as goal

pub named-requires : goal.named-requires
named-requires c = let l = label-stands c.args.doc.now.text.now c.args.doc.now.table.now c.args.doc.now.count c.args.t.at (sym c.is_label.ensures ∙ c.if-is_label.true) in
    record { at_bound = l }

pub returns-then-is_label : goal.returns-then-is_label
returns-then-is_label c = let q = sym c.is_label.ensures ∙ c.if-is_label.true in
    let l = label-stands c.args.doc.now.text.now c.args.doc.now.table.now c.args.doc.now.count c.args.t.at q in
    record {
      range = c.named.ensures.range;
      meaning = λ ps xs x us d h k.
          aimed-named c.args.doc.now.text.now c.args.doc.now.table.now c.args.doc.now.count c.args.t.at ps xs h q c.named.ensures.place (omega (arith, l)) (λ v. c.named.ensures.meaning ps xs v d k);
    }

pub returns : goal.returns
returns c = let q = sym c.is_label.ensures ∙ c.if-is_label.false in
    record {
      range = c.positional.ensures.range;
      meaning = λ ps xs x us d h k.
          aimed-placed c.args.doc.now.text.now c.args.doc.now.table.now c.args.doc.now.count c.args.t.at ps xs h q c.positional.ensures.place
          (λ v. c.positional.ensures.meaning ps xs v d k);
    }
