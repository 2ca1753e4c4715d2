-- The argument binds, or it is refused.
use mathlib.Core.Path.{refl, subst}
use Rattle.documents.specs.Tallies.{Serves}
use Rattle.documents.proofs.Tallying.{refused-to, onward, onward-from}
use Rattle.documents.proofs.arguments.with_argument.Goals as goal

pub returns-in-Ok : goal.returns-in-Ok
returns-in-Ok c = record {
  range = onward-from c.aim_of-a.ensures.range.value c.with_bound.ensures.range;
  meaning = λ ps xs x us d h k.
      let w = c.aim_of-a.ensures.meaning ps xs x us d h k in
      c.with_bound.ensures.meaning ps xs x w.tree us d w.reads k (subst (Serves ps xs x w.tree _) c.in-Ok.is w.aimed.serves) w.aimed.unnamed;
}

pub returns-in-Err : goal.returns-in-Err
returns-in-Err c = let doc = c.args.doc.now in
    let end = c.value_end-end.ensures in
    record {
      range = onward-from c.aim_of-a.ensures.range.value (onward c.grown.ensures end.range.0 end.range.1);
      meaning = λ ps xs x us d h k.
          let w = c.aim_of-a.ensures.meaning ps xs x us d h k in
          refused-to doc.text.now doc.table.now doc.count c.grown.ensures (end.meaning w.tree us w.reads) k
          (subst (Serves ps xs x w.tree _) c.in-Err.is w.aimed.serves) w.aimed.unnamed (c.refusal_at-fault.ensures w.inside) refl;
    }
