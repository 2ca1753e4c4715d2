-- The value fits, or the fault is at its first token.
use native.Mathlib.Omega.{arith}
use Rattle.lexis.specs.Sizes.{max_brackets}
use Rattle.documents.proofs.ArgumentFaults.{misfit-yes, misfit-no}
use Rattle.documents.proofs.DirectoryEntries.{parameter-at}
use Rattle.documents.proofs.Tallying.{bound-to, onward}
use Rattle.documents.proofs.arguments.with_bound.Goals as goal

pub returns-in-Some : goal.returns-in-Some
returns-in-Some c = let doc = c.args.doc.now in
    let fits = c.fits_parameter.ensures in
    let past = fits.range.past c.in-Some.is in
    record {
      range = onward c.grown.ensures (omega (arith, past)) (fits.range.inside c.in-Some.is);
      meaning = λ ps xs x v us d h k b u.
          let w = fits.meaning b.param v us (parameter-at d b.nth) h in
          bound-to doc.text.now doc.table.now doc.count c.grown.ensures (w.ends c.in-Some.is) k b u
          (misfit-yes v b.param.ty (w.fit c.in-Some.is) c.none.ensures) c.with-bound.ensures;
    }

pub returns : goal.returns
returns c = let doc = c.args.doc.now in
    let end = c.value_end-end.ensures in
    record {
      range = onward c.grown-2.ensures end.range.0 end.range.1;
      meaning = λ ps xs x v us d h k b u.
          let w = c.fits_parameter.ensures.meaning b.param v us (parameter-at d b.nth) h in
          bound-to doc.text.now doc.table.now doc.count c.grown-2.ensures (end.meaning v us h) k b u
          (misfit-no doc.text.now doc.table.now doc.count c.args.a.value max_brackets h b.param.ty (w.misfit c.in_default.is) c.refusal_at-fault.ensures)
          c.with-bound.ensures;
    }
