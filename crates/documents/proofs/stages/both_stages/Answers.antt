-- The stages of the list, then those of the document.
use mathlib.Core.Path.{refl}
use Rattle.std.proofs.lemmas.Result.{err_from_is_err_and}
use Rattle.documents.proofs.BothStages.{list-stopped, list-directed}
use Rattle.documents.proofs.stages.both_stages.Goals as goal

pub list_stages-requires : goal.list_stages-requires
list_stages-requires c = record { text_len_bound = (c.requires.list_len_bound.0, c.requires.work_words_in_bounds.0); served = c.requires.served }

pub invariant_of-directory : goal.invariant_of-directory
invariant_of-directory c = record { holds = c.in_ok-listed.ensures.table }

pub invariant_of-directory-2 : goal.invariant_of-directory-2
invariant_of-directory-2 c = record { directed = ∣ list-directed c.in_ok-listed.ensures ∣₁ }

pub document_stages-requires : goal.document_stages-requires
document_stages-requires c = record {
  list_passed = c.in_ok-listed.ensures;
  doc_len_bound = c.requires.list_len_bound.1;
  work_words_in_bounds = c.requires.work_words_in_bounds.1;
}

pub returns : goal.returns
returns c = record {
  both_done = c.document_stages.ensures.under_done;
  work1_len_unchanged = c.list_stages.auto.work;
  work2_len_unchanged = c.document_stages.ensures.work2_len_unchanged;
}

pub returns-in_err-listed : goal.returns-in_err-listed
returns-in_err-listed c = let p = err_from_is_err_and c.from_residual.result c.from_residual.ensures.1 in
    record {
      both_done = rw (p.1, p.2) (list-stopped c.args.list.now c.args.doc.now c.in_err-listed.ensures);
      work1_len_unchanged = c.list_stages.auto.work;
      work2_len_unchanged = refl;
    }
