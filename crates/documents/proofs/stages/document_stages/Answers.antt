-- The bytes and the syntax of the document, then its rules.
use mathlib.Core.Path.{refl}
use Rattle.lexis.specs.Lexer.{lex}
use Rattle.lists.proofs.ListStages.{written-length}
use Rattle.documents.proofs.BothStages.{read-document, document-stops, both_under}
use Rattle.documents.proofs.stages.document_stages.Goals as goal

pub invariant_of-source : goal.invariant_of-source
invariant_of-source c = let r = c.in-Ok.ensures in
    let d = read-document c.args.doc.now c.args.work2.now _ _ r.room.0 c.requires.work_words_in_bounds.0 r.value refl r.recorded r.room in
    record { holds = d.table }

pub rules_stage-requires : goal.rules_stage-requires
rules_stage-requires c = let r = c.in-Ok.ensures in
    record {
      list_passed = c.requires.list_passed;
      document_read = read-document c.args.doc.now c.args.work2.now _ _ r.room.0 c.requires.work_words_in_bounds.0 r.value refl r.recorded r.room;
      records_room = c.requires.work_words_in_bounds.1;
    }

pub returns-in-Ok : goal.returns-in-Ok
returns-in-Ok c = record {
  under_done = c.rules_stage.ensures;
  work2_len_unchanged = written-length (lex c.args.doc.now) c.args.work2.now _ c.read.ensures.recorded;
}

pub returns-in-Err : goal.returns-in-Err
returns-in-Err c = let stops = document-stops c.requires.list_passed.headers c.args.doc.now c.in-Err.ensures.value refl in
    record {
      under_done = rw c.refused.ensures (both_under c.args.list.now.tokens.text.now c.args.doc.now c.requires.list_passed.stages stops);
      work2_len_unchanged = written-length (lex c.args.doc.now) c.args.work2.now _ c.read.ensures.recorded;
    }
