-- The guards, then all stages, then the work areas are cleared.
use mathlib.Core.Path.{sym, ◌∙◌}
use lib.ListN.{length}
use borrow.Author.Tests.{leb-true}
use Rattle.lexis.specs.Sizes.{max_text}
use Rattle.documents.proofs.Checks.{areas-parts}
use Rattle.canonical.proofs.CanonStages.{refused-room, refused-list, refused-document, ended}
use Rattle.canonical.proofs.canon.Goals as goal

pub returns-then-not-areas_serve : goal.returns-then-not-areas_serve
returns-then-not-areas_serve c = let p = refused-room c.args.list.now c.args.doc.now c.args.work1.now c.args.work2.now c.args.out.now
    (sym c.areas_serve.ensures ∙ c.if-not-areas_serve.true) c.short_room.ensures in record { value = p.0; out_after = p.1.0; work1_after = p.1.1.0; work2_after = p.1.1.1 }

pub returns-then-not-text_fits : goal.returns-then-not-text_fits
returns-then-not-text_fits c = let p = refused-list c.args.list.now c.args.doc.now c.args.work1.now c.args.work2.now c.args.out.now
    (sym c.areas_serve.ensures ∙ c.if-not-areas_serve.false)
    (sym c.text_fits.ensures ∙ c.if-not-text_fits.true) c.long_text.ensures in record { value = p.0; out_after = p.1.0; work1_after = p.1.1.0; work2_after = p.1.1.1 }

pub returns-then-not-text_fits-2 : goal.returns-then-not-text_fits-2
returns-then-not-text_fits-2 c = let p = refused-document c.args.list.now c.args.doc.now c.args.work1.now c.args.work2.now c.args.out.now
    (sym c.areas_serve.ensures ∙ c.if-not-areas_serve.false)
    (sym c.text_fits.ensures ∙ c.if-not-text_fits.false)
    (sym c.text_fits-2.ensures ∙ c.if-not-text_fits-2.true) c.long_text-then-not-text_fits-2.ensures in record { value = p.0; out_after = p.1.0; work1_after = p.1.1.0; work2_after = p.1.1.1 }

pub text_stages-r-requires : goal.text_stages-r-requires
text_stages-r-requires c = let r = areas-parts (length c.args.work1.now) (length c.args.work2.now)
    (sym c.areas_serve.ensures
    ∙ c.if-not-areas_serve.false)
    in
    record {
      list_len_bound = (
        leb-true (length c.args.list.now) max_text
            (sym c.text_fits.ensures ∙ c.if-not-text_fits.false),
        leb-true (length c.args.doc.now) max_text
            (sym c.text_fits-2.ensures ∙ c.if-not-text_fits-2.false),
      );
      work_words_in_bounds = r;
    }

pub returns : goal.returns
returns c = let p = ended c.args.list.now c.args.doc.now c.args.work1.now c.args.work2.now c.args.out.now
    (sym c.areas_serve.ensures ∙ c.if-not-areas_serve.false)
    (sym c.text_fits.ensures ∙ c.if-not-text_fits.false)
    (sym c.text_fits-2.ensures ∙ c.if-not-text_fits-2.false)
    c.text_stages-r.ensures.wrote c.clear.ensures c.text_stages-r.ensures.work1_len_unchanged c.clear-2.ensures c.text_stages-r.ensures.work2_len_unchanged in record { value = p.0; out_after = p.1.0; work1_after = p.1.1.0; work2_after = p.1.1.1 }
