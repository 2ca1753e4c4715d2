-- The guards, then all stages, then the work areas are cleared.
use mathlib.Core.Path.{refl, sym, ◌∙◌}
use lib.ListN.{length}
use borrow.Author.Tests.{leb-true}
use Rattle.lexis.specs.Sizes.{max_text}
use Rattle.lists.proofs.Guards.{guard-room, guard-list, guard-document}
use Rattle.documents.proofs.Checks.{areas-parts}
use Rattle.orders.specs.Answer.{order_stages, judged}
use Rattle.orders.proofs.Judged.{refused, ended}
use Rattle.orders.proofs.order.Goals as goal

pub returns-then-not-areas_serve : goal.returns-then-not-areas_serve
unfolding judged
returns-then-not-areas_serve c = let p = refused c.args.list.now c.args.doc.now c.args.work1.now c.args.work2.now c.args.order.now
    (guard-room c.args.list.now c.args.doc.now (order_stages c.args.list.now c.args.doc.now c.args.order.now)
    (sym c.areas_serve.ensures ∙ c.if-not-areas_serve.true)) refl c.short_room.ensures in record { value = p.0; work1_after = p.1.0; work2_after = p.1.1 }

pub returns-then-not-text_fits : goal.returns-then-not-text_fits
unfolding judged
returns-then-not-text_fits c = let p = refused c.args.list.now c.args.doc.now c.args.work1.now c.args.work2.now c.args.order.now
    (guard-list c.args.list.now c.args.doc.now (order_stages c.args.list.now c.args.doc.now c.args.order.now)
    (sym c.areas_serve.ensures ∙ c.if-not-areas_serve.false)
    (sym c.text_fits.ensures ∙ c.if-not-text_fits.true)) refl c.long_text.ensures in record { value = p.0; work1_after = p.1.0; work2_after = p.1.1 }

pub returns-then-not-text_fits-2 : goal.returns-then-not-text_fits-2
unfolding judged
returns-then-not-text_fits-2 c = let p = refused c.args.list.now c.args.doc.now c.args.work1.now c.args.work2.now c.args.order.now
    (guard-document c.args.list.now c.args.doc.now (order_stages c.args.list.now c.args.doc.now c.args.order.now)
    (sym c.areas_serve.ensures ∙ c.if-not-areas_serve.false)
    (sym c.text_fits.ensures ∙ c.if-not-text_fits.false)
    (sym c.text_fits-2.ensures ∙ c.if-not-text_fits-2.true)) refl c.long_text-then-not-text_fits-2.ensures in record { value = p.0; work1_after = p.1.0; work2_after = p.1.1 }

pub order_stages-r-requires : goal.order_stages-r-requires
order_stages-r-requires c = let l = leb-true (length c.args.list.now) max_text (sym c.text_fits.ensures ∙ c.if-not-text_fits.false) in
    let d = leb-true (length c.args.doc.now) max_text (sym c.text_fits-2.ensures ∙ c.if-not-text_fits-2.false) in
    let w = sym c.areas_serve.ensures ∙ c.if-not-areas_serve.false in
    record { list_len_bound = (l, d); work_words_in_bounds = areas-parts (length c.args.work1.now) (length c.args.work2.now) w }

pub returns : goal.returns
returns c = let p = ended c.args.list.now c.args.doc.now c.args.work1.now c.args.work2.now c.args.order.now
    (sym c.areas_serve.ensures ∙ c.if-not-areas_serve.false)
    (sym c.text_fits.ensures ∙ c.if-not-text_fits.false)
    (sym c.text_fits-2.ensures ∙ c.if-not-text_fits-2.false)
    c.order_stages-r.ensures.value c.clear.ensures c.order_stages-r.ensures.work1_len_unchanged c.clear-2.ensures c.order_stages-r.ensures.work2_len_unchanged in record { value = p.0; work1_after = p.1.0; work2_after = p.1.1 }
