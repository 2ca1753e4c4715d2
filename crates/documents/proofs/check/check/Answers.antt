-- The guards, then all stages, then the work areas are cleared.
use mathlib.Core.Path.{sym, ◌∙◌}
use Rattle.documents.proofs.Checks.{refused-room, refused-list, refused-document, ended}
use Rattle.documents.proofs.check.check.Goals as goal

pub returns-then-not-rooms_serve : goal.returns-then-not-rooms_serve
returns-then-not-rooms_serve c = let p = refused-room c.args.list.now c.args.doc.now c.args.work1.now c.args.work2.now c.args.calls.now c.args.wires.now
    (sym c.rooms_serve.ensures ∙ c.if-not-rooms_serve.true) c.short_room.ensures in record { value = p.0; calls_after = p.1.0; wires_after = p.1.1.0; work1_after = p.1.1.1.0; work2_after = p.1.1.1.1 }

pub returns-then-not-text_fits : goal.returns-then-not-text_fits
returns-then-not-text_fits c = let p = refused-list c.args.list.now c.args.doc.now c.args.work1.now c.args.work2.now c.args.calls.now c.args.wires.now
    (sym c.rooms_serve.ensures ∙ c.if-not-rooms_serve.false)
    (sym c.text_fits.ensures ∙ c.if-not-text_fits.true) c.long_text.ensures in record { value = p.0; calls_after = p.1.0; wires_after = p.1.1.0; work1_after = p.1.1.1.0; work2_after = p.1.1.1.1 }

pub returns-then-not-text_fits-2 : goal.returns-then-not-text_fits-2
returns-then-not-text_fits-2 c = let p = refused-document c.args.list.now c.args.doc.now c.args.work1.now c.args.work2.now c.args.calls.now c.args.wires.now
    (sym c.rooms_serve.ensures ∙ c.if-not-rooms_serve.false)
    (sym c.text_fits.ensures ∙ c.if-not-text_fits.false)
    (sym c.text_fits-2.ensures ∙ c.if-not-text_fits-2.true) c.long_text-then-not-text_fits-2.ensures in record { value = p.0; calls_after = p.1.0; wires_after = p.1.1.0; work1_after = p.1.1.1.0; work2_after = p.1.1.1.1 }

pub returns : goal.returns
returns c = let p = ended c.args.list.now c.args.doc.now c.args.work1.now c.args.work2.now c.args.calls.now c.args.wires.now
    (sym c.rooms_serve.ensures ∙ c.if-not-rooms_serve.false)
    (sym c.text_fits.ensures ∙ c.if-not-text_fits.false)
    (sym c.text_fits-2.ensures ∙ c.if-not-text_fits-2.false)
    c.both_answer-r.ensures.ended c.clear.ensures c.both_answer-r.ensures.work1_len_unchanged c.clear-2.ensures c.both_answer-r.ensures.work2_len_unchanged in record { value = p.0; calls_after = p.1.0; wires_after = p.1.1.0; work1_after = p.1.1.1.0; work2_after = p.1.1.1.1 }
