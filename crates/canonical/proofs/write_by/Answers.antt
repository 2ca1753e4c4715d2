-- The canonical text is put into the buffer, then copied where it keeps the limits and the output holds it, or put again where the buffer does not.
use Prim.Native.Nat.{ℕ}
use lib.ListN.{length-replicate}
use borrow.Author.Rules.{rules}
use mathlib.Core.Path.{refl, sym, ◌∙◌}
use native.Mathlib.Omega.{arith}
use Rattle.canonical.proofs.CanonStages.{put-asked, put-ensured, few, too_large, too_short, put-again, copied}
use Rattle.canonical.proofs.write_by.Goals as goal

pub put_document-size-requires : goal.put_document-size-requires
put_document-size-requires g c = let p = put-asked c.requires.texts_kept c.requires.records_words_in_bounds in
    record { ranged = p.0; readable_ops = p.1.0; ranged_2 = p.1.1.0; calls_le_max_calls = p.1.1.1 }

pub returns-then-not-keeps_limits : goal.returns-then-not-keeps_limits
returns-then-not-keeps_limits g c = let w = put-ensured c.requires.texts_kept c.put_document-size.ensures in
    too_large c.requires.texts_kept c.args.out.now w (sym c.keeps_limits.ensures ∙ c.if-not-keeps_limits.true) c.refused.ensures

pub overflow_cast-detail : goal.overflow_cast-detail
overflow_cast-detail g c = let kept = sym c.keeps_limits.ensures ∙ c.if-not-keeps_limits.false in
    record { fits = omega (arith, few c.put_document-size.result kept) }

pub returns-then-out-end : goal.returns-then-out-end
returns-then-out-end g c = let w = put-ensured c.requires.texts_kept c.put_document-size.ensures in
    let kept = sym c.keeps_limits.ensures ∙ c.if-not-keeps_limits.false in
    too_short c.requires.texts_kept c.args.out.now w kept c.if-out-end.true c.refused-then-out-end.ensures

pub put_document-requires : goal.put_document-requires
put_document-requires g c = let p = put-asked c.requires.texts_kept c.requires.records_words_in_bounds in
    record { ranged = p.0; readable_ops = p.1.0; ranged_2 = p.1.1.0; calls_le_max_calls = p.1.1.1 }

pub returns-then-end : goal.returns-then-end
returns-then-end g c = let w = put-ensured c.requires.texts_kept c.put_document-size.ensures in
    let kept = sym c.keeps_limits.ensures ∙ c.if-not-keeps_limits.false in
    put-again c.requires.texts_kept c.args.out.now w kept c.if-out-end.false (put-ensured c.requires.texts_kept c.put_document.ensures)
    c.accepted.ensures

pub returns : goal.returns
returns g c = let w = put-ensured c.requires.texts_kept c.put_document-size.ensures in
    let kept = sym c.keeps_limits.ensures ∙ c.if-not-keeps_limits.false in
    let p = rw (c.new.ensures.0, c.new.ensures.1) at c.put_bytes.ensures.bytes in
    let same = c.put_bytes.ensures.same in
    copied c.requires.texts_kept c.args.out.now w kept c.if-out-end.false (omega (arith, c.if-end.false, length-replicate {A = ℕ} g.row.BUFFER 0))
    refl (search (rules, p, same)) c.accepted-2.ensures

pub whole_as_slice-put_document : goal.whole_as_slice-put_document
whole_as_slice-put_document g c = omega (arith, c.requires.buffer_bound)

pub shared_whole_as_front-put_bytes : goal.shared_whole_as_front-put_bytes
shared_whole_as_front-put_bytes g c = (c.if-end.false, omega (arith, c.requires.buffer_bound))
