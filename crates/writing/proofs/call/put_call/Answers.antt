-- The parts of a call under its header, one after the other.
use mathlib.Core.Path.{refl}
use native.Mathlib.Omega.{arith}
use Rattle.lexis.specs.Kind as Kind
use Rattle.lists.specs.Reading.{result_type}
use Rattle.documents.proofs.DirectoryEntries.{takes}
use Rattle.documents.proofs.Judgements.{parts, names-operation, arguments-are}
use Rattle.writing.proofs.CallWrites.{call-with, call-inside, call-after, under, puts-call}
use Rattle.writing.proofs.call.put_call.Goals as goal

pub overflow_add-equal : goal.overflow_add-equal
overflow_add-equal c = omega (arith, c.find-equal.ensures.1, c.requires.dn_le_max_tokens)

pub returns-then-doc-equal : goal.returns-then-doc-equal
returns-then-doc-equal c = λ hs h k us p o q e r g z.
    absurd (omega (
      arith,
      c.if-doc-equal.true,
      call-inside c.args.doc.now.text.now c.args.doc.now.table.now c.args.doc.now.count c.args.at
          c.find-equal.result c.find-equal.ensures.0 c.find-equal.ensures.1 c.find-equal.ensures.2 r,
    ))

pub overflow_add-equal-2 : goal.overflow_add-equal-2
overflow_add-equal-2 c = omega (arith, c.if-doc-equal.false, c.requires.dn_le_max_tokens)

pub overflow_add-equal-3 : goal.overflow_add-equal-3
overflow_add-equal-3 c = omega (arith, c.if-doc-equal.false, c.requires.dn_le_max_tokens)

pub returns : goal.returns
returns c = λ hs h k us p o q g r n v.
    let w = call-with c.args.doc.now.text.now c.args.doc.now.table.now c.args.doc.now.count c.args.at c.find-equal.result c.find-equal.ensures.0
    c.find-equal.ensures.1 c.find-equal.ensures.2 r in
    let u = under hs k g n v in
    let b = c.put_arguments-close.ensures.meaning h.params k.args (parts w).behind p.values (takes c.callee_at-callee.ensures o q) (arguments-are w)
    u.placed u.values in (
      puts-call u (names-operation w) (c.put_left.ensures k.left _ (result_type h.results) p.left w.leads refl u.left)
          c.put_operation.ensures b.0 (c.put_mark.ensures Kind.syntactic) (c.put_spaced.ensures Kind.syntactic),
      call-after c.args.doc.now.text.now c.args.doc.now.table.now c.args.doc.now.count c.args.at c.find-equal.result c.find-equal.ensures.0
          c.find-equal.ensures.1 c.find-equal.ensures.2 r c.put_arguments-close.result c.after_call.result b.1 b.2
          c.after_call.ensures,
    )
