use mathlib.Core.Path.{refl, sym, subst, ◌∙◌}
use Prim.Native.Nat.{ℕ}
use native.Mathlib.Omega.{arith}
use native.Mathlib.Nat.{zero-add}
use lib.ListN.{length}
use Rattle.documents.specs.Judged.{Readable}
use Rattle.writing.specs.Layout.{calls_pieces}
use Rattle.writing.specs.Writing.{PutsCall}
use Rattle.writing.proofs.CallWrites.{ahead-next, ahead-end, ahead-over}
use Rattle.writing.proofs.call.put_calls.Goals as goal

pub loop-i-init : goal.loop-i-init
loop-i-init c = λ hs cs us ps r k f e.
    record {
      calls = cs;
      plans = ps;
      are = k;
      counted = r.counted ∙ sym (zero-add (length cs));
      called = r.called;
      clean = f;
      planned = e;
      same = refl;
      bytes = λ y. refl;
      place = λ y. refl;
    }

pub returns-then-not-keeps_limits : goal.returns-then-not-keeps_limits
returns-then-not-keeps_limits c = λ hs cs us ps r h f e.
    ahead-over c.args.list.now c.args.words.now c.args.records.now c.args.doc.now c.args.calls hs us (calls_pieces hs ps)
    c.args.out.now c.loop-i.i c.loop-i.at (sym c.keeps_limits.ensures ∙ c.if-not-keeps_limits.true) (c.loop-i.invariant hs cs us ps r h f e)

pub operation_of-requires : goal.operation_of-requires
operation_of-requires c = (omega (arith, c.loop-i-test.true, c.requires.calls_le_max_calls.0), c.requires.calls_le_max_calls.1)

pub put_call-at-requires-clause-readable : goal.put_call-at-requires-clause-readable
put_call-at-requires-clause-readable c = subst (Readable c.args.words.now c.args.list.now.count) (sym c.operation_of.ensures)
    (c.requires.readable_ops.named c.loop-i.i c.loop-i-test.true)

pub loop-i-preserved : goal.loop-i-preserved
loop-i-preserved c = λ hs cs us ps r h f e.
    ahead-next c.args.list.now c.args.words.now c.args.records.now c.args.doc.now c.args.calls hs us (calls_pieces hs ps)
    c.args.out.now r.operations r.clean c.loop-i.i c.loop-i.at c.loop-i-test.true
    (subst (λ (j : ℕ). PutsCall c.args.list.now c.args.words.now j c.args.doc.now c.loop-i.at c.loop-i.out c.put_call-at.new.out c.put_call-at.result)
    c.operation_of.ensures c.put_call-at.ensures) (c.loop-i.invariant hs cs us ps r h f e)

pub returns : goal.returns
returns c = λ hs cs us ps r h f e.
    ahead-end c.args.list.now c.args.words.now c.args.records.now c.args.doc.now c.args.calls hs us (calls_pieces hs ps)
    c.args.out.now c.loop-i.i c.loop-i.at c.loop-i-test.false (c.loop-i.invariant hs cs us ps r h f e)
