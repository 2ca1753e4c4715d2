-- The place before the one that the reader has reached, or the end where it has none.
use mathlib.Core.Path.{◌≡◌, refl, ap, ◌∙◌}
use Prim.Native.Nat.{ℕ, ◌+◌, ◌-◌}
use native.Mathlib.Omega.{arith}
use lib.ListN.{length}
use Rattle.syntax.specs.Table.{toks}
use Rattle.syntax.proofs.Chain.{passes, reaches}
use Rattle.documents.proofs.Items.{no-fault, left_at}
use Rattle.documents.proofs.Judgements.{arguments-small, arguments-tails}
use Rattle.documents.proofs.judging.closing.Goals as goal

pub returns-in_default : goal.returns-in_default
returns-in_default c = let ts = c.args.tokens.now in
    record { range = (omega arith, omega arith); meaning = λ xs us h. no-fault (length ts.text.now) ts.count c.in_default.ensures refl h }

pub overflow_sub-result : goal.overflow_sub-result
overflow_sub-result c = let l = passes arguments-small c.args.tokens.now c.in-Ok.ensures in
    omega (arith, l)

pub returns : goal.returns
returns c = let ts = c.args.tokens.now in
    let l = passes arguments-small ts c.in-Ok.ensures in
    let k = reaches _ _ c.in-Ok.ensures in
    let q : c.in-Ok.next ≡ c.in-Ok.next - 1 + 1 = omega (arith, l) in
    record {
      range = (omega (arith, l, k), omega (arith, k));
      meaning = λ xs us h. (
        left_at arguments-tails ts.text.now ts.table.now (length ts.text.now) ts.count c.args.at c.in-Ok.ensures refl h
            ∙ ap (λ (i : ℕ). toks ts.text.now ts.table.now ts.count i) q,
        omega (arith, l, k),
      );
    }
