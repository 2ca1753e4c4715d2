use Rattle.documents.specs.Walks.{code_of}
use mathlib.Core.Path.{◌≡◌, refl, sym, ap, subst, ◌∙◌}
use mathlib.Core.Bool.{cond}
use mathlib.Core.List.{List}
use Prim.Native.Nat.{ℕ}
use native.Mathlib.Omega.{arith}
use lib.Dec.{eqb, ltb}
use lib.ListN.{length}
use borrow.Author.Tests.{eq-eqb, ne_eqb}
use Rattle.std.specs.Prelude.{Option as Maybe, unwrap_or}
use Rattle.lexis.specs.Sizes.{max_uses}
use Rattle.lists.specs.Code as Lists
use Rattle.syntax.specs.Table.{token_at}
use Rattle.index.specs.Layout.{word_in}
use Rattle.index.specs.Mapped.{LooksUp}
use Rattle.documents.specs.Code as Code
use Rattle.documents.proofs.NameTurns.{used-name, wired-or, unwired-none}
use Rattle.documents.proofs.Recording.{wire-length}
use Rattle.documents.proofs.wiring.used_at.Goals as goal
use Rattle.documents.proofs.wiring.used_at.Goals.{then-tally-eq-USES, else-tally-eq-USES+then-is_none, else-tally-eq-USES+else-is_none}

pub returns : goal.returns
unfolding token_at
returns c = let a = word_in c.look_up-a.result in
    let unwired = cond (cond (eqb a 0) (eqb a 0) (ltb c.args.k a)) Code.unassigned_use 0 in
    let code : code_of c.if-tally-eq-USES.refusal ≡ cond (eqb c.args.tally.count max_uses) Lists.over_size unwired =
    elim c.if-tally-eq-USES.branch [
      | then-tally-eq-USES w ↦ rw w.refusal-is (simp (eq-eqb _ _ w.if-tally-eq-USES.true))
      | else-tally-eq-USES+then-is_none w ↦
          rw w.refusal-is (simp (ne_eqb _ _ w.if-tally-eq-USES.false, sym (unwired-none a c.args.k _ c.earlier_call-call.ensures.value w.is_none.ensures) ∙ w.if-is_none.true))
      | else-tally-eq-USES+else-is_none w ↦
          rw w.refusal-is (simp (ne_eqb _ _ w.if-tally-eq-USES.false, sym (unwired-none a c.args.k _ c.earlier_call-call.ensures.value w.is_none.ensures) ∙ w.if-is_none.false))
    ] in
    let call = c.unwrap_or.ensures ∙ ap (λ (o : Maybe ℕ). unwrap_or o 0) c.earlier_call-call.ensures.value ∙ wired-or a c.args.k in
    record {
      count_le_count = (omega (arith, c.next.ensures.1), omega (arith, c.next.ensures.1));
      records_len_unchanged = ap (λ (l : List ℕ). length l) c.wire.ensures ∙ wire-length c.args.records.now c.args.tally.count _;
      uses = used-name c.args.source.now.tokens.text.now c.args.source.now.tokens.table.now c.args.index.now c.args.records.now _ c.args.i c.args.k c.args.tally c.next.result
          (code_of c.if-tally-eq-USES.refusal) c.start_at-place.result a c.unwrap_or.result unwired refl
          (subst (λ (v : List ℕ). LooksUp c.args.source.now.tokens.text.now c.args.source.now.tokens.table.now c.args.index.now v 1 a) c.bytes_at.ensures
          c.look_up-a.ensures.looks_up)
          c.start_at-place.ensures call c.wire.ensures refl code c.next.ensures;
    }
