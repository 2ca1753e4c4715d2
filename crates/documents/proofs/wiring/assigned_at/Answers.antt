use Rattle.documents.specs.Walks.{code_of}
use mathlib.Core.Path.{◌≡◌, refl, sym, ap, subst, ◌∙◌}
use mathlib.Core.Bool.{cond, not}
use lib.Dec.{eqb}
use borrow.Author.Tests.{eq-eqb, ne_eqb}
use Rattle.lexis.specs.Sizes.{max_assigned}
use Rattle.lists.specs.Code as Lists
use Rattle.documents.specs.Code as Code
use mathlib.Core.List.{List, ◌++◌}
use Prim.Native.Nat.{ℕ, suc, ◌+◌}
use native.Mathlib.Numerals.{add-one}
use native.Mathlib.Omega.{arith}
use Rattle.syntax.specs.Table.{token_at}
use Rattle.index.specs.Layout.{word_in}
use Rattle.index.specs.Indexed.{Walkable}
use Rattle.index.proofs.Theorems.{walks-wider, walks-kept, word-there}
use Rattle.lists.specs.Scans.{is_name_token}
use Rattle.lists.proofs.NameScans.{is_name, no_name, those-one, those-none}
use Rattle.lists.specs.Names.{all_assigned}
use Rattle.documents.specs.Walks.{assigning, misfeeds}
use Rattle.documents.specs.Naming.{headed, assigners}
use Rattle.documents.proofs.NameTurns.{turn-none, assigned-same, assigned-name, feeds-differ}
use Rattle.documents.proofs.wiring.assigned_at.Goals as goal
use Rattle.documents.proofs.wiring.assigned_at.Goals.{then-tally-eq-ASSIGNED, else-tally-eq-ASSIGNED+then-is_some, else-tally-eq-ASSIGNED+else-is_some+then-external-input, else-tally-eq-ASSIGNED+else-is_some+else-external-input}

pub returns-then-symbol_at-ne-NAME : goal.returns-then-symbol_at-ne-NAME
returns-then-symbol_at-ne-NAME c = let t = token_at c.args.source.now.tokens.text.now c.args.source.now.tokens.table.now c.args.i in
    let none = those-none is_name_token t (no_name c.args.source.now.tokens.text.now c.args.source.now.tokens.table.now c.args.source.now.tokens.count c.args.i c.requires.i_lt_n.0 c.symbol_at.ensures c.if-symbol_at-ne-NAME.true) in
    record {
      count_le_count = (omega arith, omega (arith, c.requires.i_lt_n.2));
      walkable_2 = walks-wider (omega arith) c.requires.walkable;
      assigns = λ ins outs ds ss e m k.
          turn-none (assigning ins c.args.external) (all_assigned ds ++ ss) c.args.tally k none
          (assigned-same c.args.source.now.tokens.text.now c.args.source.now.tokens.table.now c.args.index.now c.args.i ss _ none (headed ins outs) (assigners ds) (suc c.args.k) m);
    }

pub returns : goal.returns
unfolding token_at
returns c = let t = token_at c.args.source.now.tokens.text.now c.args.source.now.tokens.table.now c.args.i in
    let one = those-one is_name_token t (is_name c.args.source.now.tokens.text.now c.args.source.now.tokens.table.now c.args.source.now.tokens.count c.args.i c.requires.i_lt_n.0 c.symbol_at.ensures c.if-symbol_at-ne-NAME.false) in
    let feeds = misfeeds c.args.external (eqb c.word_of.result c.number.result) in
    let fed = cond feeds Code.misfed 0 in
    let there = word-there c.keep_word-had.result c.keep_word-had.ensures.nonzero in
    let again = cond (not (eqb (word_in c.keep_word-had.result) 0)) Code.assigned_again fed in
    let code : code_of c.if-tally-eq-ASSIGNED.refusal ≡ cond (eqb c.args.tally.count max_assigned) Lists.over_size again =
    elim c.if-tally-eq-ASSIGNED.branch [
      | then-tally-eq-ASSIGNED w ↦ rw w.refusal-is (simp (eq-eqb _ _ w.if-tally-eq-ASSIGNED.true))
      | else-tally-eq-ASSIGNED+then-is_some w ↦ rw w.refusal-is (simp (ne_eqb _ _ w.if-tally-eq-ASSIGNED.false, sym there ∙ sym w.is_some.ensures ∙ w.if-is_some.true))
      | else-tally-eq-ASSIGNED+else-is_some+then-external-input w ↦
          rw w.refusal-is (simp (ne_eqb _ _ w.if-tally-eq-ASSIGNED.false, sym there ∙ sym w.is_some.ensures ∙ w.if-is_some.false, feeds-differ _ _ ∙ w.if-external-input.true))
      | else-tally-eq-ASSIGNED+else-is_some+else-external-input w ↦
          rw w.refusal-is (simp (ne_eqb _ _ w.if-tally-eq-ASSIGNED.false, sym there ∙ sym w.is_some.ensures ∙ w.if-is_some.false, feeds-differ _ _ ∙ w.if-external-input.false))
    ] in
    record {
      count_le_count = (omega (arith, c.next.ensures.1), omega (arith, c.requires.i_lt_n.2, c.next.ensures.1));
      walkable_2 = subst (λ (l : List ℕ). Walkable l (c.args.i + 1) c.args.source.now.tokens.count) (sym c.keep_word-had.ensures.index_after) (walks-kept c.enter-p.result 1 (c.args.k + 1) (omega arith) c.enter-p.ensures.walkable_2);
      assigns = assigned-name c.args.source.now.tokens.text.now c.args.source.now.tokens.table.now c.args.index.now _ _ c.args.i c.enter-p.result c.args.tally c.next.result
          (code_of c.if-tally-eq-ASSIGNED.refusal) c.start_at.result one c.enter-p.ensures.enters c.start_at.ensures c.next.ensures
          c.args.k (c.args.k + 1) (word_in c.keep_word-had.result) c.word_of.result fed again c.args.external
          feeds
          (omega (arith, c.enter-p.ensures.walkable_2.falling.room, c.enter-p.ensures.upper_bound, c.requires.i_lt_n.0)) c.keep_word-had.ensures.value c.word_of.ensures
          (add-one c.args.k) c.keep_word-had.ensures.index_after
          (ap (λ (x : ℕ). misfeeds c.args.external (eqb c.word_of.result x)) c.number.ensures.value) refl refl code;
    }
