use Rattle.documents.specs.Walks.{code_of}
use mathlib.Core.Path.{◌≡◌, refl, sym, ap, subst, ◌∙◌}
use mathlib.Core.Bool.{cond, not}
use mathlib.Core.List.{List}
use Prim.Native.Nat.{ℕ, ◌+◌, ◌<◌}
use native.Mathlib.Omega.{arith}
use Rattle.syntax.specs.Table.{token_at}
use Rattle.index.specs.Layout.{word_in}
use Rattle.index.specs.Indexed.{Walkable}
use Rattle.index.specs.Mapped.{kept_in}
use Rattle.index.proofs.Theorems.{walks-wider, walks-kept, word-there}
use Rattle.lists.specs.Scans.{is_name_token}
use Rattle.lists.proofs.NameScans.{is_name, no_name, those-one, those-none}
use Rattle.documents.specs.Walks.{listing}
use Rattle.documents.specs.Naming.{numbered, input_word, listed_number}
use Rattle.documents.proofs.NameTurns.{turn-none, listed_same, listed-name}
use lib.Dec.{eqb}
use borrow.Author.Tests.{eq-eqb, ne_eqb}
use Rattle.lists.specs.Code as Lists
use Rattle.documents.proofs.header.listed_at.Goals as goal
use Rattle.documents.proofs.header.listed_at.Goals.{then-tally-size, else-tally-size+then-is_some, else-tally-size+else-is_some}

pub returns-then-symbol_at-ne-NAME : goal.returns-then-symbol_at-ne-NAME
returns-then-symbol_at-ne-NAME c = let t = token_at c.args.source.now.tokens.text.now c.args.source.now.tokens.table.now c.args.i in
    let none = those-none is_name_token t (no_name c.args.source.now.tokens.text.now c.args.source.now.tokens.table.now c.args.source.now.tokens.count c.args.i c.requires.i_lt_n.0 c.symbol_at.ensures c.if-symbol_at-ne-NAME.true) in
    record {
      count_bound = omega (arith, c.requires.i_lt_n.1);
      walkable_2 = walks-wider (omega arith) c.requires.walkable;
      lists_names = λ before ss made m k.
          turn-none (listing c.args.size before) ss c.args.tally k none
          (listed_same c.args.source.now.tokens.text.now c.args.source.now.tokens.table.now c.args.index.now c.args.i ss _ none (numbered input_word before) made (listed_number c.args.which) m);
    }

pub returns : goal.returns
unfolding token_at
returns c = let t = token_at c.args.source.now.tokens.text.now c.args.source.now.tokens.table.now c.args.i in
    let one = those-one is_name_token t (is_name c.args.source.now.tokens.text.now c.args.source.now.tokens.table.now c.args.source.now.tokens.count c.args.i c.requires.i_lt_n.0 c.symbol_at.ensures c.if-symbol_at-ne-NAME.false) in
    let there = word-there c.keep_word-had.result c.keep_word-had.ensures.nonzero in
    let again = cond (not (eqb (word_in c.keep_word-had.result) 0)) Lists.repeated_name 0 in
    let code : code_of c.if-tally-size.refusal ≡ cond (eqb c.args.tally.count c.args.size) Lists.over_size again =
    elim c.if-tally-size.branch [
      | then-tally-size w ↦ rw w.refusal-is (simp (eq-eqb _ _ w.if-tally-size.true))
      | else-tally-size+then-is_some w ↦ rw w.refusal-is (simp (ne_eqb _ _ w.if-tally-size.false, sym there ∙ sym w.is_some.ensures ∙ w.if-is_some.true))
      | else-tally-size+else-is_some w ↦ rw w.refusal-is (simp (ne_eqb _ _ w.if-tally-size.false, sym there ∙ sym w.is_some.ensures ∙ w.if-is_some.false))
    ] in
    record {
      count_bound = omega (arith, c.requires.i_lt_n.1, c.next.ensures.1);
      walkable_2 = subst (λ (l : List ℕ). Walkable l (c.args.i + 1) c.args.source.now.tokens.count) (sym c.keep_word-had.ensures.index_after)
          (walks-kept c.enter-p.result 0 c.number.result (omega arith) c.enter-p.ensures.walkable_2);
      lists_names = listed-name c.args.source.now.tokens.text.now c.args.source.now.tokens.table.now c.args.index.now _ _ c.args.i c.enter-p.result c.args.tally c.next.result
          (code_of c.if-tally-size.refusal) c.start_at.result one c.enter-p.ensures.enters c.start_at.ensures c.next.ensures
          c.args.size (listed_number c.args.which) (word_in c.keep_word-had.result) again (subst (λ (x : ℕ). 0 < x) c.number.ensures.value c.number.ensures.range.0)
          (omega (arith, c.enter-p.ensures.walkable_2.falling.room, c.enter-p.ensures.upper_bound, c.requires.i_lt_n.0)) c.keep_word-had.ensures.value
          (c.keep_word-had.ensures.index_after ∙ ap (λ (x : ℕ). kept_in c.enter-p.new.index c.enter-p.result 0 x) c.number.ensures.value)
          refl code;
    }
