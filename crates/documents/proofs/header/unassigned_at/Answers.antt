use Rattle.lexis.specs.Refusal.{refusal_number}
use mathlib.Core.Path.{ap, subst, ◌∙◌}
use mathlib.Core.Bool.{Bool}
use mathlib.Core.List.{List}
use Prim.Native.Nat.{ℕ}
use Rattle.syntax.specs.Table.{token_at}
use Rattle.index.specs.Layout.{word_in}
use Rattle.index.specs.Mapped.{LooksUp}
use Rattle.index.proofs.Theorems.{word-missing}
use Rattle.lists.specs.Fault.{earlier, fault, first}
use Rattle.lists.specs.Best.{meant}
use Rattle.lists.specs.Names.{all_assigned}
use Rattle.lists.specs.Scans.{is_name_token}
use Rattle.lists.specs.Walks.{when}
use Rattle.lists.proofs.NameScans.{is_name, no_name, those-one, those-none}
use Rattle.documents.proofs.NameTurns.{missing-none, missing-one}
use Rattle.documents.proofs.header.unassigned_at.Goals as goal

pub returns-then-symbol_at-ne-NAME : goal.returns-then-symbol_at-ne-NAME
returns-then-symbol_at-ne-NAME c = let t = token_at c.args.tokens.now.text.now c.args.tokens.now.table.now c.args.i in
    let none = those-none is_name_token t (no_name c.args.tokens.now.text.now c.args.tokens.now.table.now c.args.tokens.now.count c.args.i c.requires.i_lt_n c.symbol_at.ensures c.if-symbol_at-ne-NAME.true) in
    λ j es cs m. missing-none (all_assigned cs) (refusal_number c.args.refusal) (meant c.args.best) none

pub returns : goal.returns
unfolding token_at
returns c = let t = token_at c.args.tokens.now.text.now c.args.tokens.now.table.now c.args.i in
    let one = those-one is_name_token t (is_name c.args.tokens.now.text.now c.args.tokens.now.table.now c.args.tokens.now.count c.args.i c.requires.i_lt_n c.symbol_at.ensures c.if-symbol_at-ne-NAME.false) in
    let looks = subst (λ (v : List ℕ). LooksUp c.args.tokens.now.text.now c.args.tokens.now.table.now c.args.index.now v 1 (word_in c.look_up-a.result)) c.bytes_at.ensures
    c.look_up-a.ensures.looks_up in
    λ j es cs m.
    c.earlier.ensures
    ∙ ap (earlier (meant c.args.best))
    (c.refusal_if.ensures
    ∙ ap (λ (b : Bool). first (when b (fault (refusal_number c.args.refusal) c.start_at.result)))
    (word-missing c.look_up-a.result c.is_none.result c.look_up-a.ensures.nonzero c.is_none.ensures)
    ∙ missing-one c.args.tokens.now.text.now c.args.tokens.now.table.now c.args.index.now c.args.i (refusal_number c.args.refusal) (word_in c.look_up-a.result) c.start_at.result one looks
    c.start_at.ensures j es cs m)
