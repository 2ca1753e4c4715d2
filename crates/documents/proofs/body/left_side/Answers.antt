use mathlib.Core.Path.{refl, ap, ◌∙◌}
use Prim.Native.Nat.{ℕ}
use lib.Dec.{eqb}
use Rattle.spellings.specs.Comparison.{same_bytes}
use Rattle.lexis.specs.Ascii.{ascii}
use Rattle.lexis.specs.Sizes.{max_calls}
use Rattle.lexis.specs.Lexer.{Token}
use Rattle.syntax.specs.Table.{token_at}
use Rattle.lists.specs.Code as Lists
use Rattle.lists.specs.Fault.{fault, earlier, first}
use Rattle.lists.specs.Best.{meant}
use Rattle.lists.specs.Walks.{when}
use Rattle.documents.proofs.BodyWalks.{left-done}
use Rattle.documents.proofs.body.left_side.Goals as goal

pub returns : goal.returns
unfolding token_at
returns c = record {
  count_le_count = c.assigned.ensures.count_le_count;
  walkable_2 = c.assigned.ensures.walkable_2;
  left_side = λ ins outs ds d w e m k.
      left-done c.args.source.now.tokens.text.now c.args.source.now.tokens.table.now c.args.index.now _ c.args.source.now.tokens.count c.args.at c.args.equal c.args.k c.is_external-external.result c.args.tally
      (record { best = c.earlier.result; count = c.args.tally.count }) c.assigned.result c.assigned.ensures.assigns refl ins outs ds d w e m k
      (c.is_external-external.ensures w.inside.1 ∙ ap (λ (t : Token). same_bytes t.bytes (ascii "external")) w.title)
      (c.earlier.ensures
      ∙ ap (earlier (meant c.args.tally.best))
      (c.refusal_if-beyond.ensures ∙ ap (λ (q : ℕ). first (when (eqb c.args.k max_calls) (fault Lists.over_size q))) c.start_at.ensures));
}
