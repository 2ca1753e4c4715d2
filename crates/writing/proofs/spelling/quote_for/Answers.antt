-- The test of the content is that of the definition.
use mathlib.Core.Path.{refl, sym, ◌∙◌}
use Rattle.writing.specs.Spelling.{quote_for}
use Rattle.writing.proofs.Spelled.{single-held}
use Rattle.writing.proofs.spelling.quote_for.Goals as goal

pub returns-then-contains : goal.returns-then-contains
unfolding quote_for
returns-then-contains c = rw (sym (single-held c.args.content.now) ∙ sym c.contains.ensures.value ∙ c.if-contains.true) refl

pub returns-else-contains : goal.returns-else-contains
unfolding quote_for
returns-else-contains c = rw (sym (single-held c.args.content.now) ∙ sym c.contains.ensures.value ∙ c.if-contains.false) refl
