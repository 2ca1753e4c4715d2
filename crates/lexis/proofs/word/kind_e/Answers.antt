-- The word is compared with each word that begins with e (`kind-by`).
use mathlib.Core.Path.{sym, ◌∙◌}
use Rattle.lexis.specs.Words.{words, kind_in}
use Rattle.lexis.proofs.Words.{begun, keep, kind-by}
use Rattle.lexis.proofs.word.kind_e.Goals as goal

pub returns-then-same : goal.returns-then-same
unfolding begun keep words kind_in
returns-then-same c = sym (kind-by c.args.w.now 101 c.requires ∙ rw (sym c.same.ensures ∙ c.if-same.true))

pub returns : goal.returns
unfolding begun keep words kind_in
returns c = c.kind_if.ensures ∙ sym (kind-by c.args.w.now 101 c.requires ∙ rw (sym c.same.ensures ∙ c.if-same.false))
