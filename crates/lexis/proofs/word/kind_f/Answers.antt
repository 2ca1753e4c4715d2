-- The word is compared with each word that begins with f (`kind-by`).
use mathlib.Core.Path.{sym, ◌∙◌}
use Rattle.lexis.specs.Words.{words, kind_in}
use Rattle.lexis.proofs.Words.{begun, keep, kind-by}
use Rattle.lexis.proofs.word.kind_f.Goals as goal

pub returns-then-same : goal.returns-then-same
unfolding begun keep words kind_in
returns-then-same c = sym (kind-by c.args.w.now 102 c.requires ∙ rw (sym c.same.ensures ∙ c.if-same.true))

pub returns-then-same-2 : goal.returns-then-same-2
unfolding begun keep words kind_in
returns-then-same-2 c = sym
    (kind-by c.args.w.now 102 c.requires
    ∙ rw (sym c.same.ensures ∙ c.if-same.false, sym c.same-2.ensures ∙ c.if-same-2.true))

pub returns : goal.returns
unfolding begun keep words kind_in
returns c = c.kind_if.ensures
    ∙ sym
    (kind-by c.args.w.now 102 c.requires
    ∙ rw (sym c.same.ensures ∙ c.if-same.false, sym c.same-2.ensures ∙ c.if-same-2.false))
