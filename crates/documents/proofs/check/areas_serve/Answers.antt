-- Each area, in the order of the definition.
use mathlib.Core.Path.{sym, ap, ◌∙◌}
use mathlib.Core.Bool.{Bool, ◌&&◌}
use lib.Dec.{leb}
use Rattle.lexis.specs.Sizes.{work_words}
use Rattle.documents.proofs.check.areas_serve.Goals as goal

pub returns-then-not-work_serves : goal.returns-then-not-work_serves
returns-then-not-work_serves c = sym (ap (λ (x : Bool). x && leb work_words c.args.work2) (sym c.work_serves.ensures ∙ c.if-not-work_serves.true))

pub returns : goal.returns
returns c = sym
    (ap (λ (x : Bool). x && leb work_words c.args.work2) (sym c.work_serves.ensures ∙ c.if-not-work_serves.false)
    ∙ sym c.work_serves-2.ensures)
