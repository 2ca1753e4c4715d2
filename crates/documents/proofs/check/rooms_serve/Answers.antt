-- The areas, then each table, in the order of the definition.
use mathlib.Core.Path.{sym, ap, ap₂, ◌∙◌}
use mathlib.Core.Bool.{Bool, ◌&&◌}
use lib.Dec.{leb}
use Rattle.lexis.specs.Sizes.{call_words, wire_words}
use Rattle.documents.proofs.check.rooms_serve.Goals as goal

pub returns-then-not-areas_serve : goal.returns-then-not-areas_serve
returns-then-not-areas_serve c = sym
    (ap (λ (x : Bool). x && (leb call_words c.args.calls && leb wire_words c.args.wires))
    (sym c.areas_serve.ensures ∙ c.if-not-areas_serve.true))

pub returns-then-not-calls_serve : goal.returns-then-not-calls_serve
returns-then-not-calls_serve c = sym
    (ap₂ (λ (x y : Bool). x && (y && leb wire_words c.args.wires))
    (sym c.areas_serve.ensures ∙ c.if-not-areas_serve.false)
    (sym c.calls_serve.ensures ∙ c.if-not-calls_serve.true))

pub returns : goal.returns
returns c = sym
    (ap₂ (λ (x y : Bool). x && (y && leb wire_words c.args.wires))
    (sym c.areas_serve.ensures ∙ c.if-not-areas_serve.false)
    (sym c.calls_serve.ensures ∙ c.if-not-calls_serve.false)
    ∙ sym c.wires_serve.ensures)
