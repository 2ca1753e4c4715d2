-- A flag behind the last one is set there, or changes nothing.
use mathlib.Core.Path.{sym, ap, ◌∙◌}
use mathlib.Core.Bool.{Bool, false}
use mathlib.Core.List.{[], ◌∷◌, ◌++◌}
use Rattle.lists.specs.Masks.{mask_of}
use Rattle.lists.proofs.Masks.{mask-off, mask-on, last_fits}
use Rattle.lists.proofs.mask.extended.Goals as goal

pub returns-then-is_in : goal.returns-then-is_in
returns-then-is_in c = λ bs p q.
    c.with.ensures (bs ++ (false ∷ [])) (p ∙ sym (mask-off bs)) (rw q (last_fits bs))
    ∙ rw q (mask-on bs)
    ∙ ap (λ (b : Bool). mask_of (bs ++ (b ∷ []))) (sym c.if-is_in.true)

pub returns : goal.returns
returns c = λ bs p q. p ∙ sym (mask-off bs) ∙ ap (λ (b : Bool). mask_of (bs ++ (b ∷ []))) (sym c.if-is_in.false)
