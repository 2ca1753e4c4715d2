-- The faults of an operation list in the order in which the code meets them: too many operations, then header by header the repeat of
-- its operation's name and its own faults. Relies on `First`.
use mathlib.Core.Path.{◌≡◌, refl, sym, ap, ap₂, ◌∙◌}
use mathlib.Core.List.{List, [], ◌∷◌, ◌++◌, map, flat_map, flatten, append_assoc, append-nil}
use mathlib.Core.Option.{Option}
use Rattle.lexis.specs.Sizes.{max_operations, max_parameters, max_results}
use Rattle.syntax.specs.Tree.{Result, Header}
use Rattle.lists.specs.Fault.{Fault, faults, starts, earlier, first}
use Rattle.lists.specs.Names.{repeats}
use Rattle.lists.specs.ListRules.{over, param_names, header_names, list_counts, list_repeats, bad_defaults, list_faults}
use Rattle.lists.specs.Lists.{default_faults, header_faults}
use Rattle.lists.proofs.First.{first-append, earlier-assoc, earlier-comm}

-- two in the middle of four change places
pub swap : (a b c d : Option Fault) → earlier (earlier a b) (earlier c d) ≡ earlier (earlier a c) (earlier b d)
swap a b c d =
    earlier-assoc a b (earlier c d)
    ∙ ap (earlier a) (sym (earlier-assoc b c d) ∙ ap (λ (x : Option Fault). earlier x d) (earlier-comm b c) ∙ earlier-assoc c b d)
    ∙ sym (earlier-assoc a c (earlier b d))

-- the first of two faults of each, met together
pub flat-two : {A : Type 0} (f g : A → List Fault) (xs : List A) → first (flat_map (λ x. f x ++ g x) xs) ≡ earlier (first (flat_map f xs)) (first (flat_map g xs))
unfolding flat_map first
flat-two f g [] = refl
flat-two f g (x ∷ xs) =
    first-append (f x ++ g x) (flat_map (λ x. f x ++ g x) xs)
    ∙ ap₂ earlier (first-append (f x) (g x)) (flat-two f g xs)
    ∙ swap (first (f x)) (first (g x)) (first (flat_map f xs)) (first (flat_map g xs))
    ∙ sym (ap₂ earlier (first-append (f x) (flat_map f xs)) (first-append (g x) (flat_map g xs)))

abbrev pub counts_of : Header → List Fault
counts_of h = over max_parameters (starts (param_names h.params)) ++ over max_results (starts (map (λ (r : Result). r.name) h.results))

abbrev pub repeats_of : Header → List Fault
repeats_of h = faults 13 (starts (repeats (header_names h)))

abbrev pub misfits_of : Header → List Fault
misfits_of h = default_faults h.params

-- a header's own faults, one kind after the other
pub own-parts : (h : Header) → first (header_faults h)
    ≡ earlier
    (earlier
    (earlier (first (over max_parameters (starts (param_names h.params)))) (first (over max_results (starts (map (λ (r : Result). r.name) h.results)))))
    (first (faults 13 (starts (repeats (header_names h))))))
    (first (default_faults h.params))
unfolding header_faults flatten first
own-parts h =
    let a = over max_parameters (starts (param_names h.params)) in
    let b = over max_results (starts (map (λ (r : Result). r.name) h.results)) in
    let c = faults 13 (starts (repeats (header_names h))) in
    let d = default_faults h.params in
    first-append a (b ++ (c ++ (d ++ [])))
    ∙ ap (earlier (first a))
    (first-append b (c ++ (d ++ [])) ∙ ap (earlier (first b)) (first-append c (d ++ []) ∙ ap (λ (x : List Fault). earlier (first c) (first x)) (append-nil d)))
    ∙ sym (earlier-assoc (first a) (first b) (earlier (first c) (first d)))
    ∙ sym (earlier-assoc (earlier (first a) (first b)) (first c) (first d))

own-flat : (h : Header) → header_faults h ≡ counts_of h ++ (repeats_of h ++ misfits_of h)
unfolding header_faults flatten
own-flat h =
    let a = over max_parameters (starts (param_names h.params)) in
    let b = over max_results (starts (map (λ (r : Result). r.name) h.results)) in
    ap (λ (x : List Fault). a ++ (b ++ (repeats_of h ++ x))) (append-nil (misfits_of h)) ∙ sym (append_assoc a b (repeats_of h ++ misfits_of h))

own-all : (hs : List Header)
    → first (flat_map header_faults hs) ≡ earlier (first (flat_map counts_of hs)) (earlier (first (flat_map repeats_of hs)) (first (flat_map misfits_of hs)))
unfolding flat_map
own-all hs =
    ap (λ (xs : List Fault). first xs) (same hs)
    ∙ flat-two counts_of (λ h. repeats_of h ++ misfits_of h) hs
    ∙ ap (earlier (first (flat_map counts_of hs))) (flat-two repeats_of misfits_of hs)
  where
    same : (gs : List Header) → flat_map header_faults gs ≡ flat_map (λ h. counts_of h ++ (repeats_of h ++ misfits_of h)) gs
    same [] = refl
    same (g ∷ gs) = ap₂ (λ (x y : List Fault). x ++ y) (own-flat g) (same gs)

-- the first fault of a list, as the code meets them
pub list-parts : (hs : List Header) → first (list_faults hs)
    ≡ earlier (first (over max_operations (map (λ (h : Header). h.keyword.start) hs)))
    (earlier (first (faults 13 (starts (repeats (map (λ (h : Header). h.name) hs))))) (first (flat_map header_faults hs)))
unfolding list_faults list_counts list_repeats bad_defaults flatten
list-parts hs =
    let a = over max_operations (map (λ (h : Header). h.keyword.start) hs) in
    let b = faults 13 (starts (repeats (map (λ (h : Header). h.name) hs))) in
    let c = flat_map counts_of hs in
    let d = flat_map repeats_of hs in
    let e = flat_map misfits_of hs in
    first-append (a ++ c) ((b ++ d) ++ (e ++ []))
    ∙ ap₂ earlier (first-append a c) (first-append (b ++ d) (e ++ []) ∙ ap₂ earlier (first-append b d) (ap first (append-nil e)))
    ∙ ap (earlier (earlier (first a) (first c))) (earlier-assoc (first b) (first d) (first e))
    ∙ swap (first a) (first c) (first b) (earlier (first d) (first e))
    ∙ earlier-assoc (first a) (first b) (earlier (first c) (earlier (first d) (first e)))
    ∙ ap (λ (x : Option Fault). earlier (first a) (earlier (first b) x)) (sym (own-all hs))
