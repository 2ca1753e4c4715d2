-- The first fault of a document: the earlier of those that need no list and those of each call that need it. What a document without
-- faults has. Relies on `First`, `ListFaults` and `Faultless` of lists.
use mathlib.Core.Path.{◌≡◌, refl, sym, ap, ap₂, ◌∙◌}
use mathlib.Core.List.{List, [], ◌∷◌, ◌++◌, flat_map, flatten}
use mathlib.Core.Option.{Option}
use mathlib.Core.Option.{none as nothing}
use Rattle.syntax.specs.Tree.{Header, Call, Document}
use Rattle.lists.specs.Fault.{Fault, earlier, first}
use Rattle.lists.proofs.First.{first-append, first-none, earlier-assoc, earlier-comm}
use Rattle.lists.proofs.ListFaults.{flat-two}
use Rattle.lists.proofs.Faultless.{neither}
use Rattle.documents.specs.Wiring.{again, unwired, misfed, unmade}
use Rattle.documents.specs.DocumentRules.{bad_version, document_counts, graph_repeats, undeclared, argument_faults, unmatched, document_faults}
use Rattle.documents.specs.Walks.{own_faults}
use Rattle.documents.specs.Operations.{operation_faults}

-- ---- all faults of a document

calls-parts : (hs : List Header) (cs : List Call)
    → first (flat_map (operation_faults hs) cs) ≡ earlier (first (flat_map (undeclared hs) cs))
    (earlier (first (flat_map (argument_faults hs) cs)) (first (flat_map (unmatched hs) cs)))
unfolding operation_faults flat_map
calls-parts hs cs =
    ap (λ (xs : List Fault). first xs) (same cs)
    ∙ flat-two (undeclared hs) (λ c. argument_faults hs c ++ unmatched hs c) cs
    ∙ ap (earlier (first (flat_map (undeclared hs) cs))) (flat-two (argument_faults hs) (unmatched hs) cs)
  where
    same : (ds : List Call) → flat_map (operation_faults hs) ds ≡ flat_map (λ c. undeclared hs c ++ (argument_faults hs c ++ unmatched hs c)) ds
    same [] = refl
    same (d ∷ ds) = ap (λ (xs : List Fault). (undeclared hs d ++ (argument_faults hs d ++ unmatched hs d)) ++ xs) (same ds)

-- three that stand before the last change places with it
regroup : (a b c u v w r : Option Fault)
    → earlier a (earlier b (earlier c (earlier u (earlier v (earlier w r))))) ≡ earlier (earlier a (earlier b (earlier c r))) (earlier u (earlier v w))
regroup a b c u v w r =
    ap (λ (x : Option Fault). earlier a (earlier b (earlier c x)))
    (ap (earlier u) (sym (earlier-assoc v w r)) ∙ sym (earlier-assoc u (earlier v w) r) ∙ earlier-comm (earlier u (earlier v w)) r)
    ∙ ap (λ (x : Option Fault). earlier a (earlier b x)) (sym (earlier-assoc c r (earlier u (earlier v w))))
    ∙ ap (earlier a) (sym (earlier-assoc b (earlier c r) (earlier u (earlier v w))))
    ∙ sym (earlier-assoc a (earlier b (earlier c r)) (earlier u (earlier v w)))

pub document-parts : (hs : List Header) (d : Document)
    → first (document_faults hs d) ≡ earlier (first (own_faults d)) (first (flat_map (operation_faults hs) d.calls))
unfolding document_faults own_faults flatten
document-parts hs d =
    let a = bad_version d in
    let b = document_counts d in
    let c = graph_repeats d in
    let u = flat_map (undeclared hs) d.calls in
    let v = flat_map (argument_faults hs) d.calls in
    let w = flat_map (unmatched hs) d.calls in
    let r = again d ++ (unwired d ++ (misfed d ++ (unmade d ++ []))) in
    first-append a (b ++ (c ++ (u ++ (v ++ (w ++ r)))))
    ∙ ap (earlier (first a))
    (first-append b (c ++ (u ++ (v ++ (w ++ r))))
    ∙ ap (earlier (first b))
    (first-append c (u ++ (v ++ (w ++ r)))
    ∙ ap (earlier (first c)) (first-append u (v ++ (w ++ r)) ∙ ap (earlier (first u)) (first-append v (w ++ r) ∙ ap (earlier (first v)) (first-append w r)))))
    ∙ regroup (first a) (first b) (first c) (first u) (first v) (first w) (first r)
    ∙ sym
    (ap₂ earlier (first-append a (b ++ (c ++ r)) ∙ ap (earlier (first a)) (first-append b (c ++ r) ∙ ap (earlier (first b)) (first-append c r)))
    (calls-parts hs d.calls))

-- ---- a document without faults uses only what is assigned before

sides : (xs ys : List Fault) → first (xs ++ ys) ≡ nothing → (first xs ≡ nothing) × (first ys ≡ nothing)
sides xs ys h = neither (first xs) (first ys) (sym (first-append xs ys) ∙ h)

pub unwired-none : (hs : List Header) (d : Document) → first (document_faults hs d) ≡ nothing → unwired d ≡ []
unfolding own_faults flatten
unwired-none hs d h =
    let o = (neither (first (own_faults d)) (first (flat_map (operation_faults hs) d.calls)) (sym (document-parts hs d) ∙ h)).0 in
    let z = misfed d ++ (unmade d ++ []) in
    let y = again d ++ (unwired d ++ z) in
    let x = graph_repeats d ++ y in
    let a = (sides (bad_version d) (document_counts d ++ x) o).1 in
    let b = (sides (graph_repeats d) y (sides (document_counts d) x a).1).1 in
    first-none (unwired d) (sides (unwired d) z (sides (again d) (unwired d ++ z) b).1).0
