-- What a list without faults says of each header. Relies on `First` and `ListFaults`.
use mathlib.Core.Path.{◌≡◌, refl, sym, ap, ◌∙◌}
use mathlib.Core.Bool.{Bool, true, false, cond}
use mathlib.Core.List.{List, [], ◌∷◌, ◌++◌, map, flat_map}
use mathlib.Core.Option.{Option, some}
use mathlib.Core.Option.{none as nothing}
use Prim.Native.Nat.{ℕ, ◌≤◌}
use native.Mathlib.Omega.{arith}
use lib.Dec.{leb}
use lib.ListN.{length, take, drop, length-map}
use lib.Seq.{drop-cons}
use borrow.Author.Tests.{leb-true, leb-false}
use Rattle.lexis.specs.Sizes.{max_operations, max_parameters, max_results}
use Rattle.lexis.specs.Lexer.{Token}
use Rattle.syntax.specs.Tree.{Param, Result, Header}
use Rattle.lists.specs.Fault.{Fault, faults, starts, earlier, first}
use Rattle.lists.specs.Names.{is_among, repeats, repeats_after}
use Rattle.lists.specs.ListRules.{over, param_names, header_names, list_faults}
use Rattle.lists.specs.Lists as L
use Rattle.lists.proofs.First.{first-none}
use Rattle.lists.proofs.ListFaults.{own-parts, list-parts}

pub neither : (a b : Option Fault) → earlier a b ≡ nothing → (a ≡ nothing) × (b ≡ nothing)
neither nothing b h = (refl, h)
neither (some x) nothing h = let z : ◌≡◌ {A = ℕ} 0 1 = cc in absurd (omega arith)
neither (some x) (some y) h = let z : ◌≡◌ {A = ℕ} 0 1 = cc in absurd (omega arith)

pub own-clean : (hs : List Header) → first (list_faults hs) ≡ nothing → first (flat_map L.header_faults hs) ≡ nothing
own-clean hs h =
    let a = first (over max_operations (map (λ (g : Header). g.keyword.start) hs)) in
    let b = first (faults 13 (starts (repeats (map (λ (g : Header). g.name) hs)))) in
    let c = first (flat_map L.header_faults hs) in
    (neither b c (neither a (earlier b c) (sym (list-parts hs) ∙ h)).1).1

pub none-beyond : (k : ℕ) (xs : List ℕ) → take 1 (drop k xs) ≡ [] → length xs ≤ k
none-beyond k xs h = go (leb (length xs) k) refl
  where
    go : (b : Bool) → leb (length xs) k ≡ b → length xs ≤ k
    go true e = leb-true (length xs) k e
    go false e =
        let c = drop-cons xs k 0 (leb-false (length xs) k e) in
        let y = sym (ap (take 1) c) ∙ h in
        let z : ◌≡◌ {A = ℕ} 0 1 = cc in
        absurd (omega arith)

pub no-faults : (c : ℕ) (ps : List ℕ) → faults c ps ≡ [] → ps ≡ []
no-faults c [] h = refl
no-faults c (p ∷ ps) h = let z : ◌≡◌ {A = ℕ} 0 1 = cc in absurd (omega arith)

pub no-starts : (ts : List Token) → starts ts ≡ [] → ts ≡ []
no-starts [] h = refl
no-starts (t ∷ ts) h = let z : ◌≡◌ {A = ℕ} 0 1 = cc in absurd (omega arith)

-- a list without faults has no more operations than it may
pub few-operations : (hs : List Header) → first (list_faults hs) ≡ nothing → length hs ≤ max_operations
few-operations hs h =
    let ks = map (λ (g : Header). g.keyword.start) hs in
    let a = first (over max_operations ks) in
    let b = first (faults 13 (starts (repeats (map (λ (g : Header). g.name) hs)))) in
    let c = first (flat_map L.header_faults hs) in
    let e = (neither a (earlier b c) (sym (list-parts hs) ∙ h)).0 in
    let n = none-beyond max_operations ks (no-faults 12 (take 1 (drop max_operations ks)) (first-none (over max_operations ks) e)) in
    let l : length ks ≡ length hs = length-map hs (λ (g : Header). g.keyword.start) in
    omega arith

fewer-repeats : (seen ss ts : List Token) → repeats_after seen (ss ++ ts) ≡ [] → repeats_after seen ss ≡ []
unfolding repeats_after
fewer-repeats seen [] ts h = refl
fewer-repeats seen (s ∷ ss) ts h = go (is_among seen s) h (fewer-repeats (seen ++ (s ∷ [])) ss ts)
  where
    go : (b : Bool) → cond b (s ∷ repeats_after (seen ++ (s ∷ [])) (ss ++ ts)) (repeats_after (seen ++ (s ∷ [])) (ss ++ ts)) ≡ []
        → (repeats_after (seen ++ (s ∷ [])) (ss ++ ts) ≡ [] → repeats_after (seen ++ (s ∷ [])) ss ≡ [])
        → cond b (s ∷ repeats_after (seen ++ (s ∷ [])) ss) (repeats_after (seen ++ (s ∷ [])) ss) ≡ []
    go true e r = let z : ◌≡◌ {A = ℕ} 0 1 = cc in absurd (omega arith)
    go false e r = r e

-- the four kinds of faults of a header without faults
own-none : (h : Header) → first (L.header_faults h) ≡ nothing
    → (first (over max_parameters (starts (param_names h.params))) ≡ nothing) × (first (faults 13 (starts (repeats (header_names h)))) ≡ nothing)
own-none h e =
    let a = first (over max_parameters (starts (param_names h.params))) in
    let b = first (over max_results (starts (map (λ (r : Result). r.name) h.results))) in
    let c = first (faults 13 (starts (repeats (header_names h)))) in
    let d = first (L.default_faults h.params) in
    let x = neither (earlier a b) c (neither (earlier (earlier a b) c) d (sym (own-parts h) ∙ e)).0 in
    ((neither a b x.0).0, x.1)

-- its parameters are few, and no two have one name
pub few-params : (h : Header) → first (L.header_faults h) ≡ nothing → length h.params ≤ max_parameters
few-params h e =
    let ps = starts (param_names h.params) in
    let n = none-beyond max_parameters ps (no-faults 12 (take 1 (drop max_parameters ps)) (first-none (over max_parameters ps) (own-none h e).0)) in
    let l : length (starts (param_names h.params)) ≡ length h.params = length-map (param_names h.params) (λ (t : Token). t.start)
    ∙ length-map h.params (λ (p : Param). p.name) in
    omega arith

pub apart-params : (h : Header) → first (L.header_faults h) ≡ nothing → repeats (param_names h.params) ≡ []
apart-params h e =
    let ts = repeats (header_names h) in
    fewer-repeats [] (param_names h.params) (map (λ (r : Result). r.name) h.results)
    (no-starts ts (no-faults 13 (starts ts) (first-none (faults 13 (starts ts)) (own-none h e).1)))
