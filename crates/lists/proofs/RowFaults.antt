-- The faults of a row, in the order in which the walk meets them, are those of the specification: 12, 13 and the items' own. First any row, then a header's
-- two rows, then a list. Relies on `First`, `Rules` and `ListFaults`.
use mathlib.Core.Path.{◌≡◌, refl, sym, ap, ap₂, ◌∙◌}
use mathlib.Core.Bool.{Bool}
use mathlib.Core.List.{List, [], ◌∷◌, ◌++◌, map, flat_map, append_assoc, append-nil}
use mathlib.Core.Option.{Option}
use mathlib.Core.Option.{none as nothing}
use Prim.Native.Nat.{ℕ, zero, suc, ◌+◌, ◌<◌}
use native.Mathlib.Omega.{arith}
use lib.Dec.{eqb}
use lib.ListN.{length, length-append}
use borrow.Author.Tests.{eq-eqb, ne_eqb}
use Rattle.lexis.specs.Sizes.{max_parameters, max_results}
use Rattle.lexis.specs.Lexer.{Token}
use Rattle.syntax.specs.Tree.{Param, Result, Header}
use Rattle.lists.specs.Fault.{Fault, fault, faults, starts, earlier, first}
use Rattle.lists.specs.Names.{is_among, repeats_after}
use Rattle.lists.specs.ListRules.{over, param_names, list_faults}
use Rattle.lists.specs.Lists.{default_faults, header_faults}
use Rattle.lists.specs.Walks.{when, scan, repeating}
use Rattle.lists.specs.Headers.{Judge, item_faults, row_faults, of_params, of_results, of_headers}
use Rattle.lists.proofs.First.{first-append, earlier-none, earlier-assoc, earlier-comm}
use Rattle.lists.proofs.HeaderScans.{repeats-append, first-at}
use Rattle.lists.proofs.Rules.{repeating-is}
use Rattle.lists.proofs.ListFaults.{swap, own-parts, list-parts}

-- ---- any row

module _ {A : Type 0} (j : Judge A) where
  -- 12 of the items from number i on
  unfoldable overs : ℕ → List A → List Fault
  overs i [] = []
  overs i (x ∷ xs) = when (eqb i j.size) (fault 12 (j.place x)) ++ overs (suc i) xs

  past : (i : ℕ) (xs : List A) → j.size < i → overs i xs ≡ []
  unfolding overs
  past i [] h = refl
  past i (x ∷ xs) h = ap₂ (λ (b : Bool) (l : List Fault). when b (fault 12 (j.place x)) ++ l) (ne_eqb i j.size (λ z. omega arith))
      (past (suc i) xs (omega arith))

  overs-are : (k i : ℕ) (xs : List A) → i + k ≡ j.size → overs i xs ≡ over k (map j.place xs)
  unfolding overs
  overs-are zero i [] h = refl
  overs-are (suc k) i [] h = refl
  overs-are zero i (x ∷ xs) h =
      ap₂ (λ (b : Bool) (l : List Fault). when b (fault 12 (j.place x)) ++ l) (eq-eqb i j.size (omega arith)) (past (suc i) xs (omega arith))
  overs-are (suc k) i (x ∷ xs) h =
      ap (λ (b : Bool). when b (fault 12 (j.place x)) ++ overs (suc i) xs) (ne_eqb i j.size (λ z. omega arith)) ∙ overs-are k (suc i) xs (omega arith)

  module _ (qs : List Token) where
    again : List Token → List Token → Option Fault
    again ss ts = first (scan (repeating 13) (qs ++ ss) ts)

    parts : (ss : List Token) (xs : List A)
        → first (row_faults j qs ss xs) ≡ earlier (first (overs (length ss) xs)) (earlier (again ss (map j.name_of xs)) (first (flat_map j.own xs)))
    unfolding row_faults overs again scan flat_map first
    parts ss [] = refl
    parts ss (x ∷ xs) =
        let t = j.name_of x in
        let s' = ss ++ (t ∷ []) in
        let w = when (eqb (length ss) j.size) (fault 12 (j.place x)) in
        let v = when (is_among (qs ++ ss) t) (fault 13 t.start) in
        let o = overs (suc (length ss)) xs in
        let a = scan (repeating 13) ((qs ++ ss) ++ (t ∷ [])) (map j.name_of xs) in
        let l : length s' ≡ suc (length ss) = let e = length-append ss (t ∷ []) in omega arith in
        let ih : first (row_faults j qs s' xs) ≡ earlier (first o) (earlier (first a) (first (flat_map j.own xs))) =
        parts s' xs
        ∙ ap₂ (λ (k : ℕ) (u : List Token). earlier (first (overs k xs)) (earlier (first (scan (repeating 13) u (map j.name_of xs)))
        (first (flat_map j.own xs))))
        l (sym (append_assoc qs ss (t ∷ [])))
        in
        first-append (w ++ (v ++ j.own x)) (row_faults j qs s' xs)
        ∙ ap₂ earlier (first-append w (v ++ j.own x) ∙ ap (earlier (first w)) (first-append v (j.own x))) ih
        ∙ swap (first w) (earlier (first v) (first (j.own x))) (first o) (earlier (first a) (first (flat_map j.own xs)))
        ∙ ap₂ earlier (sym (first-append w o))
        (swap (first v) (first (j.own x)) (first a) (first (flat_map j.own xs))
        ∙ ap₂ earlier (sym (first-append v a)) (sym (first-append (j.own x) (flat_map j.own xs))))

    -- a row from its start: the first beyond its size, the first name repeated, the first of the items' own faults
    pub row-parts : (xs : List A)
        → first (row_faults j qs [] xs)
        ≡ earlier (first (over j.size (map j.place xs)))
        (earlier (first (faults 13 (starts (repeats_after qs (map j.name_of xs))))) (first (flat_map j.own xs)))
    unfolding again
    row-parts xs =
        let names = map j.name_of xs in
        parts [] xs
        ∙ ap₂ (λ (a b : List Fault). earlier (first a) (earlier (first b) (first (flat_map j.own xs)))) (overs-are j.size 0 xs (omega arith))
        (ap (λ (l : List Token). scan (repeating 13) l names) (append-nil qs) ∙ sym (repeating-is 13 qs names))

    -- one item, and one before others
    pub row_one : (ss : List Token) (x : A) → first (row_faults j qs ss (x ∷ [])) ≡ first (item_faults j qs ss x)
    unfolding row_faults
    row_one ss x = ap first (append-nil (item_faults j qs ss x))

    pub row_more : (ss : List Token) (x : A) (xs : List A)
        → first (row_faults j qs ss (x ∷ xs)) ≡ earlier (first (row_faults j qs ss (x ∷ []))) (first (row_faults j qs (ss ++ (j.name_of x ∷ [])) xs))
    unfolding row_faults
    row_more ss x xs =
        first-append (item_faults j qs ss x) (row_faults j qs (ss ++ (j.name_of x ∷ [])) xs)
        ∙ ap (λ (a : Option Fault). earlier a (first (row_faults j qs (ss ++ (j.name_of x ∷ [])) xs))) (sym (row_one ss x))

    -- the faults of an item, after those met before
    pub item-parts : (ss : List Token) (x : A) (m : Option Fault)
        → earlier (earlier (earlier m (first (when (eqb (length ss) j.size) (fault 12 (j.place x)))))
        (first (when (is_among (qs ++ ss) (j.name_of x)) (fault 13 (j.name_of x).start))))
        (first (j.own x)) ≡ earlier m (first (item_faults j qs ss x))
    item-parts ss x m =
        let w = when (eqb (length ss) j.size) (fault 12 (j.place x)) in
        let v = when (is_among (qs ++ ss) (j.name_of x)) (fault 13 (j.name_of x).start) in
        let o = j.own x in
        ap (λ (a : Option Fault). earlier a (first o)) (earlier-assoc m (first w) (first v))
        ∙ earlier-assoc m (earlier (first w) (first v)) (first o)
        ∙ ap (earlier m) (earlier-assoc (first w) (first v) (first o) ∙ sym (first-append w (v ++ o) ∙ ap (earlier (first w)) (first-append v o)))

-- ---- a header

own-nothing : (rs : List Result) → first (flat_map of_results.own rs) ≡ nothing
unfolding flat_map first
own-nothing [] = refl
own-nothing (r ∷ rs) = own-nothing rs

starts-of : {A : Type 0} (f : A → Token) (xs : List A) → map (λ x. (f x).start) xs ≡ starts (map f xs)
starts-of f [] = refl
starts-of f (x ∷ xs) = ap (λ (l : List ℕ). (f x).start ∷ l) (starts-of f xs)

pub header-faults : (h : Header)
    → first (header_faults h) ≡ earlier (first (row_faults of_params [] [] h.params)) (first (row_faults of_results (param_names h.params) [] h.results))
header-faults h =
    let ps = param_names h.params in
    let rs = map (λ (r : Result). r.name) h.results in
    let a = first (over max_parameters (starts ps)) in
    let b = first (over max_results (starts rs)) in
    let c = first (faults 13 (starts (repeats_after [] ps))) in
    let e = first (faults 13 (starts (repeats_after ps rs))) in
    let d = first (default_faults h.params) in
    let p : first (row_faults of_params [] [] h.params) ≡ earlier a (earlier c d) =
    row-parts of_params [] h.params ∙ ap (λ (l : List ℕ). earlier (first (over max_parameters l)) (earlier c d))
    (starts-of (λ (p : Param). p.name) h.params) in
    let r : first (row_faults of_results ps [] h.results) ≡ earlier b e =
    row-parts of_results ps h.results
    ∙ ap₂ (λ (l : List ℕ) (o : Option Fault). earlier (first (over max_results l)) (earlier e o)) (starts-of (λ (r : Result). r.name) h.results)
    (own-nothing h.results)
    ∙ ap (earlier b) (earlier-none e) in
    own-parts h
    ∙ ap (λ (x : Option Fault). earlier (earlier (earlier a b) x) d)
    (ap (λ (ts : List Token). first (faults 13 (starts ts))) (repeats-append [] ps rs) ∙ first-at 13 (repeats_after [] ps) (repeats_after ps rs))
    ∙ earlier-assoc (earlier a b) (earlier c e) d
    ∙ ap (earlier (earlier a b)) (earlier-assoc c e d ∙ ap (earlier c) (earlier-comm e d) ∙ sym (earlier-assoc c d e))
    ∙ swap a b (earlier c d) e
    ∙ sym (ap₂ earlier p r)

-- ---- a list

pub list-faults : (hs : List Header) → first (row_faults of_headers [] [] hs) ≡ first (list_faults hs)
list-faults hs = row-parts of_headers [] hs ∙ sym (list-parts hs)
