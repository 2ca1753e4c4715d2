-- The faults of a body call by call are those that the specification lists code by code, and so for a document: the sums are the same
-- in another order. Sums of faults first, then bodies, then documents. Assumes nothing.
use mathlib.Core.Path.{◌≡◌, refl, sym, ap, ap₂, ◌∙◌}
use mathlib.Core.Bool.{Bool, true, false, cond}
use mathlib.Core.List.{List, [], ◌∷◌, ◌++◌, map, flat_map, flatten, append_assoc, append-nil}
use mathlib.Core.Option.{Option}
use mathlib.Core.Option.{none as nothing}
use Prim.Native.Nat.{ℕ, suc}
use lib.Dec.{eqb}
use lib.ListN.{length}
use Rattle.lexis.specs.Sizes.{max_inputs, max_outputs, max_calls, max_assigned, max_uses}
use Rattle.lexis.specs.Lexer.{Token}
use Rattle.syntax.specs.Tree.{Header, Call, Document}
use Rattle.lists.specs.Fault.{Fault, fault, faults, starts, earlier, first}
use Rattle.lists.specs.Names.{those, is_among, first_token, start_of, assigned, used, all_assigned, all_used}
use Rattle.lists.specs.ListRules.{over}
use Rattle.lists.specs.Walks.{when, scan, passing, repeating, beyond}
use Rattle.lists.proofs.First.{first-append, earlier-assoc, earlier-comm, earlier-none}
use Rattle.lists.proofs.Rules.{interchange, first-scan, scan-one, first-both, passing-is, repeating-is, beyond-is}
use Rattle.documents.specs.Wiring.{strangers, is_external, again, unwired_after, unwired, misfed_by, misfed, unmade}
use Rattle.documents.specs.DocumentRules.{bad_version, document_counts, graph_repeats, document_faults}
use Rattle.documents.specs.Operations.{operation_faults}
use Rattle.documents.specs.Walks.{listing, misfeeds, assigning, consuming, call_faults, body_faults, own_faults}
use Rattle.documents.proofs.DocumentFaults.{document-parts}

-- ---- sums

unfoldable sum : List (Option Fault) → Option Fault
sum [] = nothing
sum (a ∷ l) = earlier a (sum l)

-- one of them comes first
pick : (xs : List (Option Fault)) (a : Option Fault) (ys : List (Option Fault)) → sum (xs ++ (a ∷ ys)) ≡ earlier a (sum (xs ++ ys))
unfolding sum
pick [] a ys = refl
pick (x ∷ xs) a ys =
    ap (earlier x) (pick xs a ys)
    ∙ sym (earlier-assoc x a (sum (xs ++ ys)))
    ∙ ap (λ (z : Option Fault). earlier z (sum (xs ++ ys))) (earlier-comm x a)
    ∙ earlier-assoc a x (sum (xs ++ ys))

-- a sum of sums
sums : (xs ys : List (Option Fault)) → earlier (sum xs) (sum ys) ≡ sum (xs ++ ys)
unfolding sum
sums [] ys = refl
sums (x ∷ xs) ys = earlier-assoc x (sum xs) (sum ys) ∙ ap (earlier x) (sums xs ys)

first-flatten : (xss : List (List Fault)) → first (flatten xss) ≡ sum (map first xss)
unfolding sum first flatten
first-flatten [] = refl
first-flatten (xs ∷ xss) = first-append xs (flatten xss) ∙ ap (earlier (first xs)) (first-flatten xss)

-- ---- bodies

pub flat_append : {A B : Type 0} (f : A → List B) (xs ys : List A) → flat_map f (xs ++ ys) ≡ flat_map f xs ++ flat_map f ys
unfolding flat_map
flat_append f [] ys = refl
flat_append f (x ∷ xs) ys = ap (λ (l : List _). f x ++ l) (flat_append f xs ys) ∙ sym (append_assoc (f x) (flat_map f xs) (flat_map f ys))

pub flat-one : {A B : Type 0} (f : A → List B) (x : A) → flat_map f (x ∷ []) ≡ f x
unfolding flat_map
flat-one f x = append-nil (f x)

pub assigned-last : (ds : List Call) (c : Call) → all_assigned (ds ++ (c ∷ [])) ≡ all_assigned ds ++ assigned c
unfolding all_assigned
assigned-last ds c = flat_append assigned ds (c ∷ []) ∙ ap (λ (l : List Token). flat_map assigned ds ++ l) (flat-one assigned c)

pub used-last : (ds : List Call) (c : Call) → all_used (ds ++ (c ∷ [])) ≡ all_used ds ++ used c
unfolding all_used
used-last ds c = flat_append used ds (c ∷ []) ∙ ap (λ (l : List Token). flat_map used ds ++ l) (flat-one used c)

-- the first tokens of calls
abbrev opener : Call → Token
opener c = first_token c.left

openers : List Call → List Token
openers cs = map opener cs

openers-last : (ds : List Call) (c : Call) → openers (ds ++ (c ∷ [])) ≡ openers ds ++ (opener c ∷ [])
unfolding openers
openers-last [] c = refl
openers-last (d ∷ ds) c = ap (λ (l : List Token). opener d ∷ l) (openers-last ds c)

openers-length : (ds : List Call) → length (openers ds) ≡ length ds
unfolding openers
openers-length [] = refl
openers-length (d ∷ ds) = ap suc (openers-length ds)

-- six sums side by side, in the order in which a call's faults are met
record Six : Type 0 where
  calls : Option Fault
  assigns : Option Fault
  repeats : Option Fault
  feeds : Option Fault
  uses : Option Fault
  wires : Option Fault

abbrev six : Six → Option Fault
six x = earlier x.calls (earlier (earlier x.assigns (earlier x.repeats x.feeds)) (earlier x.uses x.wires))

abbrev plus : Six → Six → Six
plus x y =
    record {
      calls = earlier x.calls y.calls;
      assigns = earlier x.assigns y.assigns;
      repeats = earlier x.repeats y.repeats;
      feeds = earlier x.feeds y.feeds;
      uses = earlier x.uses y.uses;
      wires = earlier x.wires y.wires;
    }

six-sum : (x y : Six) → earlier (six x) (six y) ≡ six (plus x y)
six-sum x y =
    let l = earlier x.assigns (earlier x.repeats x.feeds) in
    let l' = earlier y.assigns (earlier y.repeats y.feeds) in
    let u = earlier x.uses x.wires in
    let u' = earlier y.uses y.wires in
    interchange x.calls (earlier l u) y.calls (earlier l' u')
    ∙ ap (earlier (earlier x.calls y.calls))
    (interchange l u l' u'
    ∙ ap₂ earlier
    (interchange x.assigns (earlier x.repeats x.feeds) y.assigns (earlier y.repeats y.feeds)
    ∙ ap (earlier (earlier x.assigns y.assigns)) (interchange x.repeats x.feeds y.repeats y.feeds))
    (interchange x.uses x.wires y.uses y.wires))

module _ (inputs : List Token) where
  abbrev feed : Bool → Token → Bool
  feed x t = misfeeds x (is_among inputs t)

  -- the faults of code 23 of one call
  fed-is : (c : Call) (ss : List Token) → misfed_by inputs c ≡ scan (passing 23 (feed (is_external c))) ss (assigned c)
  unfolding misfed_by
  fed-is c ss = go (is_external c)
    where
      go : (x : Bool)
          → faults 23 (starts (cond x (strangers inputs (assigned c)) (those (is_among inputs) (assigned c)))) ≡ scan (passing 23 (feed x)) ss (assigned c)
      go true = passing-is 23 (feed true) ss (assigned c)
      go false = passing-is 23 (feed false) ss (assigned c)

  -- calls after the calls ds; one call after them
  abbrev all : List Call → List Call → Six
  all ds cs =
      record {
        calls = first (scan (beyond max_calls) (openers ds) (openers cs));
        assigns = first (scan (beyond max_assigned) (all_assigned ds) (all_assigned cs));
        repeats = first (scan (repeating 21) (all_assigned ds) (all_assigned cs));
        feeds = first (flat_map (misfed_by inputs) cs);
        uses = first (scan (beyond max_uses) (all_used ds) (all_used cs));
        wires = first (unwired_after (all_assigned ds) cs);
      }

  abbrev one : List Call → Call → Six
  one ds c =
      record {
        calls = first (when (eqb (length ds) max_calls) (fault 12 (opener c).start));
        assigns = first (scan (beyond max_assigned) (all_assigned ds) (assigned c));
        repeats = first (scan (repeating 21) (all_assigned ds) (assigned c));
        feeds = first (misfed_by inputs c);
        uses = first (scan (beyond max_uses) (all_used ds) (used c));
        wires = first (faults 22 (starts (strangers (all_assigned ds) (used c))));
      }

  one-is : (ds : List Call) (c : Call) → first (call_faults inputs ds c) ≡ six (one ds c)
  unfolding call_faults
  one-is ds c =
      let A = scan (assigning inputs (is_external c)) (all_assigned ds) (assigned c) in
      let U = scan (consuming (all_assigned ds)) (all_used ds) (used c) in
      first-append (when (eqb (length ds) max_calls) (fault 12 (opener c).start)) (A ++ U)
      ∙ ap (earlier (first (when (eqb (length ds) max_calls) (fault 12 (opener c).start))))
      (first-append A U
      ∙ ap₂ earlier
      (first-both (beyond max_assigned) _ (all_assigned ds) (assigned c)
      ∙ ap (earlier (first (scan (beyond max_assigned) (all_assigned ds) (assigned c))))
      (first-both (repeating 21) _ (all_assigned ds) (assigned c)
      ∙ ap (λ (l : List Fault). earlier (first (scan (repeating 21) (all_assigned ds) (assigned c))) (first l)) (sym (fed-is c (all_assigned ds)))))
      (first-both (beyond max_uses) _ (all_used ds) (used c)
      ∙ ap (λ (l : List Fault). earlier (first (scan (beyond max_uses) (all_used ds) (used c))) (first l)) (sym (passing-is 22 _ (all_used ds) (used c)))))

  calls-step : (ds : List Call) (c : Call) (cs : List Call) → first (scan (beyond max_calls) (openers ds) (openers (c ∷ cs)))
      ≡ earlier (first (when (eqb (length ds) max_calls) (fault 12 (opener c).start))) (first (scan (beyond max_calls) (openers (ds ++ (c ∷ []))) (openers cs)))
  unfolding openers
  calls-step ds c cs =
      first-scan (beyond max_calls) (openers ds) (opener c ∷ []) (openers cs)
      ∙ ap₂ (λ (x : List Fault) (l : List Token). earlier (first x) (first (scan (beyond max_calls) l (openers cs))))
      (scan-one (beyond max_calls) (openers ds) (opener c) ∙ ap (λ (k : ℕ). when (eqb k max_calls) (fault 12 (opener c).start)) (openers-length ds))
      (sym (openers-last ds c))

  -- one call, and those after it
  next-is : (ds : List Call) (c : Call) (cs : List Call) → six (all ds (c ∷ cs)) ≡ earlier (six (one ds c)) (six (all (ds ++ (c ∷ [])) cs))
  unfolding all_assigned all_used flat_map unwired_after
  next-is ds c cs =
      let e = sym (assigned-last ds c) in
      let u = sym (used-last ds c) in
      let b : first (scan (beyond max_assigned) (all_assigned ds) (all_assigned (c ∷ cs))) ≡ earlier
      (first (scan (beyond max_assigned) (all_assigned ds) (assigned c))) (first (scan (beyond max_assigned) (all_assigned (ds ++ (c ∷ []))) (all_assigned cs))) =
      first-scan (beyond max_assigned) (all_assigned ds) (assigned c) (all_assigned cs)
      ∙ ap
      (λ (l : List Token). earlier (first (scan (beyond max_assigned) (all_assigned ds) (assigned c))) (first (scan (beyond max_assigned) l (all_assigned cs))))
      e in
      let r : first (scan (repeating 21) (all_assigned ds) (all_assigned (c ∷ cs))) ≡ earlier (first (scan (repeating 21) (all_assigned ds) (assigned c)))
      (first (scan (repeating 21) (all_assigned (ds ++ (c ∷ []))) (all_assigned cs))) =
      first-scan (repeating 21) (all_assigned ds) (assigned c) (all_assigned cs)
      ∙ ap (λ (l : List Token). earlier (first (scan (repeating 21) (all_assigned ds) (assigned c))) (first (scan (repeating 21) l (all_assigned cs)))) e in
      let f : first (flat_map (misfed_by inputs) (c ∷ cs)) ≡ earlier (first (misfed_by inputs c)) (first (flat_map (misfed_by inputs) cs)) = first-append
      (misfed_by inputs c) (flat_map (misfed_by inputs) cs) in
      let v : first (scan (beyond max_uses) (all_used ds) (all_used (c ∷ cs))) ≡ earlier (first (scan (beyond max_uses) (all_used ds) (used c)))
      (first (scan (beyond max_uses) (all_used (ds ++ (c ∷ []))) (all_used cs))) =
      first-scan (beyond max_uses) (all_used ds) (used c) (all_used cs)
      ∙ ap (λ (l : List Token). earlier (first (scan (beyond max_uses) (all_used ds) (used c))) (first (scan (beyond max_uses) l (all_used cs)))) u in
      let w : first (unwired_after (all_assigned ds) (c ∷ cs)) ≡ earlier (first (faults 22 (starts (strangers (all_assigned ds) (used c)))))
      (first (unwired_after (all_assigned (ds ++ (c ∷ []))) cs)) =
      first-append (faults 22 (starts (strangers (all_assigned ds) (used c)))) (unwired_after (all_assigned ds ++ assigned c) cs)
      ∙ ap (λ (l : List Token). earlier (first (faults 22 (starts (strangers (all_assigned ds) (used c))))) (first (unwired_after l cs))) e in
      ap₂ earlier (calls-step ds c cs) (ap₂ earlier (ap₂ earlier b (ap₂ earlier r f)) (ap₂ earlier v w)) ∙ sym (six-sum (one ds c) (all (ds ++ (c ∷ [])) cs))

  none_is : (ds : List Call) → six (all ds []) ≡ nothing
  unfolding openers all_assigned all_used flat_map unwired_after scan first
  none_is ds = refl

  body-from : (ds cs : List Call) → first (body_faults inputs ds cs) ≡ six (all ds cs)
  unfolding body_faults first
  body-from ds [] = sym (none_is ds)
  body-from ds (c ∷ cs) =
      first-append (call_faults inputs ds c) (body_faults inputs (ds ++ (c ∷ [])) cs)
      ∙ ap₂ earlier (one-is ds c) (body-from (ds ++ (c ∷ [])) cs)
      ∙ sym (next-is ds c cs)

-- ---- documents

module _ (d : Document) where
  abbrev known : List Token
  known = all_assigned d.calls

  abbrev counts : List (List Fault)
  counts =
      over max_inputs (starts d.inputs)
      ∷ over max_outputs (starts d.outputs)
      ∷ over max_calls (map (λ (c : Call). start_of c.left) d.calls)
      ∷ over max_assigned (starts known)
      ∷ over max_uses (starts (all_used d.calls))
      ∷ []

  abbrev others : List (Option Fault)
  others =
      first (graph_repeats d)
      ∷ first (again d)
      ∷ first (unwired d)
      ∷ first (faults 23 (starts (strangers known d.inputs)))
      ∷ first (flat_map (misfed_by d.inputs) d.calls)
      ∷ first (unmade d)
      ∷ []

  counts-is : first (document_counts d) ≡ sum (map first counts)
  unfolding document_counts
  counts-is = first-flatten counts

  misfed-is : (x : Option Fault)
      → earlier (first (misfed d)) x ≡ earlier (first (faults 23 (starts (strangers known d.inputs))))
      (earlier (first (flat_map (misfed_by d.inputs) d.calls)) x)
  unfolding misfed
  misfed-is x =
      let a = faults 23 (starts (strangers known d.inputs)) in
      let b = flat_map (misfed_by d.inputs) d.calls in
      ap (λ (z : Option Fault). earlier z x) (first-append a b) ∙ earlier-assoc (first a) (first b) x

  own_is : first (own_faults d) ≡ sum (first (bad_version d) ∷ (map first counts ++ others))
  unfolding own_faults sum
  own_is =
      first-flatten (bad_version d ∷ document_counts d ∷ graph_repeats d ∷ again d ∷ unwired d ∷ misfed d ∷ unmade d ∷ [])
      ∙ ap (earlier (first (bad_version d)))
      (ap₂ earlier counts-is
      (ap (λ (x : Option Fault). earlier (first (graph_repeats d)) (earlier (first (again d)) (earlier (first (unwired d)) x)))
      (misfed-is (earlier (first (unmade d)) nothing)))
      ∙ sums (map first counts) others)

  map-map : (cs : List Call) → starts (openers cs) ≡ map (λ (c : Call). start_of c.left) cs
  unfolding openers
  map-map [] = refl
  map-map (c ∷ cs) = ap (λ (l : List ℕ). start_of c.left ∷ l) (map-map cs)

  body_is : first (body_faults d.inputs [] d.calls)
      ≡ six
      (record {
        calls = first (over max_calls (map (λ (c : Call). start_of c.left) d.calls));
        assigns = first (over max_assigned (starts known));
        repeats = first (again d);
        feeds = first (flat_map (misfed_by d.inputs) d.calls);
        uses = first (over max_uses (starts (all_used d.calls)));
        wires = first (unwired d);
      })
  unfolding openers all_assigned all_used flat_map again
  body_is =
      let c : first (scan (beyond max_calls) [] (openers d.calls)) ≡ first (over max_calls (map (λ (c : Call). start_of c.left) d.calls)) =
      ap first (sym (beyond-is max_calls (openers d.calls)) ∙ ap (over max_calls) (map-map d.calls)) in
      let a : first (scan (beyond max_assigned) [] known) ≡ first (over max_assigned (starts known)) = ap first (sym (beyond-is max_assigned known)) in
      let g : first (scan (repeating 21) [] known) ≡ first (again d) = ap first (sym (repeating-is 21 [] known)) in
      let u : first (scan (beyond max_uses) [] (all_used d.calls)) ≡ first (over max_uses (starts (all_used d.calls))) = ap first
      (sym (beyond-is max_uses (all_used d.calls))) in
      body-from d.inputs [] d.calls
      ∙ ap₂ earlier c
      (ap₂ earlier (ap₂ earlier a (ap (λ (x : Option Fault). earlier x (first (flat_map (misfed_by d.inputs) d.calls))) g))
      (ap (λ (x : Option Fault). earlier x (first (unwired d))) u))

order : (v i o c a u r g w i' f o' : Option Fault) → sum (v ∷ i ∷ o ∷ c ∷ a ∷ u ∷ r ∷ g ∷ w ∷ i' ∷ f ∷ o' ∷ [])
    ≡ earlier v (earlier (earlier i i') (earlier (earlier o o') (earlier r (earlier c (earlier (earlier a (earlier g f)) (earlier u w))))))
unfolding sum
order v i o c a u r g w i' f o' =
    let uw = earlier u w in
    let left : earlier a (earlier g (earlier f uw)) ≡ earlier (earlier a (earlier g f)) uw = ap (earlier a) (sym (earlier-assoc g f uw))
    ∙ sym (earlier-assoc a (earlier g f) uw) in
    let body = earlier (earlier a (earlier g f)) uw in
    let end : sum (u ∷ w ∷ []) ≡ uw = ap (earlier u) (earlier-none w) in
    ap (earlier v)
    (ap (earlier i) (pick (o ∷ c ∷ a ∷ u ∷ r ∷ g ∷ w ∷ []) i' (f ∷ o' ∷ [])
    ∙ ap (earlier i')
    (ap (earlier o) (pick (c ∷ a ∷ u ∷ r ∷ g ∷ w ∷ f ∷ []) o' []
    ∙ ap (earlier o') (pick (c ∷ a ∷ u ∷ []) r (g ∷ w ∷ f ∷ [])
    ∙ ap (earlier r) (ap (earlier c) (ap (earlier a) (pick (u ∷ []) g (w ∷ f ∷ []) ∙ ap (earlier g) (pick (u ∷ w ∷ []) f [] ∙ ap (earlier f) end)) ∙ left))))
    ∙ sym (earlier-assoc o o' (earlier r (earlier c body)))))
    ∙ sym (earlier-assoc i i' (earlier (earlier o o') (earlier r (earlier c body)))))

own-sum : (d : Document) → let known = all_assigned d.calls in first (own_faults d)
    ≡ earlier (first (bad_version d))
    (earlier (earlier (first (over max_inputs (starts d.inputs))) (first (faults 23 (starts (strangers known d.inputs)))))
    (earlier (earlier (first (over max_outputs (starts d.outputs))) (first (faults 24 (starts (strangers known d.outputs)))))
    (earlier (first (graph_repeats d)) (first (body_faults d.inputs [] d.calls)))))
unfolding unmade
own-sum d =
    let missing : ℕ → List Token → Option Fault = λ code ts. first (faults code (starts (strangers (all_assigned d.calls) ts))) in
    own_is d
    ∙ order _ _ _ _ _ _ _ _ _ _ _ _
    ∙ ap (λ (x : Option Fault).
    earlier (first (bad_version d))
    (earlier (earlier (first (over max_inputs (starts d.inputs))) (missing 23 d.inputs))
    (earlier (earlier (first (over max_outputs (starts d.outputs))) (missing 24 d.outputs)) (earlier (first (graph_repeats d)) x)))) (sym (body_is d))

-- ---- as the code meets them

-- the names of a header: beyond a size, or listed already
shifted : (known ss ts : List Token) → scan (λ ps t. when (is_among (known ++ ps) t) (fault 13 t.start)) ss ts ≡ scan (repeating 13) (known ++ ss) ts
unfolding scan
shifted known ss [] = refl
shifted known ss (t ∷ ts) =
    ap (λ (l : List Fault). when (is_among (known ++ ss) t) (fault 13 t.start) ++ l)
    (shifted known (ss ++ (t ∷ [])) ts ∙ ap (λ (l : List Token). scan (repeating 13) l ts) (sym (append_assoc known ss (t ∷ []))))

listed-is : (size : ℕ) (known ts : List Token)
    → first (scan (listing size known) [] ts) ≡ earlier (first (over size (starts ts))) (first (scan (repeating 13) known ts))
listed-is size known ts =
    first-both (beyond size) (λ ps t. when (is_among (known ++ ps) t) (fault 13 t.start)) [] ts
    ∙ ap₂ (λ (x y : List Fault). earlier (first x) (first y)) (sym (beyond-is size ts))
    (shifted known [] ts ∙ ap (λ (l : List Token). scan (repeating 13) l ts) (append-nil known))

repeats-are : (d : Document)
    → first (graph_repeats d) ≡ earlier (first (scan (repeating 13) [] d.inputs)) (first (scan (repeating 13) d.inputs d.outputs))
unfolding graph_repeats
repeats-are d = ap first (repeating-is 13 [] (d.inputs ++ d.outputs)) ∙ first-scan (repeating 13) [] d.inputs d.outputs

-- the same sums in the order of the code
reorder : (v i i' o o' r s b p : Option Fault)
    → earlier (earlier v (earlier (earlier i i') (earlier (earlier o o') (earlier (earlier r s) b)))) p
    ≡ earlier (earlier (earlier (earlier (earlier v (earlier i r)) (earlier o s)) (earlier b p)) i') o'
unfolding sum
reorder v i i' o o' r s b p =
    let tail : earlier i' o' ≡ sum (i' ∷ o' ∷ []) = ap (earlier i') (sym (earlier-none o')) in
    let end : sum (r ∷ s ∷ b ∷ p ∷ []) ≡ earlier r (earlier s (earlier b p)) = ap (λ (x : Option Fault). earlier r (earlier s (earlier b x))) (earlier-none p)
    in
    let inner : earlier r (earlier o (earlier s (earlier b (earlier p (earlier i' o'))))) ≡ earlier i'
    (earlier o (earlier o' (earlier r (earlier s (earlier b p))))) =
    ap (λ (x : Option Fault). earlier r (earlier o (earlier s (earlier b (earlier p x))))) tail
    ∙ pick (r ∷ o ∷ s ∷ b ∷ p ∷ []) i' (o' ∷ [])
    ∙ ap (earlier i') (pick (r ∷ []) o (s ∷ b ∷ p ∷ o' ∷ []) ∙ ap (earlier o) (pick (r ∷ s ∷ b ∷ p ∷ []) o' [] ∙ ap (earlier o') end)) in
    simp earlier-assoc (ap (λ (x : Option Fault). earlier v (earlier i x)) (sym inner))

-- The faults of a document under its headers, as the walk over its names and calls meets them.
pub document-sum : (hs : List Header) (d : Document) → let known = all_assigned d.calls in first (document_faults hs d)
    ≡ earlier
    (earlier
    (earlier
    (earlier (earlier (first (bad_version d)) (first (scan (listing max_inputs []) [] d.inputs)))
    (first (scan (listing max_outputs d.inputs) [] d.outputs)))
    (earlier (first (body_faults d.inputs [] d.calls)) (first (flat_map (operation_faults hs) d.calls))))
    (first (faults 23 (starts (strangers known d.inputs)))))
    (first (faults 24 (starts (strangers known d.outputs))))
document-sum hs d =
    document-parts hs d
    ∙ ap (λ (x : Option Fault). earlier x (first (flat_map (operation_faults hs) d.calls)))
    (own-sum d ∙ ap (λ (x : Option Fault).
    earlier (first (bad_version d))
    (earlier (earlier (first (over max_inputs (starts d.inputs))) (first (faults 23 (starts (strangers (all_assigned d.calls) d.inputs)))))
    (earlier (earlier (first (over max_outputs (starts d.outputs))) (first (faults 24 (starts (strangers (all_assigned d.calls) d.outputs)))))
    (earlier x (first (body_faults d.inputs [] d.calls)))))) (repeats-are d))
    ∙ reorder (first (bad_version d)) (first (over max_inputs (starts d.inputs))) (first (faults 23 (starts (strangers (all_assigned d.calls) d.inputs))))
    (first (over max_outputs (starts d.outputs))) (first (faults 24 (starts (strangers (all_assigned d.calls) d.outputs))))
    (first (scan (repeating 13) [] d.inputs)) (first (scan (repeating 13) d.inputs d.outputs)) (first (body_faults d.inputs [] d.calls))
    (first (flat_map (operation_faults hs) d.calls))
    ∙ ap₂ (λ (x y : Option Fault).
    earlier (earlier (earlier (earlier (earlier (first (bad_version d)) x) y)
    (earlier (first (body_faults d.inputs [] d.calls)) (first (flat_map (operation_faults hs) d.calls))))
    (first (faults 23 (starts (strangers (all_assigned d.calls) d.inputs))))) (first
    (faults 24 (starts (strangers (all_assigned d.calls) d.outputs)))))
    (sym (listed-is max_inputs [] d.inputs)) (sym (listed-is max_outputs d.inputs d.outputs))
