-- The values of a call's parameters. Where no argument is misplaced, what `argument_for` finds for a parameter is what binding gives it;
-- so the values of all parameters are those of the parameters one by one.
use mathlib.Core.Path.{◌≡◌, refl, sym, ap, ap₂, ◌∙◌}
use mathlib.Core.Bool.{Bool, true, false, cond}
use mathlib.Core.List.{List, [], ◌∷◌, ◌++◌}
use mathlib.Core.Option.{Option, some}
use mathlib.Core.Option.{none as nothing}
use Prim.Native.Nat.{ℕ, zero, suc, ◌+◌}
use native.Mathlib.Omega.{arith}
use borrow.Author.Tests.{eq-eqb, ne_eqb}
use lib.Dec.{eqb}
use lib.ListN.{drop}
use Rattle.spellings.specs.Comparison.{same_bytes}
use Rattle.syntax.specs.Tree.{Value, Param, Arg}
use Rattle.syntax.specs.Tree.Arg.{positional, named}
use Rattle.lists.specs.Fault.{Fault, fault, unless}
use Rattle.lists.specs.Names.{start_of}
use Rattle.lists.specs.Reading.{Val, bind, all_tensor}
use Rattle.documents.specs.Binding.{Slot, leading, value_at_place, later, named_value, or_else, slots_from, slots, misplaced_from, misplaced}
use Rattle.documents.proofs.Items.{clash}
use Rattle.documents.specs.Tallies.{Nth}
use Rattle.documents.specs.Tallies.Nth.{nth-first as first, after}
use Rattle.documents.proofs.Slots.{drop-later}
use Rattle.writing.specs.Plan.{value_for, values_for}
use Rattle.writing.specs.Writing.{argument_for}

-- ---- what is bound

-- no fault of a positional argument: it stands in its place, and none of those after it has one
no-fault : (b : Bool) (x : Fault) (r : List Fault) → unless b x ++ r ≡ [] → (b ≡ true) × (r ≡ [])
no-fault true x r h = (refl, h)
no-fault false x r h = clash cc

-- after a named argument there is no positional one
named-only : (j k : ℕ) (p : Param) (ps : List Param) (xs : List Arg) → misplaced_from false ps xs ≡ [] → named_value p.name xs ≡ argument_for j k p xs
unfolding misplaced_from named_value argument_for
named-only j k p ps [] h = refl
named-only j k p ps (positional v ∷ xs) h = clash cc
named-only j k p ps (named t v ∷ xs) h =
    ap (λ (r : Option Value). cond (same_bytes p.name.bytes t.bytes) (some v) r) (named-only (suc j) k p (later ps) xs h)

-- what binding gives a parameter, by the values from its place on and by its name
abbrev held : Param → List Value → List Arg → Option Value
held p vs xs = or_else (value_at_place p vs) (named_value p.name xs)

-- nothing is left of no values
none_left : (p : Param) (d : ℕ) (o : Option Value) → or_else (value_at_place p (drop d [])) o ≡ o
none_left p zero o = refl
none_left p (suc d) o = refl

-- what the parameter at place d is given by the arguments from number j on
given_is : (j d : ℕ) {p : Param} {ps : List Param} (xs : List Arg) → misplaced_from true ps xs ≡ [] → Nth d p ps
    → held p (drop d (leading xs)) xs ≡ argument_for j (j + d) p xs
unfolding misplaced_from leading named_value argument_for
given_is j d {p} [] h n = none_left p d nothing
given_is j d {p} {ps} (named t v ∷ xs) h n = none_left p d _ ∙ named-only j (j + d) p ps (named t v ∷ xs) h
given_is j zero {p} (positional v ∷ xs) h (first {ps = ps}) =
    let f = no-fault (all_tensor p.ty) (fault 16 (start_of v)) (misplaced_from true ps xs) h in
    simp (f.0, eq-eqb j (j + 0) (omega arith))
given_is j (suc d) {p} (positional v ∷ xs) h (after {q = q} {ps = ps} n) =
    let e : suc j + d ≡ j + suc d = omega arith in
    let z : eqb j (j + suc d) ≡ false = ne_eqb j (j + suc d) (λ (i : j ≡ j + suc d). omega arith) in
    given_is (suc j) d xs (no-fault (all_tensor q.ty) (fault 16 (start_of v)) (misplaced_from true ps xs) h).1 n
    ∙ ap (λ (k : ℕ). argument_for (suc j) k p xs) e
    ∙ ap (λ (b : Bool). cond b (some v) (argument_for (suc j) (j + suc d) p xs)) (sym z)

-- the slots of parameters, the first of them being number k, with what these arguments have for each
unfoldable pub filled_from : List Arg → ℕ → List Param → List Slot
filled_from xs k [] = []
filled_from xs k (p ∷ ps) = record { param = p; value = argument_for 0 k p xs } ∷ filled_from xs (suc k) ps

-- they are the slots where that is what binding gives each parameter
filled-by : (xs : List Arg) (k : ℕ) (ps : List Param) (vs : List Value)
    → ((d : ℕ) (p : Param) → Nth d p ps → held p (drop d vs) xs ≡ argument_for 0 (k + d) p xs)
    → slots_from ps vs xs ≡ filled_from xs k ps
unfolding slots_from filled_from
filled-by xs k [] vs h = refl
filled-by xs k (p ∷ ps) vs h =
    let e : k + 0 ≡ k = omega arith in
    ap₂ (λ (o : Option Value) (ss : List Slot). record { param = p; value = o } ∷ ss) (h 0 p first ∙ ap (λ (m : ℕ). argument_for 0 m p xs) e)
    (filled-by xs (suc k) ps (later vs) next)
  where
    next : (d : ℕ) (q : Param) → Nth d q ps → held q (drop d (later vs)) xs ≡ argument_for 0 (suc k + d) q xs
    next d q n =
        let e : k + suc d ≡ suc k + d = omega arith in
        ap (λ (ws : List Value). held q ws xs) (drop-later d vs) ∙ h (suc d) q (after n) ∙ ap (λ (m : ℕ). argument_for 0 m q xs) e

pub slots_filled : (ps : List Param) (xs : List Arg) → misplaced ps xs ≡ [] → slots ps xs ≡ filled_from xs 0 ps
slots_filled ps xs h = filled-by xs 0 ps (leading xs) (λ d p n. given_is 0 d xs h n)

-- ---- values

-- the value of the first parameter, and those of the others
pub record Values (xs : List Arg) (k : ℕ) (p : Param) (ps : List Param) (vs : List Val) : Type 0 where
  pub one : Val
  pub others : List Val
  pub whole : vs ≡ one ∷ others
  pub this : value_for (record { param = p; value = argument_for 0 k p xs }) ≡ some one
  pub rest : values_for (filled_from xs (suc k) ps) ≡ some others

pub values-more : (xs : List Arg) (k : ℕ) (p : Param) (ps : List Param) {vs : List Val} → values_for (filled_from xs k (p ∷ ps)) ≡ some vs → Values xs k p ps vs
unfolding values_for filled_from
values-more xs k p ps {vs} h = go (value_for (record { param = p; value = argument_for 0 k p xs })) refl (values_for (filled_from xs (suc k) ps)) refl h
  where
    go : (o : Option Val) → value_for (record { param = p; value = argument_for 0 k p xs }) ≡ o → (os : Option (List Val))
        → values_for (filled_from xs (suc k) ps) ≡ os
        → bind o (λ v. bind os (λ us. some (v ∷ us))) ≡ some vs → Values xs k p ps vs
    go nothing e os f z = clash cc
    go (some v) e nothing f z = clash cc
    go (some v) e (some us) f z = let w : vs ≡ v ∷ us = cc in record { one = v; others = us; whole = w; this = e; rest = f }
