-- The names in the values of a plan: those in the tree that a value is read from.
use mathlib.Core.Path.{◌≡◌, refl, ap₂, ◌∙◌}
use mathlib.Core.Bool.{Bool, true, false, cond, ◌&&◌}
use mathlib.Core.List.{List, [], ◌∷◌, ◌++◌}
use mathlib.Core.Option.{Option, some}
use Prim.Native.Nat.{ℕ}
use lib.Dec.{eqb}
use Rattle.lexis.specs.Kind as Kind
use Rattle.lexis.specs.Number.{value_from, signed}
use Rattle.syntax.specs.Tree.{Value, Values, Ty, Tys}
use Rattle.syntax.specs.Tree.Value.{name, literal, array, tuple}
use Rattle.syntax.specs.Tree.Values.{none, more}
use Rattle.syntax.specs.Tree.Ty.{tensor, extent, scalar, logical, string, array_of, tuple_of}
use Rattle.syntax.specs.Tree.Tys.{no-type, a-type}
use Rattle.lists.specs.Names.{names_in, names_of}
use Rattle.lists.specs.Reading.{Val, Vals, v_name, v_extent, v_string, v_array, v_tuple, no-val, a-val, where-true, name_at, is_number, content_of}
use Rattle.lists.specs.Reading.{is_extent, number_of, truth_of, literal_at, bind, read_at, read_all, read_each}
use Rattle.writing.specs.Plan.{spellings}
use Rattle.writing.specs.Lawful.{val_names, vals_names}
use Rattle.writing.proofs.Planned.{nothing-some, bound, both}
use Rattle.canonical.proofs.Spelt.{spellings-append}

-- ---- leaves

name-names : (u : Ty) (w : List ℕ) {v : Val} → name_at u w ≡ some v → w ∷ [] ≡ val_names v
unfolding val_names
name-names tensor w {v} h = let e : v_name w ≡ v = cc in rw (← e)
name-names extent w h = nothing-some h
name-names scalar w h = nothing-some h
name-names logical w h = nothing-some h
name-names string w h = nothing-some h
name-names (array_of u) w h = nothing-some h
name-names (tuple_of us) w h = nothing-some h

-- a value without names, where it is given at all
given-names : (b : Bool) (x : Val) {v : Val} → [] ≡ val_names x → where-true b x ≡ some v → [] ≡ val_names v
given-names true x {v} n h = let e : x ≡ v = cc in rw e at n
given-names false x n h = nothing-some h

literal-names : (u : Ty) (n : Bool) (k : ℕ) (w : List ℕ) {v : Val} → literal_at u n k w ≡ some v → [] ≡ val_names v
unfolding val_names
literal-names tensor n k w {v} h = go (eqb k Kind.truth) h
  where
    go : (b : Bool) → cond b (some (truth_of w)) (where-true (is_number k) (number_of n w)) ≡ some v → [] ≡ val_names v
    go true e = given-names true (truth_of w) refl e
    go false e = given-names (is_number k) (number_of n w) refl e
literal-names extent n k w h = given-names (eqb k Kind.whole && is_extent (signed n (value_from 0 w))) (v_extent (signed n (value_from 0 w))) refl h
literal-names scalar n k w h = given-names (is_number k) (number_of n w) refl h
literal-names logical n k w h = given-names (eqb k Kind.truth) (truth_of w) refl h
literal-names string n k w h = given-names (eqb k Kind.string) (v_string (content_of w)) refl h
literal-names (array_of u) n k w h = nothing-some h
literal-names (tuple_of us) n k w h = nothing-some h

-- ---- trees

-- an item and those after it
more-names : (x : Value) (xs : Values) (o : Option Val) (os : Option Vals) {vs : Vals} → ((w : Val) → o ≡ some w → spellings (names_in x) ≡ val_names w)
    → ((ws : Vals) → os ≡ some ws → spellings (names_of xs) ≡ vals_names ws) → bind o (λ w. bind os (λ ws. some (a-val w ws))) ≡ some vs
    → spellings (names_of (more x xs)) ≡ vals_names vs
unfolding names_of vals_names
more-names x xs o os f g h =
    let y = both o os a-val h in
    rw (← y.made) (spellings-append (names_in x) (names_of xs) ∙ ap₂ (λ (v w : List (List ℕ)). v ++ w) (f y.one y.one-there) (g y.two y.two-there))

mutual
  unfolding names_in names_of val_names vals_names read_at read_all read_each

  pub read_names : (x : Value) (u : Ty) {v : Val} → read_at x u ≡ some v → spellings (names_in x) ≡ val_names v
  read_names (name t) u h = name-names u t.bytes h
  read_names (literal l) u h = literal-names u l.negative l.token.kind l.token.bytes h
  read_names (array t xs) (array_of u) {v} h =
      let r = bound (read_all xs u) (λ ws. some (v_array ws)) h in
      let e : v_array r.it ≡ v = cc r.gives in
      rw (← e) (all-names xs u r.there)
  read_names (array t xs) tensor h = nothing-some h
  read_names (array t xs) extent h = nothing-some h
  read_names (array t xs) scalar h = nothing-some h
  read_names (array t xs) logical h = nothing-some h
  read_names (array t xs) string h = nothing-some h
  read_names (array t xs) (tuple_of us) h = nothing-some h
  read_names (tuple t xs) (tuple_of us) {v} h =
      let r = bound (read_each xs us) (λ ws. some (v_tuple ws)) h in
      let e : v_tuple r.it ≡ v = cc r.gives in
      rw (← e) (each-names xs us r.there)
  read_names (tuple t xs) tensor h = nothing-some h
  read_names (tuple t xs) extent h = nothing-some h
  read_names (tuple t xs) scalar h = nothing-some h
  read_names (tuple t xs) logical h = nothing-some h
  read_names (tuple t xs) string h = nothing-some h
  read_names (tuple t xs) (array_of u) h = nothing-some h

  all-names : (xs : Values) (u : Ty) {vs : Vals} → read_all xs u ≡ some vs → spellings (names_of xs) ≡ vals_names vs
  all-names none u {vs} h = let e : no-val ≡ vs = cc in rw (← e)
  all-names (more x xs) u h = more-names x xs (read_at x u) (read_all xs u) (λ w e. read_names x u e) (λ ws e. all-names xs u e) h

  each-names : (xs : Values) (us : Tys) {vs : Vals} → read_each xs us ≡ some vs → spellings (names_of xs) ≡ vals_names vs
  each-names none no-type {vs} h = let e : no-val ≡ vs = cc in rw (← e)
  each-names none (a-type u us) h = nothing-some h
  each-names (more x xs) no-type h = nothing-some h
  each-names (more x xs) (a-type u us) h = more-names x xs (read_at x u) (read_each xs us) (λ w e. read_names x u e) (λ ws e. each-names xs us e) h
