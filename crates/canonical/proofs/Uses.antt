-- The names that a call's arguments use, and those in the values that they bind: arguments of a canonical text use just these, in order;
-- other arguments use no fewer, for an argument binds one parameter at most, and defaults hold no names.
use mathlib.Core.Path.{◌≡◌, refl, sym, ap, ap₂, ◌∙◌}
use mathlib.Core.Bool.{Bool, true, false, cond}
use mathlib.Core.List.{List, [], ◌∷◌, ◌++◌, flat_map}
use mathlib.Core.Option.{Option, some}
use mathlib.Core.Option.{none as nothing}
use Prim.Native.Nat.{ℕ, ◌+◌, ◌≤◌}
use native.Mathlib.Omega.{arith}
use Rattle.lexis.specs.Lexer.{Token}
use Rattle.syntax.specs.Tree.{Value, Param, Arg}
use Rattle.syntax.specs.Tree.Arg.{positional, named}
use Rattle.lists.specs.Names.{names_in, value_of, repeats}
use Rattle.lists.specs.Reading.{Val, read_at, all_tensor}
use Rattle.lists.specs.ListRules.{param_names}
use Rattle.documents.specs.Arguments.{SoughtParam, seek}
use Rattle.documents.specs.Binding.{Slot, leading, value_at_place, later, named_value, or_else, slots_from, slots}
use Rattle.documents.proofs.Sought.{None, Only, of_name, seek-none, seek-only}
use Rattle.documents.proofs.Sought.None.{nil, cons}
use Rattle.documents.proofs.Sought.Only.{here, there}
use Rattle.writing.specs.Plan.{value_for, values_for, spellings}
use Rattle.canonical.proofs.Shape.{Named, no-arg, an-arg}
use Rattle.writing.proofs.Planned.{bound, both}
use Rattle.canonical.proofs.Spelt.{spellings-append, tally, tally-append, Within}
use Rattle.writing.specs.Lawful.{val_names}
use Rattle.canonical.proofs.ValueNames.{read_names}
use Rattle.canonical.proofs.Defaults.{Bare, no_bare, a-bare}

-- what arguments use, and what values hold
abbrev pub used_in : List Arg → List Token
used_in xs = flat_map (λ (a : Arg). names_in (value_of a)) xs

abbrev pub held_in : List Val → List (List ℕ)
held_in vs = flat_map val_names vs

pub named-uses : {ps : List Param} {vs : List Val} {xs : List Arg} → Named ps vs xs → spellings (used_in xs) ≡ held_in vs
unfolding flat_map
named-uses no-arg = refl
named-uses (an-arg {p} {w = w} {xs = xs} e r n) =
    spellings-append (names_in w) (used_in xs) ∙ ap₂ (λ (x y : List (List ℕ)). x ++ y) (read_names w p.ty r) (named-uses n)

module _ (g : List ℕ → Bool) where
  -- how many names of a value pass the test; of values; and of those that names bind to parameters
  abbrev pub size : Value → ℕ
  size v = tally g (spellings (names_in v))

  abbrev pub size_any : Option Value → ℕ
  size_any nothing = 0
  size_any (some v) = size v

  unfoldable sizes : List Value → ℕ
  sizes [] = 0
  sizes (v ∷ vs) = size v + sizes vs

  unfoldable pub size_named : List Param → List Arg → ℕ
  size_named [] xs = 0
  size_named (p ∷ ps) xs = size_any (named_value p.name xs) + size_named ps xs

  -- ---- the values that are bound

  pub read-size : (x : Value) (p : Param) {v : Val} → read_at x p.ty ≡ some v → tally g (val_names v) ≡ size x
  read-size x p r = sym (ap (tally g) (read_names x p.ty r))

  value-size : (p : Param) → ((d : Value) → p.default ≡ some d → names_in d ≡ []) → (a b : Option Value) {v : Val}
      → value_for (record { param = p; value = or_else a b }) ≡ some v → tally g (val_names v) ≤ size_any a + size_any b
  unfolding value_for tally
  value-size p f (some x) b h = omega (arith, read-size x p h)
  value-size p f nothing (some x) h = omega (arith, read-size x p h)
  value-size p f nothing nothing h =
      let d = bound p.default (λ x. read_at x p.ty) h in
      omega (arith, read-size d.it p d.gives, ap (λ (ts : List Token). tally g (spellings ts)) (f d.it d.there))

  place-size : (p : Param) (ls : List Value) → size_any (value_at_place p ls) + sizes (later ls) ≤ sizes ls
  unfolding sizes
  place-size p [] = omega arith
  place-size p (l ∷ ls) = go (all_tensor p.ty)
    where
      go : (b : Bool) → size_any (cond b (some l) nothing) + sizes ls ≤ size l + sizes ls
      go true = omega arith
      go false = omega arith

  values-size : {ps : List Param} → Bare ps → (ls : List Value) (xs : List Arg) {vs : List Val} → values_for (slots_from ps ls xs) ≡ some vs
      → tally g (held_in vs) ≤ sizes ls + size_named ps xs
  unfolding values_for slots_from flat_map size_named tally
  values-size no_bare ls xs {vs} h = let e : [] ≡ vs = cc in rw (← e) (omega arith)
  values-size (a-bare {p} {ps} f b) ls xs h =
      let s : Slot = record { param = p; value = or_else (value_at_place p ls) (named_value p.name xs) } in
      let x = both (value_for s) (values_for (slots_from ps (later ls) xs)) (λ w ws. w ∷ ws) h in
      let one = value-size p f (value_at_place p ls) (named_value p.name xs) x.one-there in
      let others = values-size b (later ls) xs x.two-there in
      rw (← x.made) (omega (arith, tally-append g (val_names x.one) (held_in x.two), place-size p ls))

  -- ---- the arguments that bind them

  named_none : (t : Token) (v : Value) (xs : List Arg) {ps : List Param} → None t ps → size_named ps (named t v ∷ xs) ≡ size_named ps xs
  unfolding size_named named_value
  named_none t v xs nil = refl
  named_none t v xs (cons h n) = simp (h, named_none t v xs n)

  named-only : (t : Token) (v : Value) (xs : List Arg) {j : ℕ} {p : Param} {ps : List Param} → Only t j p ps
      → size_named ps (named t v ∷ xs) ≤ size v + size_named ps xs
  unfolding size_named named_value
  named-only t v xs (here h n) = simp (h, named_none t v xs n) (omega arith)
  named-only t v xs (there h o) = simp h (omega (arith, named-only t v xs o))

  named-size : (t : Token) (v : Value) (xs : List Arg) (ps : List Param) → repeats (param_names ps) ≡ []
      → size_named ps (named t v ∷ xs) ≤ size v + size_named ps xs
  named-size t v xs ps d = go (seek (of_name t) 0 ps) refl
    where
      go : (o : Option SoughtParam) → seek (of_name t) 0 ps ≡ o → size_named ps (named t v ∷ xs) ≤ size v + size_named ps xs
      go nothing e = omega (arith, named_none t v xs (seek-none t 0 ps e))
      go (some s) e = named-only t v xs (seek-only t ps s d e)

  no-named : (ps : List Param) → size_named ps [] ≡ 0
  unfolding size_named named_value
  no-named [] = refl
  no-named (p ∷ ps) = omega (arith, no-named ps)

  positional-named : (v : Value) (xs : List Arg) (ps : List Param) → size_named ps (positional v ∷ xs) ≡ size_named ps xs
  unfolding size_named named_value
  positional-named v xs [] = refl
  positional-named v xs (p ∷ ps) = ap (λ (n : ℕ). size_any (named_value p.name xs) + n) (positional-named v xs ps)

  pub uses-more : (a : Arg) (xs : List Arg) → tally g (spellings (used_in (a ∷ xs))) ≡ size (value_of a) + tally g (spellings (used_in xs))
  unfolding flat_map
  uses-more a xs = ap (tally g) (spellings-append (names_in (value_of a)) (used_in xs)) ∙ tally-append g (spellings (names_in (value_of a))) (spellings (used_in xs))

  arguments-size : (ps : List Param) → repeats (param_names ps) ≡ [] → (xs : List Arg) → sizes (leading xs) + size_named ps xs ≤ tally g (spellings (used_in xs))
  unfolding leading sizes
  arguments-size ps d [] = omega (arith, no-named ps)
  arguments-size ps d (positional v ∷ xs) = omega (arith, arguments-size ps d xs, positional-named v xs ps, uses-more (positional v) xs)
  arguments-size ps d (named t v ∷ xs) = omega (arith, arguments-size ps d xs, named-size t v xs ps d, uses-more (named t v) xs)

pub values-within : (ps : List Param) (xs : List Arg) {vs : List Val} → Bare ps → repeats (param_names ps) ≡ [] → values_for (slots ps xs) ≡ some vs
    → Within (held_in vs) (spellings (used_in xs))
values-within ps xs b d h g = omega (arith, values-size g b (leading xs) xs h, arguments-size g ps d xs)
