-- Arguments that break no rule use no other names than the values that they bind hold: each argument is bound, a positional one by its
-- place, a named one by its name, which no other has. With `values-within` the names are the same on both sides, for every count.
-- In order: what slots hold; named arguments; positional ones before them; a call.
use mathlib.Core.Path.{◌≡◌, refl, sym, ap, ap₂, ◌∙◌}
use mathlib.Core.Bool.{Bool, true, false, cond, not, ◌||◌, or-true, true≢false, false≢true}
use mathlib.Core.List.{List, [], ◌∷◌, ◌++◌, flat_map, flatten, append-eq-nil_iff, cons≢nil}
use mathlib.Core.Option.{Option, some}
use mathlib.Core.Option.{none as nothing}
use Prim.Native.Nat.{ℕ, ◌+◌, ◌≤◌}
use native.Mathlib.Omega.{arith}
use borrow.Author.Tests.{not-false}
use Rattle.spellings.specs.Comparison.{same_bytes}
use Rattle.lexis.specs.Lexer.{Token}
use Rattle.syntax.specs.Tree.{Value, Param, Arg}
use Rattle.syntax.specs.Tree.Arg.{positional, named}
use Rattle.lists.specs.Fault.{fault, starts, unless}
use Rattle.lists.specs.Names.{those, is_among, repeats_after, repeats, start_of}
use Rattle.lists.specs.Reading.{Val, is_some, all_tensor}
use Rattle.lists.specs.ListRules.{param_names}
use Rattle.lists.proofs.Faultless.{no-faults, no-starts}
use Rattle.documents.specs.Code as Code
use Rattle.documents.specs.Binding.{leading, labels, value_at_place, later, named_value, or_else, slots_from, slots, taken, misplaced_from, misplaced, misnamed}
use Rattle.documents.specs.Wiring.{strangers}
use Rattle.documents.proofs.Lookups.{among-append}
use Rattle.documents.proofs.Sought.{same-is, same_self, same-sym}
use Rattle.writing.specs.Plan.{value_for, values_for, spellings}
use Rattle.writing.specs.Lawful.{val_names}
use Rattle.writing.proofs.Good.{Each}
use Rattle.writing.proofs.Planned.{both}
use Rattle.writing.proofs.PlanExists.{row-none}
use Rattle.canonical.proofs.Spelt.{tally, tally-append, Within, fresh}
use Rattle.canonical.proofs.NamedArguments.{or-neither}
use Rattle.canonical.proofs.Uses.{used_in, held_in, size, size_any, size_named, read-size, uses-more}

-- ---- names

-- whether a name is among others depends on its bytes
same-among : (ss : List Token) (s t : Token) → s.bytes ≡ t.bytes → is_among ss s ≡ is_among ss t
unfolding is_among
same-among [] s t e = refl
same-among (r ∷ ss) s t e = ap₂ (λ (a b : Bool). a || b) (ap (same_bytes r.bytes) e) (same-among ss s t e)

-- a name that stands before and is not repeated does not stand after
never-again : (seen ts : List Token) (t : Token) → repeats_after seen ts ≡ [] → is_among seen t ≡ true → is_among ts t ≡ false
unfolding is_among
never-again seen [] t h a = refl
never-again seen (s ∷ ts) t h a =
    let f = fresh seen s ts h in
    let k : is_among (seen ++ (s ∷ [])) t ≡ true = among-append seen (s ∷ []) t ∙ ap (λ (b : Bool). b || is_among (s ∷ []) t) a in
    go (same_bytes s.bytes t.bytes) refl f.0 (never-again (seen ++ (s ∷ [])) ts t f.1 k)
  where
    go : (b : Bool) → same_bytes s.bytes t.bytes ≡ b → is_among seen s ≡ false → is_among ts t ≡ false → (b || is_among ts t) ≡ false
    go true e n r = absurd (true≢false (sym a ∙ sym (same-among seen s t (same-is s.bytes t.bytes e)) ∙ n))
    go false e n r = r

-- the first of names without a repeat does not stand among the others, which are without a repeat
first_alone : (seen : List Token) (t : Token) (ts : List Token) → repeats_after seen (t ∷ ts) ≡ []
    → (is_among ts t ≡ false) × (repeats_after (seen ++ (t ∷ [])) ts ≡ [])
unfolding is_among
first_alone seen t ts h =
    let f = fresh seen t ts h in
    let k : is_among (seen ++ (t ∷ [])) t ≡ true =
    among-append seen (t ∷ []) t ∙ ap (λ (b : Bool). is_among seen t || (b || false)) (same_self t.bytes) ∙ or-true (is_among seen t) in
    (never-again (seen ++ (t ∷ [])) ts t f.1 k, f.1)

-- no argument of a name that is none of the labels
unnamed : (n t : Token) (xs : List Arg) → same_bytes n.bytes t.bytes ≡ true → is_among (labels xs) t ≡ false → named_value n xs ≡ nothing
unfolding named_value labels is_among
unnamed n t [] e h = refl
unnamed n t (positional v ∷ xs) e h = unnamed n t xs e h
unnamed n t (named s v ∷ xs) e h =
    let o = or-neither (same_bytes s.bytes t.bytes) (is_among (labels xs) t) h in
    let q = same-is n.bytes t.bytes e in
    let z : same_bytes n.bytes s.bytes ≡ false = ap (λ (w : List ℕ). same_bytes w s.bytes) q ∙ same-sym t.bytes s.bytes ∙ o.0 in
    ap (λ (b : Bool). cond b (some v) (named_value n xs)) z ∙ unnamed n t xs e o.1

-- ---- named arguments

-- named arguments alone, each by the name of a parameter, and no two by one name
data AllNamed (ps : List Param) : List Arg → Type 0 where
  no_more : AllNamed ps []
  one_more : {t : Token} {v : Value} {xs : List Arg} → is_among (param_names ps) t ≡ true → is_among (labels xs) t ≡ false → AllNamed ps xs
      → AllNamed ps (named t v ∷ xs)

module _ (g : List ℕ → Bool) where
  -- one named argument more adds what it uses
  module _ (t : Token) (v : Value) (xs : List Arg) (h : is_among (labels xs) t ≡ false) where
    no_less : (n : Token) → size_any g (named_value n xs) ≤ size_any g (named_value n (named t v ∷ xs))
    unfolding named_value
    no_less n = go (same_bytes n.bytes t.bytes) refl
      where
        go : (b : Bool) → same_bytes n.bytes t.bytes ≡ b → size_any g (named_value n xs) ≤ size_any g (cond b (some v) (named_value n xs))
        go true e = let z = ap (size_any g) (unnamed n t xs e h) in omega (arith, z)
        go false e = omega arith

    none-less : (ps : List Param) → size_named g ps xs ≤ size_named g ps (named t v ∷ xs)
    unfolding size_named
    none-less [] = omega arith
    none-less (p ∷ ps) = omega (arith, no_less p.name, none-less ps)

    named-adds : (ps : List Param) → is_among (param_names ps) t ≡ true → size g v + size_named g ps xs ≤ size_named g ps (named t v ∷ xs)
    unfolding size_named named_value is_among
    named-adds [] a = absurd (false≢true a)
    named-adds (p ∷ ps) a = go (same_bytes p.name.bytes t.bytes) refl a (named-adds ps)
      where
        go : (b : Bool) → same_bytes p.name.bytes t.bytes ≡ b → (b || is_among (param_names ps) t) ≡ true
            → (is_among (param_names ps) t ≡ true → size g v + size_named g ps xs ≤ size_named g ps (named t v ∷ xs))
            → size g v + (size_any g (named_value p.name xs) + size_named g ps xs)
            ≤ size_any g (cond b (some v) (named_value p.name xs)) + size_named g ps (named t v ∷ xs)
        go true e a r = let z = ap (size_any g) (unnamed p.name t xs e h) in omega (arith, z, none-less ps)
        go false e a r = let l = r a in omega (arith, l)

  all-named-size : {ps : List Param} {xs : List Arg} → AllNamed ps xs → tally g (spellings (used_in xs)) ≤ size_named g ps xs
  unfolding tally flat_map
  all-named-size no_more = omega arith
  all-named-size {ps} (one_more {t} {v} {xs} a h n) = omega (arith, uses-more g (named t v) xs, named-adds t v xs h ps a, all-named-size n)

  -- ---- slots

  unfoldable slot_sizes : List Param → List Value → List Arg → ℕ
  slot_sizes [] ls xs = 0
  slot_sizes (p ∷ ps) ls xs = size_any g (or_else (value_at_place p ls) (named_value p.name xs)) + slot_sizes ps (later ls) xs

  bound-size : (p : Param) (o : Option Value) {v : Val} → value_for (record { param = p; value = o }) ≡ some v → size_any g o ≤ tally g (val_names v)
  unfolding value_for
  bound-size p nothing h = omega arith
  bound-size p (some x) h = omega (arith, read-size g x p h)

  slots-size : (ps : List Param) (ls : List Value) (xs : List Arg) {vs : List Val} → values_for (slots_from ps ls xs) ≡ some vs
      → slot_sizes ps ls xs ≤ tally g (held_in vs)
  unfolding values_for slots_from flat_map slot_sizes
  slots-size [] ls xs h = omega arith
  slots-size (p ∷ ps) ls xs h =
      let o = or_else (value_at_place p ls) (named_value p.name xs) in
      let x = both (value_for (record { param = p; value = o })) (values_for (slots_from ps (later ls) xs)) (λ w ws. w ∷ ws) h in
      let one = bound-size p o x.one-there in
      let others = slots-size ps (later ls) xs x.two-there in
      rw (← x.made) (omega (arith, one, others, tally-append g (val_names x.one) (held_in x.two)))

  -- behind the positional arguments
  slots-named : (ps : List Param) (xs : List Arg) → slot_sizes ps [] xs ≡ size_named g ps xs
  unfolding slot_sizes size_named
  slots-named [] xs = refl
  slots-named (p ∷ ps) xs = ap (λ (n : ℕ). size_any g (named_value p.name xs) + n) (slots-named ps xs)

  slots-positional : (ps : List Param) (ls : List Value) (v : Value) (xs : List Arg) → slot_sizes ps ls (positional v ∷ xs) ≡ slot_sizes ps ls xs
  unfolding slot_sizes named_value
  slots-positional [] ls v xs = refl
  slots-positional (p ∷ ps) ls v xs =
      ap (λ (n : ℕ). size_any g (or_else (value_at_place p ls) (named_value p.name xs)) + n) (slots-positional ps (later ls) v xs)

  -- ---- all arguments

  -- each label is a parameter's name that no positional argument takes
  abbrev Labelled : List Param → List Arg → Type 0
  Labelled ps xs = Each (λ (t : Token). (is_among (param_names ps) t ≡ true) × (is_among (taken ps (leading xs)) t ≡ false)) (labels xs)

  -- where one is named, all after it are
  rest-named : (qs ps : List Param) (xs : List Arg) → misplaced_from false qs xs ≡ []
      → Each (λ (t : Token). is_among (param_names ps) t ≡ true) (labels xs) → (seen : List Token) → repeats_after seen (labels xs) ≡ [] → AllNamed ps xs
  unfolding misplaced_from labels
  rest-named qs ps [] m e seen d = no_more
  rest-named qs ps (positional v ∷ xs) m e seen d = absurd (cons≢nil m)
  rest-named qs ps (named t v ∷ xs) m e seen d =
      let f = first_alone seen t (labels xs) d in
      one_more e.0 f.0 (rest-named (later qs) ps xs m e.1 (seen ++ (t ∷ [])) f.1)

  -- a label that the first parameter's place does not take is the name of another
  passes : (p : Param) (ps : List Param) (v : Value) (xs : List Arg) → all_tensor p.ty ≡ true → (ts : List Token)
      → Each (λ (t : Token). (is_among (param_names (p ∷ ps)) t ≡ true) × (is_among (taken (p ∷ ps) (v ∷ leading xs)) t ≡ false)) ts
      → Each (λ (t : Token). (is_among (param_names ps) t ≡ true) × (is_among (taken ps (leading xs)) t ≡ false)) ts
  unfolding taken is_among
  passes p ps v xs a [] e = tt
  passes p ps v xs a (t ∷ ts) e =
      let n : is_among (p.name ∷ taken ps (leading xs)) t ≡ false =
      ap (λ (b : Bool). is_among (cond (is_some (cond b (some v) nothing)) (p.name ∷ taken ps (leading xs)) (taken ps (leading xs))) t) (sym a) ∙ e.0.1 in
      let o = or-neither (same_bytes p.name.bytes t.bytes) (is_among (taken ps (leading xs)) t) n in
      let k : is_among (param_names ps) t ≡ true = ap (λ (b : Bool). b || is_among (param_names ps) t) (sym o.0) ∙ e.0.0 in
      ((k, o.1), passes p ps v xs a ts e.1)

  all-bound : (ps : List Param) (xs : List Arg) → misplaced_from true ps xs ≡ [] → Labelled ps xs → repeats (labels xs) ≡ []
      → tally g (spellings (used_in xs)) ≤ slot_sizes ps (leading xs) xs
  unfolding misplaced_from labels leading tally flat_map slot_sizes
  all-bound ps [] m e d = omega arith
  all-bound ps (named t v ∷ xs) m e d =
      let n = rest-named ps ps (named t v ∷ xs) m (names (labels (named t v ∷ xs)) e) [] d in
      omega (arith, all-named-size n, slots-named ps (named t v ∷ xs))
    where
      names : (ts : List Token) → Each (λ (t : Token). (is_among (param_names ps) t ≡ true) × (is_among (taken ps []) t ≡ false)) ts
          → Each (λ (t : Token). is_among (param_names ps) t ≡ true) ts
      names [] e = tt
      names (t ∷ ts) e = (e.0.0, names ts e.1)
  all-bound [] (positional v ∷ xs) m e d = absurd (cons≢nil m)
  all-bound (p ∷ ps) (positional v ∷ xs) m e d =
      let s = (append-eq-nil_iff {p = unless (all_tensor p.ty) (fault Code.misplaced (start_of v))} {q = misplaced_from true ps xs}).0 m in
      let a = placed (all_tensor p.ty) s.0 in
      let r = all-bound ps xs s.1 (passes p ps v xs a (labels xs) e) d in
      let z : or_else (value_at_place p (v ∷ leading xs)) (named_value p.name (positional v ∷ xs)) ≡ some v =
      ap (λ (b : Bool). or_else (cond b (some v) nothing) (named_value p.name (positional v ∷ xs))) a in
      more (ap (size_any g) z) r
    where
      placed : (b : Bool) → unless b (fault Code.misplaced (start_of v)) ≡ [] → b ≡ true
      placed true h = refl
      placed false h = absurd (cons≢nil h)

      more : size_any g (or_else (value_at_place p (v ∷ leading xs)) (named_value p.name (positional v ∷ xs))) ≡ size g v
          → tally g (spellings (used_in xs)) ≤ slot_sizes ps (leading xs) xs
          → tally g (spellings (used_in (positional v ∷ xs))) ≤ slot_sizes (p ∷ ps) (v ∷ leading xs) (positional v ∷ xs)
      more e r = omega (arith, e, r, uses-more g (positional v) xs, slots-positional ps (leading xs) v xs)

-- ---- a call

-- none passes the test
none_pass : (f : Token → Bool) (ts : List Token) → those f ts ≡ [] → Each (λ (t : Token). f t ≡ false) ts
unfolding those
none_pass f [] h = tt
none_pass f (t ∷ ts) h = go (f t) refl h (none_pass f ts)
  where
    go : (b : Bool) → f t ≡ b → cond b (t ∷ those f ts) (those f ts) ≡ [] → (those f ts ≡ [] → Each (λ (s : Token). f s ≡ false) ts)
        → (f t ≡ false) × Each (λ (s : Token). f s ≡ false) ts
    go true e h r = absurd (cons≢nil h)
    go false e h r = (e, r h)

both_hold : (f k : Token → Bool) (ts : List Token) → Each (λ (t : Token). not (f t) ≡ false) ts → Each (λ (t : Token). k t ≡ false) ts
    → Each (λ (t : Token). (f t ≡ true) × (k t ≡ false)) ts
both_hold f k [] a b = tt
both_hold f k (t ∷ ts) a b = ((not-false (f t) a.0, b.0), both_hold f k ts a.1 b.1)

pub uses-within : (ps : List Param) (xs : List Arg) {vs : List Val} → misplaced ps xs ≡ [] → misnamed ps xs ≡ [] → values_for (slots ps xs) ≡ some vs
    → Within (spellings (used_in xs)) (held_in vs)
unfolding misnamed
uses-within ps xs m n h g =
    let a = strangers (param_names ps) (labels xs) in
    let b = those (is_among (taken ps (leading xs))) (labels xs) in
    let r = a ∷ b ∷ repeats (labels xs) ∷ [] in
    let e = row-none r (no-starts (flatten r) (no-faults Code.misnamed (starts (flatten r)) n)) in
    let known = none_pass (λ t. not (is_among (param_names ps) t)) (labels xs) e.0 in
    let free = none_pass (is_among (taken ps (leading xs))) (labels xs) e.1.0 in
    let l = both_hold (is_among (param_names ps)) (is_among (taken ps (leading xs))) (labels xs) known free in
    omega (arith, all-bound g ps xs m l e.1.1.0, slots-size g ps (leading xs) xs h)
