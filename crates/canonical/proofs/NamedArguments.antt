-- Arguments of a canonical text bind every parameter to the plan's value and break no rule: 16 and 17 by their names, 18 and 19 by the
-- values, as in every call that has a plan.
use mathlib.Core.Path.{◌≡◌, refl, sym, ap, ap₂, ◌∙◌}
use mathlib.Core.Bool.{Bool, true, false, not, ◌&&◌, ◌||◌, or-false, or-true, true≢false}
use mathlib.Core.List.{List, [], ◌∷◌, ◌++◌, flat_map, flatten, append_assoc, map}
use mathlib.Core.Option.{Option, some}
use mathlib.Core.Option.{none as nothing}
use Prim.Native.Nat.{ℕ, suc}
use Rattle.spellings.specs.Comparison.{same_bytes}
use Rattle.lexis.specs.Lexer.{Token}
use Rattle.syntax.specs.Tree.{Value, Ty, Param, Arg}
use Rattle.lists.specs.Names.{those, is_among, repeats_after, repeats}
use Rattle.lists.specs.Reading.{Val, bind, read_at, is_some, fits}
use Rattle.lists.specs.ListRules.{param_names}
use Rattle.documents.specs.Binding.{is_missing, Slot, leading, labels, named_value, or_else, slots_from, slots, later, taken, misplaced_from, misnamed, misfit, misfits}
use Rattle.documents.specs.Binding.{lacked}
use Rattle.documents.specs.Wiring.{strangers}
use Rattle.documents.proofs.Lookups.{among-append}
use Rattle.documents.proofs.Sought.{same_self, same-sym}
use Rattle.writing.specs.Plan.{value_for, values_for, spellings}
use Rattle.canonical.proofs.Shape.{Named, no-arg, an-arg}
use Rattle.writing.proofs.Planned.{nothing-some, both}
use Rattle.canonical.proofs.Spelt.{equal-within, among-keep, fresh, repeats-keep}

-- ---- 18, 19: slots that have values

slot-fits : (u : Ty) (o d : Option Value) {v : Val} → bind (or_else o d) (λ x. read_at x u) ≡ some v → misfit u o ≡ []
unfolding fits
slot-fits u nothing d h = refl
slot-fits u (some x) d h = simp h

slot-given : (u : Ty) (o d : Option Value) {v : Val} → bind (or_else o d) (λ x. read_at x u) ≡ some v → (not (is_some o) && not (is_some d)) ≡ false
slot-given u (some x) d h = refl
slot-given u nothing (some x) h = refl
slot-given u nothing nothing h = nothing-some h

pub values-bound : (place k : ℕ) (ss : List Slot) {vs : List Val} → values_for ss ≡ some vs → (misfits ss ≡ []) × (lacked place k (map is_missing ss) ≡ [])
unfolding values_for value_for misfits flat_map lacked
values-bound place k [] h = (refl, refl)
values-bound place k (s ∷ ss) h =
    let x = both (value_for s) (values_for ss) (λ w ws. w ∷ ws) h in
    let r = values-bound place (suc k) ss x.two-there in
    let u = s.param.ty in
    (simp (slot-fits u s.value s.param.default x.one-there, r.0), simp (slot-given u s.value s.param.default x.one-there, r.1))

-- ---- the slots of named arguments

pub or-neither : (a b : Bool) → (a || b) ≡ false → (a ≡ false) × (b ≡ false)
or-neither true b h = absurd (true≢false h)
or-neither false b h = (refl, h)

-- those from some place on, where arguments before it have the names seen
values-after : (all : List Arg) (seen : List Token) {ps : List Param} {vs : List Val} {xs : List Arg} → Named ps vs xs
    → ((n : Token) → is_among seen n ≡ false → named_value n all ≡ named_value n xs) → repeats_after seen (param_names ps) ≡ [] → values_for (slots_from ps [] all) ≡ some vs
unfolding values_for value_for slots_from named_value is_among
values-after all seen no-arg f d = refl
values-after all seen (an-arg {p} {ps} {t = t} {w} {xs} e r n) f d =
    let u = fresh seen p.name (param_names ps) d in
    let s : same_bytes p.name.bytes t.bytes ≡ true = rw e (same_self p.name.bytes) in
    let b : named_value p.name all ≡ some w = f p.name u.0 ∙ simp s in
    simp (b, r, values-after all (seen ++ (p.name ∷ [])) n beyond u.1)
  where
    beyond : (m : Token) → is_among (seen ++ (p.name ∷ [])) m ≡ false → named_value m all ≡ named_value m xs
    beyond m h =
        let o = or-neither (is_among seen m) (is_among (p.name ∷ []) m) (sym (among-append seen (p.name ∷ []) m) ∙ h) in
        let other : same_bytes p.name.bytes m.bytes ≡ false = sym (or-false (same_bytes p.name.bytes m.bytes)) ∙ o.1 in
        let s : same_bytes m.bytes t.bytes ≡ false = ap (same_bytes m.bytes) e ∙ same-sym m.bytes p.name.bytes ∙ other in
        f m o.0 ∙ simp s

named-leading : {ps : List Param} {vs : List Val} {xs : List Arg} → Named ps vs xs → leading xs ≡ []
unfolding leading
named-leading no-arg = refl
named-leading (an-arg e r n) = refl

pub named-values : {ps : List Param} {vs : List Val} {xs : List Arg} → Named ps vs xs → repeats (param_names ps) ≡ [] → values_for (slots ps xs) ≡ some vs
named-values {xs = xs} n d = rw (named-leading n) (values-after xs [] n (λ m h. refl) d)

-- ---- 16

pub no-misplaced : (b : Bool) (qs : List Param) {ps : List Param} {vs : List Val} {xs : List Arg} → Named ps vs xs → misplaced_from b qs xs ≡ []
unfolding misplaced_from
no-misplaced b qs no-arg = refl
no-misplaced b qs (an-arg e r n) = no-misplaced false (later qs) n

-- ---- 17

named-labels : {ps : List Param} {vs : List Val} {xs : List Arg} → Named ps vs xs → spellings (param_names ps) ≡ spellings (labels xs)
unfolding labels
named-labels no-arg = refl
named-labels (an-arg e r n) = ap₂ (λ (w : List ℕ) (ws : List (List ℕ)). w ∷ ws) (sym e) (named-labels n)

-- names are among themselves, and among none there is none
no-stranger : (seen ts : List Token) → strangers (seen ++ ts) ts ≡ []
unfolding those is_among
no-stranger seen [] = refl
no-stranger seen (t ∷ ts) =
    let a : is_among (seen ++ (t ∷ ts)) t ≡ true = among-append seen (t ∷ ts) t ∙ simp (same_self t.bytes, or-true) in
    let r : strangers (seen ++ (t ∷ ts)) ts ≡ [] = ap (λ (ks : List Token). strangers ks ts) (sym (append_assoc seen (t ∷ []) ts))
    ∙ no-stranger (seen ++ (t ∷ [])) ts in
    simp (a, r)

none-known : (ts : List Token) → those (is_among []) ts ≡ []
unfolding those is_among
none-known [] = refl
none-known (t ∷ ts) = none-known ts

none-taken : (ps : List Param) → taken ps [] ≡ []
unfolding taken
none-taken [] = refl
none-taken (p ∷ ps) = none-taken ps

pub no-misnamed : {ps : List Param} {vs : List Val} {xs : List Arg} → Named ps vs xs → repeats (param_names ps) ≡ [] → misnamed ps xs ≡ []
unfolding misnamed flatten
no-misnamed {ps} {xs = xs} n d =
    let ns = param_names ps in
    let e = named-labels n in
    let a : strangers ns (labels xs) ≡ [] = among-keep not ns ns ns (labels xs) refl (equal-within (sym e)) (no-stranger [] ns) in
    let b : those (is_among (taken ps (leading xs))) (labels xs) ≡ [] = rw (named-leading n, none-taken ps) (none-known (labels xs)) in
    let c : repeats (labels xs) ≡ [] = repeats-keep [] [] ns (labels xs) refl e d in
    simp (a, b, c)
