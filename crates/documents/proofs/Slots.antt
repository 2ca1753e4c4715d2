-- The slots of one argument more: as they were, or one of them is given the argument's value (`Given`), which sets its flag and adds its
-- misfit. Then whether the one parameter of a name is bound already, as the rules say it.
use mathlib.Core.Path.{◌≡◌, refl, sym, ap, ap₂, ◌∙◌}
use mathlib.Core.Bool.{Bool, true, false, cond, not, ◌||◌, and_comm}
use mathlib.Core.List.{List, [], ◌∷◌, ◌++◌, map}
use mathlib.Core.Option.{Option, some}
use mathlib.Core.Option.{none as nothing}
use Prim.Native.Nat.{ℕ, zero, suc}
use native.Mathlib.Omega.{arith}
use lib.ListN.{length, get_or, set, drop}
use Rattle.spellings.specs.Comparison.{same_bytes}
use Rattle.lexis.specs.Lexer.{Token}
use Rattle.syntax.specs.Tree.{Value, Param, Arg}
use Rattle.syntax.specs.Tree.Arg.{positional, named}
use Rattle.lists.specs.Fault.{Fault, earlier, first}
use Rattle.lists.specs.Names.{is_among}
use Rattle.lists.specs.Reading.{is_some, all_tensor}
use Rattle.lists.specs.ListRules.{param_names}
use Rattle.lists.proofs.First.{earlier-assoc, earlier-comm, first-append}
use Rattle.documents.specs.Binding.{is_missing, lacked, leading, labels, value_at_place, later, named_value, or_else, Slot, slots_from, slots, taken, takes_place}
use Rattle.documents.specs.Binding.{misfit, misfits, lacked, missing}
use Rattle.lists.specs.Masks.{mask_of, is_required}
use Rattle.documents.specs.Arguments.{without, is_bound, bound, leads}
use Rattle.documents.proofs.Labels.{leading-named, leading-more, leading-same, leading_length, or_else_none, or-else-assoc, or-else-kept, is_none}
use Rattle.documents.proofs.Labels.{is-some-or, given, by_name-more, by_name-same, by_name-none}
use Rattle.documents.proofs.Sought.{same-is, same-sym, alike, None, Only, only-alike}
use Rattle.documents.specs.Tallies.{Nth}
use Rattle.documents.proofs.Sought.None.{nil, cons}
use Rattle.documents.proofs.Sought.Only.{here, there}
use Rattle.documents.specs.Tallies.Nth.{nth-first, after}

-- ---- a slot that is given a value

-- slot j, of the parameter p, had no value and now has v
pub data Given (v : Value) : ℕ → Param → List Slot → List Slot → Type 0 where
  now : {p : Param} {s r : Slot} {ss : List Slot} → s.value ≡ nothing → r.param ≡ p → r.value ≡ some v → Given v zero p (s ∷ ss) (r ∷ ss)
  further : {j : ℕ} {p : Param} {s : Slot} {ss rs : List Slot} → Given v j p ss rs → Given v (suc j) p (s ∷ ss) (s ∷ rs)

pub given-flags : {v : Value} {j : ℕ} {p : Param} {ss rs : List Slot} → Given v j p ss rs → map is_bound rs ≡ set (map is_bound ss) j true
given-flags (now {r = r} {ss = ss} e q f) = ap (λ (o : Option Value). is_some o ∷ map is_bound ss) f
given-flags (further {s = s} g) = ap (λ (bs : List Bool). is_bound s ∷ bs) (given-flags g)

pub given-misfits : {v : Value} {j : ℕ} {p : Param} {ss rs : List Slot} → Given v j p ss rs
    → first (misfits rs) ≡ earlier (first (misfits ss)) (first (misfit p.ty (some v)))
unfolding misfits mathlib.Core.List.flat_map
given-misfits {v = v} {p = p} (now {s = s} {r = r} {ss = ss} e q f) =
    ap₂ (λ (u : Param) (o : Option Value). first (misfit u.ty o ++ misfits ss)) q f
    ∙ first-append (misfit p.ty (some v)) (misfits ss)
    ∙ earlier-comm (first (misfit p.ty (some v))) (first (misfits ss))
    ∙ ap (λ (o : Option Value). earlier (first (misfit s.param.ty o ++ misfits ss)) (first (misfit p.ty (some v)))) (sym e)
given-misfits {v = v} {p = p} (further {s = s} {ss = ss} {rs = rs} g) =
    let m = misfit s.param.ty s.value in
    first-append m (misfits rs)
    ∙ ap (earlier (first m)) (given-misfits g)
    ∙ sym (earlier-assoc (first m) (first (misfits ss)) (first (misfit p.ty (some v))))
    ∙ ap (λ (o : Option Fault). earlier o (first (misfit p.ty (some v)))) (sym (first-append m (misfits ss)))

-- ---- a named argument more

-- what a parameter has by these values and arguments
abbrev held : Param → List Value → List Arg → Option Value
held p vs xs = or_else (value_at_place p vs) (named_value p.name xs)

module _ (t : Token) (v : Value) (xs : List Arg) where
  held_more : (p : Param) (vs : List Value) → held p vs (xs ++ (named t v ∷ [])) ≡ or_else (held p vs xs) (given p.name t v)
  held_more p vs = ap (or_else (value_at_place p vs)) (by_name-more p.name xs t v) ∙ or-else-assoc (value_at_place p vs) (named_value p.name xs) (given p.name t v)

  held-other : (p : Param) (vs : List Value) → alike p t ≡ false → held p vs (xs ++ (named t v ∷ [])) ≡ held p vs xs
  held-other p vs h = held_more p vs ∙ ap (λ (b : Bool). or_else (held p vs xs) (cond b (some v) nothing)) h ∙ or_else_none (held p vs xs)

  held_kept : (p : Param) (vs : List Value) → is_some (held p vs xs) ≡ true → held p vs (xs ++ (named t v ∷ [])) ≡ held p vs xs
  held_kept p vs h = held_more p vs ∙ or-else-kept (held p vs xs) (given p.name t v) h

  held_new : (p : Param) (vs : List Value) → alike p t ≡ true → held p vs xs ≡ nothing → held p vs (xs ++ (named t v ∷ [])) ≡ some v
  held_new p vs h e = held_more p vs ∙ ap₂ (λ (o : Option Value) (b : Bool). or_else o (cond b (some v) nothing)) e h

  abbrev slot : Param → List Slot → Option Value → List Slot
  slot p ss o = record { param = p; value = o } ∷ ss

  slots-none : (vs : List Value) {ps : List Param} → None t ps → slots_from ps vs (xs ++ (named t v ∷ [])) ≡ slots_from ps vs xs
  unfolding slots_from
  slots-none vs nil = refl
  slots-none vs (cons {p = p} h n) = ap₂ (slot p) (slots-none (later vs) n) (held-other p vs h)

  slots_kept : (vs : List Value) {j : ℕ} {p : Param} {ps : List Param} → Only t j p ps → get_or (map is_bound (slots_from ps vs xs)) j false ≡ true
      → slots_from ps vs (xs ++ (named t v ∷ [])) ≡ slots_from ps vs xs
  unfolding slots_from
  slots_kept vs (here {p = p} h n) e = ap₂ (slot p) (slots-none (later vs) n) (held_kept p vs e)
  slots_kept vs (there {q = q} h o) e = ap₂ (slot q) (slots_kept (later vs) o e) (held-other q vs h)

  slots-given : (vs : List Value) {j : ℕ} {p : Param} {ps : List Param} → Only t j p ps → get_or (map is_bound (slots_from ps vs xs)) j false ≡ false
      → Given v j p (slots_from ps vs xs) (slots_from ps vs (xs ++ (named t v ∷ [])))
  unfolding slots_from
  slots-given vs (here {p = p} {ps = ps} h n) e =
      let w = is_none (held p vs xs) e in
      rw (slots-none (later vs) n) (now w refl (held_new p vs h w))
  slots-given vs (there {q = q} h o) e = rw (held-other q vs h) (further (slots-given (later vs) o e))

module _ (t : Token) (v : Value) (ps : List Param) (xs : List Arg) where
  leading-kept : slots ps (xs ++ (named t v ∷ [])) ≡ slots_from ps (leading xs) (xs ++ (named t v ∷ []))
  leading-kept = ap (λ (vs : List Value). slots_from ps vs (xs ++ (named t v ∷ []))) (leading-named xs t v)

  pub unknown-slots : None t ps → slots ps (xs ++ (named t v ∷ [])) ≡ slots ps xs
  unknown-slots n = leading-kept ∙ slots-none t v xs (leading xs) n

  pub again-slots : {j : ℕ} {p : Param} → Only t j p ps → get_or (bound ps xs) j false ≡ true → slots ps (xs ++ (named t v ∷ [])) ≡ slots ps xs
  again-slots o e = leading-kept ∙ slots_kept t v xs (leading xs) o e

  pub named-slots : {j : ℕ} {p : Param} → Only t j p ps → get_or (bound ps xs) j false ≡ false → Given v j p (slots ps xs) (slots ps (xs ++ (named t v ∷ [])))
  named-slots o e = rw leading-kept (slots-given t v xs (leading xs) o e)

-- ---- a positional argument more

module _ (v : Value) (xs : List Arg) where
  slots_same : (ps : List Param) (vs : List Value) → slots_from ps vs (xs ++ (positional v ∷ [])) ≡ slots_from ps vs xs
  unfolding slots_from
  slots_same [] vs = refl
  slots_same (p ∷ ps) vs =
      ap₂ (λ (ss : List Slot) (o : Option Value). record { param = p; value = or_else (value_at_place p vs) o } ∷ ss) (slots_same ps (later vs))
      (by_name-same p.name xs v)

  slots-refused : (ps : List Param) (vs : List Value) → takes_place (drop (length vs) ps) ≡ false → slots_from ps (vs ++ (v ∷ [])) xs ≡ slots_from ps vs xs
  unfolding slots_from
  slots-refused [] vs h = refl
  slots-refused (p ∷ ps) [] h = ap (λ (b : Bool). record { param = p; value = or_else (cond b (some v) nothing) (named_value p.name xs) } ∷ slots_from ps [] xs) h
  slots-refused (p ∷ ps) (w ∷ vs) h = ap (λ (ss : List Slot). record { param = p; value = held p (w ∷ vs) xs } ∷ ss) (slots-refused ps vs h)

  slots-placed : leads xs ≡ true → {j : ℕ} {p : Param} {ps : List Param} (vs : List Value) → j ≡ length vs → Nth j p ps → all_tensor p.ty ≡ true
      → Given v j p (slots_from ps vs xs) (slots_from ps (vs ++ (v ∷ [])) xs)
  unfolding slots_from
  slots-placed l [] e (nth-first {p = p}) h =
      now (by_name-none p.name xs l) refl (ap (λ (b : Bool). or_else (cond b (some v) nothing) (named_value p.name xs)) h)
  slots-placed l [] e (after n) h = absurd (omega arith)
  slots-placed l (w ∷ vs) e nth-first h = absurd (omega arith)
  slots-placed l (w ∷ vs) e (after n) h = further (slots-placed l vs (omega arith) n h)

  pub trailing-slots : (ps : List Param) → leads xs ≡ false → slots ps (xs ++ (positional v ∷ [])) ≡ slots ps xs
  trailing-slots ps h = slots_same ps (leading (xs ++ (positional v ∷ []))) ∙ ap (λ (vs : List Value). slots_from ps vs xs) (leading-same xs v h)

  leading-slots : (ps : List Param) → leads xs ≡ true → slots ps (xs ++ (positional v ∷ [])) ≡ slots_from ps (leading xs ++ (v ∷ [])) xs
  leading-slots ps h = slots_same ps (leading (xs ++ (positional v ∷ []))) ∙ ap (λ (vs : List Value). slots_from ps vs xs) (leading-more xs v h)

  pub refused-slots : (ps : List Param) → leads xs ≡ true → takes_place (drop (length xs) ps) ≡ false → slots ps (xs ++ (positional v ∷ [])) ≡ slots ps xs
  refused-slots ps l h = leading-slots ps l ∙ slots-refused ps (leading xs) (ap (λ (k : ℕ). takes_place (drop k ps)) (leading_length xs l) ∙ h)

  pub placed-slots : {p : Param} {ps : List Param} → leads xs ≡ true → Nth (length xs) p ps → all_tensor p.ty ≡ true
      → Given v (length xs) p (slots ps xs) (slots ps (xs ++ (positional v ∷ [])))
  placed-slots {ps = ps} l n h = rw (leading-slots ps l) (slots-placed l (leading xs) (sym (leading_length xs l)) n h)

-- ---- whether the parameter of a name is bound

pub drop-later : {A : Type 0} (j : ℕ) (vs : List A) → drop j (later vs) ≡ drop (suc j) vs
drop-later zero [] = refl
drop-later (suc j) [] = refl
drop-later j (w ∷ vs) = refl

pub known-none : {t : Token} {ps : List Param} → None t ps → is_among (param_names ps) t ≡ false
unfolding is_among
known-none nil = refl
known-none (cons h n) = simp (h, known-none n)

pub known_only : {t : Token} {j : ℕ} {p : Param} {ps : List Param} → Only t j p ps → is_among (param_names ps) t ≡ true
unfolding is_among
known_only (here h n) = simp h
known_only (there h o) = simp (h, known_only o)

taken_none : {t : Token} (vs : List Value) {ps : List Param} → None t ps → is_among (taken ps vs) t ≡ false
unfolding taken is_among
taken_none vs nil = refl
taken_none {t} vs (cons {p = p} {ps = ps} h n) = go (is_some (value_at_place p vs)) h (taken_none (later vs) n)
  where
    go : (b : Bool) → alike p t ≡ false → is_among (taken ps (later vs)) t ≡ false
        → is_among (cond b (p.name ∷ taken ps (later vs)) (taken ps (later vs))) t ≡ false
    go true h ih = simp (h, ih)
    go false h ih = ih

taken-only : {t : Token} (vs : List Value) {j : ℕ} {p : Param} {ps : List Param} → Only t j p ps → is_among (taken ps vs) t ≡ is_some (value_at_place p (drop j vs))
unfolding taken is_among
taken-only {t} vs (here {p = p} {ps = ps} h n) = go (is_some (value_at_place p vs)) h (taken_none (later vs) n)
  where
    go : (b : Bool) → alike p t ≡ true → is_among (taken ps (later vs)) t ≡ false → is_among (cond b (p.name ∷ taken ps (later vs)) (taken ps (later vs))) t ≡ b
    go true h ih = simp h
    go false h ih = ih
taken-only {t} vs (there {j = j} {p = p} {q = q} {ps = ps} h o) =
    go (is_some (value_at_place q vs)) h (taken-only (later vs) o ∙ ap (λ (ws : List Value). is_some (value_at_place p ws)) (drop-later j vs))
  where
    go : (b : Bool) → alike q t ≡ false → is_among (taken ps (later vs)) t ≡ is_some (value_at_place p (drop (suc j) vs))
        → is_among (cond b (q.name ∷ taken ps (later vs)) (taken ps (later vs))) t ≡ is_some (value_at_place p (drop (suc j) vs))
    go true h ih = simp h ih
    go false h ih = ih

-- the name stands among the labels where an argument has it
label-seen : (n t : Token) (xs : List Arg) → same_bytes n.bytes t.bytes ≡ true → is_among (labels xs) t ≡ is_some (named_value n xs)
unfolding labels is_among named_value
label-seen n t [] h = refl
label-seen n t (positional w ∷ xs) h = label-seen n t xs h
label-seen n t (named s w ∷ xs) h =
    go (same_bytes n.bytes s.bytes) (same-sym s.bytes t.bytes ∙ ap (λ (z : List ℕ). same_bytes z s.bytes) (sym (same-is n.bytes t.bytes h)))
    (label-seen n t xs h)
  where
    go : (b : Bool) → same_bytes s.bytes t.bytes ≡ b → is_among (labels xs) t ≡ is_some (named_value n xs)
        → (same_bytes s.bytes t.bytes || is_among (labels xs) t) ≡ is_some (cond b (some w) (named_value n xs))
    go true e ih = simp e
    go false e ih = simp e ih

held-flag : {t : Token} (vs : List Value) (xs : List Arg) {j : ℕ} {p : Param} {ps : List Param} → Only t j p ps
    → get_or (map is_bound (slots_from ps vs xs)) j false ≡ is_some (held p (drop j vs) xs)
unfolding slots_from
held-flag vs xs (here h n) = refl
held-flag vs xs (there {j = j} {p = p} h o) = held-flag (later vs) xs o ∙ ap (λ (ws : List Value). is_some (held p ws xs)) (drop-later j vs)

pub bound-is : {t : Token} (xs : List Arg) {j : ℕ} {p : Param} {ps : List Param} → Only t j p ps
    → (is_among (taken ps (leading xs)) t || is_among (labels xs) t) ≡ get_or (bound ps xs) j false
bound-is {t} xs {j} {p} {ps} o =
    ap₂ (λ (a b : Bool). a || b) (taken-only (leading xs) o) (label-seen p.name t xs (only-alike o))
    ∙ sym (is-some-or (value_at_place p (drop j (leading xs))) (named_value p.name xs))
    ∙ sym (held-flag (leading xs) xs o)

-- ---- what is missing

pub bound-length : (ps : List Param) (vs : List Value) (xs : List Arg) → length (map is_bound (slots_from ps vs xs)) ≡ length ps
unfolding slots_from
bound-length [] vs xs = refl
bound-length (p ∷ ps) vs xs = ap suc (bound-length ps (later vs) xs)

-- a slot is missing where its parameter is required and not bound
missing-from : (place k : ℕ) (ps : List Param) (vs : List Value) (xs : List Arg)
    → lacked place k (map is_missing (slots_from ps vs xs)) ≡ lacked place k (without (map is_required ps) (map is_bound (slots_from ps vs xs)))
unfolding lacked slots_from without
missing-from place k [] vs xs = refl
missing-from place k (p ∷ ps) vs xs =
    ap₂ (λ (b : Bool) (r : List Fault). cond b (record { at = place; code = 19; detail = k } ∷ []) r) (and_comm (not (is_some (held p vs xs))) (is_required p))
    (missing-from place (suc k) ps (later vs) xs)

pub missing-is : (place : ℕ) (ps : List Param) (xs : List Arg) → missing place (slots ps xs) ≡ lacked place 0 (without (map is_required ps) (bound ps xs))
missing-is place ps xs = missing-from place 0 ps (leading xs) xs

-- no argument binds nothing
pub bound-none : (ps : List Param) → mask_of (bound ps []) ≡ 0
unfolding slots_from leading named_value mask_of
bound-none [] = refl
bound-none (p ∷ ps) = simp (bound-none ps)
