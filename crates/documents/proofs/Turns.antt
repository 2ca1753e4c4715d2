-- The faults of one argument more, rule by rule, and together: they are the earlier of those before and of what the argument adds. That is
-- 16 or 17 where it binds nothing, and the misfit of the parameter that it binds.
use mathlib.Core.Path.{◌≡◌, refl, sym, ap, ap₂, ◌∙◌}
use mathlib.Core.Bool.{Bool, true, false, cond, not, ◌&&◌, ◌||◌, and-false}
use mathlib.Core.List.{List, [], ◌∷◌, ◌++◌, map, flatten, append_assoc, append-nil}
use mathlib.Core.Option.{Option, some}
use mathlib.Core.Option.{none as nothing}
use Prim.Native.Nat.{ℕ}
use lib.ListN.{length, get_or, set, drop}
use Rattle.lexis.specs.Lexer.{Token}
use Rattle.syntax.specs.Tree.{Value, Param, Arg}
use Rattle.syntax.specs.Tree.Arg.{positional, named}
use Rattle.lists.specs.Fault.{Fault, fault, faults, starts, unless, earlier, first}
use Rattle.lists.specs.Names.{those, is_among, repeats_after, repeats, start_of}
use Rattle.lists.specs.Reading.{all_tensor}
use Rattle.lists.specs.ListRules.{param_names}
use Rattle.lists.proofs.First.{earlier-assoc, earlier-comm, earlier-self, earlier-none, first-append}
use Rattle.documents.specs.Binding.{leading, labels, later, Slot, slots_from, slots, named_value, taken, takes_place, misplaced_from, misplaced, misnamed}
use Rattle.documents.specs.Binding.{misfit, misfits, missing}
use Rattle.documents.specs.Arguments.{is_bound, bound, leads, tally_faults}
use Rattle.documents.proofs.Labels.{leading-named, leading-same, labels-named, labels-same, labels-none}
use Rattle.documents.proofs.Sought.{None, Only, nth-takes}
use Rattle.documents.specs.Tallies.{Nth, Turned}
use Rattle.documents.proofs.Slots.{given-flags, given-misfits, unknown-slots, again-slots, named-slots, trailing-slots, refused-slots, placed-slots}
use Rattle.documents.proofs.Slots.{known-none, known_only, bound-is, drop-later}

-- ---- the earlier of several

swap : (a b c d : Option Fault) → earlier (earlier a b) (earlier c d) ≡ earlier (earlier a c) (earlier b d)
swap a b c d =
    earlier-assoc a b (earlier c d)
    ∙ ap (earlier a) (sym (earlier-assoc b c d) ∙ ap (λ (o : Option Fault). earlier o d) (earlier-comm b c) ∙ earlier-assoc c b d)
    ∙ sym (earlier-assoc a c (earlier b d))

-- three pairs
swaps : (a b c d e f : Option Fault) → earlier (earlier a b) (earlier (earlier c d) (earlier e f)) ≡ earlier (earlier a (earlier c e)) (earlier b (earlier d f))
swaps a b c d e f = ap (earlier (earlier a b)) (swap c d e f) ∙ swap a b (earlier c e) (earlier d f)

three : (ks bs cs : List Fault) → first (flatten (ks ∷ bs ∷ cs ∷ [])) ≡ earlier (first ks) (earlier (first bs) (first cs))
unfolding flatten
three ks bs cs =
    first-append ks (bs ++ (cs ++ []))
    ∙ ap (earlier (first ks)) (first-append bs (cs ++ []) ∙ ap (λ (xs : List Fault). earlier (first bs) (first xs)) (append-nil cs))

-- ---- 16

misplaced-named : (b : Bool) (ps : List Param) (xs : List Arg) (t : Token) (v : Value) → misplaced_from b ps (xs ++ (named t v ∷ [])) ≡ misplaced_from b ps xs
unfolding misplaced_from
misplaced-named b ps [] t v = refl
misplaced-named b ps (positional w ∷ xs) t v =
    ap (λ (r : List Fault). unless (b && takes_place ps) (fault 16 (start_of w)) ++ r) (misplaced-named b (later ps) xs t v)
misplaced-named b ps (named s w ∷ xs) t v = misplaced-named false (later ps) xs t v

misplaced-more : (b : Bool) (ps : List Param) (xs : List Arg) (v : Value)
    → misplaced_from b ps (xs ++ (positional v ∷ [])) ≡ misplaced_from b ps xs
    ++ unless ((b && leads xs) && takes_place (drop (length xs) ps)) (fault 16 (start_of v))
unfolding misplaced_from leads
misplaced-more true ps [] v = append-nil (unless (takes_place ps) (fault 16 (start_of v)))
misplaced-more false ps [] v = refl
misplaced-more b ps (positional w ∷ xs) v =
    let u = unless (b && takes_place ps) (fault 16 (start_of w)) in
    ap (λ (r : List Fault). u ++ r) (misplaced-more b (later ps) xs v)
    ∙ sym (append_assoc u (misplaced_from b (later ps) xs) (unless ((b && leads xs) && takes_place (drop (length xs) (later ps))) (fault 16 (start_of v))))
    ∙ ap (λ (qs : List Param). (u ++ misplaced_from b (later ps) xs) ++ unless ((b && leads xs) && takes_place qs) (fault 16 (start_of v)))
    (drop-later (length xs) ps)
misplaced-more b ps (named s w ∷ xs) v =
    misplaced-more false (later ps) xs v
    ∙ ap (λ (c : Bool). misplaced_from false (later ps) xs ++ unless (c && takes_place (drop (length (named s w ∷ xs)) ps)) (fault 16 (start_of v)))
    (sym (and-false b))

-- ---- 17

-- the first fault of these names
abbrev at17 : List Token → Option Fault
at17 ts = first (faults 17 (starts ts))

at17-append : (ss ts : List Token) → at17 (ss ++ ts) ≡ earlier (at17 ss) (at17 ts)
unfolding first
at17-append [] ts = refl
at17-append (s ∷ ss) ts = ap (earlier (some (fault 17 s.start))) (at17-append ss ts) ∙ sym (earlier-assoc (some (fault 17 s.start)) (at17 ss) (at17 ts))

at17-three : (ks bs cs : List Token) → at17 (flatten (ks ∷ bs ∷ cs ∷ [])) ≡ earlier (at17 ks) (earlier (at17 bs) (at17 cs))
unfolding flatten
at17-three ks bs cs =
    at17-append ks (bs ++ (cs ++ []))
    ∙ ap (earlier (at17 ks)) (at17-append bs (cs ++ []) ∙ ap (λ (xs : List Token). earlier (at17 bs) (at17 xs)) (append-nil cs))

-- a name where the test holds
abbrev when : Bool → Token → List Token
when b t = cond b (t ∷ []) []

those-more : (f : Token → Bool) (ss : List Token) (t : Token) → those f (ss ++ (t ∷ [])) ≡ those f ss ++ when (f t) t
unfolding those
those-more f [] t = refl
those-more f (s ∷ ss) t = go (f s) (those-more f ss t)
  where
    go : (b : Bool) → those f (ss ++ (t ∷ [])) ≡ those f ss ++ when (f t) t
        → cond b (s ∷ those f (ss ++ (t ∷ []))) (those f (ss ++ (t ∷ []))) ≡ cond b (s ∷ those f ss) (those f ss) ++ when (f t) t
    go true ih = ap (λ (r : List Token). s ∷ r) ih
    go false ih = ih

repeats-more : (seen ss : List Token) (t : Token) → repeats_after seen (ss ++ (t ∷ [])) ≡ repeats_after seen ss ++ when (is_among (seen ++ ss) t) t
unfolding repeats_after
repeats-more seen [] t = ap (λ (rs : List Token). when (is_among rs t) t) (sym (append-nil seen))
repeats-more seen (s ∷ ss) t =
    go (is_among seen s)
    (repeats-more (seen ++ (s ∷ [])) ss t
    ∙ ap (λ (rs : List Token). repeats_after (seen ++ (s ∷ [])) ss ++ when (is_among rs t) t) (append_assoc seen (s ∷ []) ss))
  where
    go : (b : Bool) → repeats_after (seen ++ (s ∷ [])) (ss ++ (t ∷ [])) ≡ repeats_after (seen ++ (s ∷ [])) ss ++ when (is_among (seen ++ (s ∷ ss)) t) t
        → cond b (s ∷ repeats_after (seen ++ (s ∷ [])) (ss ++ (t ∷ []))) (repeats_after (seen ++ (s ∷ [])) (ss ++ (t ∷ [])))
        ≡ cond b (s ∷ repeats_after (seen ++ (s ∷ [])) ss) (repeats_after (seen ++ (s ∷ [])) ss) ++ when (is_among (seen ++ (s ∷ ss)) t) t
    go true ih = ap (λ (r : List Token). s ∷ r) ih
    go false ih = ih

-- of three tests any will do
any : (t : Token) (a b c : Bool) → earlier (at17 (when a t)) (earlier (at17 (when b t)) (at17 (when c t))) ≡ at17 (when (a || (b || c)) t)
unfolding first
any t false false c = refl
any t false true false = refl
any t false true true = earlier-self (some (fault 17 t.start))
any t true false false = refl
any t true false true = earlier-self (some (fault 17 t.start))
any t true true false = earlier-self (some (fault 17 t.start))
any t true true true = ap (earlier (some (fault 17 t.start))) (earlier-self (some (fault 17 t.start))) ∙ earlier-self (some (fault 17 t.start))

-- the label is unknown, taken or repeated
abbrev wrong : List Param → List Arg → Token → Bool
wrong ps xs t = not (is_among (param_names ps) t) || (is_among (taken ps (leading xs)) t || is_among (labels xs) t)

misnamed-named : (ps : List Param) (xs : List Arg) (t : Token) (v : Value)
    → first (misnamed ps (xs ++ (named t v ∷ []))) ≡ earlier (first (misnamed ps xs)) (at17 (when (wrong ps xs t) t))
unfolding misnamed
misnamed-named ps xs t v =
    let known : Token → Bool = λ u. not (is_among (param_names ps) u) in
    let had : Token → Bool = is_among (taken ps (leading xs)) in
    let ls = labels xs in
    ap₂ (λ (vs : List Value) (us : List Token). at17 (flatten (those known us ∷ those (is_among (taken ps vs)) us ∷ repeats us ∷ []))) (leading-named xs t v)
    (labels-named xs t v)
    ∙ at17-three (those known (ls ++ (t ∷ []))) (those had (ls ++ (t ∷ []))) (repeats (ls ++ (t ∷ [])))
    ∙ ap₂ earlier (ap at17 (those-more known ls t) ∙ at17-append (those known ls) (when (known t) t))
    (ap₂ earlier (ap at17 (those-more had ls t) ∙ at17-append (those had ls) (when (had t) t))
    (ap at17 (repeats-more [] ls t) ∙ at17-append (repeats ls) (when (is_among ls t) t)))
    ∙ swaps (at17 (those known ls)) (at17 (when (known t) t)) (at17 (those had ls)) (at17 (when (had t) t)) (at17 (repeats ls)) (at17 (when (is_among ls t) t))
    ∙ ap₂ earlier (sym (at17-three (those known ls) (those had ls) (repeats ls))) (any t (known t) (had t) (is_among ls t))

-- no label, no fault
misnamed-none : (ps : List Param) (xs : List Arg) → labels xs ≡ [] → misnamed ps xs ≡ []
unfolding misnamed those repeats_after flatten
misnamed-none ps xs h =
    ap
    (λ (us : List Token). faults 17
    (starts (flatten (those (λ t. not (is_among (param_names ps) t)) us ∷ those (is_among (taken ps (leading xs))) us ∷ repeats us ∷ []))))
    h

misnamed-same : (ps : List Param) (xs : List Arg) (v : Value) → misnamed ps (xs ++ (positional v ∷ [])) ≡ misnamed ps xs
unfolding misnamed
misnamed-same ps xs v = go (leads xs) refl
  where
    go : (b : Bool) → leads xs ≡ b → misnamed ps (xs ++ (positional v ∷ [])) ≡ misnamed ps xs
    go true h = misnamed-none ps (xs ++ (positional v ∷ [])) (labels-same xs v ∙ labels-none xs h) ∙ sym (misnamed-none ps xs (labels-none xs h))
    go false h =
        ap₂
        (λ (vs : List Value) (us : List Token). faults 17
        (starts (flatten (those (λ t. not (is_among (param_names ps) t)) us ∷ those (is_among (taken ps vs)) us ∷ repeats us ∷ []))))
        (leading-same xs v h) (labels-same xs v)

-- ---- together

passed_is : (ps : List Param) (xs : List Arg)
    → first (tally_faults ps xs) ≡ earlier (first (misplaced ps xs)) (earlier (first (misnamed ps xs)) (first (misfits (slots ps xs))))
unfolding tally_faults
passed_is ps xs = three (misplaced ps xs) (misnamed ps xs) (misfits (slots ps xs))

-- a fault more of the first, second or third rule
add-first : (a b c n : Option Fault) → earlier (earlier a n) (earlier b c) ≡ earlier (earlier a (earlier b c)) n
add-first a b c n = earlier-assoc a n (earlier b c) ∙ ap (earlier a) (earlier-comm n (earlier b c)) ∙ sym (earlier-assoc a (earlier b c) n)

add-third : (a b c n : Option Fault) → earlier a (earlier b (earlier c n)) ≡ earlier (earlier a (earlier b c)) n
add-third a b c n = ap (earlier a) (sym (earlier-assoc b c n)) ∙ sym (earlier-assoc a (earlier b c) n)

add-second : (a b c n : Option Fault) → earlier a (earlier (earlier b n) c) ≡ earlier (earlier a (earlier b c)) n
add-second a b c n = ap (earlier a) (earlier-assoc b n c ∙ ap (earlier b) (earlier-comm n c)) ∙ add-third a b c n

module _ (ps : List Param) (xs : List Arg) (t : Token) (v : Value) where
  named-passed : {b : Bool} {ss : List Slot} → wrong ps xs t ≡ b → slots ps (xs ++ (named t v ∷ [])) ≡ ss
      → first (tally_faults ps (xs ++ (named t v ∷ []))) ≡ earlier (first (misplaced ps xs))
      (earlier (earlier (first (misnamed ps xs)) (at17 (when b t))) (first (misfits ss)))
  named-passed h e =
      passed_is ps (xs ++ (named t v ∷ []))
      ∙ ap₂ earlier (ap first (misplaced-named true ps xs t v))
      (ap₂ earlier (misnamed-named ps xs t v ∙ ap (λ (c : Bool). earlier (first (misnamed ps xs)) (at17 (when c t))) h)
      (ap (λ (ss : List Slot). first (misfits ss)) e))

  -- 17
  named-refused : wrong ps xs t ≡ true → slots ps (xs ++ (named t v ∷ [])) ≡ slots ps xs → Turned ps xs (named t v) (some (fault 17 t.start)) (bound ps xs)
  unfolding first
  named-refused h e =
      record {
        faulted = named-passed h e ∙ add-second (first (misplaced ps xs)) (first (misnamed ps xs)) (first (misfits (slots ps xs))) (some (fault 17 t.start))
            ∙ ap (λ (o : Option Fault). earlier o (some (fault 17 t.start))) (sym (passed_is ps xs));
        flags = ap (map is_bound) e;
      }

  pub turn-unknown : None t ps → Turned ps xs (named t v) (some (fault 17 t.start)) (bound ps xs)
  turn-unknown n =
      named-refused (ap (λ (b : Bool). not b || (is_among (taken ps (leading xs)) t || is_among (labels xs) t)) (known-none n)) (unknown-slots t v ps xs n)

  module _ {j : ℕ} {p : Param} (o : Only t j p ps) where
    wrong-is : {b : Bool} → get_or (bound ps xs) j false ≡ b → wrong ps xs t ≡ b
    wrong-is h = ap (λ (b : Bool). not b || (is_among (taken ps (leading xs)) t || is_among (labels xs) t)) (known_only o) ∙ bound-is xs o ∙ h

    pub turn-again : get_or (bound ps xs) j false ≡ true → Turned ps xs (named t v) (some (fault 17 t.start)) (bound ps xs)
    turn-again h = named-refused (wrong-is h) (again-slots t v ps xs o h)

    pub turn-named : get_or (bound ps xs) j false ≡ false → Turned ps xs (named t v) (first (misfit p.ty (some v))) (set (bound ps xs) j true)
    unfolding first
    turn-named h =
        let g = named-slots t v ps xs o h in
        record {
          faulted = named-passed (wrong-is h) refl
              ∙ ap₂ (λ (m r : Option Fault). earlier (first (misplaced ps xs)) (earlier m r)) (earlier-none (first (misnamed ps xs))) (given-misfits g)
              ∙ add-third (first (misplaced ps xs)) (first (misnamed ps xs)) (first (misfits (slots ps xs))) (first (misfit p.ty (some v)))
              ∙ ap (λ (o : Option Fault). earlier o (first (misfit p.ty (some v)))) (sym (passed_is ps xs));
          flags = given-flags g;
        }

module _ (ps : List Param) (xs : List Arg) (v : Value) where
  placed-passed : {b : Bool} → (leads xs && takes_place (drop (length xs) ps)) ≡ b
      → first (tally_faults ps (xs ++ (positional v ∷ [])))
      ≡ earlier (earlier (first (misplaced ps xs)) (first (unless b (fault 16 (start_of v)))))
      (earlier (first (misnamed ps xs)) (first (misfits (slots ps (xs ++ (positional v ∷ []))))))
  placed-passed {b} h =
      passed_is ps (xs ++ (positional v ∷ []))
      ∙ ap₂ earlier
      (ap first (misplaced-more true ps xs v ∙ ap (λ (c : Bool). misplaced ps xs ++ unless c (fault 16 (start_of v))) h)
      ∙ first-append (misplaced ps xs) (unless b (fault 16 (start_of v))))
      (ap (λ (m : List Fault). earlier (first m) (first (misfits (slots ps (xs ++ (positional v ∷ [])))))) (misnamed-same ps xs v))

  -- 16
  place-refused : (leads xs && takes_place (drop (length xs) ps)) ≡ false → slots ps (xs ++ (positional v ∷ [])) ≡ slots ps xs
      → Turned ps xs (positional v) (some (fault 16 (start_of v))) (bound ps xs)
  unfolding first
  place-refused h e =
      record {
        faulted = placed-passed h
            ∙ ap
            (λ (ss : List Slot). earlier (earlier (first (misplaced ps xs)) (some (fault 16 (start_of v))))
            (earlier (first (misnamed ps xs)) (first (misfits ss))))
            e
            ∙ add-first (first (misplaced ps xs)) (first (misnamed ps xs)) (first (misfits (slots ps xs))) (some (fault 16 (start_of v)))
            ∙ ap (λ (o : Option Fault). earlier o (some (fault 16 (start_of v)))) (sym (passed_is ps xs));
        flags = ap (map is_bound) e;
      }

  pub turn-trailing : leads xs ≡ false → Turned ps xs (positional v) (some (fault 16 (start_of v))) (bound ps xs)
  turn-trailing h = place-refused (ap (λ (b : Bool). b && takes_place (drop (length xs) ps)) h) (trailing-slots v xs ps h)

  pub turn-misplaced : leads xs ≡ true → takes_place (drop (length xs) ps) ≡ false → Turned ps xs (positional v) (some (fault 16 (start_of v))) (bound ps xs)
  turn-misplaced l h = place-refused (ap₂ (λ (a b : Bool). a && b) l h) (refused-slots v xs ps l h)

  pub turn-placed : {p : Param} → leads xs ≡ true → Nth (length xs) p ps → all_tensor p.ty ≡ true
      → Turned ps xs (positional v) (first (misfit p.ty (some v))) (set (bound ps xs) (length xs) true)
  unfolding first
  turn-placed {p} l n h =
      let g = placed-slots v xs l n h in
      record {
        faulted = placed-passed (ap₂ (λ (a b : Bool). a && b) l (nth-takes n ∙ h))
            ∙ ap₂ (λ (m r : Option Fault). earlier m (earlier (first (misnamed ps xs)) r)) (earlier-none (first (misplaced ps xs))) (given-misfits g)
            ∙ add-third (first (misplaced ps xs)) (first (misnamed ps xs)) (first (misfits (slots ps xs))) (first (misfit p.ty (some v)))
            ∙ ap (λ (o : Option Fault). earlier o (first (misfit p.ty (some v)))) (sym (passed_is ps xs));
        flags = given-flags g;
      }

-- ---- all four rules

misfits-none : (ps : List Param) → misfits (slots_from ps [] []) ≡ []
unfolding misfits slots_from named_value mathlib.Core.List.flat_map
misfits-none [] = refl
misfits-none (p ∷ ps) = misfits-none ps

pub passed_none : (ps : List Param) → first (tally_faults ps []) ≡ nothing
unfolding misplaced_from labels leading first
passed_none ps = passed_is ps [] ∙ ap₂ (λ (m r : List Fault). earlier (first m) (first r)) (misnamed-none ps [] refl) (misfits-none ps)

pub whole : (place : ℕ) (ps : List Param) (xs : List Arg)
    → first (flatten (misplaced ps xs ∷ misnamed ps xs ∷ misfits (slots ps xs) ∷ missing place (slots ps xs) ∷ [])) ≡ earlier (first (tally_faults ps xs))
    (first (missing place (slots ps xs)))
unfolding flatten
whole place ps xs =
    let a = misplaced ps xs in
    let b = misnamed ps xs in
    let c = misfits (slots ps xs) in
    let d = missing place (slots ps xs) in
    first-append a (b ++ (c ++ (d ++ [])))
    ∙ ap (earlier (first a))
    (first-append b (c ++ (d ++ []))
    ∙ ap (earlier (first b)) (first-append c (d ++ []) ∙ ap (λ (ds : List Fault). earlier (first c) (first ds)) (append-nil d)))
    ∙ add-third (first a) (first b) (first c) (first d)
    ∙ ap (λ (o : Option Fault). earlier o (first d)) (sym (passed_is ps xs))
