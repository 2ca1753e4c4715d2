-- The rules of names, said of bytes as `Lawful` says them: none of a row of tokens breaks a rule exactly when its spellings are so many, stand
-- among others, or are distinct. In order: how often a name stands; tests that no name passes; names among others; repeated names; counts.
use mathlib.Core.Path.{◌≡◌, refl, sym, ap, ◌∙◌}
use mathlib.Core.Bool.{Bool, true, false, cond, not, ◌||◌, true≢false}
use mathlib.Core.List.{List, [], ◌∷◌, ◌++◌, append-nil, append_assoc}
use mathlib.Core.Logic.Iff
use mathlib.Core.Logic.{◌↔◌}
use Prim.Native.Nat.{ℕ, suc, ◌+◌, ◌≤◌, ◌<◌}
use native.Mathlib.Omega.{arith}
use lib.Dec.{ltb}
use lib.ListN.{length, length-map}
use borrow.Author.Tests.{ltb-true, ltb-false, lt-ltb}
use Rattle.spellings.specs.Comparison.{same_bytes}
use Rattle.lexis.specs.Lexer.{Token}
use Rattle.lists.specs.Fault.{faults, starts}
use Rattle.lists.specs.Names.{those, is_among, repeats_after, repeats}
use Rattle.lists.specs.ListRules.{over}
use Rattle.documents.specs.Wiring.{strangers}
use Rattle.documents.proofs.Sought.{same-is, same_self}
use Rattle.writing.specs.Plan.{spellings}
use Rattle.writing.specs.Lawful.{times, Among, AllAmong, Distinct}
use Rattle.canonical.proofs.Spelt.{spellings-append, is_in, among_in, tally, tally-append, Within, those-tally, length-zero, fresh, no-fault, few-places}

-- ---- how often a name stands

times-tally : (w : List ℕ) (ws : List (List ℕ)) → times w ws ≡ tally (λ v. same_bytes v w) ws
unfolding times tally
times-tally w [] = refl
times-tally w (v ∷ ws) = ap (λ (n : ℕ). cond (same_bytes v w) (suc n) n) (times-tally w ws)

pub times-append : (w : List ℕ) (us vs : List (List ℕ)) → times w (us ++ vs) ≡ times w us + times w vs
times-append w us vs =
    omega (arith, times-tally w (us ++ vs), times-tally w us, times-tally w vs, tally-append (λ v. same_bytes v w) us vs)

-- a name stands in front of others once more than among them, and another as often
pub times-first : (w : List ℕ) (ws : List (List ℕ)) → times w (w ∷ ws) ≡ suc (times w ws)
unfolding times
times-first w ws = simp (same_self w)

pub times-later : (w v : List ℕ) (ws : List (List ℕ)) → times w ws ≤ times w (v ∷ ws)
unfolding times
times-later w v ws = go (same_bytes v w)
  where
    go : (b : Bool) → times w ws ≤ cond b (suc (times w ws)) (times w ws)
    go true = omega arith
    go false = omega arith

pub within-among : (vs ws : List (List ℕ)) → Within vs ws → AllAmong vs ws
within-among vs ws h w a = omega (arith, h (λ v. same_bytes v w), times-tally w vs, times-tally w ws)

-- ---- tests that no name passes

tally-none : (g : List ℕ → Bool) (ws : List (List ℕ)) → tally g ws ≡ 0 → (w : List ℕ) → Among w ws → g w ≡ false
unfolding tally times
tally-none g [] e w a = absurd (omega arith)
tally-none g (v ∷ vs) e w a = go (g v) refl (same_bytes v w) refl e a (tally-none g vs)
  where
    go : (b : Bool) → g v ≡ b → (c : Bool) → same_bytes v w ≡ c → cond b (suc (tally g vs)) (tally g vs) ≡ 0
        → 0 < cond c (suc (times w vs)) (times w vs) → (tally g vs ≡ 0 → (u : List ℕ) → Among u vs → g u ≡ false) → g w ≡ false
    go true f c s e a r = absurd (omega arith)
    go false f true s e a r = ap g (sym (same-is v w s)) ∙ f
    go false f false s e a r = r e w a

none-tally : (g : List ℕ → Bool) (ws : List (List ℕ)) → ((w : List ℕ) → Among w ws → g w ≡ false) → tally g ws ≡ 0
unfolding tally
none-tally g [] h = refl
none-tally g (v ∷ vs) h =
    simp (h v (omega (arith, times-first v vs)), none-tally g vs (λ w a. h w (omega (arith, times-later w v vs))))

-- ---- names among others

in-times : (ws : List (List ℕ)) (w : List ℕ) → is_in ws w ≡ ltb 0 (times w ws)
unfolding is_in times
in-times [] w = refl
in-times (v ∷ vs) w = go (same_bytes v w) (in-times vs w)
  where
    go : (b : Bool) → is_in vs w ≡ ltb 0 (times w vs) → (b || is_in vs w) ≡ ltb 0 (cond b (suc (times w vs)) (times w vs))
    go true e = sym (lt-ltb 0 (suc (times w vs)) (omega arith))
    go false e = e

pub is-in : (ws : List (List ℕ)) (w : List ℕ) → (is_in ws w ≡ true) ↔ Among w ws
is-in ws w = (λ h. ltb-true 0 (times w ws) (sym (in-times ws w) ∙ h), λ a. in-times ws w ∙ lt-ltb 0 (times w ws) a)

pub not_in : (ws : List (List ℕ)) (w : List ℕ) → is_in ws w ≡ false → times w ws ≡ 0
not_in ws w h = let n = ltb-false 0 (times w ws) (sym (in-times ws w) ∙ h) in omega arith

those-none : (f : Bool → Bool) (ks ts : List Token)
    → (those (λ t. f (is_among ks t)) ts ≡ []) ↔ ((w : List ℕ) → Among w (spellings ts) → f (is_in (spellings ks) w) ≡ false)
those-none f ks ts =
    let g : List ℕ → Bool = λ w. f (is_in (spellings ks) w) in
    let n = those-tally (λ t. f (is_among ks t)) g (λ t. ap f (among_in ks t)) ts in (
      λ h. tally-none g (spellings ts) (sym n ∙ ap (λ (us : List Token). length us) h),
      λ h. length-zero (those (λ t. f (is_among ks t)) ts) (omega (arith, none-tally g (spellings ts) h)),
    )

-- none of the names ws is among vs
abbrev pub NoneAmong : List (List ℕ) → List (List ℕ) → Type 0
NoneAmong ws vs = (w : List ℕ) → Among w ws → Among w vs → ⊥

module _ (c : ℕ) (ks ts : List Token) {vs ws : List (List ℕ)} (e : spellings ks ≡ vs) (f : spellings ts ≡ ws) where
  pub no-stranger : (faults c (starts (strangers ks ts)) ≡ []) ↔ AllAmong ws vs
  no-stranger = rw (← e, ← f) (Iff.trans (no-fault c (strangers ks ts)) (Iff.trans (those-none not ks ts) all))
    where
      flip : (b : Bool) → not b ≡ false → b ≡ true
      flip true h = refl
      flip false h = absurd (true≢false h)

      all : ((w : List ℕ) → Among w (spellings ts) → not (is_in (spellings ks) w) ≡ false) ↔ AllAmong (spellings ts) (spellings ks)
      all = (λ h w a. (is-in (spellings ks) w).0 (flip (is_in (spellings ks) w) (h w a)), λ h w a. ap not ((is-in (spellings ks) w).1 (h w a)))

  pub no_member : (faults c (starts (those (is_among ks) ts)) ≡ []) ↔ NoneAmong ws vs
  no_member = rw (← e, ← f) (Iff.trans (no-fault c (those (is_among ks) ts)) (Iff.trans (those-none (λ b. b) ks ts) all))
    where
      flip : (w : List ℕ) → (Among w (spellings ks) → ⊥) → (b : Bool) → is_in (spellings ks) w ≡ b → is_in (spellings ks) w ≡ false
      flip w n true h = absurd (n ((is-in (spellings ks) w).0 h))
      flip w n false h = h

      all : ((w : List ℕ) → Among w (spellings ts) → is_in (spellings ks) w ≡ false) ↔ NoneAmong (spellings ts) (spellings ks)
      all = (
        λ h w a m. true≢false (sym ((is-in (spellings ks) w).1 m) ∙ h w a),
        λ h w a. flip w (h w a) (is_in (spellings ks) w) refl,
      )

-- ---- repeated names

-- the names of some tokens and of one more
one_more : (w : List ℕ) (seen : List Token) (t : Token) (ts : List Token)
    → times w (spellings (seen ++ (t ∷ ts))) ≡ times w (spellings seen) + times w (t.bytes ∷ spellings ts)
one_more w seen t ts = ap (times w) (spellings-append seen (t ∷ ts)) ∙ times-append w (spellings seen) (t.bytes ∷ spellings ts)

unseen : (seen : List Token) (t : Token) → is_among seen t ≡ false → times t.bytes (spellings seen) ≡ 0
unseen seen t h = not_in (spellings seen) t.bytes (sym (among_in seen t) ∙ h)

distinct_more : (seen : List Token) (t : Token) → Distinct (spellings seen) → is_among seen t ≡ false → Distinct (spellings (seen ++ (t ∷ [])))
unfolding times
distinct_more seen t d h w = go (same_bytes t.bytes w) refl (one_more w seen t [])
  where
    go : (b : Bool) → same_bytes t.bytes w ≡ b → times w (spellings (seen ++ (t ∷ []))) ≡ times w (spellings seen) + cond b 1 0
        → times w (spellings (seen ++ (t ∷ []))) ≤ 1
    go true e n = let z = rw (same-is t.bytes w e) at (unseen seen t h) in omega (arith, n, z)
    go false e n = omega (arith, n, d w)

distinct-after : (seen ts : List Token) → Distinct (spellings seen) → repeats_after seen ts ≡ [] → Distinct (spellings (seen ++ ts))
distinct-after seen [] d h = rw (append-nil seen) d
distinct-after seen (t ∷ ts) d h =
    let f = fresh seen t ts h in
    rw (append_assoc seen (t ∷ []) ts) at (distinct-after (seen ++ (t ∷ [])) ts (distinct_more seen t d f.0) f.1)

after-distinct : (seen ts : List Token) → Distinct (spellings (seen ++ ts)) → repeats_after seen ts ≡ []
unfolding repeats_after
after-distinct seen [] d = refl
after-distinct seen (t ∷ ts) d = simp (go (is_among seen t) refl, after-distinct (seen ++ (t ∷ [])) ts (rw (append_assoc seen (t ∷ []) ts) d))
  where
    go : (b : Bool) → is_among seen t ≡ b → is_among seen t ≡ false
    go true e =
        let a = (is-in (spellings seen) t.bytes).0 (sym (among_in seen t) ∙ e) in
        absurd (omega (arith, a, d t.bytes, one_more t.bytes seen t ts, times-first t.bytes (spellings ts)))
    go false e = e

pub no-repeat : (c : ℕ) (ts : List Token) {ws : List (List ℕ)} → spellings ts ≡ ws → (faults c (starts (repeats ts)) ≡ []) ↔ Distinct ws
unfolding times
no-repeat c ts e = rw (← e) (Iff.trans (no-fault c (repeats ts)) (distinct-after [] ts (λ w. omega arith), after-distinct [] ts))

-- ---- counts

pub few-names : (n : ℕ) (ts : List Token) {ws : List (List ℕ)} → spellings ts ≡ ws → (over n (starts ts) ≡ []) ↔ (length ws ≤ n)
few-names n ts e =
    let l = length-map ts (λ (t : Token). t.start) in
    let m = length-map ts (λ (t : Token). t.bytes) in
    let k = few-places n (starts ts) in
    rw (← e) (λ h. omega (arith, k.0 h), λ h. k.1 (omega arith))
