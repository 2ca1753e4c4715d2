-- What the rules ask of names depends on their bytes alone: which are among others, how many pass a test, which are repeated, and whether
-- they are too many. Names that are no more than others, for every test, keep the rules that those keep.
use mathlib.Core.Path.{◌≡◌, refl, sym, ap, ap₂, ◌∙◌}
use mathlib.Core.Bool.{Bool, true, false, cond, ◌||◌}
use mathlib.Core.List.{List, [], ◌∷◌, ◌++◌, map-append, cons≢nil}
use mathlib.Core.Logic.{◌↔◌}
use Prim.Native.Nat.{ℕ, suc, ◌+◌, ◌≤◌}
use native.Mathlib.Omega.{arith}
use lib.ListN.{length, take, drop, drop_of_length-le, length-map}
use Rattle.spellings.specs.Comparison.{same_bytes}
use Rattle.lexis.specs.Lexer.{Token}
use Rattle.lists.specs.Fault.{faults, starts}
use Rattle.lists.specs.Names.{those, is_among, repeats_after}
use Rattle.lists.specs.ListRules.{over}
use Rattle.lists.proofs.Faultless.{no-faults, no-starts}
use Rattle.lists.proofs.Faultless.{none-beyond}
use Rattle.writing.specs.Plan.{spellings}
use Rattle.canonical.proofs.Clean.{EmptyToo}

pub spellings-append : (ts us : List Token) → spellings (ts ++ us) ≡ spellings ts ++ spellings us
spellings-append ts us = map-append (λ (t : Token). t.bytes) ts us

pub append-same : (ts us rs ss : List Token) → spellings ts ≡ spellings rs → spellings us ≡ spellings ss → spellings (ts ++ us) ≡ spellings (rs ++ ss)
append-same ts us rs ss e f = spellings-append ts us ∙ ap₂ (λ (v w : List (List ℕ)). v ++ w) e f ∙ sym (spellings-append rs ss)

-- ---- tests

unfoldable pub is_in : List (List ℕ) → List ℕ → Bool
is_in [] w = false
is_in (v ∷ vs) w = same_bytes v w || is_in vs w

pub among_in : (ss : List Token) (t : Token) → is_among ss t ≡ is_in (spellings ss) t.bytes
unfolding is_among is_in
among_in [] t = refl
among_in (s ∷ ss) t = ap (λ (b : Bool). same_bytes s.bytes t.bytes || b) (among_in ss t)

-- how many pass a test
unfoldable pub tally : (List ℕ → Bool) → List (List ℕ) → ℕ
tally g [] = 0
tally g (w ∷ ws) = let n = tally g ws in cond (g w) (suc n) n

pub tally-append : (g : List ℕ → Bool) (vs ws : List (List ℕ)) → tally g (vs ++ ws) ≡ tally g vs + tally g ws
unfolding tally
tally-append g [] ws = omega arith
tally-append g (v ∷ vs) ws = go (g v) (tally-append g vs ws)
  where
    go : (b : Bool) → tally g (vs ++ ws) ≡ tally g vs + tally g ws
        → cond b (suc (tally g (vs ++ ws))) (tally g (vs ++ ws)) ≡ cond b (suc (tally g vs)) (tally g vs) + tally g ws
    go true e = omega arith
    go false e = e

-- all of them pass the test that everything passes
tally-all : (ws : List (List ℕ)) → tally (λ w. true) ws ≡ length ws
unfolding tally
tally-all [] = refl
tally-all (w ∷ ws) = ap suc (tally-all ws)

-- no more of the first names pass a test than of the second, for every test
abbrev pub Within : List (List ℕ) → List (List ℕ) → Type 0
Within vs ws = (g : List ℕ → Bool) → tally g vs ≤ tally g ws

pub equal-within : {vs ws : List (List ℕ)} → vs ≡ ws → Within vs ws
equal-within e g = let n = ap (tally g) e in omega arith

pub append-within : (ts us rs ss : List Token) → Within (spellings ts) (spellings rs) → Within (spellings us) (spellings ss)
    → Within (spellings (ts ++ us)) (spellings (rs ++ ss))
append-within ts us rs ss h k g =
    let a = ap (tally g) (spellings-append ts us) ∙ tally-append g (spellings ts) (spellings us) in
    let b = ap (tally g) (spellings-append rs ss) ∙ tally-append g (spellings rs) (spellings ss) in
    omega (arith, h g, k g)

-- ---- the names that pass a test

pub those-tally : (f : Token → Bool) (g : List ℕ → Bool) → ((t : Token) → f t ≡ g t.bytes) → (ts : List Token) → length (those f ts) ≡ tally g (spellings ts)
unfolding those tally
those-tally f g h [] = refl
those-tally f g h (t ∷ ts) = rw (h t) (go (g t.bytes) (those-tally f g h ts))
  where
    go : (b : Bool) → length (those f ts) ≡ tally g (spellings ts)
        → length (cond b (t ∷ those f ts) (those f ts)) ≡ cond b (suc (tally g (spellings ts))) (tally g (spellings ts))
    go true e = ap suc e
    go false e = e

pub length-zero : {A : Type 0} (xs : List A) → length xs ≤ 0 → xs ≡ []
length-zero [] h = refl
length-zero (x ∷ xs) h = absurd (omega arith)

-- those that are, or that are not, among others
pub among-keep : (f : Bool → Bool) (ks ls ts us : List Token) → spellings ks ≡ spellings ls → Within (spellings us) (spellings ts)
    → EmptyToo (those (λ t. f (is_among ks t)) ts) (those (λ t. f (is_among ls t)) us)
among-keep f ks ls ts us e w h =
    let g : List ℕ → Bool = λ b. f (is_in (spellings ks) b) in
    let m = those-tally (λ t. f (is_among ks t)) g (λ t. ap f (among_in ks t)) ts in
    let n = those-tally (λ t. f (is_among ls t)) g (λ t. ap f (among_in ls t ∙ ap (λ (ws : List (List ℕ)). is_in ws t.bytes) (sym e))) us in
    let z = ap (λ (xs : List Token). length xs) h in
    length-zero (those (λ t. f (is_among ls t)) us) (omega (arith, w g))

-- ---- repeated names

-- a name that is not repeated, and those after it
pub fresh : (seen : List Token) (t : Token) (ts : List Token) → repeats_after seen (t ∷ ts) ≡ []
    → (is_among seen t ≡ false) × (repeats_after (seen ++ (t ∷ [])) ts ≡ [])
unfolding repeats_after
fresh seen t ts h = go (is_among seen t) h
  where
    go : (b : Bool) → cond b (t ∷ repeats_after (seen ++ (t ∷ [])) ts) (repeats_after (seen ++ (t ∷ [])) ts) ≡ []
        → (b ≡ false) × (repeats_after (seen ++ (t ∷ [])) ts ≡ [])
    go true e = absurd (cons≢nil e)
    go false e = (refl, e)

pub repeats-keep : (rs ss ts us : List Token) → spellings rs ≡ spellings ss → spellings ts ≡ spellings us → EmptyToo (repeats_after rs ts) (repeats_after ss us)
unfolding repeats_after
repeats-keep rs ss [] [] e q h = refl
repeats-keep rs ss [] (u ∷ us) e q h = absurd (cons≢nil (sym q))
repeats-keep rs ss (t ∷ ts) [] e q h = absurd (cons≢nil q)
repeats-keep rs ss (t ∷ ts) (u ∷ us) e q h =
    let a : t.bytes ≡ u.bytes = cc in
    let b : spellings ts ≡ spellings us = cc in
    let f = fresh rs t ts h in
    let n : is_among ss u ≡ false = among_in ss u ∙ sym (ap₂ is_in e a) ∙ sym (among_in rs t) ∙ f.0 in
    simp (n, repeats-keep (rs ++ (t ∷ [])) (ss ++ (u ∷ [])) ts us (append-same rs (t ∷ []) ss (u ∷ []) e (ap (λ (w : List ℕ). w ∷ []) a)) b f.1)

-- ---- faults

pub no-fault : (c : ℕ) (ts : List Token) → (faults c (starts ts) ≡ []) ↔ (ts ≡ [])
no-fault c ts = (λ h. no-starts ts (no-faults c (starts ts) h), λ e. ap (λ (us : List Token). faults c (starts us)) e)

pub faults-keep : (c : ℕ) (ts us : List Token) → EmptyToo ts us → EmptyToo (faults c (starts ts)) (faults c (starts us))
faults-keep c ts us f h = (no-fault c us).1 (f ((no-fault c ts).0 h))

pub few-places : (n : ℕ) (ps : List ℕ) → (over n ps ≡ []) ↔ (length ps ≤ n)
few-places n ps = (λ h. none-beyond n ps (no-faults 12 (take 1 (drop n ps)) h), λ l. rw (drop_of_length-le ps l))

pub over-keep : (n : ℕ) (ps qs : List ℕ) → length qs ≤ length ps → EmptyToo (over n ps) (over n qs)
over-keep n ps qs l h = (few-places n qs).1 (omega (arith, (few-places n ps).0 h))

pub counts-keep : (n : ℕ) (ts us : List Token) → Within (spellings us) (spellings ts) → EmptyToo (over n (starts ts)) (over n (starts us))
counts-keep n ts us w = over-keep n (starts ts) (starts us) (omega (arith, w (λ v. true), all ts, all us))
  where
    all : (rs : List Token) → tally (λ w. true) (spellings rs) ≡ length (starts rs)
    all rs = tally-all (spellings rs) ∙ length-map rs (λ (t : Token). t.bytes) ∙ sym (length-map rs (λ (t : Token). t.start))
