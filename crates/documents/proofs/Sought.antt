-- A parameter that is sought. By name: the one of that name (`Only`), where no name is repeated, or none (`None`). By place: the one
-- there (`Nth`).
use mathlib.Core.Path.{◌≡◌, refl, sym, ap, ap₂, ◌∙◌}
use mathlib.Core.Bool.{Bool, true, false, cond, ◌&&◌, ◌||◌, or-false, true≢false, false≢true}
use mathlib.Core.List.{List, [], ◌∷◌, ◌++◌}
use mathlib.Core.Option.{Option, some}
use mathlib.Core.Option.{none as nothing}
use Prim.Native.Nat.{ℕ, zero, suc, ◌+◌}
use native.Mathlib.Omega.{arith}
use lib.Dec.{eqb}
use lib.ListN.{drop}
use borrow.Author.Tests.{eqb-true, eq-eqb}
use Rattle.spellings.specs.Comparison.{same_bytes}
use Rattle.lexis.specs.Lexer.{Token}
use Rattle.syntax.specs.Tree.{Param}
use Rattle.lists.specs.Names.{is_among, repeats_after, repeats}
use Rattle.lists.specs.Reading.{all_tensor}
use Rattle.lists.specs.ListRules.{param_names}
use Rattle.documents.specs.Binding.{takes_place}
use Rattle.documents.specs.Arguments.{SoughtParam, seek}
use Rattle.documents.specs.Tallies.{Nth}
use Rattle.documents.specs.Tallies.Nth.{nth-first, after}

-- ---- names of the same bytes

pub same-is : (a b : List ℕ) → same_bytes a b ≡ true → a ≡ b
unfolding same_bytes
same-is [] [] h = refl
same-is [] (y ∷ b) h = absurd (false≢true h)
same-is (x ∷ a) [] h = absurd (false≢true h)
same-is (x ∷ a) (y ∷ b) h = go (eqb x y) refl h (same-is a b)
  where
    go : (c : Bool) → eqb x y ≡ c → (c && same_bytes a b) ≡ true → (same_bytes a b ≡ true → a ≡ b) → x ∷ a ≡ y ∷ b
    go true e q ih = ap₂ (λ (z : ℕ) (r : List ℕ). z ∷ r) (eqb-true x y e) (ih q)
    go false e q ih = absurd (false≢true q)

pub same_self : (a : List ℕ) → same_bytes a a ≡ true
unfolding same_bytes
same_self [] = refl
same_self (x ∷ a) = simp (eq-eqb x x refl, same_self a)

is_same : {a b : List ℕ} → a ≡ b → same_bytes a b ≡ true
is_same {a} e = ap (λ (z : List ℕ). same_bytes a z) (sym e) ∙ same_self a

pub same-sym : (a b : List ℕ) → same_bytes a b ≡ same_bytes b a
same-sym a b = go (same_bytes a b) refl (same_bytes b a) refl
  where
    go : (p : Bool) → same_bytes a b ≡ p → (q : Bool) → same_bytes b a ≡ q → same_bytes a b ≡ same_bytes b a
    go true e q f = e ∙ sym (is_same (sym (same-is a b e)))
    go false e true f = is_same (sym (same-is b a f)) ∙ sym f
    go false e false f = e ∙ sym f

-- ---- the parameter of a name

abbrev pub alike : Param → Token → Bool
alike p t = same_bytes p.name.bytes t.bytes

-- none of these parameters has the name
pub data None (t : Token) : List Param → Type 0 where
  nil : None t []
  cons : {p : Param} {ps : List Param} → alike p t ≡ false → None t ps → None t (p ∷ ps)

-- one has it: number j, which is p
pub data Only (t : Token) : ℕ → Param → List Param → Type 0 where
  here : {p : Param} {ps : List Param} → alike p t ≡ true → None t ps → Only t zero p (p ∷ ps)
  there : {j : ℕ} {p q : Param} {ps : List Param} → alike q t ≡ false → Only t j p ps → Only t (suc j) p (q ∷ ps)

pub only-alike : {t : Token} {j : ℕ} {p : Param} {ps : List Param} → Only t j p ps → alike p t ≡ true
only-alike (here h n) = h
only-alike (there h o) = only-alike o

among-append : (ss rs : List Token) (t : Token) → is_among (ss ++ rs) t ≡ (is_among ss t || is_among rs t)
unfolding is_among
among-append [] rs t = refl
among-append (s ∷ ss) rs t = go (same_bytes s.bytes t.bytes) (among-append ss rs t)
  where
    go : (b : Bool) → is_among (ss ++ rs) t ≡ (is_among ss t || is_among rs t) → (b || is_among (ss ++ rs) t) ≡ ((b || is_among ss t) || is_among rs t)
    go true ih = refl
    go false ih = ih

or_left : (a b : Bool) → (a || b) ≡ false → a ≡ false
or_left true b h = absurd (true≢false h)
or_left false b h = refl

or_right : (a b : Bool) → (a || b) ≡ false → b ≡ false
or_right true b h = absurd (true≢false h)
or_right false b h = h

-- a name that is not among those and one more
among-less : (ss : List Token) (s t : Token) → is_among (ss ++ (s ∷ [])) t ≡ false → is_among ss t ≡ false
among-less ss s t h = or_left (is_among ss t) (is_among (s ∷ []) t) (sym (among-append ss (s ∷ []) t) ∙ h)

among-last : (ss : List Token) (s t : Token) → is_among (ss ++ (s ∷ [])) t ≡ false → same_bytes s.bytes t.bytes ≡ false
unfolding is_among
among-last ss s t h =
    sym (or-false (same_bytes s.bytes t.bytes)) ∙ or_right (is_among ss t) (is_among (s ∷ []) t) (sym (among-append ss (s ∷ []) t) ∙ h)

-- no name is repeated: the first is none of those seen, nor is it seen again
record Fresh (seen : List Token) (t : Token) (ts : List Token) : Type 0 where
  new : is_among seen t ≡ false
  rest : repeats_after (seen ++ (t ∷ [])) ts ≡ []

fresh : (seen : List Token) (t : Token) (ts : List Token) → repeats_after seen (t ∷ ts) ≡ [] → Fresh seen t ts
unfolding repeats_after
fresh seen t ts h = go (is_among seen t) refl h
  where
    go : (b : Bool) → is_among seen t ≡ b → cond b (t ∷ repeats_after (seen ++ (t ∷ [])) ts) (repeats_after (seen ++ (t ∷ [])) ts) ≡ [] → Fresh seen t ts
    go true e q = let z : ◌≡◌ {A = ℕ} 0 1 = cc in absurd (omega arith)
    go false e q = record { new = e; rest = q }

none-again : (t : Token) (seen : List Token) (ps : List Param) → ((s : Token) → is_among seen s ≡ false → same_bytes s.bytes t.bytes ≡ false)
    → repeats_after seen (param_names ps) ≡ [] → None t ps
none-again t seen [] far h = nil
none-again t seen (p ∷ ps) far h =
    let f = fresh seen p.name (param_names ps) h in
    cons (far p.name f.new) (none-again t (seen ++ (p.name ∷ [])) ps (λ s n. far s (among-less seen p.name s n)) f.rest)

pub none-nth : {t : Token} {i : ℕ} {p : Param} {ps : List Param} → None t ps → Nth i p ps → alike p t ≡ false
none-nth nil k = elim k [ ]
none-nth (cons h n) nth-first = h
none-nth (cons h n) (after k) = none-nth n k

-- no parameter after one of a name has it
none_after : (t : Token) (seen : List Token) (p : Param) (ps : List Param) → alike p t ≡ true
    → repeats_after (seen ++ (p.name ∷ [])) (param_names ps) ≡ [] → None t ps
none_after t seen p ps e d =
    none-again t (seen ++ (p.name ∷ [])) ps (λ u m.
    same-sym u.bytes t.bytes
    ∙ ap (λ (z : List ℕ). same_bytes z u.bytes) (sym (same-is p.name.bytes t.bytes e))
    ∙ among-last seen p.name u m) d

only-after : (t : Token) (seen : List Token) {i : ℕ} {p : Param} {ps : List Param} → repeats_after seen (param_names ps) ≡ []
    → alike p t ≡ true → Nth i p ps → Only t i p ps
only-after t seen {p = p} d e (nth-first {ps = ps}) = let f = fresh seen p.name (param_names ps) d in here e (none_after t seen p ps e f.rest)
only-after t seen {p = p} d e (after {j = j} {q = q} {ps = ps} n) =
    let f = fresh seen q.name (param_names ps) d in go (alike q t) refl f.rest (only-after t (seen ++ (q.name ∷ [])) f.rest e n)
  where
    go : (b : Bool) → alike q t ≡ b → repeats_after (seen ++ (q.name ∷ [])) (param_names ps) ≡ [] → Only t j p ps → Only t (suc j) p (q ∷ ps)
    go true h f o = absurd (true≢false (sym e ∙ none-nth (none_after t seen q ps h f) n))
    go false h f o = there h o

-- a parameter of a name is the only one
pub only-nth : {t : Token} {i : ℕ} {p : Param} {ps : List Param} → repeats (param_names ps) ≡ [] → alike p t ≡ true → Nth i p ps → Only t i p ps
only-nth {t} d e n = only-after t [] d e n

-- where no number is that of a parameter of a name
pub none_of : (t : Token) (ps : List Param) → ((i : ℕ) (p : Param) → Nth i p ps → alike p t ≡ false) → None t ps
none_of t [] h = nil
none_of t (p ∷ ps) h = cons (h 0 p nth-first) (none_of t ps (λ i q n. h (suc i) q (after n)))

-- sought by name
abbrev pub of_name : Token → ℕ → Param → Bool
of_name t k p = alike p t

clash : {A : Type 0} {a : A} {X : Type 0} → ◌≡◌ {A = Option A} nothing (some a) → X
clash e = let z : ◌≡◌ {A = ℕ} 0 1 = cc in absurd (omega arith)

pub seek-none : (t : Token) (k : ℕ) (ps : List Param) → seek (of_name t) k ps ≡ nothing → None t ps
unfolding seek
seek-none t k [] h = nil
seek-none t k (p ∷ ps) h = go (alike p t) refl h (seek-none t (suc k) ps)
  where
    go : (b : Bool) → alike p t ≡ b → cond b (some (record { index = k; param = p })) (seek (of_name t) (suc k) ps) ≡ nothing
        → (seek (of_name t) (suc k) ps ≡ nothing → None t ps) → None t (p ∷ ps)
    go true e q ih = clash (sym q)
    go false e q ih = cons e (ih q)

-- it is number k and so many
pub record Unique (t : Token) (k : ℕ) (ps : List Param) (s : SoughtParam) : Type 0 where
  pub place : ℕ
  pub number : s.index ≡ k + place
  pub only : Only t place s.param ps

seek-after : (t : Token) (seen : List Token) (k : ℕ) (ps : List Param) (s : SoughtParam) → repeats_after seen (param_names ps) ≡ []
    → seek (of_name t) k ps ≡ some s → Unique t k ps s
unfolding seek
seek-after t seen k [] s d h = clash h
seek-after t seen k (p ∷ ps) s d h = go (alike p t) refl h (fresh seen p.name (param_names ps) d) (seek-after t (seen ++ (p.name ∷ [])) (suc k) ps s)
  where
    go : (b : Bool) → alike p t ≡ b → cond b (some (record { index = k; param = p })) (seek (of_name t) (suc k) ps) ≡ some s
        → Fresh seen p.name (param_names ps)
        → (repeats_after (seen ++ (p.name ∷ [])) (param_names ps) ≡ [] → seek (of_name t) (suc k) ps ≡ some s → Unique t (suc k) ps s) → Unique t k (p ∷ ps) s
    go true e q f ih =
        let r : record { index = k; param = p } ≡ s = cc in
        let n = none_after t seen p ps e f.rest in
        let i : k ≡ k + 0 = omega arith in
        rw (← r) (record { place = 0; number = i; only = here e n })
    go false e q f ih =
        let u = ih f.rest q in
        record { place = suc u.place; number = omega (arith, u.number); only = there e u.only }

pub seek-only : (t : Token) (ps : List Param) (s : SoughtParam) → repeats (param_names ps) ≡ [] → seek (of_name t) 0 ps ≡ some s → Only t s.index s.param ps
seek-only t ps s d h =
    let u = seek-after t [] 0 ps s d h in
    let e : s.index ≡ u.place = omega (arith, u.number) in
    rw e u.only

-- ---- the parameter at a place

pub nth-takes : {j : ℕ} {p : Param} {ps : List Param} → Nth j p ps → takes_place (drop j ps) ≡ all_tensor p.ty
nth-takes nth-first = refl
nth-takes (after h) = nth-takes h
