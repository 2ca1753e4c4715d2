-- What the faults of the rules are: each has one of the codes of its text's rules, the detail that goes with it, and the place of a token.
-- In order: codes with their details; lists of faults; the rules of an operation list. Relies on `Members` for the tokens of trees.
use mathlib.Core.Path.{◌≡◌}
use mathlib.Core.Bool.{Bool, true, false, cond}
use mathlib.Core.List.Memᴰ
use mathlib.Core.List.{List, [], ◌∷◌, ◌++◌, map, flat_map, flatten, Memᴰ}
use mathlib.Core.Logic.{◌⊎◌, inl, inr}
use mathlib.Core.Option.{Option, some}
use mathlib.Core.Option.{none as nothing}
use Prim.Native.Nat.{ℕ, zero, suc}
use lib.ListN.{take, drop}
use Rattle.lexis.specs.Sizes.{max_operations, max_parameters, max_results}
use Rattle.lexis.specs.Lexer.{Token}
use Rattle.syntax.specs.Tree.{Value, Param, Result, Header}
use Rattle.lists.specs.Code as Code
use Rattle.lists.specs.Fault.{Fault, fault, faults, starts, unless, first}
use Rattle.lists.specs.Names.{those, is_among, repeats_after, repeats, start_of}
use Rattle.lists.specs.Reading.{fits}
use Rattle.lists.specs.ListRules.{over, param_names, header_names, list_counts, list_repeats, bad_default, bad_defaults, list_faults}
use Rattle.lists.proofs.First.{first-is}
use Rattle.lists.proofs.ListFaults.{counts_of, repeats_of, misfits_of}
use Rattle.lists.proofs.Members.{Each, each_append, HasDefault, HasParam, HasHeader}

-- ---- codes with their details

pub data ListCode : ℕ → ℕ → Type 0 where
  list-over-size : ListCode Code.over_size 0
  list-repeated-name : ListCode Code.repeated_name 0
  bad-default : ListCode Code.bad_default 0

-- a fault of such a code at such a place
pub record OnLine (C : ℕ → ℕ → Type 0) (At : ℕ → Type 0) (x : Fault) : Type 0 where
  pub code : C x.code x.detail
  pub place : At x.at

-- ---- lists of faults

each_member : {A : Type 0} (P : A → Type 0) (xs : List A) (x : A) → Each P xs → Memᴰ x xs → P x
each_member P [] x h m = elim m [ ]
each_member P (y ∷ ys) x h m = go (Memᴰ.cases_cons m) (λ k. each_member P ys x h.1 k)
  where
    go : (x ≡ y) ⊎ Memᴰ x ys → (Memᴰ x ys → P x) → P x
    go (inl e) r = rw e h.0
    go (inr k) r = r k

pub each_map : {A B : Type 0} (P : B → Type 0) (f : A → B) (xs : List A) → Each (λ x. P (f x)) xs → Each P (map f xs)
each_map P f [] h = tt
each_map P f (x ∷ xs) h = (h.0, each_map P f xs h.1)

pub each-flat : {A B : Type 0} (Q : A → Type 0) (P : B → Type 0) (f : A → List B) → ((a : A) → Q a → Each P (f a)) → (xs : List A) → Each Q xs
    → Each P (flat_map f xs)
unfolding flat_map
each-flat Q P f h [] g = tt
each-flat Q P f h (x ∷ xs) g = each_append P (f x) (flat_map f xs) (h x g.0) (each-flat Q P f h xs g.1)

pub each-flatten : {A : Type 0} (P : A → Type 0) (xss : List (List A)) → Each (Each P) xss → Each P (flatten xss)
unfolding flatten
each-flatten P [] h = tt
each-flatten P (xs ∷ xss) h = each_append P xs (flatten xss) h.0 (each-flatten P xss h.1)

each-drop : {A : Type 0} (P : A → Type 0) (k : ℕ) (xs : List A) → Each P xs → Each P (drop k xs)
each-drop P zero xs h = h
each-drop P (suc k) [] h = tt
each-drop P (suc k) (x ∷ xs) h = each-drop P k xs h.1

each-one : {A : Type 0} (P : A → Type 0) (xs : List A) → Each P xs → Each P (take 1 xs)
each-one P [] h = tt
each-one P (x ∷ xs) h = (h.0, tt)

pub each-those : (P : Token → Type 0) (f : Token → Bool) (ts : List Token) → Each P ts → Each P (those f ts)
unfolding those
each-those P f [] h = tt
each-those P f (t ∷ ts) h = go (f t) (each-those P f ts h.1)
  where
    go : (b : Bool) → Each P (those f ts) → Each P (cond b (t ∷ those f ts) (those f ts))
    go true r = (h.0, r)
    go false r = r

pub each-repeats : (P : Token → Type 0) (seen ts : List Token) → Each P ts → Each P (repeats_after seen ts)
unfolding repeats_after
each-repeats P seen [] h = tt
each-repeats P seen (t ∷ ts) h = go (is_among seen t) (each-repeats P (seen ++ (t ∷ [])) ts h.1)
  where
    go : (b : Bool) → Each P (repeats_after (seen ++ (t ∷ [])) ts)
        → Each P (cond b (t ∷ repeats_after (seen ++ (t ∷ [])) ts) (repeats_after (seen ++ (t ∷ [])) ts))
    go true r = (h.0, r)
    go false r = r

module _ (C : ℕ → ℕ → Type 0) (At : ℕ → Type 0) where
  -- a token at such a place
  abbrev AtToken : Token → Type 0
  AtToken t = At t.start

  abbrev Lined : List Fault → Type 0
  Lined xs = Each (OnLine C At) xs

  -- the first of such faults is one
  pub first-lined : (xs : List Fault) (x : Fault) → Lined xs → first xs ≡ some x → OnLine C At x
  first-lined xs x h e = each_member (OnLine C At) xs x h (first-is xs x e).member

  pub fault-lined : (c p : ℕ) → C c 0 → At p → OnLine C At (fault c p)
  fault-lined c p h g = record { code = h; place = g }

  faults-lined : (c : ℕ) (ps : List ℕ) → C c 0 → Each At ps → Lined (faults c ps)
  faults-lined c ps h g = each_map (OnLine C At) (fault c) ps (all ps g)
    where
      all : (qs : List ℕ) → Each At qs → Each (λ (p : ℕ). OnLine C At (fault c p)) qs
      all [] g = tt
      all (q ∷ qs) g = (fault-lined c q h g.0, all qs g.1)

  pub starts-lined : (c : ℕ) (ts : List Token) → C c 0 → Each AtToken ts → Lined (faults c (starts ts))
  starts-lined c ts h g = faults-lined c (starts ts) h (each_map At (λ (t : Token). t.start) ts g)

  pub over-lined : (size : ℕ) (ps : List ℕ) → C Code.over_size 0 → Each At ps → Lined (over size ps)
  over-lined size ps h g = faults-lined Code.over_size (take 1 (drop size ps)) h (each-one At (drop size ps) (each-drop At size ps g))

  pub unless-lined : (b : Bool) (c p : ℕ) → C c 0 → At p → Lined (unless b (fault c p))
  unless-lined true c p h g = tt
  unless-lined false c p h g = (fault-lined c p h g, tt)

-- ---- the rules of an operation list

module _ (At : ℕ → Type 0) where
  abbrev InList : List Fault → Type 0
  InList xs = Each (OnLine ListCode At) xs

  abbrev Headed : Header → Type 0
  Headed h = HasHeader (AtToken ListCode At) h

  param-places : (ps : List Param) → Each (HasParam (AtToken ListCode At)) ps → Each (AtToken ListCode At) (param_names ps)
  param-places [] h = tt
  param-places (p ∷ ps) h = (h.0.name, param-places ps h.1)

  result-places : (h : Header) → Headed h → Each (AtToken ListCode At) (map (λ (r : Result). r.name) h.results)
  result-places h g = each_map (AtToken ListCode At) (λ (r : Result). r.name) h.results g.results

  counts-lined : (h : Header) → Headed h → InList (counts_of h)
  counts-lined h g =
      let ps = starts (param_names h.params) in
      let rs = starts (map (λ (r : Result). r.name) h.results) in
      each_append (OnLine ListCode At) (over max_parameters ps) (over max_results rs)
      (over-lined ListCode At max_parameters ps list-over-size
      (each_map At (λ (t : Token). t.start) (param_names h.params) (param-places h.params g.params)))
      (over-lined ListCode At max_results rs list-over-size
      (each_map At (λ (t : Token). t.start) (map (λ (r : Result). r.name) h.results) (result-places h g)))

  repeats-lined : (h : Header) → Headed h → InList (repeats_of h)
  repeats-lined h g =
      starts-lined ListCode At Code.repeated_name (repeats (header_names h)) list-repeated-name
      (each-repeats (AtToken ListCode At) [] (header_names h)
      (each_append (AtToken ListCode At) (param_names h.params) (map (λ (r : Result). r.name) h.results) (param-places h.params g.params)
      (result-places h g)))

  default-lined : (p : Param) → HasParam (AtToken ListCode At) p → InList (bad_default p.ty p.default)
  default-lined p g = go p.default g.default
    where
      go : (d : Option Value) → HasDefault (AtToken ListCode At) d → InList (bad_default p.ty d)
      go nothing k = tt
      go (some v) k = unless-lined ListCode At (fits v p.ty) Code.bad_default (start_of v) bad-default k

  pub list-lined : (hs : List Header) → Each (HasHeader (λ t. At t.start)) hs → InList (list_faults hs)
  unfolding list_faults list_counts list_repeats bad_defaults flatten
  list-lined hs g =
      let O = OnLine ListCode At in
      let ks = map (λ (h : Header). h.keyword.start) hs in
      let ns = map (λ (h : Header). h.name) hs in
      let a = over max_operations ks in
      let b = faults Code.repeated_name (starts (repeats ns)) in
      let c = flat_map counts_of hs in
      let d = flat_map repeats_of hs in
      let e = flat_map misfits_of hs in
      each_append O (a ++ c) ((b ++ d) ++ (e ++ []))
      (each_append O a c (over-lined ListCode At max_operations ks list-over-size (keywords hs g)) (each-flat Headed O counts_of counts-lined hs g))
      (each_append O (b ++ d) (e ++ [])
      (each_append O b d (starts-lined ListCode At Code.repeated_name (repeats ns) list-repeated-name (each-repeats (AtToken ListCode At) [] ns (names hs g)))
      (each-flat Headed O repeats_of repeats-lined hs g))
      (each_append O e []
      (each-flat Headed O misfits_of
      (λ h k. each-flat (HasParam (AtToken ListCode At)) O (λ (p : Param). bad_default p.ty p.default) default-lined h.params k.params) hs g)
      tt))
    where
      keywords : (gs : List Header) → Each Headed gs → Each At (map (λ (h : Header). h.keyword.start) gs)
      keywords [] k = tt
      keywords (h ∷ gs) k = (k.0.keyword, keywords gs k.1)

      names : (gs : List Header) → Each Headed gs → Each (AtToken ListCode At) (map (λ (h : Header). h.name) gs)
      names [] k = tt
      names (h ∷ gs) k = (k.0.name, names gs k.1)
