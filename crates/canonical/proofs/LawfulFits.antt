-- The parts of `Lawful` that one call or one name decides are those of a plan that fits: what is in a row; names; left sides and values;
-- calls; plans.
use mathlib.Core.Path.{refl, sym, ap, subst, ◌∙◌}
use mathlib.Core.List.Memᴰ
use mathlib.Core.List.{List, [], ◌∷◌, Memᴰ}
use mathlib.Core.Logic.{◌↔◌, ⊎_elim}
use Prim.Native.Nat.{ℕ, ◌<◌}
use native.Mathlib.Omega.{arith}
use lib.ListN.{length}
use Rattle.lexis.specs.Sizes.{max_brackets}
use Rattle.lexis.specs.Kind as Kind
use Rattle.lexis.specs.Lexer.{Token}
use Rattle.syntax.specs.Tree.{Ty, Param, Header}
use Rattle.lists.specs.Reading.{Val}
use Rattle.lists.specs.Found.{operation_of}
use Rattle.lists.specs.Accepted.{AcceptedList}
use Rattle.writing.specs.Plan.{PlanCall, Plan}
use Rattle.writing.specs.Fit.{IsName}
use Rattle.writing.specs.Lawful as Law
use Rattle.writing.specs.Lawful.{Names, Matches, one, Valued, no_value, a-value, LawfulCall, LawfulParts}
use Rattle.writing.proofs.Fit.{LeftFits, alone, several, FitsParams, no-param, a-param, CallFits, CallsFit, one-call, more-calls, NamesFit, one_name}
use Rattle.writing.proofs.Fit.{more-names, PlanFits}
use Rattle.writing.proofs.Good.{Each}
use Rattle.writing.proofs.Found.{found_name}
use Rattle.writing.proofs.PlanExists.{find-each}
use Rattle.canonical.proofs.PlanFitted.{GoodParam, GoodHeader, found-distinct, headers-good, left-fits}

-- ---- what is in a row

abbrev pub Every : {A : Type 0} → (A → Type 0) → List A → Type 0
Every {A} P xs = (x : A) → Memᴰ x xs → P x

module _ {A : Type 0} (P : A → Type 0) where
  pub every-none : Every P []
  every-none x m = absurd (Memᴰ.not-nil m)

  pub every_more : (x : A) (xs : List A) → (P x × Every P xs) ↔ Every P (x ∷ xs)
  every_more x xs = (
    λ h y m. ⊎_elim (λ e. subst P (sym e) h.0) (h.1 y) (Memᴰ.cases_cons m),
    λ h. (h x (Memᴰ.head refl), λ y m. h y (Memᴰ.tail m)),
  )

  -- one or more, by what makes a row of one and of one more
  row_of : (Row : List A → Type 0) → ((x : A) → P x → Row (x ∷ [])) → ((x : A) (xs : List A) → P x → Row xs → Row (x ∷ xs)) → (xs : List A)
      → 0 < length xs → Every P xs → Row xs
  row_of Row single add [] l h = absurd (omega arith)
  row_of Row single add (x ∷ []) l h = single x ((every_more x []).1 h).0
  row_of Row single add (x ∷ y ∷ xs) l h =
      let e = (every_more x (y ∷ xs)).1 h in
      add x (y ∷ xs) e.0 (row_of Row single add (y ∷ xs) (omega arith) e.1)

-- ---- names

some-names : {ws : List (List ℕ)} → NamesFit ws → 0 < length ws
some-names (one_name h) = omega arith
some-names (more-names h f) = omega arith

every-name : {ws : List (List ℕ)} → NamesFit ws → Every IsName ws
every-name (one_name {w} h) = (every_more IsName w []).0 (h, every-none IsName)
every-name (more-names {w} {ws} h f) = (every_more IsName w ws).0 (h, every-name f)

pub names-are : {ws : List (List ℕ)} → NamesFit ws → Names ws
names-are f = record { some = some-names f; each = every-name f }

names-fit : {ws : List (List ℕ)} → Names ws → NamesFit ws
names-fit {ws} n = row_of IsName NamesFit (λ w h. one_name h) (λ w vs h r. more-names h r) ws n.some n.each

-- ---- left sides and values

left-matches : {u : Ty} {v : Val} → LeftFits max_brackets u v → Matches u v
left-matches (alone f e) = one f
left-matches (several f g r) = Law.several f g r

matches_left : {u : Ty} {v : Val} → Matches u v → LeftFits max_brackets u v
matches_left (one f) = left-fits f
matches_left (Law.several f g r) = several f g r

values-fit : {ps : List Param} {vs : List Val} → FitsParams max_brackets ps vs → Valued ps vs
values-fit no-param = no_value
values-fit (a-param n f r) = a-value f (values-fit r)

fit-values : {ps : List Param} {vs : List Val} → Each (GoodParam max_brackets) ps → Valued ps vs → FitsParams max_brackets ps vs
fit-values g no_value = no-param
fit-values g (a-value f r) = a-param g.0.name f (fit-values g.1 r)

-- ---- calls

-- a token of these bytes
abbrev named : List ℕ → Token
named w = record { kind = Kind.name; start = 0; bytes = w }

call-lawful : {hs : List Header} {c : PlanCall} → CallFits hs c → LawfulCall hs c
call-lawful {c = c} f = record {
  header = f.header;
  declared = f.found (named c.op) refl;
  left = left-matches f.left;
  values = values-fit f.values;
}

lawful-call : (list : List ℕ) (hs : List Header) {c : PlanCall} → AcceptedList list hs → LawfulCall hs c → CallFits hs c
lawful-call list hs {c} l k =
    let t = named c.op in
    let h = k.header in
    let g = find-each (GoodHeader max_brackets) hs t h (headers-good list hs l) k.declared in
    record {
      header = h;
      found = λ s e. ap (operation_of hs) e ∙ k.declared;
      name = subst IsName (found_name hs t k.declared) g.name;
      left = matches_left k.left;
      values = fit-values g.params k.values;
      some-param = g.some-param;
      distinct = found-distinct hs t h l.lawful k.declared;
    }

pub some-calls : {hs : List Header} {cs : List PlanCall} → CallsFit hs cs → 0 < length cs
some-calls (one-call f) = omega arith
some-calls (more-calls f r) = omega arith

pub every_call : {hs : List Header} {cs : List PlanCall} → CallsFit hs cs → Every (LawfulCall hs) cs
every_call {hs} (one-call {c} f) = (every_more (LawfulCall hs) c []).0 (call-lawful f, every-none (LawfulCall hs))
every_call {hs} (more-calls {c} {cs} f r) = (every_more (LawfulCall hs) c cs).0 (call-lawful f, every_call r)

-- ---- plans

pub lawful-fits : (list : List ℕ) (hs : List Header) (p : Plan) → AcceptedList list hs → LawfulParts hs p → PlanFits hs p
lawful-fits list hs p l k = record {
  graph = k.graph;
  inputs = names-fit k.inputs;
  outputs = names-fit k.outputs;
  calls =
      row_of (LawfulCall hs) (CallsFit hs) (λ c h. one-call (lawful-call list hs l h)) (λ c cs h r. more-calls (lawful-call list hs l h) r) p.calls
      k.some-call k.calls;
}
