-- The rows of names of a plan's calls, and of the calls of its trees. In order: plans; trees of canonical texts; documents.
use mathlib.Core.Path.{◌≡◌, refl, sym, ap, ap₂, subst, ◌∙◌}
use mathlib.Core.List.{List, [], ◌∷◌, ◌++◌, map, flat_map, flatten}
use Prim.Native.Nat.{ℕ, zero, suc, ◌<◌}
use native.Mathlib.Nat.{not-suc-le-zero}
use native.Mathlib.Omega.{arith}
use lib.ListN.{length, take, drop, get_or, length-map, length-take, get_or-map, get_or-append}
use lib.Seq.{split_at, get_or-take, get_or-append_seam}
use Rattle.lexis.specs.Lexer.{Token}
use Rattle.syntax.specs.Tree.{Header, Call}
use Rattle.lists.specs.Names.{assigned, used}
use Rattle.lists.specs.Reading.{v_string}
use Rattle.writing.specs.Plan.{PlanCall, spellings}
use Rattle.writing.specs.Lawful.{times, Among, AllAmong, val_names, assigns, uses, all_assigns, WiredInOrder}
use Rattle.canonical.proofs.Shape.{CanonCall, CanonCalls, no-calls, a_call}
use Rattle.canonical.proofs.Alike.{Alike, none_alike, more-alike}
use Rattle.canonical.proofs.PlanNames.{within-among}
use Rattle.canonical.proofs.LawfulRules.{call-assigns, call-uses}
use Rattle.canonical.proofs.Arrangement.{flatten-map}
use Rattle.canonical.proofs.RowWires.{Rows, row-among, row_below, maker, maker-has, assigned_rows, used_rows, RowsWired}

-- ---- plans

-- a call without names
abbrev no_call : PlanCall
no_call = record { op = []; left = v_string []; values = [] }

assigned-at : (cs : List PlanCall) (j : ℕ) → get_or (map assigns cs) j [] ≡ assigns (get_or cs j no_call)
unfolding val_names
assigned-at cs j = get_or-map assigns cs j no_call

used-at : (cs : List PlanCall) (j : ℕ) → get_or (map uses cs) j [] ≡ uses (get_or cs j no_call)
unfolding uses flat_map
used-at cs j = get_or-map uses cs j no_call

pub rows-assign : (cs : List PlanCall) → flatten (map assigns cs) ≡ all_assigns cs
unfolding all_assigns
rows-assign cs = flatten-map assigns cs

pub wired-rows : (cs : List PlanCall) → WiredInOrder cs → RowsWired (map assigns cs) (map uses cs)
wired-rows cs h j w a =
    let l : j < length cs = omega (arith, row_below w (map uses cs) j a, length-map cs uses) in
    let before = take j cs in
    let m = h before (get_or cs j no_call) (drop (suc j) cs) (split_at cs j no_call l) w (subst (Among w) (used-at cs j) a) in
    let b = maker-has w (map assigns before) (subst (Among w) (sym (rows-assign before)) m) in
    let i = maker (map assigns before) w in
    let s : i < j = omega (arith, row_below w (map assigns before) i b, length-map before assigns, length-take j cs) in
    let e = assigned-at before i ∙ ap assigns (get_or-take j cs i no_call s) ∙ sym (assigned-at cs i) in
    (i, (s, subst (Among w) e b))

pub rows-wired : (cs : List PlanCall) → RowsWired (map assigns cs) (map uses cs) → WiredInOrder cs
rows-wired cs h before c after e w a =
    let at : (k : ℕ) → get_or cs k no_call ≡ get_or (before ++ (c ∷ after)) k no_call = λ k. ap (λ (l : List PlanCall). get_or l k no_call) e in
    let u = used-at cs (length before) ∙ ap uses (at (length before) ∙ get_or-append_seam before c after no_call) in
    let x = h (length before) w (subst (Among w) (sym u) a) in
    let i = x.0 in
    let v = assigned-at cs i ∙ ap assigns (at i ∙ get_or-append before (c ∷ after) no_call i x.1.0) ∙ sym (assigned-at before i) in
    subst (Among w) (rows-assign before) (row-among w (map assigns before) i (subst (Among w) v x.1.1))

-- ---- trees of canonical texts

module _ {hs : List Header} where
  rows_are : (f : Call → List Token) (g : PlanCall → List (List ℕ)) → ((c : PlanCall) (t : Call) → CanonCall hs c t → spellings (f t) ≡ g c)
      → {cs : List PlanCall} {ts : List Call} → CanonCalls hs cs ts → map (λ (t : Call). spellings (f t)) ts ≡ map g cs
  rows_are f g h no-calls = refl
  rows_are f g h (a_call {c} {t} k ks) = ap₂ (λ (ws : List (List ℕ)) (rows : Rows). ws ∷ rows) (h c t k) (rows_are f g h ks)

  pub canon-assigned : {cs : List PlanCall} {ts : List Call} → CanonCalls hs cs ts → assigned_rows ts ≡ map assigns cs
  canon-assigned ks = rows_are assigned assigns (λ c t k. call-assigns k) ks

  pub canon-used : {cs : List PlanCall} {ts : List Call} → CanonCalls hs cs ts → used_rows ts ≡ map uses cs
  canon-used ks = rows_are used uses (λ c t k. call-uses k) ks

-- ---- documents

pub alike-assigned : {cs ts : List Call} → Alike cs ts → assigned_rows cs ≡ assigned_rows ts
alike-assigned none_alike = refl
alike-assigned (more-alike a l) = ap₂ (λ (ws : List (List ℕ)) (rows : Rows). ws ∷ rows) a.left (alike-assigned l)

pub alike-used : {cs ts : List Call} → Alike cs ts → (k : ℕ) → AllAmong (get_or (used_rows ts) k []) (get_or (used_rows cs) k [])
unfolding times
alike-used none_alike k w b = absurd (not-suc-le-zero b)
alike-used (more-alike {c} {t} a l) zero w b = within-among (spellings (used t)) (spellings (used c)) a.uses w b
alike-used (more-alike a l) (suc k) w b = alike-used l k w b
