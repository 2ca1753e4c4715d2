-- A document without faults, under a list without faults, has a plan: every operation is found, its left side reads, and each of its
-- parameters has a value that reads. In order: lists without faults; a parameter; all parameters; a call; the document.
use mathlib.Core.Path.{◌≡◌, refl, sym, ap, ◌∙◌}
use mathlib.Core.Bool.{Bool, true, false, cond, not, ◌&&◌, true≢false}
use mathlib.Core.List.{List, [], ◌∷◌, ◌++◌, flat_map, flatten, append-eq-nil_iff, map}
use mathlib.Core.Option.{Option, some}
use mathlib.Core.Option.{none as nothing}
use Prim.Native.Nat.{ℕ, suc}
use Rattle.spellings.specs.Comparison.{same_bytes}
use Rattle.lexis.specs.Lexer.{Token}
use Rattle.syntax.specs.Tree.{Value, Ty, Param, Header, Arg, Call, Document}
use Rattle.lists.specs.Fault.{Fault, fault, unless, first}
use Rattle.lists.specs.Names.{start_of}
use Rattle.lists.specs.Reading.{Val, bind, is_some, fits, read_at, result_type}
use Rattle.lists.specs.ListRules.{bad_default, list_faults}
use Rattle.lists.specs.Lists.{default_faults}
use Rattle.lists.specs.Lists as L
use Rattle.lists.specs.Found.{operation_of, find}
use Rattle.lists.proofs.First.{first-none}
use Rattle.lists.proofs.Faultless.{neither, own-clean}
use Rattle.documents.specs.Binding.{Slot, slots_from, later, value_at_place, named_value, or_else, misfit, misfits, is_missing, lacked}
use Rattle.documents.specs.DocumentRules.{document_faults, bound_at, left_faults}
use Rattle.documents.specs.Walks.{own_faults}
use Rattle.documents.specs.Operations.{operation_faults}
use Rattle.documents.proofs.Items.{clash}
use Rattle.documents.proofs.DocumentFaults.{document-parts}
use Rattle.documents.proofs.CallUsage.{known, unknown}
use Rattle.writing.specs.Plan.{Plan, PlanCall, value_for, values_for, plan_call, plan_calls, plan_of, spellings}
use Rattle.writing.proofs.Good.{Each}

-- ---- lists without faults

-- nothing in a row is nothing in each part
pub row-none : {A : Type 0} (xss : List (List A)) → flatten xss ≡ [] → Each (λ (xs : List A). xs ≡ []) xss
unfolding flatten
row-none [] h = tt
row-none (xs ∷ xss) h = let e = (append-eq-nil_iff {p = xs} {q = flatten xss}).0 h in (e.0, row-none xss e.1)

pub flat-none : {A : Type 0} (f : A → List Fault) (xs : List A) → flat_map f xs ≡ [] → Each (λ x. f x ≡ []) xs
unfolding flat_map
flat-none f [] h = tt
flat-none f (x ∷ xs) h = let e = (append-eq-nil_iff {p = f x} {q = flat_map f xs}).0 h in (e.0, flat-none f xs e.1)

-- what every header has, the one that is found has
pub find-each : (P : Header → Type 0) (hs : List Header) (t : Token) (h : Header) → Each P hs → find hs t ≡ some h → P h
unfolding operation_of
find-each P [] t h a e = clash cc
find-each P (g ∷ hs) t h a e = go (same_bytes g.name.bytes t.bytes) e (find-each P hs t h a.1)
  where
    go : (b : Bool) → cond b (some g) (find hs t) ≡ some h → (find hs t ≡ some h → P h) → P h
    go true e r = let q : g ≡ h = cc in rw q at a.0
    go false e r = r e

pub found-clean : (hs : List Header) (t : Token) (h : Header) → list_faults hs ≡ [] → find hs t ≡ some h → L.header_faults h ≡ []
unfolding first
found-clean hs t h n e =
    let o = flat-none L.header_faults hs (first-none (flat_map L.header_faults hs) (own-clean hs (ap first n))) in
    find-each (λ (g : Header). L.header_faults g ≡ []) hs t h o e

-- ---- parameters

-- a value that is no misfit reads
read_some : (v : Value) (u : Ty) (x : Fault) → unless (fits v u) x ≡ [] → (w : Val) × (read_at v u ≡ some w)
unfolding fits
read_some v u x h = go (read_at v u) refl h
  where
    go : (o : Option Val) → read_at v u ≡ o → unless (is_some o) x ≡ [] → (w : Val) × (read_at v u ≡ some w)
    go nothing e h = clash cc
    go (some w) e h = (w, e)

-- the value bound to a parameter, or its default
value-some : (u : Ty) (o d : Option Value) → bad_default u d ≡ [] → misfit u o ≡ [] → (not (is_some o) && not (is_some d)) ≡ false
    → (w : Val) × (bind (or_else o d) (λ v. read_at v u) ≡ some w)
value-some u (some v) d n f m = read_some v u (fault 18 (start_of v)) f
value-some u nothing (some v) n f m = read_some v u (fault 14 (start_of v)) n
value-some u nothing nothing n f m = absurd (true≢false m)

-- no slot is missing a value
not-missing : (place k : ℕ) (s : Slot) (ss : List Slot) → lacked place k (map is_missing (s ∷ ss)) ≡ []
    → (is_missing s ≡ false) × (lacked place (suc k) (map is_missing ss) ≡ [])
unfolding lacked
not-missing place k s ss h = go (is_missing s) h
  where
    go : (b : Bool) → cond b (record { at = place; code = 19; detail = k } ∷ []) (lacked place (suc k) (map is_missing ss)) ≡ []
        → (b ≡ false) × (lacked place (suc k) (map is_missing ss) ≡ [])
    go true h = clash cc
    go false h = (refl, h)

values-some : (place k : ℕ) (ps : List Param) (vs : List Value) (xs : List Arg) → default_faults ps ≡ [] → misfits (slots_from ps vs xs) ≡ []
    → lacked place k (map is_missing (slots_from ps vs xs)) ≡ [] → (ws : List Val) × (values_for (slots_from ps vs xs) ≡ some ws)
unfolding slots_from misfits flat_map value_for values_for
values-some place k [] vs xs d f m = ([], refl)
values-some place k (p ∷ ps) vs xs d f m =
    let o = or_else (value_at_place p vs) (named_value p.name xs) in
    let ss = slots_from ps (later vs) xs in
    let d' = (append-eq-nil_iff {p = bad_default p.ty p.default} {q = default_faults ps}).0 d in
    let f' = (append-eq-nil_iff {p = misfit p.ty o} {q = misfits ss}).0 f in
    let m' = not-missing place k (record { param = p; value = o }) ss m in
    let w = value-some p.ty o p.default d'.0 f'.0 m'.0 in
    let ws = values-some place (suc k) ps (later vs) xs d'.1 f'.1 m'.1 in
    (w.0 ∷ ws.0, simp (w.1, ws.1))

-- ---- calls and documents

call-some : (hs : List Header) (c : Call) → list_faults hs ≡ [] → operation_faults hs c ≡ [] → (p : PlanCall) × (plan_call hs c ≡ some p)
unfolding plan_call L.header_faults first
call-some hs c l n = go (find hs c.op) refl
  where
    none : first (operation_faults hs c) ≡ nothing
    none = ap first n

    go : (o : Option Header) → find hs c.op ≡ o → (p : PlanCall) × (plan_call hs c ≡ some p)
    go nothing e = let q = unknown hs c e in clash cc
    go (some h) e =
        let q = (append-eq-nil_iff {p = bound_at c.op.start h c} {q = left_faults h c}).0
        (first-none (bound_at c.op.start h c ++ left_faults h c) (sym (known hs c h e) ∙ none)) in
        let b = row-none _ q.0 in
        let d = row-none _ (found-clean hs c.op h l e) in
        let w = read_some c.left (result_type h.results) (fault 20 (start_of c.left)) q.1 in
        let ws = values-some c.op.start 0 h.params _ c.args d.1.1.1.0 b.1.1.0 b.1.1.1.0 in
        (record { op = c.op.bytes; left = w.0; values = ws.0 }, simp (e, w.1, ws.1))

calls-some : (hs : List Header) (cs : List Call) → list_faults hs ≡ [] → Each (λ (c : Call). operation_faults hs c ≡ []) cs
    → (ps : List PlanCall) × (plan_calls hs cs ≡ some ps)
unfolding plan_calls
calls-some hs [] l n = ([], refl)
calls-some hs (c ∷ cs) l n =
    let p = call-some hs c l n.0 in
    let ps = calls-some hs cs l n.1 in
    (p.0 ∷ ps.0, simp (p.1, ps.1))

pub plan-exists : (hs : List Header) (d : Document) → list_faults hs ≡ [] → document_faults hs d ≡ [] → (p : Plan) × (plan_of hs d ≡ some p)
unfolding plan_of first
plan-exists hs d l n =
    let f = flat_map (operation_faults hs) d.calls in
    let o = (neither (first (own_faults d)) (first f) (sym (document-parts hs d) ∙ ap first n)).1 in
    let ps = calls-some hs d.calls l (flat-none (operation_faults hs) d.calls (first-none f o)) in
    (record { graph = d.graph.bytes; inputs = spellings d.inputs; outputs = spellings d.outputs; calls = ps.0 }, simp ps.1)
