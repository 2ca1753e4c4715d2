-- The tree of a plan's canonical text breaks no rule exactly when the plan keeps the rules of `Lawful`. In order: the names of calls; 22;
-- 23; 12; all rules, each way.
use mathlib.Core.Path.{◌≡◌, refl, sym, ap, ap₂, subst, ◌∙◌}
use mathlib.Core.Bool.{Bool, true, false, cond, true≢false}
use mathlib.Core.List.{List, [], ◌∷◌, ◌++◌, map, flat_map, flatten, append-nil, append_assoc, append-eq-nil_iff, nil≢cons, head-eq_of_cons-eq}
use mathlib.Core.List.{tail-eq_of_cons-eq}
use mathlib.Core.Logic.Iff
use mathlib.Core.Logic.{◌↔◌}
use Prim.Native.Nat.{ℕ, suc, ◌≤◌}
use lib.ListN.{length, length-map}
use Rattle.spellings.specs.Comparison.{same_bytes}
use Rattle.lexis.specs.Ascii.{ascii}
use Rattle.lexis.specs.Sizes.{max_inputs, max_outputs, max_calls, max_assigned, max_uses}
use Rattle.lexis.specs.Lexer.{Token}
use Rattle.syntax.specs.Tree.{Header, Call, Document}
use Rattle.lists.specs.Fault.{faults, starts}
use Rattle.lists.specs.Names.{those, is_among, start_of, assigned, used, all_assigned, all_used}
use Rattle.lists.specs.Reading.{result_type}
use Rattle.lists.specs.ListRules.{over}
use Rattle.documents.specs.Wiring.{strangers, again, unwired_after, unwired, is_external, misfed_by, misfed, unmade}
use Rattle.documents.specs.DocumentRules.{document_counts, graph_repeats, document_faults}
use Rattle.documents.proofs.Sought.{same-is, same_self}
use Rattle.writing.specs.Plan.{PlanCall, Plan, spellings}
use Rattle.writing.specs.Lawful.{Among, AllAmong, Distinct, assigns, uses, all_assigns, all_uses, LawfulParts, WiredInOrder, Lawful}
use Rattle.writing.proofs.Fit.{PlanFits}
use Rattle.writing.proofs.PlanExists.{row-none}
use Rattle.canonical.proofs.Shape.{CanonCall, CanonCalls, no-calls, a_call, CanonDocument}
use Rattle.canonical.proofs.Clean.{no-list, a-list, all-empty}
use Rattle.canonical.proofs.Spelt.{spellings-append, few-places}
use Rattle.canonical.proofs.ValueNames.{read_names}
use Rattle.canonical.proofs.Uses.{named-uses}
use Rattle.canonical.proofs.CanonicalFaults.{version-clean, all-declared, all-bound, all-matched}
use Rattle.canonical.proofs.PlanNames.{no-stranger, no_member, no-repeat, few-names}
use Rattle.canonical.proofs.LawfulFits.{Every, every-none, every_more, names-are, some-calls, every_call}

-- ---- the names of calls

both-spelt : (ts us : List Token) {vs ws : List (List ℕ)} → spellings ts ≡ vs → spellings us ≡ ws → spellings (ts ++ us) ≡ vs ++ ws
both-spelt ts us e f = spellings-append ts us ∙ ap₂ (λ (v w : List (List ℕ)). v ++ w) e f

module _ {hs : List Header} where
  pub call-assigns : {c : PlanCall} {t : Call} → CanonCall hs c t → spellings (assigned t) ≡ assigns c
  call-assigns {t = t} k = read_names t.left (result_type k.header.results) k.left

  pub call-uses : {c : PlanCall} {t : Call} → CanonCall hs c t → spellings (used t) ≡ uses c
  unfolding used uses
  call-uses k = named-uses k.args

  flat-names : (f : Call → List Token) (g : PlanCall → List (List ℕ)) → ((c : PlanCall) (t : Call) → CanonCall hs c t → spellings (f t) ≡ g c)
      → {cs : List PlanCall} {ts : List Call} → CanonCalls hs cs ts → spellings (flat_map f ts) ≡ flat_map g cs
  unfolding flat_map
  flat-names f g h no-calls = refl
  flat-names f g h (a_call {c} {t} {ts = ts} k ks) = both-spelt (f t) (flat_map f ts) (h c t k) (flat-names f g h ks)

  all-assign : {cs : List PlanCall} {ts : List Call} → CanonCalls hs cs ts → spellings (all_assigned ts) ≡ all_assigns cs
  unfolding all_assigned all_assigns
  all-assign ks = flat-names assigned assigns (λ c t k. call-assigns k) ks

  all-use : {cs : List PlanCall} {ts : List Call} → CanonCalls hs cs ts → spellings (all_used ts) ≡ all_uses cs
  unfolding all_used all_uses
  all-use ks = flat-names used uses (λ c t k. call-uses k) ks

  as_many : {cs : List PlanCall} {ts : List Call} → CanonCalls hs cs ts → length ts ≡ length cs
  as_many no-calls = refl
  as_many (a_call k ks) = ap suc (as_many ks)

-- ---- 22

-- each name that a call uses is among these, or assigned by a call before it
abbrev Wired : List (List ℕ) → List PlanCall → Type 0
Wired known cs = (before : List PlanCall) (c : PlanCall) (after : List PlanCall) → cs ≡ before ++ (c ∷ after) → AllAmong (uses c) (known ++ all_assigns before)

wired-none : (known : List (List ℕ)) → Wired known []
wired-none known [] c after e = absurd (nil≢cons e)
wired-none known (b ∷ before) c after e = absurd (nil≢cons e)

wired-more : (known : List (List ℕ)) (c : PlanCall) (cs : List PlanCall)
    → (AllAmong (uses c) known × Wired (known ++ assigns c) cs) ↔ Wired known (c ∷ cs)
unfolding all_assigns flat_map
wired-more known c cs = (λ h. all h.0 h.1, λ h. (first h, later h))
  where
    all : AllAmong (uses c) known → Wired (known ++ assigns c) cs → Wired known (c ∷ cs)
    all f g [] d after e = rw (append-nil known) (subst (λ (x : PlanCall). AllAmong (uses x) known) (head-eq_of_cons-eq e) f)
    all f g (b ∷ before) d after e =
        let x = subst (AllAmong (uses d)) (append_assoc known (assigns c) (all_assigns before)) (g before d after (tail-eq_of_cons-eq e)) in
        subst (λ (y : PlanCall). AllAmong (uses d) (known ++ (assigns y ++ all_assigns before))) (head-eq_of_cons-eq e) x

    first : Wired known (c ∷ cs) → AllAmong (uses c) known
    first h = subst (AllAmong (uses c)) (append-nil known) (h [] c cs refl)

    later : Wired known (c ∷ cs) → Wired (known ++ assigns c) cs
    later h before d after e = rw (append_assoc known (assigns c) (all_assigns before)) (h (c ∷ before) d after (ap (λ (l : List PlanCall). c ∷ l) e))

calls-wired : {hs : List Header} (ks : List Token) {known : List (List ℕ)} {cs : List PlanCall} {ts : List Call} → spellings ks ≡ known → CanonCalls hs cs ts
    → (unwired_after ks ts ≡ []) ↔ Wired known cs
unfolding unwired_after
calls-wired ks {known} e no-calls = (λ h. wired-none known, λ h. refl)
calls-wired ks {known} e (a_call {c} {t} {cs} {ts} k l) =
    let later = calls-wired (ks ++ assigned t) (both-spelt ks (assigned t) e (call-assigns k)) l in
    Iff.trans (append-eq-nil_iff {p = faults 22 (starts (strangers ks (used t)))} {q = unwired_after (ks ++ assigned t) ts})
    (Iff.trans (Iff.and (no-stranger 22 ks (used t) e (call-uses k)) later) (wired-more known c cs))

-- ---- 23, by the calls

-- the names that a call assigns are inputs exactly when its operation is `external`
abbrev Fed : List (List ℕ) → PlanCall → Type 0
Fed inputs c = (w : List ℕ) → Among w (assigns c) → Among w inputs ↔ (c.op ≡ ascii "external")

module _ {hs : List Header} (ks : List Token) {inputs : List (List ℕ)} (e : spellings ks ≡ inputs) where
  call-fed : {c : PlanCall} {t : Call} → CanonCall hs c t → (misfed_by ks t ≡ []) ↔ Fed inputs c
  unfolding misfed_by
  call-fed {c} {t} k = go (is_external t) refl
    where
      go : (b : Bool) → is_external t ≡ b
          → (faults 23 (starts (cond b (strangers ks (assigned t)) (those (is_among ks) (assigned t)))) ≡ []) ↔ Fed inputs c
      go true x =
          let o : c.op ≡ ascii "external" = sym k.op ∙ same-is t.op.bytes (ascii "external") x in
          Iff.trans (no-stranger 23 ks (assigned t) e (call-assigns k)) (λ h w a. (λ m. o, λ q. h w a), λ h w a. (h w a).1 o)
      go false x =
          let no : c.op ≡ ascii "external" → ⊥ =
          λ o. true≢false (sym (same_self (ascii "external")) ∙ ap (λ (v : List ℕ). same_bytes v (ascii "external")) (sym (k.op ∙ o)) ∙ x) in
          Iff.trans (no_member 23 ks (assigned t) e (call-assigns k)) (λ h w a. (λ m. absurd (h w a m), λ o. absurd (no o)), λ h w a m. no ((h w a).0 m))

  calls-fed : {cs : List PlanCall} {ts : List Call} → CanonCalls hs cs ts → (flat_map (misfed_by ks) ts ≡ []) ↔ Every (Fed inputs) cs
  unfolding flat_map
  calls-fed no-calls = (λ h. every-none (Fed inputs), λ h. refl)
  calls-fed (a_call {c} {t} {cs} {ts} k l) =
      Iff.trans (append-eq-nil_iff {p = misfed_by ks t} {q = flat_map (misfed_by ks) ts})
      (Iff.trans (Iff.and (call-fed k) (calls-fed l)) (every_more (Fed inputs) c cs))

-- ---- 12, of calls

few-calls : {hs : List Header} {cs : List PlanCall} {ts : List Call} → CanonCalls hs cs ts
    → (over max_calls (map (λ (t : Call). start_of t.left) ts) ≡ []) ↔ (length cs ≤ max_calls)
few-calls {ts = ts} ks =
    let place : Call → ℕ = λ t. start_of t.left in
    subst (λ (n : ℕ). (over max_calls (map place ts) ≡ []) ↔ (n ≤ max_calls)) (length-map ts place ∙ as_many ks) (few-places max_calls (map place ts))

-- ---- all rules

module _ {hs : List Header} {p : Plan} {t : Document} (k : CanonDocument hs p t) where
  -- 13
  graph-distinct : (graph_repeats t ≡ []) ↔ Distinct (p.inputs ++ p.outputs)
  unfolding graph_repeats
  graph-distinct = no-repeat 13 (t.inputs ++ t.outputs) (both-spelt t.inputs t.outputs k.inputs k.outputs)

  -- 21
  assigned-once : (again t ≡ []) ↔ Distinct (all_assigns p.calls)
  unfolding again
  assigned-once = no-repeat 21 (all_assigned t.calls) (all-assign k.calls)

  -- 23, 24: inputs and outputs that are assigned
  all_made : (c : ℕ) (ts : List Token) {ws : List (List ℕ)} → spellings ts ≡ ws
      → (faults c (starts (strangers (all_assigned t.calls) ts)) ≡ []) ↔ AllAmong ws (all_assigns p.calls)
  all_made c ts e = no-stranger c (all_assigned t.calls) ts (all-assign k.calls) e

  all-fed : (misfed t ≡ []) ↔ (AllAmong p.inputs (all_assigns p.calls) × Every (Fed p.inputs) p.calls)
  unfolding misfed
  all-fed =
      Iff.trans
      (append-eq-nil_iff {p = faults 23 (starts (strangers (all_assigned t.calls) t.inputs))} {q = flat_map (misfed_by t.inputs) t.calls})
      (Iff.and (all_made 23 t.inputs k.inputs) (calls-fed t.inputs k.inputs k.calls))

  -- 12
  counts-clean : LawfulParts hs p → document_counts t ≡ []
  unfolding document_counts
  counts-clean l =
      all-empty
      (a-list ((few-names max_inputs t.inputs k.inputs).1 l.few-inputs)
      (a-list ((few-names max_outputs t.outputs k.outputs).1 l.few-outputs)
      (a-list ((few-calls k.calls).1 l.few-calls)
      (a-list ((few-names max_assigned (all_assigned t.calls) (all-assign k.calls)).1 l.few-assigned)
      (a-list ((few-names max_uses (all_used t.calls) (all-use k.calls)).1 l.few-used)
      no-list)))))

  -- what the rules say, of a plan that fits
  pub clean-lawful : PlanFits hs p → document_faults hs t ≡ [] → Lawful hs p
  unfolding document_faults document_counts unmade
  clean-lawful f h =
      let r = row-none _ h in
      let counts = row-none _ r.1.0 in
      let wires = r.1.1.1.1.1.1 in
      let fed = all-fed.0 wires.1.1.0 in
      let parts : LawfulParts hs p = record {
        graph = f.graph;
        inputs = names-are f.inputs;
        outputs = names-are f.outputs;
        some-call = some-calls f.calls;
        calls = every_call f.calls;
        few-inputs = (few-names max_inputs t.inputs k.inputs).0 counts.0;
        few-outputs = (few-names max_outputs t.outputs k.outputs).0 counts.1.0;
        few-calls = (few-calls k.calls).0 counts.1.1.0;
        few-assigned = (few-names max_assigned (all_assigned t.calls) (all-assign k.calls)).0 counts.1.1.1.0;
        few-used = (few-names max_uses (all_used t.calls) (all-use k.calls)).0 counts.1.1.1.1.0;
        header-distinct = graph-distinct.0 r.1.1.0;
        assigned-once = assigned-once.0 wires.0;
        fed = fed.0;
        external = fed.1;
        made = (all_made 24 t.outputs k.outputs).0 wires.1.1.1.0;
      } in
      record { parts = parts; wired = (calls-wired [] refl k.calls).0 wires.1.0 }

  -- and the other way: but for its wires the tree of a plan breaks no rule
  pub parts-clean : LawfulParts hs p → document_faults hs t ≡ unwired t
  unfolding document_faults unmade flatten
  parts-clean l =
      simp (
        version-clean k,
        counts-clean l,
        graph-distinct.1 l.header-distinct,
        all-declared k.calls,
        all-bound k.calls,
        all-matched k.calls,
        assigned-once.1 l.assigned-once,
        all-fed.1 (l.fed, l.external),
        (all_made 24 t.outputs k.outputs).1 l.made,
      )
      (append-nil (unwired t))

  pub wires-clean : (unwired t ≡ []) ↔ WiredInOrder p.calls
  wires-clean = calls-wired [] refl k.calls

  pub lawful-clean : Lawful hs p → document_faults hs t ≡ []
  lawful-clean l = parts-clean l.parts ∙ wires-clean.1 l.wired
