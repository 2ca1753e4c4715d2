-- The tree of a canonical text has no faults where some document of the same plan has none: its version and its calls break no rule of
-- their own, and what is asked of names holds as in the document.
use mathlib.Core.Path.{◌≡◌, refl, sym, ap}
use mathlib.Core.Bool.{Bool, true, false, cond, not}
use mathlib.Core.List.{List, [], ◌++◌, map, flat_map, flatten}
use mathlib.Core.Option.{some}
use Prim.Native.Nat.{ℕ, ◌≤◌}
use native.Mathlib.Omega.{arith}
use lib.ListN.{length, length-map}
use Rattle.spellings.specs.Comparison.{same_bytes}
use Rattle.lexis.specs.Ascii.{ascii}
use Rattle.lexis.specs.Sizes.{max_inputs, max_outputs, max_calls, max_assigned, max_uses}
use Rattle.lexis.specs.Lexer.{Token}
use Rattle.syntax.specs.Tree.{Header, Call, Document}
use Rattle.lists.specs.Fault.{Fault, faults, starts}
use Rattle.lists.specs.Names.{those, is_among, repeats, start_of, assigned, used, all_assigned, all_used}
use Rattle.lists.specs.Reading.{fits}
use Rattle.lists.specs.Accepted.{AcceptedList}
use Rattle.documents.specs.Binding.{slots}
use Rattle.documents.specs.Wiring.{strangers, again, unwired_after, is_external, misfed_by, misfed, unmade}
use Rattle.documents.specs.DocumentRules.{bad_version, document_counts, graph_repeats, undeclared, argument_faults, unmatched, document_faults}
use Rattle.writing.specs.Plan.{PlanCall, Plan, spellings, plan_of}
use Rattle.canonical.proofs.Shape.{CanonCall, CanonCalls, no-calls, a_call, CanonDocument}
use Rattle.canonical.proofs.Clean.{EmptyToo, both-keep, no_part, a-part, row_keeps}
use Rattle.canonical.proofs.Spelt.{append-same, equal-within, among-keep, repeats-keep, faults-keep, over-keep, counts-keep}
use Rattle.canonical.proofs.NamedArguments.{values-bound, named-values, no-misplaced, no-misnamed}
use Rattle.canonical.proofs.Alike.{CallAlike, Alike, none_alike, more-alike, DocumentAlike, document-alike, calls-length, calls-assign, calls-use}

-- ---- 11, 15 to 20: no rule of their own

pub version-clean : {hs : List Header} {p : Plan} {t : Document} → CanonDocument hs p t → bad_version t ≡ []
unfolding bad_version same_bytes
version-clean k = simp k.version

call-declared : {hs : List Header} {c : PlanCall} {t : Call} → CanonCall hs c t → undeclared hs t ≡ []
unfolding undeclared
call-declared k = simp k.found

call-bound : {hs : List Header} {c : PlanCall} {t : Call} → CanonCall hs c t → argument_faults hs t ≡ []
unfolding argument_faults flatten
call-bound {t = t} k =
    let ps = k.header.params in
    let v = values-bound t.op.start 0 (slots ps t.args) (named-values k.args k.distinct) in
    simp (k.found, no-misplaced true ps k.args, no-misnamed k.args k.distinct, v.0, v.1)

call-matched : {hs : List Header} {c : PlanCall} {t : Call} → CanonCall hs c t → unmatched hs t ≡ []
unfolding unmatched fits
call-matched k = simp (k.found, k.left)

calls-clean : {hs : List Header} (f : Call → List Fault) → ((c : PlanCall) (t : Call) → CanonCall hs c t → f t ≡ []) → {ps : List PlanCall} {ts : List Call}
    → CanonCalls hs ps ts → flat_map f ts ≡ []
unfolding flat_map
calls-clean f h no-calls = refl
calls-clean f h (a_call {c} {t} k ks) = simp (h c t k, calls-clean f h ks)

pub all-declared : {hs : List Header} {ps : List PlanCall} {ts : List Call} → CanonCalls hs ps ts → flat_map (undeclared hs) ts ≡ []
all-declared {hs} ks = calls-clean (undeclared hs) (λ c t k. call-declared k) ks

pub all-bound : {hs : List Header} {ps : List PlanCall} {ts : List Call} → CanonCalls hs ps ts → flat_map (argument_faults hs) ts ≡ []
all-bound {hs} ks = calls-clean (argument_faults hs) (λ c t k. call-bound k) ks

pub all-matched : {hs : List Header} {ps : List PlanCall} {ts : List Call} → CanonCalls hs ps ts → flat_map (unmatched hs) ts ≡ []
all-matched {hs} ks = calls-clean (unmatched hs) (λ c t k. call-matched k) ks

-- ---- 13, 21

repeats-kept : (c : ℕ) (ts us : List Token) → spellings ts ≡ spellings us → EmptyToo (faults c (starts (repeats ts))) (faults c (starts (repeats us)))
repeats-kept c ts us e = faults-keep c (repeats ts) (repeats us) (repeats-keep [] [] ts us refl e)

-- ---- 22

wired-kept : (ks ls : List Token) {cs ts : List Call} → spellings ks ≡ spellings ls → Alike cs ts → EmptyToo (unwired_after ks cs) (unwired_after ls ts)
unfolding unwired_after
wired-kept ks ls e none_alike h = h
wired-kept ks ls e (more-alike {c} {t} {cs} {ts} a l) h =
    both-keep (faults 22 (starts (strangers ks (used c)))) (unwired_after (ks ++ assigned c) cs)
    (faults-keep 22 (strangers ks (used c)) (strangers ls (used t)) (among-keep not ks ls (used c) (used t) e a.uses))
    (wired-kept (ks ++ assigned c) (ls ++ assigned t) (append-same ks (assigned c) ls (assigned t) e a.left) l) h

-- ---- 23, by the calls

call-fed : (ks ls : List Token) (c t : Call) → spellings ks ≡ spellings ls → CallAlike c t → EmptyToo (misfed_by ks c) (misfed_by ls t)
unfolding misfed_by
call-fed ks ls c t e a =
    let x : is_external c ≡ is_external t = ap (λ (w : List ℕ). same_bytes w (ascii "external")) a.op in
    rw (← x) (go (is_external c))
  where
    keeps : (f : Bool → Bool) → EmptyToo (those (λ u. f (is_among ks u)) (assigned c)) (those (λ u. f (is_among ls u)) (assigned t))
    keeps f = among-keep f ks ls (assigned c) (assigned t) e (equal-within (sym a.left))

    go : (b : Bool) → EmptyToo (faults 23 (starts (cond b (strangers ks (assigned c)) (those (is_among ks) (assigned c)))))
        (faults 23 (starts (cond b (strangers ls (assigned t)) (those (is_among ls) (assigned t)))))
    go true = faults-keep 23 (strangers ks (assigned c)) (strangers ls (assigned t)) (keeps not)
    go false = faults-keep 23 (those (is_among ks) (assigned c)) (those (is_among ls) (assigned t)) (keeps (λ b. b))

calls-fed : (ks ls : List Token) {cs ts : List Call} → spellings ks ≡ spellings ls → Alike cs ts
    → EmptyToo (flat_map (misfed_by ks) cs) (flat_map (misfed_by ls) ts)
unfolding flat_map
calls-fed ks ls e none_alike h = h
calls-fed ks ls e (more-alike {c} {t} {cs} a l) h = both-keep (misfed_by ks c) (flat_map (misfed_by ks) cs) (call-fed ks ls c t e a) (calls-fed ks ls e l) h

-- ---- two documents

module _ (d t : Document) (a : DocumentAlike d t) where
  -- 12
  counts-kept : EmptyToo (document_counts d) (document_counts t)
  unfolding document_counts
  counts-kept =
      let place : Call → ℕ = λ c. start_of c.left in
      let m = calls-assign a.calls in
      let n : length (map place t.calls) ≤ length (map place d.calls) =
      omega (arith, calls-length a.calls, length-map d.calls place, length-map t.calls place) in
      row_keeps
      (a-part (counts-keep max_inputs d.inputs t.inputs (equal-within (sym a.inputs)))
      (a-part (counts-keep max_outputs d.outputs t.outputs (equal-within (sym a.outputs)))
      (a-part (over-keep max_calls (map place d.calls) (map place t.calls) n)
      (a-part (counts-keep max_assigned (all_assigned d.calls) (all_assigned t.calls) (equal-within (sym m)))
      (a-part (counts-keep max_uses (all_used d.calls) (all_used t.calls) (calls-use a.calls))
      no_part)))))

  -- 23, 24: inputs and outputs that are never assigned
  made_kept : (c : ℕ) (ts us : List Token) → spellings ts ≡ spellings us
      → EmptyToo (faults c (starts (strangers (all_assigned d.calls) ts))) (faults c (starts (strangers (all_assigned t.calls) us)))
  made_kept c ts us e =
      let ks = all_assigned d.calls in
      let ls = all_assigned t.calls in
      faults-keep c (strangers ks ts) (strangers ls us) (among-keep not ks ls ts us (calls-assign a.calls) (equal-within (sym e)))

  fed-kept : EmptyToo (misfed d) (misfed t)
  unfolding misfed
  fed-kept =
      both-keep (faults 23 (starts (strangers (all_assigned d.calls) d.inputs))) (flat_map (misfed_by d.inputs) d.calls)
      (made_kept 23 d.inputs t.inputs a.inputs) (calls-fed d.inputs t.inputs a.inputs a.calls)

pub canon-clean : (list : List ℕ) (hs : List Header) (d t : Document) (p : Plan) → AcceptedList list hs → document_faults hs d ≡ [] → plan_of hs d ≡ some p
    → CanonDocument hs p t → document_faults hs t ≡ []
unfolding document_faults graph_repeats again unmade
canon-clean list hs d t p l h e k =
    let a = document-alike hs d t l.spelt e k in
    row_keeps
    (a-part (λ z. version-clean k)
    (a-part (counts-kept d t a)
    (a-part
    (repeats-kept 13 (d.inputs ++ d.outputs) (t.inputs ++ t.outputs)
    (append-same d.inputs d.outputs t.inputs t.outputs a.inputs a.outputs))
    (a-part (λ z. all-declared k.calls)
    (a-part (λ z. all-bound k.calls)
    (a-part (λ z. all-matched k.calls)
    (a-part (repeats-kept 21 (all_assigned d.calls) (all_assigned t.calls) (calls-assign a.calls))
    (a-part (wired-kept [] [] refl a.calls)
    (a-part (fed-kept d t a)
    (a-part (made_kept d t a 24 d.outputs t.outputs a.outputs)
    no_part)))))))))) h
