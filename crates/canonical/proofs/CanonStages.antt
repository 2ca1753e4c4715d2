-- From what the stages of both texts come to, to all that `canon` ensures. In order: the stages after those of both texts, and their codes;
-- the size of pieces as it is counted; the pieces of a document that has passed, put into a buffer and written; the guards.
use mathlib.Core.Path.{◌≡◌, refl, sym, ap, ap₂, subst, ◌∙◌}
use mathlib.Core.Bool.{Bool, true, false, ◌&&◌, and-eq-true_iff, true≢false}
use mathlib.Core.List.{List, []}
use mathlib.Core.Option.{Option, some}
use mathlib.Core.Option.{none as nothing}
use Prim.Native.Nat.{ℕ, ◌*◌, ◌≤◌, ◌<◌}
use native.Mathlib.Omega.{arith}
use native.Mathlib.Nat.{zero-add}
use borrow.Author.Tests.{le-leb, lt-leb, leb-true}
use lib.Dec.{leb}
use lib.ListN.{length, get_or, take, replicate}
use Rattle.lexis.specs.Sizes.{max_text, max_tokens, max_calls}
use Rattle.lexis.specs.Code as L
use Rattle.lexis.specs.Answer.{answer}
use Rattle.lexis.specs.declared.Answer.{Answer}
use Rattle.syntax.specs.Tree.{Header, Document}
use Rattle.lists.specs.Fault.{first}
use Rattle.lists.specs.ListRules.{list_faults}
use Rattle.lists.specs.Stages.{ListPassed}
use Rattle.lists.specs.Answer.{Stage, pass, stop, and_then, guard, stage_answer, work_after}
use Rattle.lists.proofs.Guards.{guard-room, guard-list, guard-document, guard_none, is_guard, kept, cleared-after}
use Rattle.lists.proofs.First.{first-none}
use Rattle.documents.specs.DocumentRules.{document_faults}
use Rattle.documents.specs.Answer.{both_stages, Checked}
use Rattle.documents.proofs.Refusals.{both-codes}
use Rattle.documents.specs.Judged.{Directed, Readable}
use Rattle.documents.specs.Records.{call_size, records_words}
use Rattle.documents.specs.Stages.{DocumentPassed}
use Rattle.documents.specs.Tables.{call_table}
use Rattle.documents.proofs.BothStages.{list-clean, list-directs, document-clean, both_under}
use Rattle.canonical.specs.Code as Code
use Rattle.writing.specs.Plan.{Plan, plan_calls, plan_of}
use Rattle.writing.specs.Pieces.{Piece, text}
use Rattle.writing.specs.Layout.{document_pieces}
use Rattle.canonical.specs.Answer.{laid_out, layout_of, writing_stages, text_stages, CanonRoom, canon_room, canon_serves, written, canon_answer, output_after}
use Rattle.writing.specs.Writing.{max_count, stored, place_after, keeps_limits, PutsAll, all-put, left_over, Ranged}
use Rattle.writing.specs.Writing.{CallsRecorded, ReadableOps, PutsDocument}
use Rattle.canonical.specs.declared.texts.Texts.{Texts}
use Rattle.canonical.specs.Inner.{Wrote, TextsKept}
use Rattle.writing.specs.declared.place.Place.{Place}
use Rattle.writing.proofs.Measures.{passed_is, stored_is, stored-front, limits-kept, ranged}
use Rattle.writing.proofs.PlanExists.{plan-exists}
use Rattle.writing.proofs.Planned.{bound}
use Rattle.writing.proofs.CallWrites.{readable-calls}

-- ---- the stages

-- the answer and the output are those of equal stages; a refusal leaves the output as it was
wrote_as : {s t : Stage (List ℕ)} {out out' : List ℕ} {r : Answer} → s ≡ t → r ≡ stage_answer t length → out' ≡ output_after t out → Wrote s out out' r
wrote_as {out = out} e a k =
    record { answered = a ∙ sym (ap (λ (x : Stage (List ℕ)). stage_answer x length) e); output = k ∙ sym (ap (λ (x : Stage (List ℕ)). output_after x out) e) }

pub wrote-stopped : {s : Stage (List ℕ)} {out out' : List ℕ} {q r : Answer} → s ≡ stop q → r ≡ q → out' ≡ out → Wrote s out out' r
unfolding output_after
wrote-stopped e a k = wrote_as e a k

module _ (list doc : List ℕ) (out : ℕ) where
  -- what canon does where the stages of both texts pass
  abbrev writes : Checked → Stage (List ℕ)
  writes k = writing_stages (layout_of k.headers k.document) out

  pub text-stopped : {r : Answer} → both_stages list doc ≡ stop r → text_stages list doc out ≡ stop r
  unfolding text_stages
  text-stopped e = ap (λ (s : Stage Checked). and_then s writes) e

  -- a refusal has none of the codes 1 and 2
  pub text_codes : (r : Answer) → text_stages list doc out ≡ stop r → 3 ≤ r.code
  unfolding text_stages writing_stages
  text_codes r h = go (both_stages list doc) refl h
    where
      size : (bs : List ℕ) (a b : Bool) → guard a (answer 25 0 0 0) (guard b (answer 26 0 0 (length bs)) (pass bs)) ≡ stop r → 3 ≤ r.code
      size bs false b e = let c : 25 ≡ r.code = ap (λ (x : Stage (List ℕ)). (stage_answer x length).code) e in omega arith
      size bs true false e = let c : 26 ≡ r.code = ap (λ (x : Stage (List ℕ)). (stage_answer x length).code) e in omega arith
      size bs true true e = let z : ◌≡◌ {A = ℕ} 0 1 = cc in absurd (omega arith)

      go : (s : Stage Checked) → both_stages list doc ≡ s → and_then s writes ≡ stop r → 3 ≤ r.code
      go (stop q) e k = both-codes list doc r (e ∙ ap (λ (x : Answer). stop x) (ap (λ (x : Stage (List ℕ)). stage_answer x length) k))
      go (pass c) e k = let ps = layout_of c.headers c.document in size (text ps) (leb (length (text ps)) max_text && leb (length ps) max_tokens)
          (leb (length (text ps)) out) k

-- ---- the size of pieces

pub few : (s : Place) → keeps_limits s ≡ true → s.bytes ≤ max_text
few s k = leb-true s.bytes max_text ((and-eq-true_iff (leb s.bytes max_text) (leb s.tokens max_tokens)).0 k).0

-- pieces that were put, whatever the output
module _ {ps : List Piece} {out out' : List ℕ} {s : Place} where
  limits-are : PutsAll ps out out' s → keeps_limits s ≡ (leb (length (text ps)) max_text && leb (length ps) max_tokens)
  limits-are (all-put o e) = ap keeps_limits e ∙ limits-kept ps
  limits-are (left_over f g) = f ∙ sym g ∙ limits-kept ps

  -- where they keep the limits, their bytes are counted in full, and they are put
  in-full : PutsAll ps out out' s → keeps_limits s ≡ true → (s.bytes ≡ length (text ps)) × (out' ≡ stored out 0 (text ps))
  unfolding place_after
  in-full (all-put o e) k =
      let c = ap (λ (x : Place). x.bytes) e ∙ passed_is 0 (text ps) (omega arith) in
      (omega (arith, c, few s k), o)
  in-full (left_over f g) k = absurd (true≢false (sym k ∙ f))

-- ---- a document that has passed

module _ {t : Texts} (b : TextsKept t) where
  abbrev listed : ListPassed t.list.now.text.now t.list.now.table.now b.index t.words.now t.list.now.count b.operations
  listed = b.both.passed.first

  abbrev headers : List Header
  headers = listed.headers

  abbrev read : DocumentPassed headers t.doc.now.text.now t.doc.now.table.now t.doc.now.count
  read = b.both.passed.second

  abbrev tree : Document
  tree = read.document

  list-faultless : first (list_faults headers) ≡ nothing
  list-faultless = list-clean t.list.now.text.now headers listed.stages

  faultless : document_faults headers tree ≡ []
  faultless = first-none (document_faults headers tree) (document-clean headers t.doc.now.text.now tree read.stages)

  pub plan : (p : Plan) × (plan_of headers tree ≡ some p)
  plan = plan-exists headers tree (first-none (list_faults headers) list-faultless) faultless

  -- the pieces of its canonical text, and the stages that are left
  abbrev pub laid : List Piece
  laid = document_pieces headers plan.0

  left-are : (out : ℕ) → text_stages t.list.now.text.now t.doc.now.text.now out ≡ writing_stages laid out
  unfolding text_stages layout_of
  left-are out =
      ap (λ (s : Stage Checked). and_then s (writes t.list.now.text.now t.doc.now.text.now out)) (both_under t.list.now.text.now t.doc.now.text.now listed.stages read.stages)
      ∙ ap (λ (o : Option Plan). writing_stages (laid_out headers o) out) plan.1

  -- what putting it asks and ensures
  recorded : CallsRecorded t.list.now t.words.now t.records.now t.calls headers tree.calls
  unfolding call_table
  recorded = record { operations = listed.directory; clean = list-faultless; counted = b.both.kept.counted; called = b.both.kept.called }

  abbrev directed : Directed t.list.now.text.now t.list.now.table.now b.index t.words.now t.list.now.count
  directed = record { headers = headers; directs = list-directs listed; walkable = listed.walkable; roomy = listed.roomy }

  ops-readable : ReadableOps t.words.now t.records.now t.list.now.count t.calls
  unfolding plan_of
  ops-readable =
      let x = bound (plan_calls headers tree.calls) _ plan.1 in
      record {
        named = λ i l.
            let r = readable-calls directed t.records.now tree.calls 0 x.there recorded.called i (omega (arith, l, recorded.counted)) in
            subst (λ (j : ℕ). Readable t.words.now t.list.now.count (get_or t.records.now (j * call_size) 0)) (zero-add i) r;
      }

  pub put-asked : records_words ≤ length t.records.now
      → Ranged t.list.now.text.now t.list.now.table.now t.list.now.count × (ReadableOps t.words.now t.records.now t.list.now.count t.calls
      × (Ranged t.doc.now.text.now t.doc.now.table.now t.doc.now.count × ((t.calls ≤ max_calls) × (records_words ≤ length t.records.now) × (t.doc.now.count ≤ max_tokens))))
  put-asked l = (
    ranged t.list.now.text.now t.list.now.table.now t.list.now.count listed.table listed.lexed,
    (ops-readable, (ranged t.doc.now.text.now t.doc.now.table.now t.doc.now.count read.table read.lexed, (b.both.kept.few, l, read.small))),
  )

  pub put-ensured : {out out' : List ℕ} {s : Place} → PutsDocument t.list.now t.words.now t.records.now t.doc.now t.calls out out' s → PutsAll laid out out' s
  put-ensured f = f headers tree plan.0 recorded read.parsed faultless plan.1

  -- it was put into a buffer
  module _ (out : List ℕ) {buffer buffer' : List ℕ} {s : Place} (w : PutsAll laid buffer buffer' s) where
    pub too_large : {r : Answer} → keeps_limits s ≡ false → r ≡ answer Code.over_limits 0 0 0 → Wrote (text_stages t.list.now.text.now t.doc.now.text.now (length out)) out out r
    unfolding writing_stages
    too_large f a = let e = sym (limits-are w) ∙ f in wrote-stopped (left-are (length out) ∙ rw e) a refl

    module _ (f : keeps_limits s ≡ true) where
      kept-limits : (leb (length (text laid)) max_text && leb (length laid) max_tokens) ≡ true
      kept-limits = sym (limits-are w) ∙ f

      counted : s.bytes ≡ length (text laid)
      counted = (in-full w f).0

      pub too_short : {r : Answer} → length out < s.bytes → r ≡ answer Code.short_output 0 0 s.bytes → Wrote (text_stages t.list.now.text.now t.doc.now.text.now (length out)) out out r
      unfolding writing_stages
      too_short l a =
          let e = kept-limits in
          let h = lt-leb (length (text laid)) (length out) (omega (arith, l, counted)) in
          wrote-stopped (left-are (length out) ∙ rw (e, h)) (a ∙ ap (λ (x : ℕ). answer Code.short_output 0 0 x) counted) refl

      -- its bytes were stored in the output
      written_out : {r : Answer} {out' : List ℕ} → s.bytes ≤ length out → out' ≡ stored out 0 (text laid) → r ≡ answer L.accepted 0 0 s.bytes
          → Wrote (text_stages t.list.now.text.now t.doc.now.text.now (length out)) out out' r
      unfolding writing_stages output_after
      written_out l o a =
          let e = kept-limits in
          let g : length (text laid) ≤ length out = omega (arith, l, counted) in
          let h = le-leb (length (text laid)) (length out) g in
          wrote_as {t = pass (text laid)} (left-are (length out) ∙ rw (e, h)) (a ∙ ap (λ (x : ℕ). answer L.accepted 0 0 x) counted)
          (o ∙ stored_is out 0 (text laid) (omega (arith, g)) (omega (arith, counted, few s f)))

      -- by putting it once more
      pub put-again : {r : Answer} {out' : List ℕ} {s' : Place} → s.bytes ≤ length out → PutsAll laid out out' s' → r ≡ answer L.accepted 0 0 s.bytes
          → Wrote (text_stages t.list.now.text.now t.doc.now.text.now (length out)) out out' r
      put-again l v a = written_out l (in-full v (limits-are v ∙ kept-limits)).1 a

      -- by copying the front of the buffer
      pub copied : {r : Answer} {front out' : List ℕ} → s.bytes ≤ length out → s.bytes ≤ length buffer → front ≡ take s.bytes buffer'
          → out' ≡ stored out 0 front → r ≡ answer L.accepted 0 0 s.bytes → Wrote (text_stages t.list.now.text.now t.doc.now.text.now (length out)) out out' r
      copied l k q o a =
          let size : length (text laid) ≤ max_count = omega (arith, counted, few s f) in
          let front = q ∙ ap₂ (λ (x : ℕ) (y : List ℕ). take x y) counted (in-full w f).1 ∙ stored-front buffer (text laid) (omega (arith, k, counted)) size in
          written_out l (o ∙ ap (stored out 0) front) a

-- ---- the guards

module _ (list doc work₁ work₂ out : List ℕ) where
  abbrev room : CanonRoom
  room = canon_room work₁ work₂ out

  -- what canon ensures of its answer, of the output and of both work areas afterwards
  abbrev Ensured : Answer → List ℕ → List ℕ → List ℕ → Type 0
  Ensured r out' work₁' work₂' =
      (r ≡ canon_answer list doc room) × ((out' ≡ output_after (written list doc room) out) × ((work₁' ≡ work_after r work₁) × (work₂' ≡ work_after r work₂)))

  -- a refusal by a guard
  refused : {q r : Answer} → written list doc room ≡ stop q → is_guard q.code ≡ true → r ≡ q → Ensured r out work₁ work₂
  unfolding canon_answer
  refused e h a = let w = wrote-stopped e a refl in (w.answered, (w.output, (kept work₁ h a, kept work₂ h a)))

  pub refused-room : {r : Answer} → canon_serves room ≡ false → r ≡ answer L.short_room 0 0 0 → Ensured r out work₁ work₂
  unfolding written
  refused-room e a = refused (guard-room list doc (text_stages list doc (length out)) e) refl a

  pub refused-list : {r : Answer} → canon_serves room ≡ true → leb (length list) max_text ≡ false → r ≡ answer L.long_text 1 max_text 0
      → Ensured r out work₁ work₂
  unfolding written
  refused-list e f a = refused (guard-list list doc (text_stages list doc (length out)) e f) refl a

  pub refused-document : {r : Answer} → canon_serves room ≡ true → leb (length list) max_text ≡ true → leb (length doc) max_text ≡ false
      → r ≡ answer L.long_text 2 max_text 0 → Ensured r out work₁ work₂
  unfolding written
  refused-document e f g a = refused (guard-document list doc (text_stages list doc (length out)) e f g) refl a

  -- the stages after the guards, then both work areas are cleared
  pub ended : {r : Answer} {out' work₁' work₂' : List ℕ} {n m : ℕ} → canon_serves room ≡ true → leb (length list) max_text ≡ true
      → leb (length doc) max_text ≡ true
      → Wrote (text_stages list doc (length out)) out out' r → work₁' ≡ replicate n 0 → n ≡ length work₁ → work₂' ≡ replicate m 0 → m ≡ length work₂
      → Ensured r out' work₁' work₂'
  unfolding canon_answer written
  ended {n = n} {m} e f g w z i y j =
      let t = text_stages list doc (length out) in
      let v = wrote_as (guard_none list doc t e f g) w.answered w.output in
      let c = text_codes list doc (length out) in
      (v.answered, (v.output, (z ∙ cleared-after t length c n work₁ i w.answered, y ∙ cleared-after t length c m work₂ j w.answered)))
