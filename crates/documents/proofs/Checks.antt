-- From what the stages of both texts come to, to the answer of `check` and both tables. Relies on `BothStages` for the stages.
use mathlib.Core.Path.{◌≡◌, refl, sym, ap, subst, ◌∙◌}
use mathlib.Core.Bool.{true, false, ◌&&◌, and-eq-true_iff}
use mathlib.Core.List.{List}
use Prim.Native.Nat.{ℕ, ◌*◌, ◌≤◌}
use lib.Dec.{leb}
use lib.ListN.{length, replicate}
use borrow.Author.Tests.{leb-true}
use Rattle.lexis.specs.Sizes.{max_text, work_words, call_words, wire_words}
use Rattle.lexis.specs.Code as Code
use Rattle.lexis.specs.Answer.{answer}
use Rattle.lexis.specs.declared.Answer.{Answer}
use Rattle.lists.specs.Names.{all_used}
use Rattle.lists.specs.Answer.{Stage, stop, work_after}
use Rattle.lists.proofs.Guards.{guard-room, guard-list, guard-document, guard_none, is_guard, kept, cleared-after}
use Rattle.documents.specs.Tables.{call_table, wire_table}
use Rattle.documents.specs.Answer.{both_stages, areas_serve, CheckRoom, check_room, check_serves, checked, call_count, check_answer, Checked, calls_after}
use Rattle.documents.specs.Answer.{wires_after}
use Rattle.documents.specs.Records.{call_size, wire_size}
use Rattle.documents.specs.Stages.{RecordsKept}
use Rattle.documents.specs.Checks.{Ended, Tabled}
use Rattle.documents.specs.declared.stages.Sizes.{Sizes}
use Rattle.documents.proofs.Recording.{calls-words, wires-words}
use Rattle.documents.proofs.Refusals.{both-codes}

-- ---- what the stages end in

module _ (list doc calls wires : List ℕ) where
  ended-as : {calls' wires' : List ℕ} {r : Answer} {s : Stage Checked} → both_stages list doc ≡ s → Ended s calls calls' wires wires' r
      → Ended (both_stages list doc) calls calls' wires wires' r
  ended-as {calls'} {wires'} {r} {s} e h = subst (λ (x : Stage Checked). Ended x calls calls' wires wires' r) (sym e) h

  pub ended-stopped : {r : Answer} → both_stages list doc ≡ stop r → Ended (both_stages list doc) calls calls wires wires r
  unfolding calls_after wires_after
  ended-stopped e = ended-as e (record { answered = refl; called = refl; wired = refl })

  pub ended-passed : {records calls' wires' : List ℕ} {s : Sizes} {r : Answer} → RecordsKept list doc records s
      → Tabled records calls calls' wires wires' s r → Ended (both_stages list doc) calls calls' wires wires' r
  unfolding calls_after wires_after call_table wire_table
  ended-passed b t =
      let k = b.kept in
      let d = b.trees.document in
      let hs = b.trees.headers in
      ended-as b.stages
      (record {
        answered = t.answered ∙ ap (λ (x : ℕ). answer Code.accepted 0 0 x) k.counted;
        called = t.called (call_table hs d) (ap (λ (x : ℕ). x * call_size) k.counted ∙ sym (calls-words hs d.calls)) k.called;
        wired = t.wired (wire_table d) (ap (λ (x : ℕ). x * wire_size) k.counted_uses ∙ sym (wires-words d.calls (all_used d.calls))) k.wires;
      })

-- ---- the guards and the end

pub areas-parts : (m n : ℕ) → areas_serve m n ≡ true → (work_words ≤ m) × (work_words ≤ n)
areas-parts m n e =
    let a = (and-eq-true_iff (leb work_words m) (leb work_words n)).0 e in
    (leb-true work_words m a.0, leb-true work_words n a.1)

module _ (list doc work₁ work₂ calls wires : List ℕ) where
  abbrev room : CheckRoom
  room = check_room work₁ work₂ calls wires

  pub room-parts : check_serves room ≡ true → (work_words ≤ length work₁) × (work_words ≤ length work₂) × (call_words ≤ length calls) × (wire_words ≤ length wires)
  room-parts e =
      let a = (and-eq-true_iff (areas_serve (length work₁) (length work₂)) (leb call_words (length calls) && leb wire_words (length wires))).0 e in
      let b = areas-parts (length work₁) (length work₂) a.0 in
      let c = (and-eq-true_iff (leb call_words (length calls)) (leb wire_words (length wires))).0 a.1 in
      (b.0, b.1, leb-true call_words (length calls) c.0, leb-true wire_words (length wires) c.1)

  -- what check ensures of its answer, of both tables and of both work areas afterwards
  abbrev Ensured : Answer → List ℕ → List ℕ → List ℕ → List ℕ → Type 0
  Ensured r calls' wires' work₁' work₂' =
      (r ≡ check_answer list doc room)
      ×
      ((calls' ≡ calls_after (checked list doc room) calls)
      × ((wires' ≡ wires_after (checked list doc room) wires) × ((work₁' ≡ work_after r work₁) × (work₂' ≡ work_after r work₂))))

  -- a refusal by a guard
  refused : {q r : Answer} → checked list doc room ≡ stop q → is_guard q.code ≡ true → r ≡ q → Ensured r calls wires work₁ work₂
  unfolding check_answer calls_after wires_after
  refused e h a = (rw e a, (rw e, (rw e, (kept work₁ h a, kept work₂ h a))))

  pub refused-room : {r : Answer} → check_serves room ≡ false → r ≡ answer Code.short_room 0 0 0 → Ensured r calls wires work₁ work₂
  unfolding checked
  refused-room e a = refused (guard-room list doc (both_stages list doc) e) refl a

  pub refused-list : {r : Answer} → check_serves room ≡ true → leb (length list) max_text ≡ false → r ≡ answer Code.long_text 1 max_text 0
      → Ensured r calls wires work₁ work₂
  unfolding checked
  refused-list e f a = refused (guard-list list doc (both_stages list doc) e f) refl a

  pub refused-document : {r : Answer} → check_serves room ≡ true → leb (length list) max_text ≡ true → leb (length doc) max_text ≡ false
      → r ≡ answer Code.long_text 2 max_text 0 → Ensured r calls wires work₁ work₂
  unfolding checked
  refused-document e f g a = refused (guard-document list doc (both_stages list doc) e f g) refl a

  -- the stages after the guards, then both work areas are cleared
  pub ended : {r : Answer} {calls' wires' work₁' work₂' : List ℕ} {n m : ℕ} → check_serves room ≡ true → leb (length list) max_text ≡ true
      → leb (length doc) max_text ≡ true
      → Ended (both_stages list doc) calls calls' wires wires' r → work₁' ≡ replicate n 0 → n ≡ length work₁ → work₂' ≡ replicate m 0 → m ≡ length work₂
      → Ensured r calls' wires' work₁' work₂'
  unfolding check_answer checked
  ended {n = n} {m} e f g w z i y j =
      let s = guard_none list doc (both_stages list doc) e f g in (
        rw s w.answered,
        (
          rw s w.called,
          (
            rw s w.wired,
            (
              z ∙ cleared-after (both_stages list doc) call_count (both-codes list doc) n work₁ i w.answered,
              y ∙ cleared-after (both_stages list doc) call_count (both-codes list doc) m work₂ j w.answered,
            ),
          ),
        ),
      )
