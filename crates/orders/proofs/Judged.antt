-- From the walk over an order to the answer of the operation: the length first; the stages of both texts; the guards and the work areas.
use mathlib.Core.Path.{◌≡◌, refl, sym, ap, ◌∙◌}
use mathlib.Core.Bool.{Bool, true, false, cond}
use mathlib.Core.Logic.{◌⊎◌, inl, inr}
use mathlib.Core.List.Memᴰ
use mathlib.Core.List.{List, [], ◌∷◌, ◌++◌, map, Memᴰ}
use mathlib.Core.Option.{Option, some}
use mathlib.Core.Option.{none as nothing}
use Prim.Native.Nat.{ℕ, ◌<◌, ◌≤◌}
use native.Mathlib.Omega.{arith}
use lib.Dec.{eqb, leb}
use lib.ListN.{length, replicate, length-map}
use borrow.Author.Tests.{eq-eqb, ne_eqb, eqb-true, eqb-false}
use Rattle.lexis.specs.Sizes.{max_text}
use Rattle.lexis.specs.Answer.{answer}
use Rattle.lexis.specs.declared.Answer.{Answer}
use Rattle.syntax.specs.Tree.{Call}
use Rattle.lists.specs.Fault.{Fault, fault, unless, earlier, first, Before, by_place, by_code}
use Rattle.lists.specs.Names.{used}
use Rattle.lists.specs.Answer.{Stage, pass, stop, and_then, rules_stage, stage_answer, work_after}
use Rattle.lists.proofs.First.{first-append, first-is, is-before}
use Rattle.lists.proofs.Guards.{guard_none, is_guard, kept, cleared-after}
use Rattle.documents.specs.Answer.{Checked, both_stages, call_count}
use Rattle.documents.specs.Tables.{assigner}
use Rattle.documents.specs.Stages.{RecordsKept}
use Rattle.documents.specs.declared.stages.Sizes.{Sizes}
use Rattle.documents.proofs.Refusals.{both-codes}
use Rattle.orders.specs.Code as Code
use Rattle.orders.specs.Order.{needs, faults_from, wrong_length, order_faults}
use Rattle.orders.specs.Answer.{order_stage, order_stages, OrderRoom, order_room, order_serves, judged, order_answer}
use Rattle.orders.specs.Scratch.{rows, answer_of, ordered_by}
use Rattle.orders.proofs.Places.{fault-codes}
use Rattle.orders.proofs.Rows.{rows-length}
use Rattle.orders.proofs.Recorded.{rows-needs}

-- ---- the length

module _ (ns : List (List ℕ)) (ks : List ℕ) where
  -- a wrong length comes before all other faults
  length-first : (o : Option Fault) → first (faults_from ns [] 0 ks) ≡ o → earlier (some (fault Code.wrong_length 0)) o ≡ some (fault Code.wrong_length 0)
  length-first nothing e = refl
  length-first (some x) e =
      let l = fault-codes ns [] 0 ks x (first-is (faults_from ns [] 0 ks) x e).member in
      ap (λ (b : Bool). some (cond b (fault Code.wrong_length 0) x)) (is-before (fault Code.wrong_length 0) x (go (eqb x.at 0) refl l))
    where
      go : (b : Bool) → eqb x.at 0 ≡ b → 42 ≤ x.code → Before (fault Code.wrong_length 0) x
      go true z l = by_code (sym (eqb-true x.at 0 z)) (omega (arith, l))
      go false z l = let y : 0 < x.at = omega (arith, eqb-false x.at 0 z) in by_place y

  length-wrong : (length ks ≡ length ns → ⊥) → ordered_by ns ks ≡ answer Code.wrong_length 0 0 0
  unfolding ordered_by order_faults wrong_length first
  length-wrong h =
      let f : first (unless (eqb (length ks) (length ns)) (fault Code.wrong_length 0) ++ faults_from ns [] 0 ks) ≡ some (fault Code.wrong_length 0) =
      ap (λ (b : Bool). first (unless b (fault Code.wrong_length 0) ++ faults_from ns [] 0 ks)) (ne_eqb (length ks) (length ns) h)
      ∙ first-append (fault Code.wrong_length 0 ∷ []) (faults_from ns [] 0 ks)
      ∙ length-first (first (faults_from ns [] 0 ks)) refl in
      rw f

  length-right : length ks ≡ length ns → ordered_by ns ks ≡ answer_of (length ns) (faults_from ns [] 0 ks)
  unfolding ordered_by order_faults wrong_length
  length-right h =
      ap (λ (b : Bool). answer_of (length ns) (unless b (fault Code.wrong_length 0) ++ faults_from ns [] 0 ks)) (eq-eqb (length ks) (length ns) h)

-- no code is below 41
pub order-faults-codes : (ns : List (List ℕ)) (ks : List ℕ) (x : Fault) → Memᴰ x (order_faults ns ks) → 41 ≤ x.code
unfolding order_faults wrong_length
order-faults-codes ns ks x m = go (eqb (length ks) (length ns)) (Memᴰ.append_cases (unless (eqb (length ks) (length ns)) (fault Code.wrong_length 0)) m)
  where
    go : (b : Bool) → Memᴰ x (unless b (fault Code.wrong_length 0)) ⊎ Memᴰ x (faults_from ns [] 0 ks) → 41 ≤ x.code
    go b (inr m) = let l = fault-codes ns [] 0 ks x m in omega (arith, l)
    go true (inl m) = elim m [ ]
    go false (inl m) = one (Memᴰ.cases_cons m)
      where
        one : (x ≡ fault Code.wrong_length 0) ⊎ Memᴰ x [] → 41 ≤ x.code
        one (inl e) = let z = ap (λ (y : Fault). y.code) e in omega (arith, z)
        one (inr m) = elim m [ ]

-- the length, by the needs that records have
module _ (records : List ℕ) (n : ℕ) (ks : List ℕ) where
  pub rows-wrong : {r : Answer} → (length ks ≡ n → ⊥) → r ≡ answer Code.wrong_length 0 0 0 → r ≡ ordered_by (rows records n) ks
  rows-wrong h e = e ∙ sym (length-wrong (rows records n) ks (λ q. h (q ∙ rows-length records n)))

  pub rows_right : {r : Answer} → length ks ≡ n → r ≡ answer_of n (faults_from (rows records n) [] 0 ks) → r ≡ ordered_by (rows records n) ks
  rows_right h e =
      let z = rows-length records n in
      e ∙ ap (λ (m : ℕ). answer_of m (faults_from (rows records n) [] 0 ks)) (sym z) ∙ sym (length-right (rows records n) ks (h ∙ sym z))

-- ---- the stages

pub needs-length : (cs : List Call) → length (needs cs) ≡ length cs
unfolding needs
needs-length cs = length-map cs (λ (c : Call). map (assigner cs) (used c))

module _ (list doc ks : List ℕ) where
  -- what passes counts calls
  staged : (k : Checked) (o : Option Fault) → stage_answer (rules_stage 0 k o) call_count ≡ stage_answer (rules_stage 0 (call_count k) o) (λ (m : ℕ). m)
  staged k nothing = refl
  staged k (some x) = refl

  pub order-passed : {records : List ℕ} {s : Sizes} {r : Answer} → RecordsKept list doc records s → r ≡ ordered_by (rows records s.calls) ks
      → r ≡ stage_answer (order_stages list doc ks) call_count
  unfolding order_stages order_stage ordered_by
  order-passed {records} {s} k e =
      let cs = k.trees.document.calls in
      let o = first (order_faults (needs cs) ks) in
      let p : ordered_by (needs cs) ks ≡ stage_answer (rules_stage 0 k.trees o) call_count =
      ap (λ (m : ℕ). stage_answer (rules_stage 0 m o) (λ (x : ℕ). x)) (needs-length cs) ∙ sym (staged k.trees o) in
      let q : stage_answer (order_stages list doc ks) call_count ≡ stage_answer (rules_stage 0 k.trees o) call_count =
      ap (λ (x : Stage Checked). stage_answer (and_then x (λ y. rules_stage 0 y (first (order_faults (needs y.document.calls) ks)))) call_count) k.stages in
      e ∙ ap (λ (ns : List (List ℕ)). ordered_by ns ks) (rows-needs records k) ∙ p ∙ sym q

  pub order-stopped : {r : Answer} → both_stages list doc ≡ stop r → r ≡ stage_answer (order_stages list doc ks) call_count
  unfolding order_stages
  order-stopped e = sym (rw e)

  -- a refusal has another code than those of the guards
  pub order-codes : (r : Answer) → order_stages list doc ks ≡ stop r → 3 ≤ r.code
  unfolding order_stages order_stage
  order-codes r h = go (both_stages list doc) refl h
    where
      inner : (k : Checked) (o : Option Fault) → first (order_faults (needs k.document.calls) ks) ≡ o → rules_stage 0 k o ≡ stop r → 3 ≤ r.code
      inner k nothing q e = let z : ◌≡◌ {A = ℕ} 0 1 = cc in absurd (omega arith)
      inner k (some x) q e =
          let ns = needs k.document.calls in
          let l = order-faults-codes ns ks x (first-is (order_faults ns ks) x q).member in
          let z : x.code ≡ r.code = cc in
          omega (arith, l, z)

      go : (s : Stage Checked) → both_stages list doc ≡ s → and_then s (λ k. rules_stage 0 k (first (order_faults (needs k.document.calls) ks))) ≡ stop r
          → 3 ≤ r.code
      go (pass k) q e = inner k (first (order_faults (needs k.document.calls) ks)) refl e
      go (stop a) q e = let z : a ≡ r = cc in both-codes list doc r (q ∙ ap (λ (x : Answer). stop x) z)

-- ---- the guards and the end

module _ (list doc work₁ work₂ ks : List ℕ) where
  abbrev room : OrderRoom
  room = order_room work₁ work₂

  -- what order ensures of its answer and of both work areas afterwards
  abbrev Ensured : Answer → List ℕ → List ℕ → Type 0
  Ensured r work₁' work₂' = (r ≡ order_answer list doc room ks) × ((work₁' ≡ work_after r work₁) × (work₂' ≡ work_after r work₂))

  -- a refusal by a guard
  pub refused : {q r : Answer} → judged list doc room ks ≡ stop q → is_guard q.code ≡ true → r ≡ q → Ensured r work₁ work₂
  unfolding order_answer
  refused e h a = (rw e a, (kept work₁ h a, kept work₂ h a))

  -- the stages after the guards, then both work areas are cleared
  pub ended : {r : Answer} {work₁' work₂' : List ℕ} {n m : ℕ} → order_serves room ≡ true → leb (length list) max_text ≡ true → leb (length doc) max_text ≡ true
      → r ≡ stage_answer (order_stages list doc ks) call_count → work₁' ≡ replicate n 0 → n ≡ length work₁ → work₂' ≡ replicate m 0 → m ≡ length work₂
      → Ensured r work₁' work₂'
  unfolding order_answer judged
  ended {n = n} {m} e f g w z i y j =
      let s = guard_none list doc (order_stages list doc ks) e f g in
      let t = order_stages list doc ks in
      let codes = order-codes list doc ks in
      (rw s w, (z ∙ cleared-after t call_count codes n work₁ i w, y ∙ cleared-after t call_count codes m work₂ j w))
