-- What holds of `order`, for every text, every lent length and every order: acceptance in both directions, the first place at fault in
-- both directions, and that what `check` refuses is refused first. The page of the demands cites these. Assumes nothing.
use mathlib.Core.Path.{◌≡◌, refl, sym, ap, ◌∙◌}
use mathlib.Core.Bool.{Bool, true, false}
use mathlib.Core.List.{List}
use mathlib.Core.Logic.{◌↔◌}
use mathlib.Core.Option.{Option, some}
use mathlib.Core.Option.{none as nothing}
use Prim.Native.Nat.{ℕ, ◌<◌, ◌≤◌}
use native.Mathlib.Omega.{arith}
use lib.Dec.{leb}
use lib.ListN.{length}
use Rattle.lexis.specs.Sizes.{max_text}
use Rattle.lexis.specs.Code as Code
use Rattle.lexis.specs.Answer.{answer}
use Rattle.lexis.specs.declared.Answer.{Answer}
use Rattle.syntax.specs.Tree.{Header, Document}
use Rattle.lists.specs.Fault.{Fault, fault, first}
use Rattle.lists.specs.Answer.{Stage, pass, stop, and_then, guard, guarded, rules_stage, stage_answer}
use Rattle.lists.specs.Accepted.{AcceptedList}
use Rattle.lists.proofs.First.{first-none, first-is}
use Rattle.lists.proofs.Theorems.{first-fault}
use Rattle.documents.specs.Answer.{both_stages, Checked, CheckRoom, check_serves, checked, call_count, check_answer}
use Rattle.documents.specs.Accepted.{AcceptedDocument}
use Rattle.documents.proofs.Theorems.{both-pass, both-passed, guarded-long, guarded-long-document, guarded-good, guarded-passed, guarded-codes, answer-passed}
use Rattle.orders.specs.Order.{needs, order_faults}
use Rattle.orders.specs.Answer.{order_stage, order_stages, OrderRoom, order_serves, judged, order_answer}
use Rattle.orders.specs.InOrder.{InOrder, FirstAtFault}
use Rattle.orders.proofs.InOrder.{first-place, no-fault}
use Rattle.orders.proofs.Judged.{order-faults-codes, order-codes}

module _ (list doc : List ℕ) (l : OrderRoom) (ks : List ℕ) where
  -- ---- guards

  pub order-room : order_serves l ≡ false → order_answer list doc l ks ≡ answer Code.short_room 0 0 0
  unfolding order_answer judged
  order-room e = rw e

  pub order-long : order_serves l ≡ true → max_text < length list → order_answer list doc l ks ≡ answer Code.long_text 1 max_text 0
  unfolding order_answer judged
  order-long r k = rw (guarded-long (order_serves l) list doc (order_stages list doc ks) r k)

  pub order-long-document : order_serves l ≡ true → length list ≤ max_text → max_text < length doc → order_answer list doc l ks ≡ answer Code.long_text 2 max_text 0
  unfolding order_answer judged
  order-long-document r k m = rw (guarded-long-document (order_serves l) list doc (order_stages list doc ks) r k m)

  -- ---- what check refuses, order refuses with the same four numbers, lent the room asked

  pub order-refuses-as-check : (k : CheckRoom) → order_serves l ≡ true → check_serves k ≡ true → ((check_answer list doc k).code ≡ Code.accepted → ⊥)
      → order_answer list doc l ks ≡ check_answer list doc k
  unfolding order_answer judged order_stages check_answer checked
  order-refuses-as-check k s t n = rw (s, t) (go (leb (length list) max_text) (leb (length doc) max_text) (both_stages list doc) (rw t at n))
    where
      go : (a b : Bool) (x : Stage Checked) → ((stage_answer (guard a (answer 2 1 max_text 0) (guard b (answer 2 2 max_text 0) x)) call_count).code ≡ 0 → ⊥)
          → stage_answer (guard a (answer 2 1 max_text 0) (guard b (answer 2 2 max_text 0) (and_then x (λ y. order_stage y ks)))) call_count
          ≡ stage_answer (guard a (answer 2 1 max_text 0) (guard b (answer 2 2 max_text 0) x)) call_count
      go false b x n = refl
      go true false x n = refl
      go true true (pass c) n = absurd (n refl)
      go true true (stop r) n = refl

  -- ---- an accepted document

  module _ (hs : List Header) (d : Document) (r : order_serves l ≡ true) (a : AcceptedList list hs) (b : AcceptedDocument hs doc d) where
    -- the faults of the order decide
    pub answered : (o : Option Fault) → first (order_faults (needs d.calls) ks) ≡ o
        → order_answer list doc l ks ≡ stage_answer (rules_stage 0 (record { headers = hs; document = d }) o) call_count
    unfolding order_answer judged order_stages order_stage
    answered o e =
        ap (λ (s : Stage Checked). stage_answer s call_count)
        (guarded-good (order_serves l) list doc (order_stages list doc ks) r a.short b.short
        ∙ ap (λ (s : Stage Checked). and_then s (λ k. order_stage k ks)) (both-pass list doc hs a d b)
        ∙ ap (rules_stage 0 (record { headers = hs; document = d })) e)

    -- an order is answered 0, 0, 0 and the number of calls exactly when every call stands once in it, and each use after its assigning call
    pub order-exactly : (order_answer list doc l ks ≡ answer Code.accepted 0 0 (length d.calls)) ↔ InOrder (needs d.calls) ks
    unfolding first
    order-exactly = (to, λ (o : InOrder (needs d.calls) ks). answered nothing (ap first ((no-fault (needs d.calls) ks).1 o)))
      where
        to : order_answer list doc l ks ≡ answer Code.accepted 0 0 (length d.calls) → InOrder (needs d.calls) ks
        to e = go (first (order_faults (needs d.calls) ks)) refl
          where
            go : (o : Option Fault) → first (order_faults (needs d.calls) ks) ≡ o → InOrder (needs d.calls) ks
            go nothing q = (no-fault (needs d.calls) ks).0 (first-none (order_faults (needs d.calls) ks) q)
            go (some x) q =
                let c = order-faults-codes (needs d.calls) ks x (first-is (order_faults (needs d.calls) ks) x q).member in
                let z : x.code ≡ Code.accepted = ap (λ (w : Answer). w.code) (sym (answered (some x) q) ∙ e) in
                absurd (omega (arith, c, z))

    -- any other with the first place at fault, and the smallest code there; and so answered is no other order
    pub order-fault : (p c : ℕ) → 0 < c → (order_answer list doc l ks ≡ answer c 0 p 0) ↔ FirstAtFault (needs d.calls) ks p c
    order-fault p c h = (to, from)
      where
        ns : List (List ℕ)
        ns = needs d.calls

        to : order_answer list doc l ks ≡ answer c 0 p 0 → FirstAtFault ns ks p c
        to e = go (first (order_faults ns ks)) refl
          where
            same : (x : Fault) → first (order_faults ns ks) ≡ some x → answer x.code 0 x.at x.detail ≡ answer c 0 p 0 → x ≡ fault c p
            same x q z =
                let u : x.code ≡ c = ap (λ (w : Answer). w.code) z in
                let v : x.at ≡ p = ap (λ (w : Answer). w.position) z in
                let y : x.detail ≡ 0 = ap (λ (w : Answer). w.detail) z in
                λ i. record { at = v i; code = u i; detail = y i }

            go : (o : Option Fault) → first (order_faults ns ks) ≡ o → FirstAtFault ns ks p c
            go nothing q =
                let z : Code.accepted ≡ c = ap (λ (w : Answer). w.code) (sym (answered nothing q) ∙ e) in
                absurd (omega (arith, z, h))
            go (some x) q =
                let z = same x q (sym (answered (some x) q) ∙ e) in
                (first-place ns ks p c).0 ((first-fault (order_faults ns ks) (fault c p)).0 (q ∙ ap (λ (y : Fault). some y) z))

        from : FirstAtFault ns ks p c → order_answer list doc l ks ≡ answer c 0 p 0
        from f = answered (some (fault c p)) ((first-fault (order_faults ns ks) (fault c p)).1 ((first-place ns ks p c).1 f))

  -- code 0 is answered to no other order, and to no other texts
  pub order-accepted : (order_answer list doc l ks).code ≡ Code.accepted
      → (hs : List Header) × ((d : Document) × (AcceptedList list hs × (AcceptedDocument hs doc d × InOrder (needs d.calls) ks)))
  unfolding order_answer judged order_stages order_stage
  order-accepted e =
      let t = order_stages list doc ks in
      let x = answer-passed (guarded (order_serves l) list doc t) call_count (guarded-codes (order_serves l) list doc t (order-codes list doc ks)) e in
      let y = guarded-passed (order_serves l) list doc t x.0 x.1 in
      go (both_stages list doc) refl y.1.0 y.1.1.0 y.1.1.1
    where
      inner : (k c : Checked) (o : Option Fault) → first (order_faults (needs k.document.calls) ks) ≡ o → rules_stage 0 k o ≡ pass c
          → InOrder (needs k.document.calls) ks
      inner k c nothing q z = (no-fault (needs k.document.calls) ks).0 (first-none (order_faults (needs k.document.calls) ks) q)
      inner k c (some f) q z = let w : ◌≡◌ {A = ℕ} 0 1 = cc in absurd (omega arith)

      go : {c : Checked} (s : Stage Checked) → both_stages list doc ≡ s → length list ≤ max_text → length doc ≤ max_text
          → and_then s (λ k. rules_stage 0 k (first (order_faults (needs k.document.calls) ks))) ≡ pass c
          → (hs : List Header) × ((d : Document) × (AcceptedList list hs × (AcceptedDocument hs doc d × InOrder (needs d.calls) ks)))
      go (stop r) q a b z = let w : ◌≡◌ {A = ℕ} 0 1 = cc in absurd (omega arith)
      go {c} (pass k) q a b z =
          let v = both-passed list doc k a b q in
          (k.headers, (k.document, (v.0, (v.1, inner k c (first (order_faults (needs k.document.calls) ks)) refl z))))
