-- What a document's calls need is decided by its plan: the calls assign the same identifiers and use the same ones, whatever the arguments'
-- order and form. So documents of one plan are in order under the same orders, and `order` answers them alike.
-- In order: rows of a document; its needs; orders; the operation.
use mathlib.Core.Path.{◌≡◌, refl, sym, ap, subst, ◌∙◌}
use mathlib.Core.List.Memᴰ
use mathlib.Core.List.{List, [], map, Memᴰ}
use mathlib.Core.Logic.{◌↔◌}
use mathlib.Core.Bool.{true}
use mathlib.Core.Option.{Option, some}
use mathlib.Core.Option.{none as nothing}
use Prim.Native.Nat.{ℕ, zero, suc}
use native.Mathlib.Nat.{not-suc-le-zero}
use lib.ListN.{length, get_or, length-map}
use Rattle.lexis.specs.Answer.{answer}
use Rattle.syntax.specs.Tree.{Header, Call}
use Rattle.lists.specs.Fault.{Fault, first}
use Rattle.lists.specs.Names.{used}
use Rattle.lists.specs.Answer.{rules_stage, stage_answer}
use Rattle.lists.specs.Accepted.{AcceptedList}
use Rattle.documents.specs.Answer.{Checked, call_count}
use Rattle.documents.specs.DocumentRules.{argument_faults, document_faults}
use Rattle.writing.specs.Plan.{PlanCall, Plan, spellings}
use Rattle.writing.specs.Lawful.{times, Among, AllAmong, assigns, uses}
use Rattle.writing.proofs.Good.{Each}
use Rattle.writing.proofs.PlanExists.{row-none, flat-none}
use Rattle.writing.proofs.Planned.{Planned, AllPlanned, none-planned, more-planned, planned-document}
use Rattle.orders.specs.Order.{needs, order_faults}
use Rattle.orders.specs.Answer.{OrderRoom, order_serves, order_answer}
use Rattle.orders.specs.InOrder.{InOrder}
use Rattle.orders.proofs.InOrder.{faults-same, no-fault}
use Rattle.orders.proofs.Judged.{needs-length}
use Rattle.orders.proofs.Theorems.{answered}
use Rattle.canonical.specs.Demand.{HasPlan}
use Rattle.canonical.proofs.Shape.{CanonCalls}
use Rattle.canonical.proofs.BoundUses.{uses-within}
use Rattle.canonical.proofs.Alike.{Alike, document-alike}
use Rattle.canonical.proofs.PlanNames.{within-among}
use Rattle.canonical.proofs.Lawful.{lawful-plan, lawful-tree}
use Rattle.canonical.proofs.RowWires.{Rows, among-member, member-among, maker, assigned_rows, used_rows, row_needs, needs-rows, needed-at}
use Rattle.canonical.proofs.PlanRows.{canon-assigned, canon-used, alike-assigned, alike-used}

-- ---- rows of a document

-- a call without argument faults uses no other identifiers than its plan's call
call-used : {hs : List Header} {c : Call} {q : PlanCall} → Planned hs c q → argument_faults hs c ≡ [] → AllAmong (spellings (used c)) (uses q)
unfolding argument_faults used uses
call-used {c = c} {q} d f =
    let r = row-none _ (rw d.found at f) in
    within-among _ _ (uses-within d.header.params c.args r.0 r.1.0 d.values)

calls-used : {hs : List Header} {cs : List Call} {qs : List PlanCall} → AllPlanned hs cs qs → Each (λ (c : Call). argument_faults hs c ≡ []) cs → (k : ℕ)
    → AllAmong (get_or (used_rows cs) k []) (get_or (map uses qs) k [])
unfolding times
calls-used none-planned f k w a = absurd (not-suc-le-zero a)
calls-used (more-planned d ds) f zero w a = call-used d f.0 w a
calls-used (more-planned d ds) f (suc k) w a = calls-used ds f.1 k w a

module _ (list doc : List ℕ) (hs : List Header) (p : Plan) (l : AcceptedList list hs) (h : HasPlan hs doc p) where
  abbrev cs : List Call
  cs = h.tree.calls

  -- beside them those of the tree of the plan's canonical text: they assign the same, and use no more
  alike : (ts : List Call) × (Alike cs ts × CanonCalls hs p.calls ts)
  alike =
      let x = lawful-tree list hs p l (lawful-plan list doc hs p l h) in
      (x.0.calls, ((document-alike hs h.tree x.0 l.spelt h.planned x.1.1.0).calls, x.1.1.0.calls))

  assigned-rows : assigned_rows cs ≡ map assigns p.calls
  assigned-rows = alike-assigned alike.1.0 ∙ canon-assigned alike.1.1

  used-more : (k : ℕ) → AllAmong (get_or (map uses p.calls) k []) (get_or (used_rows cs) k [])
  used-more k w a = alike-used alike.1.0 k w (subst (λ (rows : Rows). Among w (get_or rows k [])) (sym (canon-used alike.1.1)) a)

  used-less : (k : ℕ) → AllAmong (get_or (used_rows cs) k []) (get_or (map uses p.calls) k [])
  unfolding document_faults
  used-less =
      let f = (row-none _ h.accepted.lawful).1.1.1.1.0 in
      calls-used (planned-document hs h.tree h.planned).calls (flat-none (argument_faults hs) cs f)

  -- ---- its needs

  -- the needs of a plan's calls
  abbrev plan_needs : List (List ℕ)
  plan_needs = row_needs (map assigns p.calls) (map uses p.calls)

  rows-needed : (k : ℕ) → get_or (needs cs) k [] ≡ map (maker (map assigns p.calls)) (get_or (used_rows cs) k [])
  rows-needed k =
      ap (λ (ns : List (List ℕ)). get_or ns k []) (needs-rows cs ∙ ap (λ (rows : Rows). row_needs rows (used_rows cs)) assigned-rows)
      ∙ needed-at (map assigns p.calls) (used_rows cs) k

  pub needs-plan : (k m : ℕ) → Memᴰ m (get_or (needs cs) k []) ↔ Memᴰ m (get_or plan_needs k [])
  needs-plan k m =
      let vs = get_or (used_rows cs) k [] in
      let ws = get_or (map uses p.calls) k [] in
      rw (rows-needed k, needed-at makes (map uses p.calls) k) (moved vs ws (used-less k), moved ws vs (used-more k))
    where
      makes : Rows
      makes = map assigns p.calls

      moved : (vs ws : List (List ℕ)) → AllAmong vs ws → Memᴰ m (map (maker makes) vs) → Memᴰ m (map (maker makes) ws)
      moved vs ws f n =
          let x = Memᴰ.of_map (maker makes) vs n in
          subst (λ (j : ℕ). Memᴰ j (map (maker makes) ws)) x.2
          (Memᴰ.map (maker makes) (among-member x.0 ws (f x.0 (member-among x.0 vs x.1))))

  pub needs-counted : length (needs cs) ≡ length p.calls
  needs-counted = needs-length cs ∙ sym (length-map cs _) ∙ ap (λ (rows : Rows). length rows) assigned-rows ∙ length-map p.calls assigns

  -- its orders have the faults that they have for the plan
  faults-plan : (ks : List ℕ) → order_faults (needs cs) ks ≡ order_faults plan_needs ks
  faults-plan =
      faults-same (needs cs) plan_needs (needs-counted ∙ sym (length-map (map uses p.calls) _ ∙ length-map p.calls uses)) needs-plan

-- ---- documents of one plan

module _ (list doc₁ doc₂ : List ℕ) (hs : List Header) (p : Plan) (l : AcceptedList list hs) (h : HasPlan hs doc₁ p) (g : HasPlan hs doc₂ p) (ks : List ℕ) where
  faults-alike : order_faults (needs h.tree.calls) ks ≡ order_faults (needs g.tree.calls) ks
  faults-alike = faults-plan list doc₁ hs p l h ks ∙ sym (faults-plan list doc₂ hs p l g ks)

  pub in-order-alike : InOrder (needs h.tree.calls) ks → InOrder (needs g.tree.calls) ks
  in-order-alike o = (no-fault (needs g.tree.calls) ks).0 (sym faults-alike ∙ (no-fault (needs h.tree.calls) ks).1 o)

  -- `order` answers them alike
  pub order_alike : (r s : OrderRoom) → order_serves r ≡ true → order_serves s ≡ true → order_answer list doc₁ r ks ≡ order_answer list doc₂ s ks
  order_alike r s a b =
      answered list doc₁ r ks hs h.tree a l h.accepted (first (order_faults (needs h.tree.calls) ks)) refl
      ∙ ap (λ (o : Option Fault). stage_answer (rules_stage 0 one o) call_count) (ap first faults-alike)
      ∙ counted (first (order_faults (needs g.tree.calls) ks))
      ∙ sym (answered list doc₂ s ks hs g.tree b l g.accepted (first (order_faults (needs g.tree.calls) ks)) refl)
    where
      one : Checked
      one = record { headers = hs; document = h.tree }

      two : Checked
      two = record { headers = hs; document = g.tree }

      as_many : call_count one ≡ call_count two
      as_many =
          sym (needs-length h.tree.calls)
          ∙ needs-counted list doc₁ hs p l h
          ∙ sym (needs-counted list doc₂ hs p l g)
          ∙ needs-length g.tree.calls

      counted : (o : Option Fault) → stage_answer (rules_stage 0 one o) call_count ≡ stage_answer (rules_stage 0 two o) call_count
      counted nothing = ap (λ (n : ℕ). answer 0 0 0 n) as_many
      counted (some x) = refl
