-- Calls in another order. The canonical text of a plan is a head, a line for each call and an end, and an arranged plan has the same lines,
-- arranged (`text-by-calls` of `CallLines`, `text-arranged`); it keeps the limits (`arranged-keeps`). An order that is in order for a document
-- leaves its plan lawful, and the arranged text is accepted with the arranged plan (`arranged-lawful`, `arranged-accepted`); its wires are those
-- of before (`arranged-wires`). And where the arranged text is accepted, the order is in order (`accepted-in-order`).
use mathlib.Core.Path.{◌≡◌, refl, sym, ap, ap₂, subst, subst₂, ◌∙◌}
use mathlib.Core.List.Memᴰ
use mathlib.Core.List.{List, [], ◌∷◌, ◌++◌, map, flatten, Memᴰ}
use mathlib.Core.Logic.{◌↔◌, ◌⊎◌, inl, inr}
use mathlib.Core.Bool.{true}
use mathlib.Core.Option.{Option, some}
use mathlib.Core.Option.{none as nothing}
use Prim.Native.Nat.{ℕ}
use native.Mathlib.Omega.{arith}
use lib.ListN.{length, get_or, length-map}
use Rattle.lexis.specs.Ascii.{ascii}
use Rattle.lexis.specs.Answer.{answer}
use Rattle.lexis.specs.Lexer.{Token}
use Rattle.syntax.specs.Tree.{Header, Call, Document}
use Rattle.lists.specs.Fault.{Fault, fault, faults, starts, first, IsFirst}
use Rattle.lists.specs.Names.{assigned, used}
use Rattle.lists.specs.Accepted.{AcceptedList}
use Rattle.lists.proofs.First.{first-none, first-is}
use Rattle.documents.specs.Code as Code
use Rattle.documents.specs.Wiring.{strangers, unwired_after, unwired}
use Rattle.documents.specs.Answer.{CheckRoom, check_serves, check_answer}
use Rattle.documents.proofs.Theorems.{document-rules, check-refuses}
use Rattle.writing.specs.Plan.{Plan}
use Rattle.writing.specs.Pieces.{Piece, tokens_at}
use Rattle.writing.specs.Layout.{document_pieces, canonical}
use Rattle.writing.specs.Lawful.{times, Among, Distinct, assigns, uses, all_assigns, all_uses, LawfulParts, WiredInOrder, Lawful}
use Rattle.orders.specs.Order.{needs}
use Rattle.orders.specs.InOrder.{Permutation, InOrder}
use Rattle.orders.proofs.Permutations.{permuted-below}
use Rattle.canonical.specs.Demand.{HasPlan, Keeps}
use Rattle.canonical.specs.Arranged.{arranged, arranged_plan, call_text, Rewired}
use Rattle.writing.proofs.Fit.{PlanFits}
use Rattle.canonical.proofs.Shape.{CanonDocument}
use Rattle.canonical.proofs.CanonicalTokens.{lex-canonical}
use Rattle.canonical.proofs.RereadDocument.{document-back}
use Rattle.canonical.proofs.PlanNames.{times-append}
use Rattle.canonical.proofs.LawfulFits.{lawful-fits}
use Rattle.canonical.proofs.LawfulRules.{parts-clean, wires-clean}
use Rattle.canonical.proofs.Lawful.{lawful-plan, lawful-accepted, canonical-tree}
use Rattle.canonical.proofs.Arrangement.{flatten-map, arranged-map, arranged-member, arranged-length, Additive, arranged-count, length-additive}
use Rattle.canonical.proofs.Arrangement.{length-between}
use Rattle.canonical.proofs.CallLines.{line_pieces, head_pieces, end_pieces, pieces-by-calls, text-by-calls}
use Rattle.canonical.proofs.RowWires.{among-member, maker, assigned_rows, used_rows, row_needs, needs-rows, needed-at, RowsWired, ordered-wired}
use Rattle.canonical.proofs.RowWires.{wired-ordered, wires-kept}
use Rattle.canonical.proofs.PlanRows.{rows-assign, wired-rows, rows-wired, canon-assigned, canon-used}
use Rattle.canonical.proofs.OnePlan.{needs-plan, needs-counted, in-order-alike}

-- ---- texts

-- the lines of an arranged plan are those of the plan, arranged, between the same head and end
pub text-arranged : (hs : List Header) (p : Plan)
    → (head : List ℕ)
    × ((canonical hs p ≡ head ++ (flatten (map (call_text hs) p.calls) ++ ascii "}\n"))
    × ((ks : List ℕ) → canonical hs (arranged_plan ks p) ≡ head ++ (flatten (arranged ks (map (call_text hs) p.calls)) ++ ascii "}\n")))
text-arranged hs p =
    let t = text-by-calls hs p in
    let within : List ℕ → List ℕ = λ s. t.0 ++ (s ++ ascii "}\n") in (
      t.0,
      (
        t.1 p.calls ∙ ap within (sym (flatten-map (call_text hs) p.calls)),
        λ ks. t.1 (arranged ks p.calls)
            ∙ ap within (sym (flatten-map (call_text hs) (arranged ks p.calls)) ∙ ap flatten (arranged-map (call_text hs) ks p.calls)),
      ),
    )

-- as many bytes and tokens
pub arranged-keeps : (hs : List Header) (p : Plan) (ks : List ℕ) → Permutation (length p.calls) ks → Keeps hs p → Keeps hs (arranged_plan ks p)
arranged-keeps hs p ks o k =
    let cs = p.calls in
    let t = text-by-calls hs p in
    let bytes : length (canonical hs (arranged_plan ks p)) ≡ length (canonical hs p) =
    ap (λ (s : List ℕ). length s) (t.1 (arranged ks cs))
    ∙ length-between (call_text hs) t.0 (ascii "}\n") ks cs o
    ∙ sym (ap (λ (s : List ℕ). length s) (t.1 cs)) in
    let tokens : length (document_pieces hs (arranged_plan ks p)) ≡ length (document_pieces hs p) =
    ap (λ (ps : List Piece). length ps) (pieces-by-calls hs p (arranged ks cs))
    ∙ length-between (line_pieces hs) (head_pieces p) end_pieces ks cs o
    ∙ sym (ap (λ (ps : List Piece). length ps) (pieces-by-calls hs p cs)) in
    record { bytes = omega (arith, k.bytes); tokens = omega (arith, k.tokens) }

-- ---- lawful plans

times-additive : (w : List ℕ) → Additive (times w)
unfolding times
times-additive w = record { none = refl; both = times-append w }

module _ (p : Plan) (ks : List ℕ) (o : Permutation (length p.calls) ks) where
  rows-permuted : Permutation (length (map assigns p.calls)) ks
  rows-permuted = subst (λ (n : ℕ). Permutation n ks) (sym (length-map p.calls assigns)) o

  as-many-rows : length (map uses p.calls) ≡ length (map assigns p.calls)
  as-many-rows = length-map p.calls uses ∙ sym (length-map p.calls assigns)

  assigned-as-often : (w : List ℕ) → times w (all_assigns (arranged ks p.calls)) ≡ times w (all_assigns p.calls)
  unfolding all_assigns
  assigned-as-often w = arranged-count (times w) (times-additive w) assigns p.calls ks o

  assigned-as-many : length (all_assigns (arranged ks p.calls)) ≡ length (all_assigns p.calls)
  unfolding all_assigns
  assigned-as-many = arranged-count length length-additive assigns p.calls ks o

  used-as-many : length (all_uses (arranged ks p.calls)) ≡ length (all_uses p.calls)
  unfolding all_uses
  used-as-many = arranged-count length length-additive uses p.calls ks o

  calls-as-many : length (arranged ks p.calls) ≡ length p.calls
  calls-as-many = arranged-length ks p.calls (permuted-below (length p.calls) ks o) ∙ o.count

  -- the wires of an arranged plan, by its rows
  abbrev Kept : Type 0
  Kept = RowsWired (arranged ks (map assigns p.calls)) (arranged ks (map uses p.calls))

  wired-kept : WiredInOrder (arranged ks p.calls) → Kept
  wired-kept h =
      subst₂ RowsWired (arranged-map assigns ks p.calls) (arranged-map uses ks p.calls) (wired-rows (arranged ks p.calls) h)

  kept-wired : Kept → WiredInOrder (arranged ks p.calls)
  kept-wired h =
      rows-wired (arranged ks p.calls)
      (subst₂ RowsWired (sym (arranged-map assigns ks p.calls)) (sym (arranged-map uses ks p.calls)) h)

  arranged-parts : {hs : List Header} → LawfulParts hs p → LawfulParts hs (arranged_plan ks p)
  arranged-parts k = record {
    graph = k.graph;
    inputs = k.inputs;
    outputs = k.outputs;
    some-call = omega (arith, k.some-call, calls-as-many);
    calls = λ c m. k.calls c (arranged-member ks p.calls m);
    few-inputs = k.few-inputs;
    few-outputs = k.few-outputs;
    few-calls = omega (arith, k.few-calls, calls-as-many);
    few-assigned = omega (arith, k.few-assigned, assigned-as-many);
    few-used = omega (arith, k.few-used, used-as-many);
    header-distinct = k.header-distinct;
    assigned-once = λ w. omega (arith, k.assigned-once w, assigned-as-often w);
    fed = λ w a. omega (arith, k.fed w a, assigned-as-often w);
    external = λ c m. k.external c (arranged-member ks p.calls m);
    made = λ w a. omega (arith, k.made w a, assigned-as-often w);
  }

-- an order that is in order for a document leaves its plan lawful
module _ (list doc : List ℕ) (hs : List Header) (p : Plan) (ks : List ℕ) (l : AcceptedList list hs) (h : HasPlan hs doc p)
    (o : InOrder (needs h.tree.calls) ks) where
  abbrev cs : List Call
  cs = h.tree.calls

  needed : (k : ℕ) (w : List ℕ) → Among w (get_or (map uses p.calls) k []) → Memᴰ (maker (map assigns p.calls) w) (get_or (needs cs) k [])
  needed k w a =
      let makes = map assigns p.calls in
      let us = map uses p.calls in
      (needs-plan list doc hs p l h k (maker makes w)).1
      (subst (Memᴰ (maker makes w)) (sym (needed-at makes us k)) (Memᴰ.map (maker makes) (among-member w (get_or us k []) a)))

  order-permutes : Permutation (length p.calls) ks
  order-permutes = subst (λ (n : ℕ). Permutation n ks) (needs-counted list doc hs p l h) o.every

  pub arranged-lawful : Lawful hs (arranged_plan ks p)
  arranged-lawful =
      let k = lawful-plan list doc hs p l h in
      let w = ordered-wired (map assigns p.calls) (map uses p.calls) ks (rows-permuted p ks order-permutes) (as-many-rows p ks order-permutes)
      (wired-rows p.calls k.wired) (needs cs) needed o in
      record { parts = arranged-parts p ks order-permutes k.parts; wired = kept-wired p ks order-permutes w }

  -- and the arranged text is accepted, with the arranged plan
  pub arranged-accepted : Keeps hs p → HasPlan hs (canonical hs (arranged_plan ks p)) (arranged_plan ks p)
  arranged-accepted k = lawful-accepted list hs (arranged_plan ks p) l (arranged-keeps hs p ks order-permutes k) arranged-lawful

-- ---- canonical texts

module _ (list : List ℕ) (hs : List Header) (p : Plan) (ks : List ℕ) (l : AcceptedList list hs) (o : Permutation (length p.calls) ks)
    (g : HasPlan hs (canonical hs p) p) (g' : HasPlan hs (canonical hs (arranged_plan ks p)) (arranged_plan ks p)) where
  makes-are : assigned_rows g.tree.calls ≡ map assigns p.calls
  makes-are = canon-assigned (canonical-tree list hs p l g).calls

  uses-are : used_rows g.tree.calls ≡ map uses p.calls
  uses-are = canon-used (canonical-tree list hs p l g).calls

  makes-arranged : assigned_rows g'.tree.calls ≡ arranged ks (map assigns p.calls)
  makes-arranged = canon-assigned (canonical-tree list hs (arranged_plan ks p) l g').calls ∙ arranged-map assigns ks p.calls

  uses-arranged : used_rows g'.tree.calls ≡ arranged ks (map uses p.calls)
  uses-arranged = canon-used (canonical-tree list hs (arranged_plan ks p) l g').calls ∙ arranged-map uses ks p.calls

  distinct-rows : Distinct (flatten (map assigns p.calls))
  distinct-rows = subst Distinct (sym (rows-assign p.calls)) (lawful-plan list (canonical hs p) hs p l g).parts.assigned-once

  kept-rows : Kept p ks o
  kept-rows = wired-kept p ks o (lawful-plan list (canonical hs (arranged_plan ks p)) hs (arranged_plan ks p) l g').wired

  needs-are : needs g.tree.calls ≡ row_needs (map assigns p.calls) (map uses p.calls)
  needs-are = needs-rows g.tree.calls ∙ ap₂ row_needs makes-are uses-are

  -- the wires of the arranged text
  pub arranged-wires : Rewired ks g.tree.calls g'.tree.calls
  arranged-wires = record {
    assigns = makes-arranged ∙ ap (arranged ks) (sym makes-are);
    uses = uses-arranged ∙ ap (arranged ks) (sym uses-are);
    wires =
        ap (map (map (λ (m : ℕ). get_or ks m 0))) (needs-rows g'.tree.calls ∙ ap₂ row_needs makes-arranged uses-arranged)
        ∙ wires-kept (map assigns p.calls) (map uses p.calls) ks (rows-permuted p ks o) (as-many-rows p ks o) distinct-rows kept-rows
        ∙ ap (arranged ks) (sym needs-are);
  }

  -- the arranged text is accepted only under an order that is in order
  pub accepted-in-order : InOrder (needs g.tree.calls) ks
  accepted-in-order =
      subst (λ (ns : List (List ℕ)). InOrder ns ks) (sym needs-are)
      (wired-ordered (map assigns p.calls) (map uses p.calls) ks (rows-permuted p ks o) (as-many-rows p ks o) distinct-rows kept-rows)

-- ---- any document of the plan

-- a fault of the wires has code 22
unwired-fault : (known : List Token) (cs : List Call) (x : Fault) → Memᴰ x (unwired_after known cs) → x ≡ fault Code.unassigned_use x.at
unfolding unwired_after
unwired-fault known [] x m = elim m [ ]
unwired-fault known (c ∷ cs) x m =
    go (Memᴰ.append_cases (faults Code.unassigned_use (starts (strangers known (used c)))) m) (unwired-fault (known ++ assigned c) cs x)
  where
    go : Memᴰ x (faults Code.unassigned_use (starts (strangers known (used c)))) ⊎ Memᴰ x (unwired_after (known ++ assigned c) cs)
        → (Memᴰ x (unwired_after (known ++ assigned c) cs) → x ≡ fault Code.unassigned_use x.at) → x ≡ fault Code.unassigned_use x.at
    go (inl a) r =
        let y = Memᴰ.of_map (fault Code.unassigned_use) (starts (strangers known (used c))) a in
        sym y.2 ∙ ap (fault Code.unassigned_use) (ap (λ (z : Fault). z.at) y.2)
    go (inr a) r = r a

module _ (list doc : List ℕ) (hs : List Header) (p : Plan) (ks : List ℕ) (l : AcceptedList list hs) (h : HasPlan hs doc p) (k : Keeps hs p) where
  -- an order is in order exactly where it is a permutation and the arranged text is accepted
  pub arranged-exactly : InOrder (needs h.tree.calls) ks
      ↔ (Permutation (length p.calls) ks × HasPlan hs (canonical hs (arranged_plan ks p)) (arranged_plan ks p))
  arranged-exactly = (
    λ (o : InOrder (needs h.tree.calls) ks). (order-permutes list doc hs p ks l h o, arranged-accepted list doc hs p ks l h o k),
    λ (x : Permutation (length p.calls) ks × HasPlan hs (canonical hs (arranged_plan ks p)) (arranged_plan ks p)).
        let g = lawful-accepted list hs p l k (lawful-plan list doc hs p l h) in
        in-order-alike list (canonical hs p) doc hs p l g h ks (accepted-in-order list hs p ks l x.0 g x.1),
  )

  -- under a permutation that is not in order, check refuses the arranged text: an identifier is used before it is assigned
  pub arranged-refused : Permutation (length p.calls) ks → (InOrder (needs h.tree.calls) ks → ⊥) → (r : CheckRoom) → check_serves r ≡ true
      → (place : ℕ) × (check_answer list (canonical hs (arranged_plan ks p)) r ≡ answer Code.unassigned_use 2 place 0)
  arranged-refused o n r s = go (first (unwired tree)) refl
    where
      q : Plan
      q = arranged_plan ks p

      parts : LawfulParts hs q
      parts = arranged-parts p ks o (lawful-plan list doc hs p l h).parts

      kept : Keeps hs q
      kept = arranged-keeps hs p ks o k

      fits : PlanFits hs q
      fits = lawful-fits list hs q l parts

      tree : Document
      tree = (document-back hs q fits).0

      shape : CanonDocument hs q tree
      shape = (document-back hs q fits).1.1

      go : (f : Option Fault) → first (unwired tree) ≡ f
          → (place : ℕ) × (check_answer list (canonical hs q) r ≡ answer Code.unassigned_use 2 place 0)
      go nothing e =
          let w = (wires-clean shape).0 (first-none (unwired tree) e) in
          let a = lawful-accepted list hs q l kept (record { parts = parts; wired = w }) in
          absurd (n (arranged-exactly.1 (o, a)))
      go (some x) e =
          let c = parts-clean shape parts in
          let f = subst (IsFirst x) (sym c) (first-is (unwired tree) x e) in
          let t = document-rules list (canonical hs q) hs l (tokens_at 0 (document_pieces hs q)) tree x (lex-canonical hs q fits kept.tokens)
          (document-back hs q fits).1.0 f in
          let y = unwired-fault [] tree.calls x (first-is (unwired tree) x e).member in (
            x.at,
            check-refuses list (canonical hs q) r _ s l.short kept.bytes t
                ∙ ap (λ (z : Fault). answer z.code 2 x.at z.detail) y,
          )
