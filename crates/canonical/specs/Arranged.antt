-- Calls in another order: lists and plans arranged by an order, the text of a call, and how the wires of the arranged document stand to
-- those of the one that it was made from.
use Rattle.std.specs.Prelude.{ℕ, ◌≡◌, List, [], ◌∷◌, ◌++◌, map, take, drop, get_or}
use Rattle.syntax.specs.Tree.{Header, Call}
use Rattle.lists.specs.Names.{assigned, used}
use Rattle.writing.specs.Plan.{PlanCall, Plan, spellings}
use Rattle.writing.specs.Pieces.{text}
use Rattle.writing.specs.Layout.{call_pieces}
use Rattle.orders.specs.Order.{needs}

-- the items at these places of a list, in this order
unfoldable pub arranged : {A : Type 0} → List ℕ → List A → List A
arranged [] xs = []
arranged (k ∷ ks) xs = take 1 (drop k xs) ++ arranged ks xs

-- a plan with other calls, and with its own calls so arranged
abbrev pub with_calls : Plan → List PlanCall → Plan
with_calls p cs = record { graph = p.graph; inputs = p.inputs; outputs = p.outputs; calls = cs }

abbrev pub arranged_plan : List ℕ → Plan → Plan
arranged_plan ks p = with_calls p (arranged ks p.calls)

-- the text of a call: its line in the canonical text
unfoldable pub call_text : List Header → PlanCall → List ℕ
call_text hs c = text (call_pieces hs c [])

-- The calls cs' are the calls cs, so arranged: they assign and use the same identifiers, and the wire of each use leads to the call that
-- assigned its identifier, at its new number (the call at place m of the order is the call of number `get_or ks m 0` before).
pub record Rewired (ks : List ℕ) (cs cs' : List Call) : Type 0 where
  pub assigns : map (λ (c : Call). spellings (assigned c)) cs' ≡ arranged ks (map (λ (c : Call). spellings (assigned c)) cs)
  pub uses : map (λ (c : Call). spellings (used c)) cs' ≡ arranged ks (map (λ (c : Call). spellings (used c)) cs)
  pub wires : map (map (λ (m : ℕ). get_or ks m 0)) (needs cs') ≡ arranged ks (needs cs)
