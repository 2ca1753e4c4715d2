-- What `order` answers: the stages of both texts, as `check` has them, then that of the order.
use Rattle.std.specs.Prelude.{ℕ, Bool, List, length}
use Rattle.lexis.specs.declared.Answer.{Answer}
use Rattle.lists.specs.Fault.{first}
use Rattle.lists.specs.Answer.{Stage, and_then, guarded, rules_stage, stage_answer}
use Rattle.documents.specs.Answer.{areas_serve, Checked, both_stages, call_count}
use Rattle.orders.specs.Order.{needs, order_faults}

-- the stage of an order of these calls; its faults name no text
unfoldable pub order_stage : Checked → List ℕ → Stage Checked
order_stage k ks = rules_stage 0 k (first (order_faults (needs k.document.calls) ks))

-- the stages of both texts, then this
unfoldable pub order_stages : List ℕ → List ℕ → List ℕ → Stage Checked
order_stages list doc ks = and_then (both_stages list doc) (λ k. order_stage k ks)

-- ---- order: from both texts, the lengths of both work areas, and the order

-- the lengths of both work areas
pub record OrderRoom : Type 0 where
  pub work₁ : ℕ
  pub work₂ : ℕ

abbrev pub order_room : List ℕ → List ℕ → OrderRoom
order_room work₁ work₂ = record { work₁ = length work₁; work₂ = length work₂ }

-- the room that order asks; the order may have any length
abbrev pub order_serves : OrderRoom → Bool
order_serves l = areas_serve l.work₁ l.work₂

unfoldable pub judged : List ℕ → List ℕ → OrderRoom → List ℕ → Stage Checked
judged list doc l ks = guarded (order_serves l) list doc (order_stages list doc ks)

-- acceptance counts calls
unfoldable pub order_answer : List ℕ → List ℕ → OrderRoom → List ℕ → Answer
order_answer list doc l ks = stage_answer (judged list doc l ks) call_count
