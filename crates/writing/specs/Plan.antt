-- The plan of a document: what it says, free of places and of spelling. Two plans are equal when all of this is equal, in its order.
use Rattle.std.specs.Prelude.{ℕ, List, [], ◌∷◌, map}
use Rattle.std.proofs.Math.Option.{Option, some}
use Rattle.lexis.specs.Lexer.{Token}
use Rattle.syntax.specs.Tree.{Header, Call, Document}
use Rattle.lists.specs.Reading.{Val, bind, read_at, result_type}
use Rattle.lists.specs.Found.{find}
use Rattle.documents.specs.Binding.{Slot, or_else, slots}

-- A call: the operation's name, the left pattern, and the value of every parameter in declared order.
pub record PlanCall : Type 0 where
  pub op : List ℕ
  pub left : Val
  pub values : List Val

-- A plan: the names of the graph, of its inputs and of its outputs, and the calls in order.
pub record Plan : Type 0 where
  pub graph : List ℕ
  pub inputs : List (List ℕ)
  pub outputs : List (List ℕ)
  pub calls : List PlanCall

-- the value of a parameter: the one bound to it, else its default, read at the parameter's type
unfoldable pub value_for : Slot → Option Val
value_for s = bind (or_else s.value s.param.default) (λ v. read_at v s.param.ty)

unfoldable pub values_for : List Slot → Option (List Val)
values_for [] = some []
values_for (s ∷ ss) = bind (value_for s) (λ v. bind (values_for ss) (λ vs. some (v ∷ vs)))

-- a call's left side is read at the type of the results, where a bare and a bracketed top tuple are one pattern
unfoldable pub plan_call : List Header → Call → Option PlanCall
plan_call hs c =
    bind (find hs c.op) (λ h.
    bind (read_at c.left (result_type h.results)) (λ l.
    bind (values_for (slots h.params c.args)) (λ vs.
    some (record { op = c.op.bytes; left = l; values = vs }))))

unfoldable pub plan_calls : List Header → List Call → Option (List PlanCall)
plan_calls hs [] = some []
plan_calls hs (c ∷ cs) = bind (plan_call hs c) (λ p. bind (plan_calls hs cs) (λ ps. some (p ∷ ps)))

-- the bytes of names
abbrev pub spellings : List Token → List (List ℕ)
spellings ts = map (λ (t : Token). t.bytes) ts

-- the plan of a document under an operation list; an accepted document has one
unfoldable pub plan_of : List Header → Document → Option Plan
plan_of hs d =
    bind (plan_calls hs d.calls) (λ cs.
    some (record { graph = d.graph.bytes; inputs = spellings d.inputs; outputs = spellings d.outputs; calls = cs }))
