-- A document of the shape of canonical text has the plan that was written: each parameter is bound to the argument of its name.
use mathlib.Core.Path.{◌≡◌, refl}
use mathlib.Core.List.{List}
use mathlib.Core.Option.{some}
use Rattle.syntax.specs.Tree.{Header, Call, Document}
use Rattle.writing.specs.Plan.{PlanCall, Plan, plan_call, plan_calls, plan_of}
use Rattle.canonical.proofs.NamedArguments.{named-values}
use Rattle.canonical.proofs.Shape.{CanonCall, CanonCalls, no-calls, a_call, CanonDocument}

call-plan : {hs : List Header} {c : PlanCall} {t : Call} → CanonCall hs c t → plan_call hs t ≡ some c
unfolding plan_call
call-plan s = rw (s.found, s.left, named-values s.args s.distinct, s.op)

calls-plan : {hs : List Header} {cs : List PlanCall} {ts : List Call} → CanonCalls hs cs ts → plan_calls hs ts ≡ some cs
unfolding plan_calls
calls-plan no-calls = refl
calls-plan (a_call s r) = simp (call-plan s, calls-plan r)

pub canon-plan : (hs : List Header) (p : Plan) (d : Document) → CanonDocument hs p d → plan_of hs d ≡ some p
unfolding plan_of
canon-plan hs p d s = simp (calls-plan s.calls, s.graph, s.inputs, s.outputs)
