-- With the calls from place `at` on, all calls are put; beyond the limits no further call matters.
use mathlib.Core.Path.{◌≡◌}
use mathlib.Core.List.{List, [], flat_map}
use mathlib.Core.Option.{some}
use Rattle.lexis.specs.Sizes.{max_brackets}
use Rattle.lexis.specs.Lexer.{Token}
use Rattle.syntax.specs.Tree.{Header, Call}
use Rattle.syntax.specs.Tokens.{from}
use Rattle.documents.specs.Calls.{Calls}
use Rattle.documents.specs.DocumentRules.{argument_faults}
use Rattle.writing.specs.Plan.{PlanCall, plan_calls}
use Rattle.writing.specs.Layout.{calls_pieces}
use Rattle.writing.specs.Writing.{CallsRecorded}
use Rattle.writing.proofs.CallWrites.{Ahead}
use Rattle.writing.proofs.call.put_calls.Given as goal

abbrev pub invariant-loop-i : goal.invariant-loop-i
invariant-loop-i l =
    (hs : List Header) (cs : List Call) (us : List Token) (ps : List PlanCall) → CallsRecorded l.list l.words l.records l.calls hs cs
    → Calls max_brackets (from l.doc l.body) cs us → flat_map (argument_faults hs) cs ≡ [] → plan_calls hs cs ≡ some ps
    → Ahead l.list l.words l.records l.doc l.calls hs us (calls_pieces hs ps) l.initial.out l.i l.at l.out
