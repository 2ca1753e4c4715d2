-- Assigning and using identifiers: codes 21 to 24.
use mathlib.Core.List.{List, [], ◌∷◌, ◌++◌, flat_map}
use Rattle.std.specs.Prelude.{Bool, cond, not}
use Rattle.spellings.specs.Comparison.{same_bytes}
use Rattle.lexis.specs.Ascii.{ascii}
use Rattle.lexis.specs.Lexer.{Token}
use Rattle.syntax.specs.Tree.{Call, Document}
use Rattle.lists.specs.Fault.{Fault, faults, starts}
use Rattle.lists.specs.Names.{those, is_among, repeats, assigned, used, all_assigned}
use Rattle.documents.specs.Code as Code

-- those that are not among these
abbrev pub strangers : List Token → List Token → List Token
strangers known ts = those (λ t. not (is_among known t)) ts

-- 21: an identifier assigned again, at that place
unfoldable pub again : Document → List Fault
again d = faults Code.assigned_again (starts (repeats (all_assigned d.calls)))

-- 22: an identifier used and not assigned by an earlier call, at the use; `known` are those that earlier calls assign
unfoldable pub unwired_after : List Token → List Call → List Fault
unwired_after known [] = []
unwired_after known (c ∷ cs) = faults Code.unassigned_use (starts (strangers known (used c))) ++ unwired_after (known ++ assigned c) cs

abbrev pub unwired : Document → List Fault
unwired d = unwired_after [] d.calls

-- the operation's name is `external`, as written
abbrev pub is_external : Call → Bool
is_external c = same_bytes c.op.bytes (ascii "external")

-- 23: an input that is never assigned, at its header place; an input assigned by another operation than `external`, or another identifier
-- assigned by `external`, at the identifier
unfoldable pub misfed_by : List Token → Call → List Fault
misfed_by inputs c = faults Code.misfed (starts (cond (is_external c) (strangers inputs (assigned c)) (those (is_among inputs) (assigned c))))

unfoldable pub misfed : Document → List Fault
misfed d = faults Code.misfed (starts (strangers (all_assigned d.calls) d.inputs)) ++ flat_map (misfed_by d.inputs) d.calls

-- 24: an output that is never assigned, at its header place
unfoldable pub unmade : Document → List Fault
unmade d = faults Code.unassigned_output (starts (strangers (all_assigned d.calls) d.outputs))
