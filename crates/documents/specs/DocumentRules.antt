-- The rules of a document under an operation list that has passed its own: one definition for each code, in the order of the codes.
use Rattle.std.specs.Prelude.{ℕ}
use mathlib.Core.List.{List, [], ◌∷◌, ◌++◌, map, flat_map, flatten}
use Rattle.std.proofs.Math.Option.{Option, some, none as nothing}
use Rattle.spellings.specs.Comparison.{same_bytes}
use Rattle.lexis.specs.Ascii.{ascii}
use Rattle.lexis.specs.Sizes.{max_inputs, max_outputs, max_calls, max_assigned, max_uses}
use Rattle.syntax.specs.Tree.{Header, Call, Document}
use Rattle.lists.specs.Code as Lists
use Rattle.lists.specs.Fault.{Fault, fault, faults, starts, unless}
use Rattle.lists.specs.Names.{repeats, start_of, all_assigned, all_used}
use Rattle.lists.specs.Reading.{fits, result_type}
use Rattle.lists.specs.ListRules.{over}
use Rattle.lists.specs.Found.{find}
use Rattle.documents.specs.Code as Code
use Rattle.documents.specs.Binding.{slots, misplaced, misnamed, misfits, missing}
use Rattle.documents.specs.Wiring.{again, unwired, misfed, unmade}

-- 11: the version is not spelt `1.0`, at the literal
unfoldable pub bad_version : Document → List Fault
bad_version d = unless (same_bytes d.version.bytes (ascii "1.0")) (fault Code.wrong_version d.version.start)

-- 12: more than 32 inputs or outputs, 384 calls, 1,024 identifiers assigned or 1,024 used, at the first name beyond, or, of a call, at its left side's start
unfoldable pub document_counts : Document → List Fault
document_counts d =
    flatten
    (over max_inputs (starts d.inputs)
    ∷ over max_outputs (starts d.outputs)
    ∷ over max_calls (map (λ (c : Call). start_of c.left) d.calls)
    ∷ over max_assigned (starts (all_assigned d.calls))
    ∷ over max_uses (starts (all_used d.calls))
    ∷ [])

-- 13: a name repeated among the graph's inputs and outputs together, at the second one
unfoldable pub graph_repeats : Document → List Fault
graph_repeats d = faults Lists.repeated_name (starts (repeats (d.inputs ++ d.outputs)))

-- the faults of a call whose operation was looked up: those that a declared one gives, or those of an undeclared one
abbrev pub by_operation : Option Header → (Header → List Fault) → List Fault → List Fault
by_operation nothing f g = g
by_operation (some h) f g = f h

-- 15: the operation is not declared, at its name
unfoldable pub undeclared : List Header → Call → List Fault
undeclared hs c = by_operation (find hs c.op) (λ h. []) (fault Code.undeclared c.op.start ∷ [])

-- 16 to 19 of a call of the operation that h declares, its name standing at this place
abbrev pub bound_at : ℕ → Header → Call → List Fault
bound_at place h c =
    flatten
    (misplaced h.params c.args
    ∷ misnamed h.params c.args
    ∷ misfits (slots h.params c.args)
    ∷ missing place (slots h.params c.args)
    ∷ [])

-- 16 to 19: argument faults; an undeclared operation has none
unfoldable pub argument_faults : List Header → Call → List Fault
argument_faults hs c = by_operation (find hs c.op) (λ h. bound_at c.op.start h c) []

-- 20 of a call of the operation that h declares: the left side does not match the results, at its start
abbrev pub left_faults : Header → Call → List Fault
left_faults h c = unless (fits c.left (result_type h.results)) (fault Code.unmatched (start_of c.left))

-- 20: a left side that does not match; with an undeclared operation it is not held to anything
unfoldable pub unmatched : List Header → Call → List Fault
unmatched hs c = by_operation (find hs c.op) (λ h. left_faults h c) []

-- all faults of a document
unfoldable pub document_faults : List Header → Document → List Fault
document_faults hs d =
    flatten
    (bad_version d
    ∷ document_counts d
    ∷ graph_repeats d
    ∷ flat_map (undeclared hs) d.calls
    ∷ flat_map (argument_faults hs) d.calls
    ∷ flat_map (unmatched hs) d.calls
    ∷ again d
    ∷ unwired d
    ∷ misfed d
    ∷ unmade d
    ∷ [])
