-- Walks over the names of a document, as the contracts of the code's loops cite them: the rules of 12, 13 and 21 to 24 as rules of single
-- names, and a body call by call.
use Rattle.std.specs.Prelude.{ℕ, ◌≡◌, Bool, cond, not, eqb, length, Option as Maybe, Some, None}
use Rattle.lexis.specs.Code as Lexis
use Rattle.lexis.specs.Refusal.{refusal_number}
use Rattle.lexis.specs.declared.refusal.Refusal.{Refusal}
use Rattle.std.proofs.Math.Option.{Option, some, none as nothing}
use mathlib.Core.List.{List, [], ◌∷◌, ◌++◌, flatten}
use Rattle.lexis.specs.Sizes.{max_calls, max_assigned, max_uses}
use Rattle.lexis.specs.Lexer.{Token}
use Rattle.syntax.specs.Tree.{Call, Document}
use Rattle.lists.specs.Code as Lists
use Rattle.lists.specs.Fault.{Fault, fault, earlier, first}
use Rattle.lists.specs.Best.{meant}
use Rattle.lists.specs.Names.{is_among, first_token, assigned, used, all_assigned, all_used}
use Rattle.lists.specs.Walks.{when, Rule, scan, passing, repeating, beyond, both_rules}
use Rattle.documents.specs.Code as Code
use Rattle.documents.specs.Wiring.{is_external, again, unwired, misfed, unmade}
use Rattle.documents.specs.declared.wiring.Tally.{Tally}
use Rattle.documents.specs.DocumentRules.{bad_version, document_counts, graph_repeats}

-- ---- the rules of inputs, outputs, left sides and arguments

-- an input or output, after the header's names `before`: 12, and 13 if it is listed already
abbrev pub listing : ℕ → List Token → Rule
listing size before = both_rules (beyond size) (λ ss t. when (is_among (before ++ ss) t) (fault Lists.repeated_name t.start))

-- 23: an input assigned by another operation than `external`, or another identifier assigned by it
abbrev pub misfeeds : Bool → Bool → Bool
misfeeds external input = cond external (not input) input

-- an identifier assigned: 12, 21 and 23
abbrev pub assigning : List Token → Bool → Rule
assigning inputs external =
    both_rules (beyond max_assigned) (both_rules (repeating Code.assigned_again) (passing Code.misfed (λ t. misfeeds external (is_among inputs t))))

-- an identifier used: 12 and 22
abbrev pub consuming : List Token → Rule
consuming known = both_rules (beyond max_uses) (passing Code.unassigned_use (λ t. not (is_among known t)))

-- the code of a refusal, and that of acceptance where there is none
abbrev pub code_of : Maybe Refusal → ℕ
code_of None = Lexis.accepted
code_of (Some r) = refusal_number r

-- the fault of this code at this place; none where the code is 0
abbrev pub coded : ℕ → ℕ → Option Fault
coded code place = cond (eqb code 0) nothing (some (fault code place))

-- the names ts after the names ss lead from one tally to another by the rule f, and to a state in which P holds
pub record Turn (f : Rule) (ss ts : List Token) (tally r : Tally) (P : Type 0) : Type 0 where
  pub found : meant r.best ≡ earlier (meant tally.best) (first (scan f ss ts))
  pub count : r.count ≡ length (ss ++ ts)
  pub state : P

-- ---- bodies

-- the faults of a call after the calls ds: 12 if it is one too many, those of its left side, those of its arguments
unfoldable pub call_faults : List Token → List Call → Call → List Fault
call_faults inputs ds c =
    when (eqb (length ds) max_calls) (fault Lists.over_size (first_token c.left).start)
    ++ (scan (assigning inputs (is_external c)) (all_assigned ds) (assigned c) ++ scan (consuming (all_assigned ds)) (all_used ds) (used c))

-- those of calls after the calls ds
unfoldable pub body_faults : List Token → List Call → List Call → List Fault
body_faults inputs ds [] = []
body_faults inputs ds (c ∷ cs) = call_faults inputs ds c ++ body_faults inputs (ds ++ (c ∷ [])) cs

-- ---- documents

-- the faults of a document that need no operation list: 11 to 13 and 21 to 24
unfoldable pub own_faults : Document → List Fault
own_faults d = flatten (bad_version d ∷ document_counts d ∷ graph_repeats d ∷ again d ∷ unwired d ∷ misfed d ∷ unmade d ∷ [])
