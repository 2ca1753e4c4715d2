-- The rules of an operation list: one definition for each code, in the order of the codes.
use Rattle.std.specs.Prelude.{ℕ, take, drop}
use mathlib.Core.List.{List, [], ◌∷◌, ◌++◌, map, flat_map, flatten}
use Rattle.std.proofs.Math.Option.{Option, some, none as nothing}
use Rattle.lexis.specs.Sizes.{max_operations, max_parameters, max_results}
use Rattle.lexis.specs.Lexer.{Token}
use Rattle.syntax.specs.Tree.{Value, Ty, Param, Result, Header}
use Rattle.lists.specs.Code as Code
use Rattle.lists.specs.Fault.{Fault, fault, faults, starts, unless}
use Rattle.lists.specs.Names.{repeats, start_of}
use Rattle.lists.specs.Reading.{fits}

-- 12: a count above its size, at the first of these places beyond it
abbrev pub over : ℕ → List ℕ → List Fault
over size places = faults Code.over_size (take 1 (drop size places))

-- the names of a header: its parameters', then its results'
abbrev pub param_names : List Param → List Token
param_names ps = map (λ (p : Param). p.name) ps

abbrev pub header_names : Header → List Token
header_names h = param_names h.params ++ map (λ (r : Result). r.name) h.results

-- 12: more than 128 operations, at the `fragment` beyond; of one operation more than 32 parameters or 8 results, at the name beyond
unfoldable pub list_counts : List Header → List Fault
list_counts hs =
    over max_operations (map (λ (h : Header). h.keyword.start) hs)
    ++ flat_map (λ (h : Header). over max_parameters (starts (param_names h.params)) ++ over max_results (starts (map (λ (r : Result). r.name) h.results)))
    hs

-- 13: an operation's name repeated, or a name repeated among one header's parameters and results together, at the second one
unfoldable pub list_repeats : List Header → List Fault
list_repeats hs =
    faults Code.repeated_name (starts (repeats (map (λ (h : Header). h.name) hs)))
    ++ flat_map (λ (h : Header). faults Code.repeated_name (starts (repeats (header_names h)))) hs

-- 14: a default that does not fit its parameter's type, at the default's start
abbrev pub bad_default : Ty → Option Value → List Fault
bad_default u nothing = []
bad_default u (some v) = unless (fits v u) (fault Code.bad_default (start_of v))

unfoldable pub bad_defaults : List Header → List Fault
bad_defaults hs = flat_map (λ (h : Header). flat_map (λ (p : Param). bad_default p.ty p.default) h.params) hs

-- all faults of an operation list
unfoldable pub list_faults : List Header → List Fault
list_faults hs = flatten (list_counts hs ∷ list_repeats hs ∷ bad_defaults hs ∷ [])
