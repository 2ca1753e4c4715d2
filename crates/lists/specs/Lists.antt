-- What only inner contracts of lists and documents cite: the faults of one header by itself, and the look-up of a name.
use Rattle.std.specs.Prelude.{ℕ, suc, cond}
use mathlib.Core.List.{List, [], ◌∷◌, map, flat_map, flatten}
use Rattle.spellings.specs.Comparison.{same_bytes}
use Rattle.lexis.specs.Sizes.{max_parameters, max_results}
use Rattle.lexis.specs.Lexer.{Token}
use Rattle.syntax.specs.Tree.{Header, Param, Result}
use Rattle.lists.specs.Code as Code
use Rattle.lists.specs.Fault.{Fault, faults, starts}
use Rattle.lists.specs.Names.{repeats}
use Rattle.lists.specs.ListRules.{over, param_names, header_names, bad_default}
use Rattle.std.specs.Prelude.{Option as Maybe, Some, None}

-- ---- one header

-- the faults of the parameters' defaults: 14
abbrev pub default_faults : List Param → List Fault
default_faults ps = flat_map (λ (p : Param). bad_default p.ty p.default) ps

-- the faults of a header by itself: 12, 13 and 14
unfoldable pub header_faults : Header → List Fault
header_faults h =
    flatten
    (over max_parameters (starts (param_names h.params))
    ∷ over max_results (starts (map (λ (r : Result). r.name) h.results))
    ∷ faults Code.repeated_name (starts (repeats (header_names h)))
    ∷ default_faults h.params
    ∷ [])

-- ---- look-up

-- where the first token of these bytes stands, the first of the list at place k
unfoldable pub lookup_from : ℕ → List Token → Token → Maybe ℕ
lookup_from k [] t = None
lookup_from k (s ∷ ss) t = let r = lookup_from (suc k) ss t in cond (same_bytes s.bytes t.bytes) (Some k) r
