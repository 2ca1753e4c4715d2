-- Walks over names, as the contracts of the code's loops cite them: a rule says which faults a name gives after those before it, and a
-- scan gathers them.
use Rattle.std.specs.Prelude.{ℕ, List, [], ◌∷◌, ◌++◌, Bool, true, false, eqb, length}
use Rattle.lexis.specs.Lexer.{Token}
use Rattle.lists.specs.Code as Code
use Rattle.lists.specs.Fault.{Fault, fault}
use Rattle.lists.specs.Names.{is_among}

-- a fault where the test holds
abbrev pub when : Bool → Fault → List Fault
when true x = x ∷ []
when false x = []

-- the faults of a name after those names
abbrev pub Rule : Type 0
Rule = List Token → Token → List Fault

unfoldable pub scan : Rule → List Token → List Token → List Fault
scan f ss [] = []
scan f ss (t ∷ ts) = f ss t ++ scan f (ss ++ (t ∷ [])) ts

-- a name that passes a test
abbrev pub passing : ℕ → (Token → Bool) → Rule
passing code f ss t = when (f t) (fault code t.start)

-- a name that stands before too
abbrev pub repeating : ℕ → Rule
repeating code ss t = when (is_among ss t) (fault code t.start)

-- 12: the name beyond a size
abbrev pub beyond : ℕ → Rule
beyond size ss t = when (eqb (length ss) size) (fault Code.over_size t.start)

abbrev pub both_rules : Rule → Rule → Rule
both_rules f g ss t = f ss t ++ g ss t
