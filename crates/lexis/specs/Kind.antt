-- The eight kinds of token, by name. A token record holds the number. Relies on nothing.
use Rattle.std.specs.Prelude.{ℕ, ◌≤◌}
use Rattle.lexis.specs.declared.kind.Kind.{Kind}
use Rattle.lexis.specs.declared.kind.Kind.TheVariants.{Name, Whole, Real, String, Truth, Keyword, Operator, Syntactic}

-- kind 1: a name
abbrev pub name : ℕ
name = 1

-- kind 2: a whole number, digits only
abbrev pub whole : ℕ
whole = 2

-- kind 3: a real number, one with a point or an exponent
abbrev pub real : ℕ
real = 3

-- kind 4: a string, quotes included
abbrev pub string : ℕ
string = 4

-- kind 5: a truth value, `true` or `false`
abbrev pub truth : ℕ
truth = 5

-- kind 6: a keyword
abbrev pub keyword : ℕ
keyword = 6

-- kind 7: an operator
abbrev pub operator : ℕ
operator = 7

-- kind 8: a syntactic character, `->` included
abbrev pub syntactic : ℕ
syntactic = 8

-- one of the eight
abbrev pub IsKind : ℕ → Type 0
IsKind k = (name ≤ k) × (k ≤ syntactic)

-- ---- the kinds of the code

-- the number of each
abbrev pub kind_number : Kind → ℕ
kind_number Name = name
kind_number Whole = whole
kind_number Real = real
kind_number String = string
kind_number Truth = truth
kind_number Keyword = keyword
kind_number Operator = operator
kind_number Syntactic = syntactic
