-- The classes of bytes, by name: what a byte can begin.
use Rattle.std.specs.Prelude.{ℕ}
use Rattle.lexis.specs.declared.class.Class.{Class}
use Rattle.lexis.specs.declared.class.Class.TheVariants.{Other, Space, Digit, Letter, Quote, Comment, Operator, Syntactic, Twice}

-- class 0: a byte that begins nothing
abbrev pub other : ℕ
other = 0

-- class 1: white space
abbrev pub space : ℕ
space = 1

-- class 2: a digit
abbrev pub digit : ℕ
digit = 2

-- class 3: a letter or the underscore
abbrev pub letter : ℕ
letter = 3

-- class 4: a quote, single or double
abbrev pub quote : ℕ
quote = 4

-- class 5: the sign that begins a comment
abbrev pub comment : ℕ
comment = 5

-- class 6: a byte that is an operator when it stands alone
abbrev pub operator : ℕ
operator = 6

-- class 7: a byte that is a syntactic character when it stands alone
abbrev pub syntactic : ℕ
syntactic = 7

-- class 8: a byte that is an operator only when it stands twice, `&&` and `||`
abbrev pub twice : ℕ
twice = 8

-- ---- the classes of the code

-- the number of each
abbrev pub class_number : Class → ℕ
class_number Other = other
class_number Space = space
class_number Digit = digit
class_number Letter = letter
class_number Quote = quote
class_number Comment = comment
class_number Operator = operator
class_number Syntactic = syntactic
class_number Twice = twice
