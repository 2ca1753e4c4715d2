-- The terminals of the grammar: all that it sees of a token. A syntactic character is numbered by its first byte, every other
-- terminal by a number that is no byte. Relies on `Kind`, `Words` and `Lexer`.
use Rattle.std.specs.Prelude.{ℕ, Bool, cond, ◌||◌, List, [], ◌∷◌, eqb, get_or}
use Rattle.spellings.specs.Comparison.{same_bytes}
use Rattle.lexis.specs.Ascii.{ascii}
use Rattle.lexis.specs.Kind as Kind
use Rattle.lexis.specs.Lexer.{Token}

-- ---- none

-- a token that the flat syntax has no place for: an operator or a keyword that is not named below
abbrev pub other : ℕ
other = 0

-- ---- the syntactic characters

-- (
abbrev pub left_round : ℕ
left_round = 40

-- )
abbrev pub right_round : ℕ
right_round = 41

-- [
abbrev pub left_square : ℕ
left_square = 91

-- ]
abbrev pub right_square : ℕ
right_square = 93

-- {
abbrev pub left_curly : ℕ
left_curly = 123

-- }
abbrev pub right_curly : ℕ
right_curly = 125

-- :
abbrev pub colon : ℕ
colon = 58

-- =
abbrev pub equal : ℕ
equal = 61

-- ,
abbrev pub comma : ℕ
comma = 44

-- ;
abbrev pub semicolon : ℕ
semicolon = 59

-- ->
abbrev pub arrow : ℕ
arrow = 45

-- ---- the operator of the flat syntax

-- - before a number: its sign
abbrev pub minus : ℕ
minus = 267

-- ---- names and literals

-- a name
abbrev pub a_name : ℕ
a_name = 256

-- a number, whole or real
abbrev pub a_number : ℕ
a_number = 257

-- a string or a truth value
abbrev pub a_literal : ℕ
a_literal = 258

-- ---- the keywords of the flat syntax

-- the word `version`
abbrev pub version : ℕ
version = 259

-- the word `graph`
abbrev pub graph : ℕ
graph = 260

-- the word `fragment`
abbrev pub fragment : ℕ
fragment = 261

-- the word `tensor`
abbrev pub tensor_word : ℕ
tensor_word = 262

-- the word `extent`
abbrev pub extent_word : ℕ
extent_word = 263

-- the word `scalar`
abbrev pub scalar_word : ℕ
scalar_word = 264

-- the word `logical`
abbrev pub logical_word : ℕ
logical_word = 265

-- the word `string`
abbrev pub string_word : ℕ
string_word = 266

-- ---- the terminal of a token

-- a keyword of the flat syntax and its terminal
pub record Terminal : Type 0 where
  pub symbol : ℕ
  pub spelling : List ℕ

-- the keyword of terminal s, spelt w
abbrev pub terminal : ℕ → List ℕ → Terminal
terminal s w = record { symbol = s; spelling = w }

-- every keyword that has a terminal of its own
unfoldable pub terminals : List Terminal
terminals =
    terminal version (ascii "version")
    ∷ terminal graph (ascii "graph")
    ∷ terminal fragment (ascii "fragment")
    ∷ terminal tensor_word (ascii "tensor")
    ∷ terminal extent_word (ascii "extent")
    ∷ terminal scalar_word (ascii "scalar")
    ∷ terminal logical_word (ascii "logical")
    ∷ terminal string_word (ascii "string")
    ∷ []

-- the terminal of the first keyword of the list that is spelt w; where none is, w has no place in the flat syntax
unfoldable pub symbol_in : List Terminal → List ℕ → ℕ
symbol_in [] w = other
symbol_in (x ∷ xs) w = let r = symbol_in xs w in cond (same_bytes w x.spelling) x.symbol r

-- the terminal of a keyword, by its spelling
abbrev pub keyword_symbol : List ℕ → ℕ
keyword_symbol w = symbol_in terminals w

-- the terminal of an operator, by its spelling
abbrev pub operator_symbol : List ℕ → ℕ
operator_symbol w = cond (same_bytes w (ascii "-")) minus other

-- the terminal of a token of kind k and bytes w
unfoldable pub symbol_of : ℕ → List ℕ → ℕ
symbol_of k w =
    cond (eqb k Kind.name) a_name
    (cond (eqb k Kind.whole) a_number
    (cond (eqb k Kind.real) a_number
    (cond (eqb k Kind.string) a_literal
    (cond (eqb k Kind.truth) a_literal
    (cond (eqb k Kind.keyword) (keyword_symbol w)
    (cond (eqb k Kind.operator) (operator_symbol w)
    (cond (eqb k Kind.syntactic) (get_or w 0 0) other)))))))

-- the terminal of a token
unfoldable pub sym_of : Token → ℕ
sym_of t = symbol_of t.kind t.bytes

-- the terminals of tokens, in order
unfoldable pub symbols : List Token → List ℕ
symbols [] = []
symbols (t ∷ ts) = sym_of t ∷ symbols ts

-- a literal without a sign: a number, a string, true or false
abbrev pub is_literal : ℕ → Bool
is_literal s = eqb s a_number || eqb s a_literal
