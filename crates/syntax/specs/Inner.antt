-- What only the contracts of inner functions cite.
use Rattle.std.specs.Prelude.{Bool, true, cond, ◌&&◌, ◌||◌, List, [], ◌∷◌, ℕ, zero, suc, eqb}
use Rattle.lexis.specs.Sizes.{max_brackets}
use Rattle.lexis.specs.Lexer.{Token}
use Rattle.lexis.specs.Symbol.{sym_of, is_literal, left_round, right_round, left_square, left_curly, right_curly, equal, semicolon, arrow, minus, a_name}
use Rattle.lexis.specs.Symbol.{a_number, version, graph, tensor_word, extent_word, scalar_word, logical_word, string_word}
use Rattle.syntax.specs.Code as Code
use Rattle.syntax.specs.Tree.{Ty, Param, Result, Arg, Call}
use Rattle.syntax.specs.Grammar.{Leaves, names, literals, both, takes_names, takes_literals}
use Rattle.syntax.specs.Parser.{Reader, then, expect, begins, rest, plain, commas, closed, row, tuple_types, base_step, type, param, typed_name, argument, call}
use Rattle.syntax.specs.Parser.Parse.{ok, bad}
use Rattle.syntax.specs.declared.value.Leaves as L
use Rattle.syntax.specs.declared.value.Leaves.TheVariants.{Names, Literals, Both}
use Rattle.syntax.specs.declared.list.Item as I
use Rattle.syntax.specs.declared.list.Item.TheVariants as W

-- ---- terminals

-- the number that stands for no token
abbrev pub the_end : ℕ
the_end = 268

-- the terminal of the first token, or that of no token
abbrev pub lookahead : List Token → ℕ
lookahead [] = the_end
lookahead (t ∷ ts) = sym_of t

-- ---- values

-- the leaves that the code names, as the grammar names them
abbrev pub leaves_of : L.Leaves → Leaves
leaves_of Names = names
leaves_of Literals = literals
leaves_of Both = both

-- the terminal s is a leaf of such a value
unfoldable pub is_leaf : Leaves → ℕ → Bool
is_leaf m s = takes_names m && eqb s a_name || takes_literals m && is_literal s

-- a number after a sign, where literals may stand; what begins with no sign is a fault
abbrev pub after_sign : Leaves → Reader Token
after_sign m ts = cond (takes_literals m && eqb (lookahead ts) minus) (expect a_number (rest ts)) (bad Code.syntax ts)

-- the terminal s opens an array or a tuple
abbrev pub opens : ℕ → Bool
opens s = eqb s left_square || eqb s left_round

-- ---- types

-- the terminal s is a type's name
unfoldable pub is_type_word : ℕ → Bool
is_type_word s =
    cond (eqb s tensor_word) true (cond (eqb s extent_word) true (cond (eqb s scalar_word) true (cond (eqb s logical_word) true (eqb s string_word))))

-- a type without its pairs of square brackets
unfoldable pub base_of : ℕ → Reader Ty
base_of zero ts = base_step (λ t us. bad Code.bracket (t ∷ us)) ts
base_of (suc b) ts = base_step (λ t us. tuple_types (type b) us) ts

-- ---- lists

-- a name and an equals sign
abbrev pub is_label : List Token → Bool
is_label ts = eqb (lookahead ts) a_name && eqb (lookahead (rest ts)) equal

-- the trees of a list's items
abbrev pub TreeOf : I.Item → Type 0
TreeOf W.Name = Token
TreeOf W.Parameter = Param
TreeOf W.Result = Result
TreeOf W.Argument = Arg

-- the reader of one item of a list
abbrev pub reader : (w : I.Item) → Reader (TreeOf w)
reader W.Name = expect a_name
reader W.Parameter = param max_brackets
reader W.Result = typed_name max_brackets
reader W.Argument = argument max_brackets

-- ---- documents

-- a semicolon, where there is one
abbrev pub semicolon_of : Reader (List Token)
semicolon_of ts = ok [] (cond (begins semicolon ts) (rest ts) ts)

-- version, number, graph, name, inputs
unfoldable pub inputs_of : Reader (List Token)
inputs_of ts =
    then (expect version ts) (λ v us.
    then (expect a_number us) (λ l us.
    then (expect graph us) (λ g us.
    then (expect a_name us) (λ n us.
    then (expect left_round us) (λ o us.
    row plain (commas right_round) (expect a_name) us)))))

-- a document up to its closing bracket
unfoldable pub graph_of : Reader (List Call)
graph_of ts =
    then (inputs_of ts) (λ is us.
    then (expect arrow us) (λ a us.
    then (expect left_round us) (λ o us.
    then (row plain (commas right_round) (expect a_name) us) (λ os us.
    then (expect left_curly us) (λ q us.
    row plain (closed right_curly) (call max_brackets) us)))))
