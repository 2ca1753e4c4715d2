-- The parser, as functions on tokens: a tree and the tokens after it, or the code of the first fault and the tokens from it on.
-- As in the grammar, b is how many brackets may still be opened inside one another.
use Rattle.std.specs.Prelude.{ℕ, zero, suc, Bool, true, false, cond, ◌&&◌, ◌||◌, List, [], ◌∷◌, eqb, length}
use Rattle.std.proofs.Math.Option.{Option, some, none as nothing}
use Rattle.lexis.specs.Sizes.{max_brackets}
use Rattle.lexis.specs.Lexer.{Token}
use Rattle.syntax.specs.Code as Code
use Rattle.lexis.specs.Symbol.{sym_of, is_literal, left_round, right_round, left_square, right_square, left_curly, right_curly, colon, equal, comma, semicolon}
use Rattle.lexis.specs.Symbol.{arrow, minus, a_name, a_number, version, graph, fragment, tensor_word, extent_word, scalar_word, logical_word, string_word}
use Rattle.syntax.specs.Tree.{unsigned, negated, Value, Values, Ty, Tys, Param, Result, Header, Arg, Call, Document}
use Rattle.syntax.specs.Tree.Value.{name, literal, array, tuple}
use Rattle.syntax.specs.Tree.Values.{none, more}
use Rattle.syntax.specs.Tree.Ty.{tensor, extent, scalar, logical, string, array_of, tuple_of}
use Rattle.syntax.specs.Tree.Tys.{no-type, a-type}
use Rattle.syntax.specs.Tree.Arg.{positional, named}
use Rattle.syntax.specs.Grammar.{Leaves, names, literals, both, takes_names, takes_literals}

-- ---- parts

-- what a reader answers: a tree and the tokens after it, or the code of a fault and the tokens from it on
pub data Parse (A : Type 0) : Type 0 where
  ok : A → List Token → Parse A
  bad : ℕ → List Token → Parse A

-- on from what was read; a fault stays
abbrev pub then : {A B : Type 0} → Parse A → (A → List Token → Parse B) → Parse B
then (ok a ts) k = k a ts
then (bad c ts) k = bad c ts

-- what was read, made into another tree
abbrev pub mapped : {A B : Type 0} → (A → B) → Parse A → Parse B
mapped f p = then p (λ a ts. ok (f a) ts)

-- a reader of trees of type A
abbrev pub Reader : Type 0 → Type 0
Reader A = List Token → Parse A

-- the terminal s stands here, or there is a fault
unfoldable pub expect : ℕ → Reader Token
expect s [] = bad Code.syntax []
expect s (t ∷ ts) = cond (eqb (sym_of t) s) (ok t ts) (bad Code.syntax (t ∷ ts))

-- the terminal s stands here
abbrev pub begins : ℕ → List Token → Bool
begins s [] = false
begins s (t ∷ ts) = eqb (sym_of t) s

-- the tokens after the first
abbrev pub rest : List Token → List Token
rest [] = []
rest (t ∷ ts) = ts

-- ---- rows of items

-- what parts the items of a row and ends it: a comma and this terminal; nothing and this terminal; nothing and the end of the tokens
pub data Row : Type 0 where
  commas : ℕ → Row
  closed : ℕ → Row
  to_the_end : Row

-- what follows an item: another item from these tokens on, the end of the row with these tokens left, or neither
pub data Follow : Type 0 where
  again : List Token → Follow
  done : List Token → Follow
  neither : Follow

-- what follows an item of a row, by the tokens after it
unfoldable pub follow : Row → List Token → Follow
follow (commas close) [] = neither
follow (commas close) (t ∷ ts) = cond (eqb (sym_of t) comma) (again ts) (cond (eqb (sym_of t) close) (done ts) neither)
follow (closed close) [] = neither
follow (closed close) (t ∷ ts) = cond (eqb (sym_of t) close) (done ts) (again (t ∷ ts))
follow to_the_end [] = done []
follow to_the_end (t ∷ ts) = again (t ∷ ts)

-- on from what follows an item: k goes on with the next item, j ends the row; neither is a fault
abbrev pub onward : {A : Type 0} → Follow → List Token → (List Token → Parse A) → (List Token → Parse A) → Parse A
onward (again ws) us k j = k ws
onward (done ws) us k j = j ws
onward neither us k j = bad Code.syntax us

-- a list of one item, and an item before a list
pub record Lists (A L : Type 0) : Type 0 where
  pub one : A → L
  pub cons : A → L → L

-- the items of an ordinary list
abbrev pub plain : {A : Type 0} → Lists A (List A)
plain = record { one = λ a. a ∷ []; cons = λ a xs. a ∷ xs }

-- the items of an array or a tuple
abbrev pub values : Lists Value Values
values = record { one = λ v. more v none; cons = λ v vs. more v vs }

-- the types of a tuple
abbrev pub types : Lists Ty Tys
types = record { one = λ u. a-type u no-type; cons = λ u us. a-type u us }

-- one item or more, at most f of them
unfoldable pub row_f : {A L : Type 0} → ℕ → Lists A L → Row → Reader A → Reader L
row_f zero l r item ts = bad 0 []
row_f (suc f) l r item ts =
    then (item ts) (λ a us. onward (follow r us) us (λ ws. mapped (l.cons a) (row_f f l r item ws)) (λ ws. ok (l.one a) ws))

-- one item or more. Each takes a token, so as many as there are tokens, and one for the fault, are enough.
unfoldable pub row : {A L : Type 0} → Lists A L → Row → Reader A → Reader L
row l r item ts = row_f (suc (length ts)) l r item ts

-- ---- values

-- a negative number, after its sign t
unfoldable pub negative : Token → Reader Value
negative t ts = mapped (λ n. literal (negated t n)) (expect a_number ts)

-- a value by its first token; `opened` is what follows an opening bracket
unfoldable pub value_step : Leaves → (Token → Reader Value) → Reader Value
value_step m opened [] = bad Code.syntax []
value_step m opened (t ∷ ts) =
    cond (takes_names m && eqb (sym_of t) a_name) (ok (name t) ts)
    (cond (takes_literals m && is_literal (sym_of t)) (ok (literal (unsigned t)) ts)
    (cond (takes_literals m && eqb (sym_of t) minus) (negative t ts)
    (cond (eqb (sym_of t) left_square || eqb (sym_of t) left_round) (opened t ts) (bad Code.syntax (t ∷ ts)))))

-- the items of an array after its bracket: none, or a row
unfoldable pub array_items : Reader Value → Reader Values
array_items val ts = cond (begins right_square ts) (ok none (rest ts)) (row values (commas right_square) val ts)

-- the items of a tuple after its bracket: at least two
unfoldable pub tuple_items : Reader Value → Reader Values
tuple_items val ts = then (val ts) (λ v us. then (expect comma us) (λ c ws. mapped (more v) (row values (commas right_round) val ws)))

-- an array or a tuple, after its opening bracket t
unfoldable pub bracketed : Reader Value → Token → Reader Value
bracketed val t ts = cond (eqb (sym_of t) left_square) (mapped (array t) (array_items val ts)) (mapped (tuple t) (tuple_items val ts))

-- a value; where no bracket may be opened, an opening one is a fault
unfoldable pub value : Leaves → ℕ → Reader Value
value m zero ts = value_step m (λ t us. bad Code.bracket (t ∷ us)) ts
value m (suc b) ts = value_step m (λ t us. bracketed (λ ws. value m b ws) t us) ts

-- ---- types

-- the type that the terminal s names, if it names one
unfoldable pub type_name : ℕ → Option Ty
type_name s =
    cond (eqb s tensor_word) (some tensor)
    (cond (eqb s extent_word) (some extent)
    (cond (eqb s scalar_word) (some scalar)
    (cond (eqb s logical_word) (some logical)
    (cond (eqb s string_word) (some string) nothing))))

-- pairs of square brackets after the type u; `may` says whether a bracket may be opened
unfoldable pub dims : Bool → Ty → Reader Ty
dims may u [] = ok u []
dims may u (o ∷ []) = cond (eqb (sym_of o) left_square) (cond may (bad Code.syntax []) (bad Code.bracket (o ∷ []))) (ok u (o ∷ []))
dims may u (o ∷ c ∷ ts) =
    cond (eqb (sym_of o) left_square)
    (cond may (cond (eqb (sym_of c) right_square) (dims may (array_of u) ts) (bad Code.syntax (c ∷ ts))) (bad Code.bracket (o ∷ c ∷ ts)))
    (ok u (o ∷ c ∷ ts))

-- the types of a tuple after its bracket: at least two
unfoldable pub tuple_types : Reader Ty → Reader Ty
tuple_types type ts = then (type ts) (λ u us. then (expect comma us) (λ c ws. mapped (λ vs. tuple_of (a-type u vs)) (row types (commas right_round) type ws)))

-- a type's name
abbrev pub named-type : Option Ty → Token → Reader Ty
named-type (some u) t ts = ok u ts
named-type nothing t ts = bad Code.syntax (t ∷ ts)

-- a type without its pairs of square brackets, by its first token
unfoldable pub base_step : (Token → Reader Ty) → Reader Ty
base_step opened [] = bad Code.syntax []
base_step opened (t ∷ ts) = cond (eqb (sym_of t) left_round) (opened t ts) (named-type (type_name (sym_of t)) t ts)

-- a type and its pairs of square brackets; where no bracket may be opened, an opening one is a fault
unfoldable pub type : ℕ → Reader Ty
type zero ts = then (base_step (λ t us. bad Code.bracket (t ∷ us)) ts) (dims false)
type (suc b) ts = then (base_step (λ t us. tuple_types (λ ws. type b ws) us) ts) (dims true)

-- ---- operation lists

-- `=` and a value without names, where there is one
unfoldable pub default : ℕ → Reader (Option Value)
default b ts = cond (begins equal ts) (mapped some (value literals b (rest ts))) (ok nothing ts)

-- a name, a colon, a type, and perhaps a default
unfoldable pub param : ℕ → Reader Param
param b ts =
    then (expect a_name ts) (λ n us.
    then (expect colon us) (λ c us.
    then (type b us) (λ u us.
    mapped (λ d. record { name = n; ty = u; default = d }) (default b us))))

-- a name, a colon and a type
unfoldable pub typed_name : ℕ → Reader Result
typed_name b ts =
    then (expect a_name ts) (λ n us.
    then (expect colon us) (λ c us.
    mapped (λ u. record { name = n; ty = u }) (type b us)))

-- the word `fragment`, a name, parameters, an arrow and results
unfoldable pub header : ℕ → Reader Header
header b ts =
    then (expect fragment ts) (λ f us.
    then (expect a_name us) (λ n us.
    then (expect left_round us) (λ o us.
    then (row plain (commas right_round) (param b) us) (λ ps us.
    then (expect arrow us) (λ a us.
    then (expect left_round us) (λ o us.
    mapped (λ rs. record { keyword = f; name = n; params = ps; results = rs }) (row plain (commas right_round) (typed_name b) us)))))))

-- an operation list: headers up to the end
unfoldable pub operations : ℕ → Reader (List Header)
operations b [] = ok [] []
operations b (t ∷ ts) = row plain to_the_end (header b) (t ∷ ts)

-- ---- documents

-- what the value v is as an argument: where it is a name with `=` after it, the name of a parameter, and a value follows
abbrev pub labelled : Value → Bool → ℕ → Reader Arg
labelled (name t) true b us = mapped (named t) (value both b (rest us))
labelled (name t) false b us = ok (positional (name t)) us
labelled (literal l) e b us = ok (positional (literal l)) us
labelled (array t vs) e b us = ok (positional (array t vs)) us
labelled (tuple t vs) e b us = ok (positional (tuple t vs)) us

-- a value, or a name with `=` and a value
unfoldable pub argument : ℕ → Reader Arg
argument b ts = then (value both b ts) (λ v us. labelled v (begins equal us) b us)

-- a left side and its `=`: one pattern, or several, which are one tuple and keep the first token
unfoldable pub left : ℕ → Reader Value
left b [] = bad Code.syntax []
left b (t ∷ ts) =
    then (value names b (t ∷ ts)) (λ v us.
    cond (begins equal us) (ok v (rest us))
    (then (expect comma us) (λ c ws. mapped (λ vs. tuple t (more v vs)) (row values (commas equal) (value names b) ws))))

-- a left side, an operation's name, arguments, and perhaps a semicolon
unfoldable pub call : ℕ → Reader Call
call b ts =
    then (left b ts) (λ v us.
    then (expect a_name us) (λ n us.
    then (expect left_round us) (λ o us.
    then (row plain (commas right_round) (argument b) us) (λ xs us.
    ok (record { left = v; op = n; args = xs }) (cond (begins semicolon us) (rest us) us)))))

-- the end of the tokens
abbrev pub at_end : {A : Type 0} → A → Reader A
at_end a [] = ok a []
at_end a (t ∷ ts) = bad Code.syntax (t ∷ ts)

-- a version, a graph's name, inputs and outputs, calls in curly brackets, and the end
unfoldable pub document : ℕ → Reader Document
document b ts =
    then (expect version ts) (λ v us.
    then (expect a_number us) (λ l us.
    then (expect graph us) (λ g us.
    then (expect a_name us) (λ n us.
    then (expect left_round us) (λ o us.
    then (row plain (commas right_round) (expect a_name) us) (λ is us.
    then (expect arrow us) (λ a us.
    then (expect left_round us) (λ o us.
    then (row plain (commas right_round) (expect a_name) us) (λ os us.
    then (expect left_curly us) (λ q us.
    then (row plain (closed right_curly) (call b) us) (λ cs us.
    at_end (record { version = l; graph = n; inputs = is; outputs = os; calls = cs }) us)))))))))))

-- ---- whole texts

-- an operation list with at most eight brackets open at once
abbrev pub parse_list : Reader (List Header)
parse_list ts = operations max_brackets ts

-- a document with at most eight brackets open at once
abbrev pub parse_document : Reader Document
parse_document ts = document max_brackets ts
