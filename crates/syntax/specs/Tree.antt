-- The trees of the flat syntax. They hold tokens, so that a rule can say where it is broken.
use Rattle.std.specs.Prelude.{Bool, true, false, List}
use Rattle.std.proofs.Math.Option.{Option}
use Rattle.lexis.specs.Lexer.{Token}

-- ---- literals

-- A literal: its first token, whether that is the sign of a negative number, and the token of the number, the string or the truth value.
pub record Literal : Type 0 where
  pub first : Token
  pub negative : Bool
  pub token : Token

-- without a sign a literal is one token
abbrev pub unsigned : Token → Literal
unsigned t = record { first = t; negative = false; token = t }

-- a sign and a number
abbrev pub negated : Token → Token → Literal
negated s t = record { first = s; negative = true; token = t }

-- ---- values, left sides, defaults

-- A value: a name, a literal, an array or a tuple. An array or a tuple keeps its first token, which is the opening bracket, or,
-- for a bare tuple on the left, the first token of its first item.
mutual
  pub data Value : Type 0 where
    name : Token → Value
    literal : Literal → Value
    array : Token → Values → Value
    tuple : Token → Values → Value

  -- the items of an array or a tuple, in order
  pub data Values : Type 0 where
    none : Values
    more : Value → Values → Values

-- ---- types

-- A type: one of the five that have a name, an array of items of a type, a tuple of types.
mutual
  pub data Ty : Type 0 where
    tensor extent scalar logical string : Ty
    array_of : Ty → Ty
    tuple_of : Tys → Ty

  -- the types of a tuple, in order
  pub data Tys : Type 0 where
    no-type : Tys
    a-type : Ty → Tys → Tys

-- ---- operation lists

-- `name : type`, with its default where there is one
pub record Param : Type 0 where
  pub name : Token
  pub ty : Ty
  pub default : Option Value

-- `name : type`
pub record Result : Type 0 where
  pub name : Token
  pub ty : Ty

-- A header: the word `fragment`, the operation's name, its parameters and results.
pub record Header : Type 0 where
  pub keyword : Token
  pub name : Token
  pub params : List Param
  pub results : List Result

-- ---- documents

-- an argument without and with its parameter's name
pub data Arg : Type 0 where
  positional : Value → Arg
  named : Token → Value → Arg

-- A call: what it assigns, the operation's name, its arguments.
pub record Call : Type 0 where
  pub left : Value
  pub op : Token
  pub args : List Arg

-- A document: the literal after `version`, the graph's name, inputs and outputs, its calls.
pub record Document : Type 0 where
  pub version : Token
  pub graph : Token
  pub inputs : List Token
  pub outputs : List Token
  pub calls : List Call
