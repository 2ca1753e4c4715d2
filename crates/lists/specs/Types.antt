-- A type as one number, as the directory of a list keeps it: the kinds of leaf that fit its word, whether tensor is its only word, and its pairs of
-- square brackets. What the code reads of a type in a table.
use Rattle.std.specs.Prelude.{ℕ, suc, ◌+◌, ◌*◌, ◌/◌, ◌%◌, ◌^◌, ◌<◌, ◌≤◌, ◌≡◌, Bool, cond, List, [], ◌∷◌, eqb}
use Rattle.lexis.specs.Lexer.{Token}
use Rattle.lexis.specs.Symbol.{tensor_word, extent_word, scalar_word, logical_word, string_word}
use Rattle.syntax.specs.Tree.{Ty, Result}
use Rattle.syntax.specs.Tree.Ty.{tensor, extent, scalar, logical, string, array_of, tuple_of}
use Rattle.syntax.specs.Parser.{type}
use Rattle.syntax.specs.Parser.Parse.{ok}
use Rattle.syntax.specs.Table.{toks}
use Rattle.lists.specs.Reading.{all_tensor}
use Rattle.lists.specs.Masks.{bit}
use Rattle.lists.specs.declared.types.TypeAt.{TypeAt}

-- ---- the kinds of leaf that a type word takes

-- As a mask: bit k is kind k. A whole number is kind 2, so it fits where 4 is in the mask; at extent it must be small besides. No two words take the same
-- kinds, and a tuple takes none.
abbrev pub tensor_kinds : ℕ
tensor_kinds = 46

abbrev pub extent_kinds : ℕ
extent_kinds = 4

abbrev pub scalar_kinds : ℕ
scalar_kinds = 12

abbrev pub logical_kinds : ℕ
logical_kinds = 32

abbrev pub string_kinds : ℕ
string_kinds = 16

abbrev pub tuple_kinds : ℕ
tuple_kinds = 0

-- kind k is among them
unfoldable pub takes : ℕ → ℕ → Bool
takes kinds k = eqb (kinds / 2 ^ (k % 32) % 2) 1

-- those of a type's word
unfoldable pub kinds_of : Ty → ℕ
kinds_of tensor = tensor_kinds
kinds_of extent = extent_kinds
kinds_of scalar = scalar_kinds
kinds_of logical = logical_kinds
kinds_of string = string_kinds
kinds_of (array_of u) = kinds_of u
kinds_of (tuple_of us) = tuple_kinds

-- the same by the word's terminal; any other terminal takes none
unfoldable pub word_kinds : ℕ → ℕ
word_kinds s =
    cond (eqb s tensor_word) tensor_kinds
    (cond (eqb s extent_word) extent_kinds
    (cond (eqb s scalar_word) scalar_kinds
    (cond (eqb s logical_word) logical_kinds
    (cond (eqb s string_word) string_kinds tuple_kinds))))

-- ---- a type as one number

-- its pairs of square brackets
unfoldable pub pairs_of : Ty → ℕ
pairs_of tensor = 0
pairs_of extent = 0
pairs_of scalar = 0
pairs_of logical = 0
pairs_of string = 0
pairs_of (array_of u) = suc (pairs_of u)
pairs_of (tuple_of us) = 0

-- the number of a type
unfoldable pub type_code : Ty → ℕ
type_code u = kinds_of u + 512 * (bit (all_tensor u) + 2 * pairs_of u)

-- the number in its place where there are several results; no type has it
abbrev pub several : ℕ
several = 1

-- the number of the type of the only result
unfoldable pub result_code : List Result → ℕ
result_code [] = several
result_code (r ∷ []) = type_code r.ty
result_code (r ∷ s ∷ rs) = several

-- ---- a type in a table

-- r is what is read of the type u, before the tokens us
pub record TypeIs (text table : List ℕ) (n : ℕ) (u : Ty) (us : List Token) (r : TypeAt) : Type 0 where
  pub kinds : r.kinds ≡ kinds_of u
  pub pairs : r.pairs ≡ pairs_of u
  pub tensor : r.tensor ≡ all_tensor u
  pub end : us ≡ toks text table n r.end

-- whatever type stands at a place, r is what is read of it
abbrev pub OfType : List ℕ → List ℕ → ℕ → ℕ → TypeAt → Type 0
OfType text table n at r = (c : ℕ) (u : Ty) (us : List Token) → type c (toks text table n at) ≡ ok u us → TypeIs text table n u us r

-- whatever stands there, its numbers are small, and it ends no later than one place past n
pub record TypeRange (n : ℕ) (r : TypeAt) : Type 0 where
  pub kinds : r.kinds < 64
  pub pairs : r.pairs ≤ n
  pub end : r.end ≤ n + 1
