-- Names: the identifiers of values and calls, which names are among others, and which are repeated.
use Rattle.std.specs.Prelude.{ℕ, Bool, false, cond, ◌||◌}
use mathlib.Core.List.{List, [], ◌∷◌, ◌++◌, flat_map}
use Rattle.spellings.specs.Comparison.{same_bytes}
use Rattle.lexis.specs.Lexer.{Token}
use Rattle.syntax.specs.Tree.{Value, Values, Arg, Call}
use Rattle.syntax.specs.Tree.Value.{name, literal, array, tuple}
use Rattle.syntax.specs.Tree.Values.{none, more}
use Rattle.syntax.specs.Tree.Arg.{positional, named}

-- ---- lists of names

-- the tokens that pass a test
unfoldable pub those : (Token → Bool) → List Token → List Token
those f [] = []
those f (t ∷ ts) = let r = those f ts in cond (f t) (t ∷ r) r

-- a token of the same bytes is among these
unfoldable pub is_among : List Token → Token → Bool
is_among [] t = false
is_among (s ∷ ss) t = same_bytes s.bytes t.bytes || is_among ss t

-- the tokens whose name stands before them too, the tokens `seen` first
unfoldable pub repeats_after : List Token → List Token → List Token
repeats_after seen [] = []
repeats_after seen (t ∷ ts) = let r = repeats_after (seen ++ (t ∷ [])) ts in cond (is_among seen t) (t ∷ r) r

abbrev pub repeats : List Token → List Token
repeats ts = repeats_after [] ts

-- ---- the names in a tree

-- the first token of a value, where it starts
abbrev pub first_token : Value → Token
first_token (name t) = t
first_token (literal l) = l.first
first_token (array t vs) = t
first_token (tuple t vs) = t

abbrev pub start_of : Value → ℕ
start_of v = (first_token v).start

-- the names in a value, in reading order
unfoldable mutual
  pub names_in : Value → List Token
  names_in (name t) = t ∷ []
  names_in (literal l) = []
  names_in (array t vs) = names_of vs
  names_in (tuple t vs) = names_of vs

  pub names_of : Values → List Token
  names_of none = []
  names_of (more v vs) = names_in v ++ names_of vs

-- the identifiers that a call assigns
abbrev pub assigned : Call → List Token
assigned c = names_in c.left

-- the identifiers that a call uses: those of its arguments' values; the name of a named argument is no use
abbrev pub value_of : Arg → Value
value_of (positional v) = v
value_of (named t v) = v

unfoldable pub used : Call → List Token
used c = flat_map (λ (a : Arg). names_in (value_of a)) c.args

-- those of a whole body, in reading order; both count places, repeats too
unfoldable pub all_assigned : List Call → List Token
all_assigned cs = flat_map assigned cs

unfoldable pub all_used : List Call → List Token
all_used cs = flat_map used cs
