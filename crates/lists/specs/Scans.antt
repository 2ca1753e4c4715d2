-- Flat scans over tokens, which the contracts of the walks over names and calls cite: the names of a part, the uses of a part, where a
-- terminal stands next, and where a bracket closes.
use Rattle.std.specs.Prelude.{ℕ, suc, pred, List, [], ◌∷◌, Bool, cond, not, ◌&&◌, ◌||◌, eqb}
use Rattle.lexis.specs.Lexer.{Token}
use Rattle.lexis.specs.Symbol.{sym_of, a_name, equal, left_round, right_round, left_square, right_square}
use Rattle.syntax.specs.Parser.{begins}
use Rattle.lists.specs.Names.{those}

-- ---- names

abbrev pub is_name_token : Token → Bool
is_name_token t = eqb (sym_of t) a_name

abbrev pub names_among : List Token → List Token
names_among ts = those is_name_token ts

-- a name that no `=` follows
abbrev pub is_use : Token → List Token → Bool
is_use t ts = is_name_token t && not (begins equal ts)

unfoldable pub uses_among : List Token → List Token
uses_among [] = []
uses_among (t ∷ ts) = let r = uses_among ts in cond (is_use t ts) (t ∷ r) r

-- a token, if it is a use
abbrev pub uses_here : Token → List Token → List Token
uses_here t ts = cond (is_use t ts) (t ∷ []) []

-- ---- places

-- the tokens from the first terminal s on
unfoldable pub from_symbol : ℕ → List Token → List Token
from_symbol s [] = []
from_symbol s (t ∷ ts) = let r = from_symbol s ts in cond (eqb (sym_of t) s) (t ∷ ts) r

-- how many brackets are open after a terminal
abbrev pub opens_one : ℕ → Bool
opens_one s = eqb s left_round || eqb s left_square

abbrev pub closes_one : ℕ → Bool
closes_one s = eqb s right_round || eqb s right_square

unfoldable pub open_after : ℕ → ℕ → ℕ
open_after k s = cond (opens_one s) (suc k) (cond (closes_one s) (pred k) k)

-- with k brackets open: the tokens from the bracket on that closes the last of them
unfoldable pub from_close : ℕ → List Token → List Token
from_close k [] = []
from_close k (t ∷ ts) = let r = from_close (open_after k (sym_of t)) ts in cond (eqb (open_after k (sym_of t)) 0) (t ∷ ts) r
