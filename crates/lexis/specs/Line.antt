-- The line on which a position of a text stands. Relies on `Lexer`, for what is claimed of tokens alone.
use Rattle.std.specs.Prelude.{ℕ, suc, ◌+◌, ◌<◌, ◌≤◌, ◌≡◌, cond, List, [], ◌∷◌, eqb, length, take, get_or}
use Rattle.lexis.specs.Lexer.{Token}

-- how many bytes 10, which is the line feed, are among these bytes; 11, 12 and 13 do not count
unfoldable pub line_feeds : List ℕ → ℕ
line_feeds [] = 0
line_feeds (x ∷ s) = let r = line_feeds s in cond (eqb x 10) (suc r) r

-- the line of the position p, from 1: one more than the number of bytes 10 before it, inside comments or outside
abbrev pub line_of : List ℕ → ℕ → ℕ
line_of text p = suc (line_feeds (take p text))

-- ---- what the theorems claim of lines

-- no byte 10 stands from the position p on and before q
abbrev pub NoFeed : List ℕ → ℕ → ℕ → Type 0
NoFeed text p q = (i : ℕ) → p ≤ i → i < q → get_or text i 0 ≡ 10 → ⊥

-- every token ends on the line on which it starts
abbrev pub OneLine : List ℕ → List Token → Type 0
OneLine text [] = Unit {0}
OneLine text (t ∷ ts) = (line_of text (t.start + length t.bytes) ≡ line_of text t.start) × OneLine text ts
