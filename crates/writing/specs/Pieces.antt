-- A text that is to be written, as a list of pieces: each a token and the white space that the layout puts after it.
use Rattle.std.specs.Prelude.{ℕ, ◌+◌, List, [], ◌∷◌, ◌++◌, length}
use Rattle.lexis.specs.Lexer.{Token}

pub record Piece : Type 0 where
  pub kind : ℕ
  pub bytes : List ℕ
  pub space : List ℕ

-- the text that the pieces make
unfoldable pub text : List Piece → List ℕ
text [] = []
text (p ∷ ps) = p.bytes ++ (p.space ++ text ps)

-- their tokens, where the text starts at position `at`
unfoldable pub tokens_at : ℕ → List Piece → List Token
tokens_at at [] = []
tokens_at at (p ∷ ps) = record { kind = p.kind; start = at; bytes = p.bytes } ∷ tokens_at (at + length p.bytes + length p.space) ps
