-- What reading a text gives: the tokens that its bytes spell, if they are of the syntax that is asked for.
use Rattle.std.specs.Prelude.{List, [], ◌∷◌, ℕ, ◌-◌, length}
use Rattle.lexis.specs.Lexer.{Token, Lexed, accepted, refused, lex}
use Rattle.lexis.specs.Answer.{Counted}
use Rattle.lexis.specs.Answer.Counted.{Tokens, Fault as Refused}
use Rattle.syntax.specs.Parser.{Parse, parse_list, parse_document}
use Rattle.syntax.specs.Parser.Parse.{ok, bad}
use Rattle.syntax.specs.declared.Syntax.{Syntax}
use Rattle.syntax.specs.declared.Syntax.TheVariants as S

-- what a reader over tokens answers: how many were passed, or a fault's code and place
pub data Parsed : Type 0 where
  Done : ℕ → Parsed
  Fault : ℕ → ℕ → Parsed

-- the place of a fault: its token's start, or the text's end
abbrev pub place_of : ℕ → List Token → ℕ
place_of end [] = end
place_of end (t ∷ ts) = t.start

-- what a reader over n tokens of a text that ends at `end` answers: how many tokens were passed, or the code and the place of the fault
abbrev pub parsed : {A : Type 0} → ℕ → ℕ → Parse A → Parsed
parsed end n (ok a ts) = Done (n - length ts)
parsed end n (bad c ts) = Fault c (place_of end ts)

-- what the reader of a list or a document answers over n tokens of a text that ends at `end`
abbrev pub syntax_of : Syntax → ℕ → ℕ → List Token → Parsed
syntax_of S.List end n ts = parsed end n (parse_list ts)
syntax_of S.Document end n ts = parsed end n (parse_document ts)

-- n tokens, or the fault
abbrev pub agreed : ℕ → Parsed → Counted
agreed n (Done j) = Tokens n
agreed n (Fault c q) = Refused c q

-- bytes first, then syntax
abbrev pub read_after : Syntax → ℕ → Lexed → Counted
read_after w end (accepted ts) = agreed (length ts) (syntax_of w end (length ts) ts)
read_after w end (refused c p) = Refused c p

-- what reading a text as a list or a document gives
abbrev pub read_of : Syntax → List ℕ → Counted
read_of w text = read_after w (length text) (lex text)
