-- The tokens that a value of `Tokens` holds, and what the readers over them answer.
use Rattle.std.specs.Prelude.{ℕ, List, length, Result, Ok, Err}
use Rattle.lexis.specs.Lexer.{Token}
use Rattle.syntax.specs.Code as Code
use Rattle.syntax.specs.Parser.{Reader}
use Rattle.syntax.specs.Read.{Parsed, place_of, parsed}
use Rattle.syntax.specs.Read.Parsed.{Done, Fault}
use Rattle.syntax.specs.Table.{toks}
use Rattle.syntax.specs.declared.ParseError.{ParseError}
use Rattle.syntax.specs.declared.ParseError.TheVariants.{Unexpected, TooDeep}
use Rattle.syntax.specs.declared.tokens.Tokens.{Tokens}

-- its tokens from place i on
abbrev pub from : Tokens → ℕ → List Token
from ts i = toks ts.text.now ts.table.now ts.count i

-- the code of an error: no valid text has this token here; a bracket more than may be open
abbrev pub code_of : ParseError → ℕ
code_of (Unexpected i) = Code.syntax
code_of (TooDeep i) = Code.bracket

-- the place of its token
abbrev pub place_in : ParseError → ℕ
place_in (Unexpected i) = i
place_in (TooDeep i) = i

-- what an answer stands for: the place of a token, or the code of an error and where its token starts
abbrev pub told : Tokens → Result ℕ ParseError → Parsed
told ts (Ok i) = Done i
told ts (Err e) = Fault (code_of e) (place_of (length ts.text.now) (from ts (place_in e)))

-- what the grammar's reader r answers over the tokens from place i on
abbrev pub answer : {A : Type 0} → Tokens → Reader A → ℕ → Parsed
answer ts r i = parsed (length ts.text.now) ts.count (r (from ts i))
