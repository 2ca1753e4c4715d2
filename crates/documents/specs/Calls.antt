-- Calls in a body, which the contracts of the walks over it cite: calls in a row, and the places of a call's parts.
use Rattle.std.specs.Prelude.{◌≡◌, List, [], ◌∷◌, ℕ, ◌+◌, ◌<◌}
use Rattle.lexis.specs.Lexer.{Token}
use Rattle.lexis.specs.Symbol.{right_round}
use Rattle.syntax.specs.Tree.{Arg, Call}
use Rattle.syntax.specs.Parser.{plain, commas, row, argument, left, call}
use Rattle.syntax.specs.Parser.Parse.{ok}
use Rattle.syntax.specs.Table.{token_at, toks}
use Rattle.lists.specs.Names.{first_token, assigned}
use Rattle.lists.specs.Scans.{names_among}

-- calls in a row, from the tokens before them to those after them
pub data Calls (b : ℕ) : List Token → List Call → List Token → Type 0 where
  no_call : {ts : List Token} → Calls b ts [] ts
  a_call : {ts us ws : List Token} {c : Call} {cs : List Call} → call b ts ≡ ok c us → Calls b us cs ws → Calls b ts (c ∷ cs) ws

-- these arguments are read here
pub record Arguments (b : ℕ) (ts : List Token) (xs : List Arg) : Type 0 where
  pub behind : List Token
  pub read : row plain (commas right_round) (argument b) ts ≡ ok xs behind

-- the call c, read from place `at`, has its `=` at place `equal`
pub record CallFrom (text table : List ℕ) (n at equal : ℕ) (c : Call) : Type 0 where
  pub first : token_at text table at ≡ first_token c.left
  pub leads : (b : ℕ) (ws : List Token) → call b (toks text table n at) ≡ ok c ws → left b (toks text table n at) ≡ ok c.left (toks text table n (equal + 1))
  pub assigns : names_among (toks text table equal at) ≡ assigned c
  pub title : token_at text table (equal + 1) ≡ c.op
  pub arguments : (b : ℕ) (ws : List Token) → call b (toks text table n at) ≡ ok c ws → Arguments b (toks text table n (equal + 3)) c.args
  pub inside : (at < n) × (equal + 1 < n)
