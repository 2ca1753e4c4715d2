-- What the stages of an operation list come to, and what they leave: a table in the work area, and the directory of its operations.
use Rattle.std.specs.Prelude.{ℕ, ◌≤◌, ◌≡◌, List, [], map, length, replicate, Result, Ok, Err}
use Rattle.lexis.specs.Sizes.{max_tokens}
use Rattle.lexis.specs.Lexer.{accepted, lex}
use Rattle.syntax.specs.Tree.{Header}
use Rattle.syntax.specs.Parser.{parse_list}
use Rattle.syntax.specs.Parser.Parse.{ok}
use Rattle.syntax.specs.Table.{toks, Holds}
use Rattle.lists.specs.Fault as F
use Rattle.lists.specs.ListRules.{list_faults}
use Rattle.index.specs.Layout.{index_words}
use Rattle.index.specs.Indexed.{Walkable}
use Rattle.lists.specs.Directory.{OperationsAt}
use Rattle.lists.specs.Headers.{Roomy, Numbered}
use Rattle.lists.specs.Answer.{pass, stop, rules_stage, list_stages}
use Rattle.lexis.specs.declared.Answer.{Answer}
use Rattle.lists.specs.declared.list.Listed.{Listed}

-- the tokens of the text stand in the table, and they are a list; its rules are the stage that is left
pub record ListRead (text work : List ℕ) (n : ℕ) : Type 0 where
  pub headers : List Header
  pub lexed : lex text ≡ accepted (toks text work n 0)
  pub table : Holds text work n
  pub parsed : parse_list (toks text work n 0) ≡ ok headers []
  pub stages : list_stages text ≡ rules_stage 1 headers (F.first (list_faults headers))

-- an index of no names and words for a directory, with room for n tokens
pub record Served (index words : List ℕ) (n : ℕ) : Type 0 where
  pub empty : index ≡ replicate (length index) 0
  pub room : index_words n ≤ length index
  pub roomy : Roomy words n

-- the list has passed its stages; it has n tokens and k operations, whose directory and names are left
pub record ListPassed (text work index words : List ℕ) (n k : ℕ) : Type 0 where
  pub headers : List Header
  pub stages : list_stages text ≡ pass headers
  pub count : length headers ≡ k
  pub small : n ≤ max_tokens
  pub few : k ≤ n
  pub lexed : lex text ≡ accepted (toks text work n 0)
  pub table : Holds text work n
  pub parsed : parse_list (toks text work n 0) ≡ ok headers []
  pub directory : OperationsAt text work words n 0 headers
  pub roomy : Roomy words n
  pub walkable : Walkable index n n
  pub names : Numbered text work index n k (map (λ (h : Header). h.name) headers)

-- what the stages come to
abbrev pub ListDone : List ℕ → List ℕ → List ℕ → List ℕ → Result Listed Answer → Type 0
ListDone text work index words (Ok l) = ListPassed text work index words l.tokens l.operations
ListDone text work index words (Err r) = list_stages text ≡ stop r
