-- When a text is accepted, and an operation list: said with the grammar and the rules alone, and no parser.
use Rattle.std.specs.Prelude.{◌≡◌, List, [], ◌∷◌, ◌++◌, ℕ, ◌≤◌, length}
use Rattle.lexis.specs.Sizes.{max_text, max_brackets}
use Rattle.lexis.specs.Lexer.{Token, accepted, lex}
use Rattle.syntax.specs.Tree.{Header}
use Rattle.syntax.specs.Grammar.{IsList}
use Rattle.lists.specs.Fault.{Fault}
use Rattle.lists.specs.ListRules.{list_faults}

-- a text of at most 16,384 bytes whose tokens spell a tree, with at most eight brackets open at once, that breaks no rule
pub record Accepted {A : Type 0} (Spells : ℕ → List Token → A → Type 0) (faults_of : A → List Fault) (text : List ℕ) (tree : A) : Type 0 where
  pub short : length text ≤ max_text
  pub tokens : List Token
  pub lexed : lex text ≡ accepted tokens
  pub spelt : Spells max_brackets tokens tree
  pub lawful : faults_of tree ≡ []

-- p is where a token of the text starts
pub record StartsToken (text : List ℕ) (p : ℕ) : Type 0 where
  pub before : List Token
  pub token : Token
  pub after : List Token
  pub among : lex text ≡ accepted (before ++ (token ∷ after))
  pub start : token.start ≡ p

-- an operation list of these headers
abbrev pub AcceptedList : List ℕ → List Header → Type 0
AcceptedList list hs = Accepted IsList list_faults list hs
