-- What only the contracts of what a list says to a call cite: the directory that is lent, where a call stands, and what is answered.
use Rattle.std.specs.Prelude.{◌≡◌, ℕ, ◌+◌, ◌*◌, ◌<◌, ◌≤◌, List, ◌++◌, map, length, Some}
use Rattle.std.proofs.Math.Option.{some, none as nothing}
use Rattle.lexis.specs.Sizes.{max_brackets, max_operations, max_parameters}
use Rattle.lexis.specs.Lexer.{Token}
use Rattle.lexis.specs.Symbol.{right_round}
use Rattle.syntax.specs.Tree.{Header, Arg, Call}
use Rattle.syntax.specs.Parser.{plain, commas, row, argument, left, call}
use Rattle.syntax.specs.Parser.Parse.{ok}
use Rattle.syntax.specs.Table.{toks}
use Rattle.lists.specs.Fault.{first}
use Rattle.lists.specs.Best.{meant}
use Rattle.lists.specs.ListRules.{list_faults}
use Rattle.lists.specs.Found.{find, index_of}
use Rattle.lists.specs.Headers.{Roomy, Numbered}
use Rattle.index.specs.Indexed.{Walkable}
use Rattle.lists.specs.Directory.{operation_word, parameter_word, first_parameter, parameter_words, OperationsAt}
use Rattle.documents.specs.declared.judging.Judged.{Judged}
use Rattle.documents.specs.DocumentRules.{bound_at, left_faults}
use Rattle.documents.specs.Operations.{operation_faults}

-- ---- the directory

-- the headers hs stand in the directory, their names in the index, and they have no fault
pub record Directs (text table index words : List ℕ) (n : ℕ) (hs : List Header) : Type 0 where
  pub names : Numbered text table index n (length hs) (map (λ (h : Header). h.name) hs)
  pub operations : OperationsAt text table words n 0 hs
  pub clean : first (list_faults hs) ≡ nothing

-- headers stand in it, and it has room for the records of their parameters
pub record Directed (text table index words : List ℕ) (n : ℕ) : Type 0 where
  pub headers : List Header
  pub directs : Directs text table index words n headers
  pub walkable : Walkable index n n
  pub roomy : Roomy words n

-- what is asked of operation k to read its records: they lie in the directory, its parameters are no more than may be, and their names stand in the table
pub record Readable (words : List ℕ) (n k : ℕ) : Type 0 where
  pub number : k < max_operations
  pub room : first_parameter + operation_word words k 2 * parameter_words ≤ length words
  pub ordered : operation_word words k 1 ≤ operation_word words k 2
  pub few : operation_word words k 2 ≤ operation_word words k 1 + max_parameters
  pub names : (j : ℕ) → operation_word words k 1 ≤ j → j < operation_word words k 2 → parameter_word words j 0 < n

-- ---- a call

-- the call c is read from place `at`, and its `=` stands at place `equal`
pub record CallWith (text table : List ℕ) (n at equal : ℕ) (c : Call) : Type 0 where
  pub after : List Token
  pub read : call max_brackets (toks text table n at) ≡ ok c after
  pub leads : left max_brackets (toks text table n at) ≡ ok c.left (toks text table n (equal + 1))

-- whatever arguments stand from place i on, the bracket that closes them stands at place r
abbrev pub ClosesAt : List ℕ → List ℕ → ℕ → ℕ → ℕ → Type 0
ClosesAt text table n i r =
    (xs : List Arg) (us : List Token) → row plain (commas right_round) (argument max_brackets) (toks text table n i) ≡ ok xs us
    → (us ≡ toks text table n (r + 1)) × (r < n)

-- r is what the header h says to whatever call stands at place `at`
pub record Says (text table : List ℕ) (n at equal : ℕ) (h : Header) (r : Judged) : Type 0 where
  pub faults : (c : Call) → CallWith text table n at equal c → meant r.best ≡ first (bound_at c.op.start h c ++ left_faults h c)
  pub closes : ClosesAt text table n (equal + 3) r.close

-- r is what the headers hs say to the call c, whose `=` stands at place `equal`: its first fault of codes 15 to 20, the number of its operation where it is
-- declared, and where its arguments close
pub record Judges (hs : List Header) (c : Call) (text table : List ℕ) (n equal : ℕ) (r : Judged) : Type 0 where
  pub found : meant r.best ≡ first (operation_faults hs c)
  pub op : (h : Header) → find hs c.op ≡ some h → r.op ≡ Some (index_of hs c.op)
  pub closes : ClosesAt text table n (equal + 3) r.close
