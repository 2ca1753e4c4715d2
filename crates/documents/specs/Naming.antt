-- What the index of a document's names says: what a name is in the header of the graph, and the first call that assigns it.
use Rattle.std.specs.Prelude.{ℕ, suc, cond, List, [], ◌∷◌, ◌++◌, map}
use Rattle.spellings.specs.Comparison.{same_bytes}
use Rattle.lexis.specs.Lexer.{Token}
use Rattle.syntax.specs.Tree.{Call}
use Rattle.index.specs.Mapped.{Mapped, both, kept}
use Rattle.lists.specs.Names.{assigned}
use Rattle.documents.specs.declared.wiring.Listed.{Listed}
use Rattle.documents.specs.declared.wiring.Listed.TheVariants.{Input, Output}

-- ---- names with a number each

pub record Entry : Type 0 where
  pub name : Token
  pub number : ℕ

-- these names, all with the number x
abbrev pub numbered : ℕ → List Token → List Entry
numbered x ts = map (λ (t : Token). record { name = t; number = x }) ts

-- the first number of an entry that is spelt w; 0 where there is none
unfoldable pub entry_number : List Entry → List ℕ → ℕ
entry_number [] w = 0
entry_number (e ∷ es) w = let r = entry_number es w in kept (cond (same_bytes e.name.bytes w) e.number 0) r

-- ---- the names of a document

abbrev pub input_word : ℕ
input_word = 1

abbrev pub output_word : ℕ
output_word = 2

-- the number of what the header has a name as
abbrev pub listed_number : Listed → ℕ
listed_number Input = input_word
listed_number Output = output_word

-- those of the header
abbrev pub headed : List Token → List Token → List Entry
headed ins outs = numbered input_word ins ++ numbered output_word outs

-- those that calls assign, each with the number of its call, counted from 1; k calls come before these
unfoldable pub assigners_from : ℕ → List Call → List Entry
assigners_from k [] = []
assigners_from k (c ∷ cs) = numbered (suc k) (assigned c) ++ assigners_from (suc k) cs

abbrev pub assigners : List Call → List Entry
assigners cs = assigners_from 0 cs

-- the index has names that stand below k; word 0 of a name is its number by es, word 1 that by `made`
abbrev pub Naming : List ℕ → List ℕ → List ℕ → ℕ → List Entry → List Entry → Type 0
Naming text table index k es made = Mapped text table index k (both (entry_number es) (entry_number made))
