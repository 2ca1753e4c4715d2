-- Tokens of the grammar, by their terminals, with which an unfinished text can be completed.
-- Assumes nothing.
use mathlib.Core.Path.{◌≡◌, refl}
use mathlib.Core.List.{[], ◌∷◌}
use Prim.Native.Nat.{ℕ}
use Prim.Native.String.{String}
use Rattle.spellings.specs.Comparison.{same_bytes}
use Rattle.lexis.specs.Ascii.{ascii}
use Rattle.lexis.specs.Lexer.{Token}
use Rattle.lexis.specs.Symbol.{sym_of, symbol_of, terminals, symbol_in, keyword_symbol, arrow, a_name, a_number, version, graph, fragment}
use Rattle.lexis.specs.Symbol.{scalar_word}

-- a token that is the terminal s
pub record Sample (s : ℕ) : Type 0 where
  pub token : Token
  pub is : sym_of token ≡ s

-- a syntactic character of one byte, and `->`
pub mark : (s : ℕ) → Sample s
unfolding sym_of symbol_of
mark s = record { token = record { kind = 8; start = 0; bytes = s ∷ [] }; is = refl }

pub arrow-token : Sample arrow
unfolding sym_of symbol_of
arrow-token = record { token = record { kind = 8; start = 0; bytes = ascii "->" }; is = refl }

pub name-token : Sample a_name
unfolding sym_of symbol_of
name-token = record { token = record { kind = 1; start = 0; bytes = ascii "x" }; is = refl }

pub number-token : Sample a_number
unfolding sym_of symbol_of
number-token = record { token = record { kind = 2; start = 0; bytes = ascii "1" }; is = refl }

-- a keyword
keyword : (w : String) {s : ℕ} → keyword_symbol (ascii w) ≡ s → Sample s
unfolding sym_of symbol_of
keyword w e = record { token = record { kind = 6; start = 0; bytes = ascii w }; is = e }

pub version-token : Sample version
unfolding terminals symbol_in same_bytes
version-token = keyword "version" refl

pub graph-token : Sample graph
unfolding terminals symbol_in same_bytes
graph-token = keyword "graph" refl

pub fragment-token : Sample fragment
unfolding terminals symbol_in same_bytes
fragment-token = keyword "fragment" refl

pub scalar-token : Sample scalar_word
unfolding terminals symbol_in same_bytes
scalar-token = keyword "scalar" refl
