-- The tokens that a table of records holds. `Read` says what a reader over the table answers.
use Rattle.std.specs.Prelude.{◌≡◌, ℕ, zero, suc, ◌+◌, ◌-◌, ◌*◌, ◌<◌, ◌≤◌, List, [], ◌∷◌, length, get_or, take, drop}
use Rattle.lexis.specs.Lexer.{Token}
use Rattle.lexis.specs.Sizes.{record_words, first_mark}
use Rattle.lexis.specs.Symbol.{sym_of}
pub use Rattle.syntax.specs.Read.{place_of, parsed}

-- the kind of the token at place i
abbrev pub kind_at : List ℕ → ℕ → ℕ
kind_at table i = get_or table (i * record_words) 0

-- where it starts
abbrev pub start_at : List ℕ → ℕ → ℕ
start_at table i = get_or table (i * record_words + 1) 0

-- its end, after its last byte
abbrev pub end_at : List ℕ → ℕ → ℕ
end_at table i = get_or table (i * record_words + 2) 0

-- the token at place i of a table over a text
unfoldable pub token_at : List ℕ → List ℕ → ℕ → Token
token_at text table i =
    record { kind = kind_at table i; start = start_at table i; bytes = take (end_at table i - start_at table i) (drop (start_at table i) text) }

-- the k tokens from place i on
unfoldable pub tokens_from : List ℕ → List ℕ → ℕ → ℕ → List Token
tokens_from text table i zero = []
tokens_from text table i (suc k) = token_at text table i ∷ tokens_from text table (i + 1) k

-- the tokens from place i up to place n
abbrev pub toks : List ℕ → List ℕ → ℕ → ℕ → List Token
toks text table n i = tokens_from text table i (n - i)

-- the table has n records, each of a token that is not empty and lies in the text, and behind the records the terminals of those tokens
pub record Holds (text table : List ℕ) (n : ℕ) : Type 0 where
  pub room : n * record_words ≤ length table
  pub behind : first_mark + n ≤ length table
  pub within : (i : ℕ) → i < n → (start_at table i < end_at table i) × (end_at table i ≤ length text)
  pub mark : (i : ℕ) → i < n → get_or table (first_mark + i) 0 ≡ sym_of (token_at text table i)
