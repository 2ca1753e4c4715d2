-- The tokens of a whole text, or its first fault. Relies on `Sizes` for the number of tokens, `Bytes` for gaps, `Lexeme` for a token.
use Rattle.std.specs.Prelude.{ℕ, zero, suc, pred, ◌+◌, ◌<◌, ◌≤◌, ◌≡◌, cond, List, [], ◌∷◌, ltb, length, take, drop}
use Rattle.lexis.specs.Sizes.{max_tokens}
use Rattle.lexis.specs.Code as Code
use Rattle.lexis.specs.Kind.{IsKind}
use Rattle.lexis.specs.Bytes.{gap_len}
use Rattle.lexis.specs.Lexeme.{Lexeme, lexeme}
use Rattle.lexis.specs.Lexeme as L

-- A token: its kind, the position where it starts, its bytes.
pub record Token : Type 0 where
  pub kind : ℕ
  pub start : ℕ
  pub bytes : List ℕ

-- What a text gives: its tokens in order, or the code and the position of the first fault.
pub data Lexed : Type 0 where
  accepted : List Token → Lexed
  refused : ℕ → ℕ → Lexed

-- a token before what follows it; a fault that follows stays
abbrev pub prepend : Token → Lexed → Lexed
prepend t (accepted ts) = accepted (t ∷ ts)
prepend t (refused c p) = refused c p

-- What follows from the token or fault at the front of the text s, at position `at`, after n tokens; `rest` gives what follows a token,
-- by its length. A token beyond the 4096th is code 8; its own fault comes before.
unfoldable pub admit : Lexeme → ℕ → ℕ → List ℕ → (ℕ → Lexed) → Lexed
admit (L.Fault c) n at s rest = refused c at
admit (L.Token k len) n at s rest =
    let r = prepend (record { kind = k; start = at; bytes = take len s }) (rest len) in
    cond (ltb n max_tokens) r (refused Code.too_many at)

-- The tokens of s, which stands at position `at` of the text, after n tokens. The first `skip` bytes of s belong to what was read
-- last and are passed over; white space and comments are passed over too.
unfoldable pub lex_from : ℕ → ℕ → ℕ → List ℕ → Lexed
lex_from skip n at [] = accepted []
lex_from (suc skip) n at (x ∷ s) = lex_from skip n (suc at) s
lex_from zero n at (x ∷ s) =
    elim (gap_len (x ∷ s)) [
      | zero ↦ admit (lexeme (x ∷ s)) n at (x ∷ s) (λ len. lex_from (pred len) (suc n) (suc at) s)
      | suc g ↦ lex_from g n (suc at) s
    ]

-- the tokens of a text, or its first fault
abbrev pub lex : List ℕ → Lexed
lex text = lex_from 0 0 0 text

-- ---- what the theorems claim of tokens

-- Tokens in their places, from the position `at` on. Before each token and after the last stands a gap, which is white space and comments
-- and nothing else. Each token is the one that `lexeme` finds at the front of the text there: it has at least one byte, lies in the text,
-- and its bytes are the text's own.
pub data Placed (text : List ℕ) : ℕ → List Token → Type 0 where
  none : {at : ℕ} → at + gap_len (drop at text) ≡ length text → Placed text at []
  next : {at : ℕ} {t : Token} {ts : List Token} → t.start ≡ at + gap_len (drop at text)
      → lexeme (drop t.start text) ≡ L.Token t.kind (length t.bytes) → 1 ≤ length t.bytes → t.start + length t.bytes ≤ length text
      → t.bytes ≡ take (length t.bytes) (drop t.start text) → Placed text (t.start + length t.bytes) ts → Placed text at (t ∷ ts)

-- the bytes w, all of them, are one token
abbrev pub IsToken : List ℕ → Type 0
IsToken w = (k : ℕ) × (lexeme w ≡ L.Token k (length w))

-- the longest match: no longer piece of the text that starts where a token starts is one token
abbrev pub Longest : List ℕ → List Token → Type 0
Longest text [] = Unit {0}
Longest text (t ∷ ts) =
    ((m : ℕ) → length t.bytes < m → t.start + m ≤ length text → IsToken (take m (drop t.start text)) → ⊥) × Longest text ts

-- every token is of one of the eight kinds
abbrev pub Kinded : List Token → Type 0
Kinded [] = Unit {0}
Kinded (t ∷ ts) = IsKind t.kind × Kinded ts
