-- What holds of the lexer, for every text and every table. Each claim follows in a few lines from the files below.
-- Relies on `Places` and `Longest` for the tokens, `Rows` for their lines, `Values` for numbers, `Answers` for the table.
use mathlib.Core.Path.{◌≡◌}
use mathlib.Core.Bool.{Bool}
use mathlib.Core.Logic.{◌↔◌}
use mathlib.Core.List.{List}
use Prim.Native.Nat.{ℕ, ◌*◌, ◌≤◌, ◌<◌}
use native.Mathlib.Omega.{arith}
use lib.ListN.{length, get_or}
use Rattle.lexis.specs.Sizes.{max_tokens, token_words}
use Rattle.lexis.specs.Code as Code
use Rattle.lexis.specs.Bytes.{span_len, IsRun}
use Rattle.lexis.specs.Number.{parts_of, reduced_of, IsReduced}
use Rattle.lexis.specs.Lexer.{Token, accepted, refused, lex, Placed, Longest, Kinded}
use Rattle.lexis.specs.Line.{line_of, NoFeed, OneLine}
use Rattle.lexis.specs.Answer.{tokens_answer, tokens_table, start_in, line_in}
use Rattle.lexis.proofs.Places.{all-fine}
use Rattle.lexis.proofs.Longest.{longest}
use Rattle.lexis.proofs.Positions.{is-run}
use Rattle.lexis.proofs.Values.{is-reduced}
use Rattle.lexis.proofs.Answers.{kept, beyond}
use Rattle.lexis.proofs.Rows.{row_line, rows-rise, rows_same, flat-tokens}

-- ---- tokens

-- The tokens stand in the text one after the other. Between them, before the first and after the last stand only white space and comments.
-- Each has its kind and its length by `lexeme`, and its bytes are the text's own.
pub placed : (text : List ℕ) (ts : List Token) → lex text ≡ accepted ts → Placed text 0 ts
placed text ts e = (all-fine text (accepted ts) e).0

-- each is the longest: no longer piece of the text from its start is one token
pub longest-match : (text : List ℕ) (ts : List Token) → lex text ≡ accepted ts → Longest text ts
longest-match text ts e = longest text ts (placed text ts e)

-- the runs of which names, strings, numbers and gaps are made are the longest: every byte in one passes, and the one after it does not
pub longest_run : (f : ℕ → Bool) (s : List ℕ) → IsRun f s (span_len f s)
longest_run f s = is-run f s

-- there are at most 4096
pub few : (text : List ℕ) (ts : List Token) → lex text ≡ accepted ts → length ts ≤ max_tokens
few text ts e = let f = all-fine text (accepted ts) e in omega (arith, f.1.0)

-- their kinds are 1 to 8
pub kinded : (text : List ℕ) (ts : List Token) → lex text ≡ accepted ts → Kinded ts
kinded text ts e = (all-fine text (accepted ts) e).1.1

-- ---- lines

-- each token has one more than the number of bytes 10 before its start
pub line : (text table : List ℕ) → (tokens_answer text table).code ≡ Code.accepted → (i : ℕ) → i < (tokens_answer text table).detail
    → line_in (tokens_table text table) i ≡ line_of text (start_in (tokens_table text table) i)
line text table a i h = row_line text table a i h

-- the lines never fall
pub lines-rise : (text table : List ℕ) → (tokens_answer text table).code ≡ Code.accepted → (i j : ℕ) → i ≤ j → j < (tokens_answer text table).detail
    → line_in (tokens_table text table) i ≤ line_in (tokens_table text table) j
lines-rise text table a i j l h = rows-rise text table a i j l h

-- two tokens have the same line exactly when no byte 10 stands between their starts
pub same_line : (text table : List ℕ) → (tokens_answer text table).code ≡ Code.accepted → (i j : ℕ) → i ≤ j → j < (tokens_answer text table).detail
    → let after = tokens_table text table in
    (line_in after i ≡ line_in after j) ↔ NoFeed text (start_in after i) (start_in after j)
same_line text table a i j l h = rows_same text table a i j l h

-- a token holds no byte 10: it ends on the line on which it starts
pub one_line : (text : List ℕ) (ts : List Token) → lex text ≡ accepted ts → OneLine text ts
one_line text ts e = flat-tokens text ts (placed text ts e)

-- ---- refusals

-- a refusal has one of the codes 3 to 8, so never the 0 of acceptance
pub coded : (text : List ℕ) (c p : ℕ) → lex text ≡ refused c p → (3 ≤ c) × (c ≤ 8)
coded text c p e = (all-fine text (refused c p) e).0

-- its position lies in the text
pub positioned : (text : List ℕ) (c p : ℕ) → lex text ≡ refused c p → p < length text
positioned text c p e = (all-fine text (refused c p) e).1

-- ---- numbers

-- The reduced number has the value that the number spells, and its mantissa ends in no zero unless the number is 0.
pub reduced : (w : List ℕ) → IsReduced w (reduced_of w (parts_of w))
reduced w = is-reduced w

-- ---- the table

-- a call that is refused leaves the table as it was
pub untouched : (text table : List ℕ) → ((tokens_answer text table).code ≡ 0 → ⊥) → tokens_table text table ≡ table
untouched text table h = kept text table h

-- words beyond those written keep their contents
pub kept-beyond : (text table : List ℕ) (i : ℕ) → (tokens_answer text table).detail * token_words ≤ i → get_or (tokens_table text table) i 0 ≡ get_or table i 0
kept-beyond text table i h = beyond text table i h
