-- What `tokens` answers, and every word of the table afterwards. Relies on `Sizes`, `Code` and `Refusal` for the numbers, on `Lexer` for the tokens and
-- `Line` for their lines.
use Rattle.std.specs.Prelude.{ℕ, ◌+◌, ◌*◌, cond, List, [], ◌∷◌, leb, length, get_or, Result, Ok, Err}
use Rattle.std.proofs.lemmas.List.Edits.{sets}
use Rattle.lexis.specs.Sizes.{max_text, token_words, table_words}
use Rattle.lexis.specs.Code as Code
use Rattle.lexis.specs.Refusal.{refusal_number}
use Rattle.lexis.specs.Lexer.{Token, Lexed, accepted, refused, lex}
use Rattle.lexis.specs.Line.{line_of}
use Rattle.lexis.specs.declared.Answer.{Answer}
use Rattle.lexis.specs.declared.refusal.Fault.{Fault as Found}

-- the four numbers: code, text (0 none, 1 the sole text), position, detail
abbrev pub answer : ℕ → ℕ → ℕ → ℕ → Answer
answer c t p d = record { code = c; text = t; position = p; detail = d }

-- the words of the records of a text's tokens: kind, start, end after the last byte, and the line of the start
unfoldable pub token_records : List ℕ → List Token → List ℕ
token_records text [] = []
token_records text (t ∷ ts) = t.kind ∷ t.start ∷ (t.start + length t.bytes) ∷ line_of text t.start ∷ token_records text ts

-- what is counted: how many tokens there are, or the code and the position of the first fault
pub data Counted : Type 0 where
  Tokens : ℕ → Counted
  Fault : ℕ → ℕ → Counted

-- what an answer of the code says
abbrev pub counted_told : Result ℕ Found → Counted
counted_told (Ok n) = Tokens n
counted_told (Err f) = Fault (refusal_number f.refusal) f.at

-- how many tokens there are, n more counted in, or the fault
abbrev pub counted_after : ℕ → Lexed → Counted
counted_after n (accepted ts) = Tokens (n + length ts)
counted_after n (refused c p) = Fault c p

-- how many tokens there are, or the fault
abbrev pub counted : Lexed → Counted
counted l = counted_after 0 l

-- the four numbers of what is counted: acceptance is 0, 0, 0 and the count; a fault has its code, text 1, its position and 0
abbrev pub answer_of : Counted → Answer
answer_of (Tokens n) = answer Code.accepted 0 0 n
answer_of (Fault c p) = answer c 1 p 0

-- the table with the records stored in front; a refusal stores nothing
abbrev pub recorded : List ℕ → List ℕ → Lexed → List ℕ
recorded text table (accepted ts) = sets table 0 (token_records text ts)
recorded text table (refused c p) = table

-- what `tokens` answers: code 1 for a short table, at 0 and in no text; code 2 for a long text, at 16384; then what the bytes give
unfoldable pub tokens_answer : List ℕ → List ℕ → Answer
tokens_answer text table =
    let r = answer_of (counted (lex text)) in
    cond (leb table_words (length table)) (cond (leb (length text) max_text) r (answer Code.long_text 1 max_text 0)) (answer Code.short_room 0 0 0)

-- what `tokens` leaves in the table: the records in front on acceptance, else what was there
unfoldable pub tokens_table : List ℕ → List ℕ → List ℕ
tokens_table text table =
    let r = recorded text table (lex text) in
    cond (leb table_words (length table)) (cond (leb (length text) max_text) r table) table

-- ---- what the theorems claim of lines

-- where the token at place i starts, as a table has it
abbrev pub start_in : List ℕ → ℕ → ℕ
start_in table i = get_or table (i * token_words + 1) 0

-- on which line it starts, as a table has it
abbrev pub line_in : List ℕ → ℕ → ℕ
line_in table i = get_or table (i * token_words + 3) 0
