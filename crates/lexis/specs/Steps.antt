-- What the token cursor finds at a place of a text. Relies on `Bytes` for gaps and `Lexeme` for a token.
use Rattle.std.specs.Prelude.{ℕ, ◌+◌, Bool, cond, List, leb, ltb, eqb, length, drop, get_or}
use Rattle.lexis.specs.Sizes.{max_tokens}
use Rattle.lexis.specs.Code as Code
use Rattle.lexis.specs.Kind as Kind
use Rattle.lexis.specs.Class as Class
use Rattle.lexis.specs.Bytes.{class_of, span_len}
use Rattle.lexis.specs.Runs.{is_space, in_comment}
use Rattle.lexis.specs.Kind.{kind_number}
use Rattle.lexis.specs.Refusal.{refusal_number}
use Rattle.lexis.specs.Lexeme.{Lexeme, lexeme}
use Rattle.lexis.specs.Lexeme as L
use Rattle.lexis.specs.declared.cursor.Cursor.{Cursor}
use Rattle.lexis.specs.declared.cursor.Step.{Step as Found}
use Rattle.lexis.specs.declared.cursor.Step.TheVariants as F

-- a token record: kind, start, end after the last byte
pub record Record : Type 0 where
  pub kind : ℕ
  pub start : ℕ
  pub end : ℕ

-- What the cursor finds: a token or a part of a gap, and the next cursor; the end of the text; or the code and the position of a fault.
pub data Step : Type 0 where
  Next : Record → Cursor → Step
  Gap : Cursor → Step
  End : Step
  Fault : ℕ → ℕ → Step

-- the record of a token of kind k and length n at `start`, the count-th of its text, with the next cursor
abbrev pub step_to : Lexeme → ℕ → ℕ → Step
step_to (L.Fault c) start count = Fault c start
step_to (L.Token k n) start count =
    cond (ltb count max_tokens) (Next (record { kind = k; start = start; end = start + n }) (record { at = start + n; count = count + 1 }))
    (Fault Code.too_many start)

-- past the byte at the cursor and the run after it
abbrev pub gap_to : (ℕ → Bool) → List ℕ → Cursor → Step
gap_to test text c = Gap (record { at = c.at + 1 + span_len test (drop (c.at + 1) text); count = c.count })

-- the end; white space; a comment, up to its line's end; a token with the next cursor, or its fault
unfoldable pub step_at : List ℕ → Cursor → Step
step_at text c =
    let k = class_of (get_or text c.at 0) in
    let token = step_to (lexeme (drop c.at text)) c.at c.count in
    cond (leb (length text) c.at) End (cond (eqb k Class.space) (gap_to is_space text c) (cond (eqb k Class.comment) (gap_to in_comment text c) token))

-- a syntactic character of one byte
abbrev pub a_mark : Lexeme
a_mark = L.Token Kind.syntactic 1

-- what an answer of the code says: a step of its own to such a character is a step to a token
abbrev pub plainly : Cursor → Found → Step
plainly c (F.Next r d) = Next (record { kind = kind_number r.kind; start = r.start; end = r.end }) d
plainly c (F.Mark d) = Next (record { kind = Kind.syntactic; start = c.at; end = d.at }) d
plainly c (F.Gap d) = Gap d
plainly c F.End = End
plainly c (F.Fault r p) = Fault (refusal_number r) p
