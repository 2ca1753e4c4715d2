-- What the lexer leaves in a work area as it goes along: records in front, and behind them, where they are asked for, the terminals of the tokens.
-- Relies on `Sizes` for the numbers, on `Lexer` for the tokens, `Symbol` for their terminals and `Answer` for their count.
use Rattle.std.specs.Prelude.{ℕ, ◌+◌, ◌*◌, ◌≤◌, min, ◌≡◌, Bool, true, false, List, [], ◌∷◌, length, set, take}
use Rattle.std.proofs.lemmas.List.Edits.{sets}
use Rattle.lexis.specs.Sizes.{max_tokens, work_words, record_words, first_mark}
use Rattle.lexis.specs.Lexer.{Token, Lexed, accepted, refused}
use Rattle.lexis.specs.Symbol.{symbols}
use Rattle.lexis.specs.Answer.{Counted, Tokens, Fault, counted}

-- the words of the records of tokens in a work area: kind, start, end after the last byte
unfoldable pub records : List Token → List ℕ
records [] = []
records (t ∷ ts) = t.kind ∷ t.start ∷ (t.start + length t.bytes) ∷ records ts

-- the words behind the records: the terminals of the tokens where they are asked for, else none
abbrev pub marks : Bool → List Token → List ℕ
marks true ts = symbols ts
marks false ts = []

-- the work area afterwards: the records in front and the marks behind on acceptance, anything of the same length on a fault
abbrev pub Recorded : Bool → Lexed → List ℕ → List ℕ → Type 0
Recorded marked (accepted ts) before after = after ≡ sets (sets before 0 (records ts)) first_mark (marks marked ts)
Recorded marked (refused c p) before after = length after ≡ length before

-- how many words a work area must have for a text of n bytes
abbrev pub area_words : Bool → ℕ → ℕ
area_words true n = work_words
area_words false n = record_words * min n max_tokens

-- the three words of a record at the word i
abbrev pub record_at : List ℕ → ℕ → ℕ → ℕ → ℕ → List ℕ
record_at area i k p q = set (set (set area i k) (i + 1) p) (i + 2) q

-- the mark s of the token at place i
abbrev pub marked_at : Bool → List ℕ → ℕ → ℕ → List ℕ
marked_at true area i s = set area (first_mark + i) s
marked_at false area i s = area

-- the tokens counted are at most 4096, and their records have room in m words
abbrev pub Room : Counted → ℕ → Type 0
Room (Tokens n) m = (n ≤ max_tokens) × (n * record_words ≤ m)
Room (Fault c p) m = Unit {0}

-- there are n tokens and no fault, and their records stand in front of the work area
abbrev pub Held : Lexed → List ℕ → ℕ → Type 0
Held (accepted ts) work n = (length ts ≡ n) × (take (n * record_words) work ≡ records ts)
Held (refused c p) work n = ⊥

-- what the lexer found, and where that is n tokens, their records in front of the work area
abbrev pub Found : Lexed → Counted → List ℕ → Type 0
Found l found work = (found ≡ counted l) × ((n : ℕ) → found ≡ Tokens n → Held l work n)
