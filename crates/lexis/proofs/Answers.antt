-- The answer of `tokens` and its table, by cases: a short table, a long text, what the bytes give. Then what is left in the table.
use mathlib.Core.Path.{◌≡◌, refl, sym, ap, ◌∙◌, subst}
use mathlib.Core.Bool.{Bool, true, false, cond}
use mathlib.Core.List.{List, [], ◌∷◌, ◌++◌}
use Prim.Native.Nat.{ℕ, suc, ◌+◌, ◌*◌, ◌<◌, ◌≤◌}
use native.Mathlib.Omega.{arith}
use lib.Dec.{leb}
use lib.ListN.{length, take, drop, get_or, set, length-append}
use lib.Seq.{sets, sets-eq, take_at, length-take-le, get_or-take, get_or-append-add, get_or-set_other}
use Rattle.lexis.specs.Code as Code
use Rattle.lexis.specs.Sizes.{max_text, record_words, token_words, table_words}
use Rattle.lexis.specs.Lexer.{Token, Lexed, accepted, refused, lex}
use Rattle.lexis.specs.Answer.{answer, token_records, counted_after, answer_of, recorded, tokens_answer, tokens_table}
use Rattle.lexis.specs.Work.{records, Recorded, Room, Held}
use Rattle.lexis.proofs.Laid.{records-length}
use Rattle.lexis.specs.declared.Answer.{Answer}
use Rattle.lexis.specs.Answer.{Counted}
use Rattle.lexis.specs.Answer.{Tokens, Fault}

pub room_of : (r : Counted) (n m : ℕ) → r ≡ Tokens n → Room r m → Room (Tokens n) m
room_of r n m e h = subst (λ (x : Counted). Room x m) e h

module _ (l : Lexed) (work work' : List ℕ) where
  -- the records stand in front of the work area
  pub held : (n : ℕ) → Tokens n ≡ counted_after 0 l → Recorded false l work work' → Room (Tokens n) (length work) → Held l work' n
  held n e w r = go l e w
    where
      go : (l : Lexed) → Tokens n ≡ counted_after 0 l → Recorded false l work work' → Held l work' n
      go (accepted ts) e w =
          let many : n ≡ 0 + length ts = cc in
          let size : length (records ts) ≡ n * record_words = omega (arith, records-length ts) in (
            omega arith,
            ap (take (n * record_words)) (w ∙ sets-eq (records ts) work 0 (omega (arith, size, r.1)))
                ∙ take_at (records ts) (drop (0 + length (records ts)) work) (n * record_words) size,
          )
      go (refused c d) e w = let z : ◌≡◌ {A = ℕ} 0 1 = cc in absurd (omega arith)

pub kept-by-fault : (l : Lexed) (k p : ℕ) (text table : List ℕ) → Fault k p ≡ counted_after 0 l → table ≡ recorded text table l
kept-by-fault (accepted ts) k p text table e = let z : ◌≡◌ {A = ℕ} 0 1 = cc in absurd (omega arith)
kept-by-fault (refused c d) k p text table e = refl

module _ (text table : List ℕ) where
  pub short-table : {r : Answer} → leb table_words (length table) ≡ false → r ≡ answer Code.short_room 0 0 0
      → (r ≡ tokens_answer text table) × (table ≡ tokens_table text table)
  unfolding tokens_answer tokens_table
  short-table t a = (rw t a, rw t)

  module _ (serves : leb table_words (length table) ≡ true) where
    pub long-text : {r : Answer} → leb (length text) max_text ≡ false → r ≡ answer Code.long_text 1 max_text 0
        → (r ≡ tokens_answer text table) × (table ≡ tokens_table text table)
    unfolding tokens_answer tokens_table
    long-text t a = (rw (serves, t) a, rw (serves, t))

    pub tokens-by : leb (length text) max_text ≡ true → (r : Answer) (after : List ℕ) → r ≡ answer_of (counted_after 0 (lex text))
        → after ≡ recorded text table (lex text)
        → (r ≡ tokens_answer text table) × (after ≡ tokens_table text table)
    unfolding tokens_answer tokens_table
    tokens-by fits r after e s = (rw (serves, fits) e, rw (serves, fits) s)

-- ---- what a caller finds in the table afterwards

-- stores leave the words beyond them as they were
sets-beyond : (vs l : List ℕ) (at i : ℕ) → at + length vs ≤ i → get_or (sets l at vs) i 0 ≡ get_or l i 0
sets-beyond [] l at i h = refl
sets-beyond (v ∷ vs) l at i h = sets-beyond vs (set l at v) (suc at) i (omega arith) ∙ get_or-set_other l at i v 0 (λ e. omega arith)

-- a word of a row that was stored
pub stored-word : (vs l : List ℕ) (at i : ℕ) → at + length vs ≤ length l → i < length vs → get_or (sets l at vs) (at + i) 0 ≡ get_or vs i 0
stored-word vs l at i r h =
    let front : length (take at l) ≡ at = length-take-le at l (omega arith) in
    let here : at + i ≡ length (take at l) + i = omega arith in
    let both : length (take at l ++ vs) ≡ at + length vs = length-append (take at l) vs ∙ ap (λ (m : ℕ). m + length vs) front in
    let rest = drop (at + length vs) l in
    ap (λ (x : List ℕ). get_or x (at + i) 0) (sets-eq vs l at r)
    ∙ sym (get_or-take (at + length vs) (take at l ++ vs ++ rest) (at + i) 0 (omega arith))
    ∙ ap (λ (x : List ℕ). get_or x (at + i) 0) (take_at (take at l ++ vs) rest (at + length vs) both)
    ∙ ap (λ (m : ℕ). get_or (take at l ++ vs) m 0) here
    ∙ get_or-append-add (take at l) vs i 0

pub token-records-length : (text : List ℕ) (ts : List Token) → length (token_records text ts) ≡ length ts * token_words
unfolding token_records
token-records-length text [] = refl
token-records-length text (t ∷ ts) = omega (arith, token-records-length text ts)

module _ (text table : List ℕ) where
  by_tests : (a b : Bool) (l : Lexed) → ((cond a (cond b (answer_of (counted_after 0 l)) (answer 2 1 max_text 0)) (answer 1 0 0 0)).code ≡ 0 → ⊥)
      → cond a (cond b (recorded text table l) table) table ≡ table
  by_tests false b l h = refl
  by_tests true false l h = refl
  by_tests true true (accepted ts) h = absurd (h refl)
  by_tests true true (refused c p) h = refl

  pub kept : ((tokens_answer text table).code ≡ 0 → ⊥) → tokens_table text table ≡ table
  unfolding tokens_answer tokens_table
  kept h = by_tests (leb table_words (length table)) (leb (length text) max_text) (lex text) h

  beyond-by : (a b : Bool) (l : Lexed) (i : ℕ) → (cond a (cond b (answer_of (counted_after 0 l)) (answer 2 1 max_text 0)) (answer 1 0 0 0)).detail * token_words ≤ i
      → get_or (cond a (cond b (recorded text table l) table) table) i 0 ≡ get_or table i 0
  beyond-by false b l i h = refl
  beyond-by true false l i h = refl
  beyond-by true true (accepted ts) i h = sets-beyond (token_records text ts) table 0 i (omega (arith, token-records-length text ts))
  beyond-by true true (refused c p) i h = refl

  pub beyond : (i : ℕ) → (tokens_answer text table).detail * token_words ≤ i → get_or (tokens_table text table) i 0 ≡ get_or table i 0
  unfolding tokens_answer tokens_table
  beyond i h = beyond-by (leb table_words (length table)) (leb (length text) max_text) (lex text) i h
