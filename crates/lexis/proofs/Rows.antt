-- The records of a lent table: where the token at a place starts and on which line, as the table has it.
-- Relies on `Answers` for the table, `Places` for the order of tokens, `Lines` for the lines of two positions.
use mathlib.Core.Path.{◌≡◌, refl, sym, ap, ◌∙◌}
use mathlib.Core.Bool.{Bool, true, false}
use mathlib.Core.List.{List, [], ◌∷◌}
use mathlib.Core.Logic.{◌↔◌}
use Prim.Native.Nat.{ℕ, zero, suc, ◌+◌, ◌*◌, ◌<◌, ◌≤◌}
use native.Mathlib.Nat.{le_of_suc-le-suc}
use native.Mathlib.Omega.{arith}
use lib.Dec.{leb}
use lib.ListN.{length, get_or}
use lib.Seq.{sets}
use borrow.Author.Tests.{leb-true}
use Rattle.lexis.specs.Sizes.{max_text, token_words, table_words}
use Rattle.lexis.specs.Lexer.{Token, Lexed, accepted, refused, lex, Placed}
use Rattle.lexis.specs.Lexer.Placed.{next}
use Rattle.lexis.specs.Line.{line_of, NoFeed, OneLine}
use Rattle.lexis.specs.Answer.{token_records, tokens_answer, tokens_table, start_in, line_in}
use Rattle.lexis.proofs.Lines.{token-line, line-le, same_none, none-same}
use Rattle.lexis.proofs.Places.{all-fine}
use Rattle.lexis.proofs.Answers.{stored-word, token-records-length}

-- ---- tokens in their places

-- where the token at place i starts
abbrev start_at : List Token → ℕ → ℕ
start_at [] i = 0
start_at (t ∷ ts) zero = t.start
start_at (t ∷ ts) (suc i) = start_at ts i

start-after : {at : ℕ} (text : List ℕ) (ts : List Token) → Placed text at ts → (j : ℕ) → j < length ts → at ≤ start_at ts j
start-after text [] p j h = absurd (omega arith)
start-after text (t ∷ ts) (next starts found some fits own rest) zero h = omega (arith, starts)
start-after {at = at} text (t ∷ ts) (next starts found some fits own rest) (suc j) h =
    omega (arith, starts, start-after {at = t.start + length t.bytes} text ts rest j (le_of_suc-le-suc h))

starts-rise : {at : ℕ} (text : List ℕ) (ts : List Token) → Placed text at ts → (i j : ℕ) → i ≤ j → j < length ts → start_at ts i ≤ start_at ts j
starts-rise text [] p i j l h = absurd (omega arith)
starts-rise text (t ∷ ts) p zero zero l h = omega arith
starts-rise text (t ∷ ts) p (suc i) zero l h = absurd (omega arith)
starts-rise text (t ∷ ts) (next starts found some fits own rest) zero (suc j) l h = omega (arith, start-after text ts rest j (le_of_suc-le-suc h))
starts-rise {at = at} text (t ∷ ts) (next starts found some fits own rest) (suc i) (suc j) l h =
    starts-rise {at = t.start + length t.bytes} text ts rest i j (le_of_suc-le-suc l) (le_of_suc-le-suc h)

pub flat-tokens : {at : ℕ} (text : List ℕ) (ts : List Token) → Placed text at ts → OneLine text ts
flat-tokens text [] p = tt
flat-tokens {at = at} text (t ∷ ts) (next starts found some fits own rest) =
    (token-line text t.start t.kind (length t.bytes) found, flat-tokens {at = t.start + length t.bytes} text ts rest)

-- ---- their records

module _ (text : List ℕ) where
  -- the record at place i + 1 is that at place i of the rest
  next_row : (t : Token) (ts : List Token) (i k : ℕ)
      → get_or (token_records text (t ∷ ts)) (suc i * token_words + k) 0 ≡ get_or (token_records text ts) (i * token_words + k) 0
  unfolding token_records
  next_row t ts i k =
      let q : suc i * token_words + k ≡ suc (suc (suc (suc (i * token_words + k)))) = omega arith in
      ap (λ (m : ℕ). get_or (token_records text (t ∷ ts)) m 0) q

  start_word : (ts : List Token) (i : ℕ) → i < length ts → start_in (token_records text ts) i ≡ start_at ts i
  unfolding token_records
  start_word [] i h = absurd (omega arith)
  start_word (t ∷ ts) zero h = refl
  start_word (t ∷ ts) (suc i) h = next_row t ts i 1 ∙ start_word ts i (le_of_suc-le-suc h)

  line_word : (ts : List Token) (i : ℕ) → i < length ts → line_in (token_records text ts) i ≡ line_of text (start_at ts i)
  unfolding token_records
  line_word [] i h = absurd (omega arith)
  line_word (t ∷ ts) zero h = refl
  line_word (t ∷ ts) (suc i) h = next_row t ts i 3 ∙ line_word ts i (le_of_suc-le-suc h)

-- ---- the table after an acceptance

-- what an acceptance says: the text is within its limit, the table has room, and its first words are the records of the tokens
pub record Listed (text table : List ℕ) : Type 0 where
  pub ts : List Token
  pub lexed : lex text ≡ accepted ts
  pub many : (tokens_answer text table).detail ≡ length ts
  pub room : table_words ≤ length table
  pub fits : length text ≤ max_text
  pub stored : tokens_table text table ≡ sets table 0 (token_records text ts)

module _ (text table : List ℕ) (a : (tokens_answer text table).code ≡ 0) where
  pub listed : Listed text table
  unfolding tokens_answer tokens_table
  listed = go (leb table_words (length table)) (leb (length text) max_text) (lex text) refl refl refl
    where
      go : (b c : Bool) (l : Lexed) → leb table_words (length table) ≡ b → leb (length text) max_text ≡ c → lex text ≡ l → Listed text table
      go false c l p q e = let z : ◌≡◌ {A = ℕ} 1 0 = rw p at a in absurd (omega arith)
      go true false l p q e = let z : ◌≡◌ {A = ℕ} 2 0 = rw (p, q) at a in absurd (omega arith)
      go true true (refused k d) p q e = let z : k ≡ 0 = rw (p, q, e) at a in absurd (omega (arith, (all-fine text (refused k d) e).0))
      go true true (accepted ts) p q e =
          record {
            ts = ts;
            lexed = e;
            many = rw (p, q, e) (omega arith);
            room = leb-true table_words (length table) p;
            fits = leb-true (length text) max_text q;
            stored = rw (p, q, e);
          }

  module _ (i : ℕ) (h : i < (tokens_answer text table).detail) where
    word : (k : ℕ) → k < token_words → get_or (tokens_table text table) (i * token_words + k) 0 ≡ get_or (token_records text listed.ts) (i * token_words + k) 0
    word k l =
        let d = listed in
        let size = token-records-length text d.ts in
        let few = (all-fine text (accepted d.ts) d.lexed).1.0 in
        let z : i * token_words + k ≡ 0 + (i * token_words + k) = omega arith in
        ap (λ (x : List ℕ). get_or x (i * token_words + k) 0) d.stored ∙ ap (λ (m : ℕ). get_or (sets table 0 (token_records text d.ts)) m 0) z
        ∙ stored-word (token_records text d.ts) table 0 (i * token_words + k) (omega (arith, size, few, d.room)) (omega (arith, size, d.many))

    start_is : start_in (tokens_table text table) i ≡ start_at listed.ts i
    start_is = word 1 (omega arith) ∙ start_word text listed.ts i (omega (arith, listed.many))

    line-is : line_in (tokens_table text table) i ≡ line_of text (start_at listed.ts i)
    line-is = word 3 (omega arith) ∙ line_word text listed.ts i (omega (arith, listed.many))

    pub row_line : line_in (tokens_table text table) i ≡ line_of text (start_in (tokens_table text table) i)
    row_line = line-is ∙ ap (line_of text) (sym start_is)

  module _ (i j : ℕ) (l : i ≤ j) (h : j < (tokens_answer text table).detail) where
    low : i < (tokens_answer text table).detail
    low = omega (arith, l, h)

    in_order : start_in (tokens_table text table) i ≤ start_in (tokens_table text table) j
    in_order =
        let d = listed in
        let r = starts-rise text d.ts (all-fine text (accepted d.ts) d.lexed).0 i j l (omega (arith, h, d.many)) in
        omega (arith, start_is i low, start_is j h, r)

    pub rows-rise : line_in (tokens_table text table) i ≤ line_in (tokens_table text table) j
    rows-rise = omega (arith, row_line i low, row_line j h, line-le text _ _ in_order)

    pub rows_same : let after = tokens_table text table in (line_in after i ≡ line_in after j) ↔ NoFeed text (start_in after i) (start_in after j)
    rows_same = (
      λ e. same_none text _ _ in_order (sym (row_line i low) ∙ e ∙ row_line j h),
      λ n. row_line i low ∙ none-same text _ _ in_order n ∙ sym (row_line j h),
    )
