-- A lent table that is filled from a work area, record by record: what the loop keeps (`Filling`), at the first turn, after a turn and at
-- the end. Relies on `Lines` (a token holds no byte 10) and `Theorems` (tokens stand in their places).
use mathlib.Core.Path.{◌≡◌, refl, sym, ap, ◌∙◌, subst, subst₂}
use mathlib.Core.List.{List, [], ◌∷◌}
use Prim.Native.Nat.{ℕ, suc, ◌+◌, ◌-◌, ◌*◌, ◌<◌, ◌≤◌}
use native.Mathlib.Nat.{add-zero}
use native.Mathlib.Numerals.{add-one, add-two}
use native.Mathlib.Omega.{arith}
use lib.ListN.{length, take, drop, get_or, set, length-take, length-set}
use lib.Seq.{sets, get_or-take}
use Rattle.lexis.specs.Sizes.{max_tokens, record_words, token_words, table_words}
use Rattle.lexis.specs.Lexer.{Token, Lexed, accepted, refused, lex, Placed}
use Rattle.lexis.specs.Lexer.Placed.{next}
use Rattle.lexis.specs.Line.{line_feeds, line_of}
use Rattle.lexis.specs.Answer.{token_records, recorded}
use Rattle.lexis.specs.Work.{records, record_at, Held}
use Rattle.lexis.proofs.Lines.{feeds-le, token-line, between}
use Rattle.lexis.proofs.Laid.{records-length, word_of, next-tail}
use Rattle.lexis.proofs.Theorems.{placed, few}

-- the tokens `rest` are left, the first of them at `place`; the words before them are stored, and `end` is where the last one ended
pub record Filling (text work table₀ : List ℕ) (n end line from to : ℕ) (table : List ℕ) : Type 0 where
  pub place : ℕ
  pub rest : List Token
  pub from_is : from ≡ place * record_words
  pub to_is : to ≡ place * token_words
  pub left : place + length rest ≡ n
  pub few : n ≤ max_tokens
  pub room : n * record_words ≤ length work
  pub ahead : drop (place * record_words) (take (n * record_words) work) ≡ records rest
  pub stands : Placed text end rest
  pub line-is : line ≡ line_of text end
  pub long : length table ≡ length table₀
  pub final : sets table (place * token_words) (token_records text rest) ≡ recorded text table₀ (lex text)

pub filling-first : (text work table : List ℕ) (n : ℕ) → Held (lex text) work n → Filling text work table n 0 1 0 0 table
unfolding line_feeds
filling-first text work table n h = go (lex text) refl h
  where
    go : (l : Lexed) → lex text ≡ l → Held l work n → Filling text work table n 0 1 0 0 table
    go (accepted ts) e h =
        let size : length (take (n * record_words) work) ≡ n * record_words = ap length h.1 ∙ records-length ts ∙ ap (λ (k : ℕ). k * record_words) h.0 in
        record {
          place = 0;
          rest = ts;
          from_is = refl;
          to_is = refl;
          left = omega (arith, h.0);
          few = omega (arith, h.0, few text ts e);
          room = omega (arith, size, length-take (n * record_words) work);
          ahead = h.1;
          stands = placed text ts e;
          line-is = refl;
          long = refl;
          final = ap (recorded text table) (sym e);
        }
    go (refused c p) e h = absurd h

-- what a turn finds in the work area, and leaves
pub record Turn (text work table₀ : List ℕ) (n end line from to : ℕ) (table : List ℕ) : Type 0 where
  pub in-work : from + 2 < length work
  pub in_table : table_words ≤ length table₀ → to + 3 < length table
  pub after : end ≤ get_or work (from + 1) 0
  pub starts : get_or work (from + 1) 0 ≤ length text
  pub ends : get_or work (from + 2) 0 ≤ length text
  pub low : line ≤ end + 1
  pub on : (table' : List ℕ) (line' : ℕ)
      → table' ≡ set (record_at table to (get_or work from 0) (get_or work (from + 1) 0) (get_or work (from + 2) 0)) (to + 3) line'
      → line' ≡ line + line_feeds (take (get_or work (from + 1) 0 - end) (drop end text))
      → Filling text work table₀ n (get_or work (from + 2) 0) line' (from + record_words) (to + token_words) table'

-- the record of a turn, and what is stored behind it
row_more : (table table' : List ℕ) (i w k p q l k' p' q' l' : ℕ) (vs : List ℕ) → table' ≡ set (record_at table w k p q) (w + 3) l → w ≡ i * token_words
    → k ≡ k' → p ≡ p' → q ≡ q' → l ≡ l' → sets table' ((i + 1) * token_words) vs ≡ sets table (i * token_words) (k' ∷ (p' ∷ (q' ∷ (l' ∷ vs))))
row_more table table' i w k p q l k' p' q' l' vs e ew ek ep eq el =
    let three : i * token_words + 3 ≡ suc (suc (suc (i * token_words))) = omega arith in
    let four : (i + 1) * token_words ≡ suc (suc (suc (suc (i * token_words)))) = omega arith in
    rw (e, ew, ek, ep, eq, el, add-one (i * token_words), add-two (i * token_words), three, four)

module _ {text work table₀ : List ℕ} {n end line from to : ℕ} {table : List ℕ} where
  pub turn : Filling text work table₀ n end line from to table → from < n * record_words → Turn text work table₀ n end line from to table
  unfolding records token_records
  turn f h = go f.rest refl f.stands
    where
      i : ℕ
      i = f.place

      -- a word of the next record
      word-is : (l : List ℕ) → drop (i * record_words) (take (n * record_words) work) ≡ l → (k : ℕ) → from + k < n * record_words
          → get_or work (from + k) 0 ≡ get_or l k 0
      word-is l e k h =
          let at : from + k ≡ i * record_words + k = ap (λ (m : ℕ). m + k) f.from_is in
          sym (get_or-take (n * record_words) work (from + k) 0 h) ∙ ap (λ (m : ℕ). get_or (take (n * record_words) work) m 0) at
          ∙ word_of (take (n * record_words) work) i k l e

      go : (ts : List Token) → f.rest ≡ ts → Placed text end ts → Turn text work table₀ n end line from to table
      go [] e p = absurd (omega (arith, h, f.left, f.from_is, ap length e))
      go (t ∷ us) e (next starts found some fits own behind) =
          let many : i + suc (length us) ≡ n = ap (λ (xs : List Token). i + length xs) (sym e) ∙ f.left in
          let ahead : drop (i * record_words) (take (n * record_words) work) ≡ records (t ∷ us) = f.ahead ∙ ap records e in
          let words = records (t ∷ us) in
          let kind : get_or work from 0 ≡ t.kind = ap (λ (m : ℕ). get_or work m 0) (sym (add-zero from)) ∙ word-is words ahead 0 (omega (arith, h)) in
          let first : get_or work (from + 1) 0 ≡ t.start = word-is words ahead 1 (omega (arith, h, many, f.from_is)) in
          let last : get_or work (from + 2) 0 ≡ t.start + length t.bytes = word-is words ahead 2 (omega (arith, h, many, f.from_is)) in
          record {
            in-work = omega (arith, h, many, f.from_is, f.room);
            in_table = λ r. omega (arith, many, f.to_is, f.few, f.long);
            after = omega (arith, first, starts);
            starts = omega (arith, first, fits);
            ends = omega (arith, last, fits);
            low = omega (arith, f.line-is, feeds-le text end);
            on = λ table' line' et el.
                let here : line' ≡ line_of text t.start =
                el ∙ ap (λ (p : ℕ). line + line_feeds (take (p - end) (drop end text))) first
                ∙ ap (λ (l : ℕ). l + line_feeds (take (t.start - end) (drop end text))) f.line-is
                ∙ sym (between text end t.start (omega (arith, starts))) in
                record {
                  place = i + 1;
                  rest = us;
                  from_is = omega (arith, f.from_is);
                  to_is = omega (arith, f.to_is);
                  left = omega (arith, many);
                  few = f.few;
                  room = f.room;
                  ahead = next-tail (take (n * record_words) work) i _ _ _ _ ahead;
                  stands = subst (λ (p : ℕ). Placed text p us) (sym last) behind;
                  line-is = here ∙ sym (token-line text t.start t.kind (length t.bytes) found) ∙ ap (line_of text) (sym last);
                  long = ap length et ∙ simp length-set f.long;
                  final =
                      row_more table table' i to _ _ _ line' _ _ _ _ (token_records text us) et f.to_is kind first last here
                      ∙ ap (λ (xs : List Token). sets table (i * token_words) (token_records text xs)) (sym e) ∙ f.final;
                };
          }

  pub filled : Filling text work table₀ n end line from to table → n * record_words ≤ from → table ≡ recorded text table₀ (lex text)
  unfolding token_records
  filled f h = go f.rest refl
    where
      go : (ts : List Token) → f.rest ≡ ts → table ≡ recorded text table₀ (lex text)
      go [] e = ap (λ (xs : List Token). sets table (f.place * token_words) (token_records text xs)) (sym e) ∙ f.final
      go (t ∷ us) e = absurd (omega (arith, h, f.left, f.from_is, ap length e))

-- the places of the next turn
pub turned : {text work table₀ : List ℕ} {n end line : ℕ} (i : ℕ) {table : List ℕ}
    → Filling text work table₀ n end line (i * record_words + record_words) (i * token_words + token_words) table
    → Filling text work table₀ n end line ((i + 1) * record_words) ((i + 1) * token_words) table
turned {text} {work} {table₀} {n} {end} {line} i {table} f =
    let three : i * record_words + record_words ≡ (i + 1) * record_words = omega arith in
    let four : i * token_words + token_words ≡ (i + 1) * token_words = omega arith in
    subst₂ (λ (from to : ℕ). Filling text work table₀ n end line from to table) three four f
