-- A table in front of which the records of some tokens were stored, and behind them their terminals, holds those tokens. Assumes nothing.
use mathlib.Core.Path.{◌≡◌, refl, sym, ap, ap₂, subst, ◌∙◌}
use Prim.Native.Nat.{ℕ, zero, suc, ◌+◌, ◌-◌, ◌*◌, ◌<◌, ◌≤◌}
use native.Mathlib.Omega.{arith}
use native.Mathlib.Nat.{eq-or-lt_of_le, add-zero}
use mathlib.Core.List.{List, [], ◌∷◌, ◌++◌}
use mathlib.Core.Logic.{◌⊎◌, inl, inr}
use lib.ListN.{length, get_or, take, drop, set}
use lib.Seq.{sets, sets-eq, length-sets}
use Rattle.lexis.specs.Lexer.{Token, Placed}
use Rattle.lexis.specs.Lexer.Placed.{none, next}
use Rattle.lexis.specs.Symbol.{sym_of, symbols}
use Rattle.lexis.specs.Work.{records}
use Rattle.lexis.specs.Sizes.{max_tokens, record_words, first_mark, work_words}
use Rattle.lexis.proofs.Laid.{records-length, word_of, next-tail, sets-set}
use Rattle.lexis.proofs.Answers.{stored-word}
use Rattle.syntax.specs.Table.{start_at, end_at, token_at, tokens_from, toks, Holds}

-- ---- the records of tokens, at a place of the table

same-token : (t : Token) (k s : ℕ) (b : List ℕ) → k ≡ t.kind → s ≡ t.start → b ≡ t.bytes → ◌≡◌ {A = Token} (record { kind = k; start = s; bytes = b }) t
same-token t k s b p q r = λ i. record { kind = p i; start = q i; bytes = r i }

module _ (text table : List ℕ) where
  token-is : (i : ℕ) (t : Token) (l : List ℕ) → drop (i * record_words) table ≡ t.kind ∷ (t.start ∷ ((t.start + length t.bytes) ∷ l))
      → t.bytes ≡ take (length t.bytes) (drop t.start text) → token_at text table i ≡ t
  unfolding token_at
  token-is i t l e p =
      let z : i * record_words ≡ i * record_words + 0 = omega arith in
      let k = ap (λ (n : ℕ). get_or table n 0) z ∙ word_of table i 0 _ e in
      let s = word_of table i 1 _ e in
      let f = word_of table i 2 _ e in
      let m : end_at table i - start_at table i ≡ length t.bytes = omega (arith, s, f) in
      same-token t _ _ _ k s (ap₂ (λ (n : ℕ) (x : List ℕ). take n x) m (ap (λ (n : ℕ). drop n text) s) ∙ sym p)

  from_is : {at : ℕ} (i : ℕ) (ts : List Token) (after : List ℕ) → Placed text at ts → drop (i * record_words) table ≡ records ts ++ after
      → tokens_from text table i (length ts) ≡ ts
  unfolding tokens_from records
  from_is i [] after (none g) e = refl
  from_is {at = at} i (t ∷ ts) after (next g f p q r w) e =
      ap₂ (λ (x : Token) (xs : List Token). x ∷ xs) (token-is i t (records ts ++ after) e r)
      (from_is {at = t.start + length t.bytes} (i + 1) ts after w (next-tail table i _ _ _ _ e))

  within-is : {at : ℕ} (i : ℕ) (ts : List Token) (after : List ℕ) → Placed text at ts → drop (i * record_words) table ≡ records ts ++ after → (j : ℕ) → i ≤ j
      → j < i + length ts → (start_at table j < end_at table j) × (end_at table j ≤ length text)
  unfolding records
  within-is i [] after (none g) e j l u = absurd (omega arith)
  within-is {at = at} i (t ∷ ts) after (next g f p q r w) e j l u =
      go (eq-or-lt_of_le l) (λ z. within-is {at = t.start + length t.bytes} (i + 1) ts after w (next-tail table i _ _ _ _ e) j (omega arith) (omega arith))
    where
      go : (i ≡ j) ⊎ (i < j) → (i < j → (start_at table j < end_at table j) × (end_at table j ≤ length text))
          → (start_at table j < end_at table j) × (end_at table j ≤ length text)
      go (inl z) f =
          let s = word_of table i 1 _ e in
          let m = word_of table i 2 _ e in
          subst (λ (n : ℕ). (start_at table n < end_at table n) × (end_at table n ≤ length text)) z (omega (arith, s, m), omega (arith, s, m))
      go (inr z) f = f z

  -- ---- the marks

  -- the terminals of k tokens from place i on
  symbols-from : (i k j : ℕ) → j < k → get_or (symbols (tokens_from text table i k)) j 0 ≡ sym_of (token_at text table (i + j))
  unfolding tokens_from symbols
  symbols-from i zero j h = absurd (omega arith)
  symbols-from i (suc k) zero h = ap (λ (m : ℕ). sym_of (token_at text table m)) (sym (add-zero i))
  symbols-from i (suc k) (suc j) h =
      let q : i + 1 + j ≡ i + suc j = omega arith in
      symbols-from (i + 1) k j (omega arith) ∙ ap (λ (m : ℕ). sym_of (token_at text table m)) q

symbols-length : (ts : List Token) → length (symbols ts) ≡ length ts
unfolding symbols
symbols-length [] = refl
symbols-length (t ∷ ts) = ap suc (symbols-length ts)

-- records stored in front of marks, or marks behind records
sets-sets : (ss rs l : List ℕ) (at i : ℕ) → at + length rs ≤ i → sets (sets l at rs) i ss ≡ sets (sets l i ss) at rs
sets-sets [] rs l at i h = refl
sets-sets (s ∷ ss) rs l at i h = ap (λ (x : List ℕ). sets x (suc i) ss) (sym (sets-set rs l at i s h)) ∙ sets-sets ss rs (set l i s) at (suc i) (omega arith)

-- ---- the whole table

module _ (text before : List ℕ) (ts : List Token) (placed : Placed text 0 ts) (few : length ts ≤ max_tokens) (room : work_words ≤ length before) where
  -- what the lexer leaves
  abbrev pub table : List ℕ
  table = sets (sets before 0 (records ts)) first_mark (symbols ts)

  stored_is : table ≡ records ts ++ drop (0 + length (records ts)) (sets before first_mark (symbols ts))
  stored_is =
      sets-sets (symbols ts) (records ts) before 0 first_mark (omega (arith, records-length ts))
      ∙ sets-eq (records ts) (sets before first_mark (symbols ts)) 0 (omega (arith, records-length ts, length-sets before first_mark (symbols ts)))

  table-length : length table ≡ length before
  table-length = length-sets (sets before 0 (records ts)) first_mark (symbols ts) ∙ length-sets before 0 (records ts)

  pub decode : toks text table (length ts) 0 ≡ ts
  decode =
      let z : length ts - 0 ≡ length ts = omega arith in
      ap (λ (n : ℕ). tokens_from text table 0 n) z ∙ from_is text table 0 ts _ placed stored_is

  mark-is : (i : ℕ) → i < length ts → get_or table (first_mark + i) 0 ≡ sym_of (token_at text table i)
  mark-is i l =
      let z : 0 + i ≡ i = omega arith in
      stored-word (symbols ts) (sets before 0 (records ts)) first_mark i (omega (arith, symbols-length ts, length-sets before 0 (records ts)))
      (omega (arith, symbols-length ts))
      ∙ (ap (λ (us : List Token). get_or (symbols us) i 0) (sym decode)
      ∙ (symbols-from text table 0 (length ts - 0) i (omega arith) ∙ ap (λ (m : ℕ). sym_of (token_at text table m)) z))

  pub holds : Holds text table (length ts)
  holds = record {
    room = omega (arith, table-length);
    behind = omega (arith, table-length);
    within = λ i l. within-is text table 0 ts _ placed stored_is i (omega arith) (omega arith);
    mark = mark-is;
  }
