-- What stands at a position of a text, `drop at text`: a run lies within the text, the first byte, a word, a string.
use mathlib.Core.Path.{◌≡◌, refl, ap, ◌∙◌}
use mathlib.Core.Bool.{Bool, true, false, cond}
use mathlib.Core.List.{List, [], ◌∷◌}
use Prim.Native.Nat.{ℕ, zero, suc, ◌+◌, ◌-◌, ◌<◌, ◌≤◌, zero-le, suc-le-suc}
use native.Mathlib.Nat.{add-zero, le_of_suc-le-suc}
use native.Mathlib.Omega.{arith}
use lib.Dec.{leb}
use lib.ListN.{length, take, drop, get_or, length-drop}
use lib.Seq.{get_or-drop}
use borrow.Author.Tests.{eq-eqb, ne_eqb}
use Rattle.lexis.specs.Sizes.{max_name, max_string}
use Rattle.lexis.specs.Bytes.{is_name_part, is_content, span_len, IsRun}
use Rattle.lexis.specs.Words.{kind_of_word}
use Rattle.lexis.specs.Lexeme.{word_lexeme, string_lexeme}
use Rattle.lexis.specs.Lexeme.{Token, Fault}

span-le-cons : (b : Bool) (m n : ℕ) → m ≤ n → cond b (suc m) 0 ≤ suc n
span-le-cons true m n h = suc-le-suc h
span-le-cons false m n h = zero-le

-- a run is no longer than its text
pub span-le : (f : ℕ → Bool) (s : List ℕ) → span_len f s ≤ length s
unfolding span_len
span-le f [] = zero-le
span-le f (x ∷ s) = span-le-cons (f x) (span_len f s) (length s) (span-le f s)

-- every byte of a run passes the test
span-passes : (f : ℕ → Bool) (s : List ℕ) (i : ℕ) → i < span_len f s → f (get_or s i 0) ≡ true
unfolding span_len
span-passes f [] i h = absurd (omega arith)
span-passes f (x ∷ s) i h = go (f x) refl i h (λ j l. span-passes f s j l)
  where
    go : (b : Bool) → f x ≡ b → (i : ℕ) → i < cond b (suc (span_len f s)) 0 → ((j : ℕ) → j < span_len f s → f (get_or s j 0) ≡ true)
        → f (get_or (x ∷ s) i 0) ≡ true
    go true e zero h rest = e
    go true e (suc i) h rest = rest i (le_of_suc-le-suc h)
    go false e i h rest = absurd (omega arith)

-- the byte after a run does not
span-stops : (f : ℕ → Bool) (s : List ℕ) → span_len f s < length s → f (get_or s (span_len f s) 0) ≡ false
unfolding span_len
span-stops f [] h = absurd (omega arith)
span-stops f (x ∷ s) h = go (f x) refl h (λ l. span-stops f s l)
  where
    go : (b : Bool) → f x ≡ b → cond b (suc (span_len f s)) 0 < suc (length s) → (span_len f s < length s → f (get_or s (span_len f s) 0) ≡ false)
        → f (get_or (x ∷ s) (cond b (suc (span_len f s)) 0) 0) ≡ false
    go true e h rest = rest (le_of_suc-le-suc h)
    go false e h rest = e

pub is-run : (f : ℕ → Bool) (s : List ℕ) → IsRun f s (span_len f s)
is-run f s = record { within = span-le f s; passes = span-passes f s; stops = span-stops f s }

-- a run at `at` ends within the text
pub span-in : (f : ℕ → Bool) (s : List ℕ) (at : ℕ) → at ≤ length s → at + span_len f (drop at s) ≤ length s
span-in f s at h = omega (arith, span-le f (drop at s), length-drop at s)

pub run_in : (f : ℕ → Bool) (s : List ℕ) (at end : ℕ) → end ≡ at + span_len f (drop at s) → at ≤ length s → end ≤ length s
run_in f s at end e h = omega (arith, span-in f s at h)

-- the first byte of what stands at `at`
pub front : (s : List ℕ) (at : ℕ) → get_or (drop at s) 0 0 ≡ get_or s at 0
front s at = get_or-drop at s 0 0 ∙ ap (λ (n : ℕ). get_or s n 0) (add-zero at)

module _ (s : List ℕ) (at end : ℕ) (run : end ≡ at + span_len is_name_part (drop at s)) where
  word_len : span_len is_name_part (drop at s) ≡ end - at
  word_len = omega arith

  pub word-long : leb (end - at) max_name ≡ false → Fault 6 ≡ word_lexeme (drop at s)
  unfolding word_lexeme
  word-long t = rw (word_len, t)

  pub word_good : (k : ℕ) → leb (end - at) max_name ≡ true → k ≡ kind_of_word (take (end - at) (drop at s)) → Token k (end - at) ≡ word_lexeme (drop at s)
  unfolding word_lexeme
  word_good k t e = rw (word_len, t, e)

module _ (s : List ℕ) (q from end : ℕ) (run : end ≡ from + span_len (is_content q) (drop from s)) where
  string_len : span_len (is_content q) (drop from s) ≡ end - from
  string_len = omega arith

  string-after : get_or (drop from s) (end - from) 0 ≡ get_or s end 0
  string-after =
      let e : from + (end - from) ≡ end = omega arith in
      get_or-drop from s (end - from) 0 ∙ ap (λ (n : ℕ). get_or s n 0) e

  pub string-open : (get_or s end 0 ≡ q → ⊥) → Fault 5 ≡ string_lexeme q (drop from s)
  unfolding string_lexeme
  string-open n = rw (string_len, string-after, ne_eqb _ _ n)

  pub string-long : get_or s end 0 ≡ q → leb (end - from) max_string ≡ false → Fault 6 ≡ string_lexeme q (drop from s)
  unfolding string_lexeme
  string-long e t = rw (string_len, string-after, eq-eqb _ _ e, t)

  pub string-good : get_or s end 0 ≡ q → leb (end - from) max_string ≡ true → Token 4 (end - from + 2) ≡ string_lexeme q (drop from s)
  unfolding string_lexeme
  string-good e t = rw (string_len, string-after, eq-eqb _ _ e, t)
