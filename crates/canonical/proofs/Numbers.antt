-- Numbers as canonical text spells them. First an exponent and a mantissa before other bytes, then what a spelling reads as
-- (`read_number`), then that the lexer finds a spelt number, and the digits of a whole one, before a byte that does not go on with them.
use mathlib.Core.Path.{◌≡◌, refl, sym, ap}
use mathlib.Core.Bool.{Bool, true, false, cond, ◌&&◌, and-true, true≢false, false≢true}
use mathlib.Core.List.{List, [], ◌∷◌, ◌++◌, append_assoc, append-nil}
use Prim.Native.Nat.{ℕ, suc, pred, ◌+◌, ◌%◌, ◌≤◌, ◌<◌, zero-le}
use native.Mathlib.Nat.{add-zero, mul-one}
use native.Mathlib.Omega.{arith}
use lib.Dec.{eqb, ltb}
use lib.IntN.{ℤ, pos, negsuc, nat_abs}
use lib.ListN.{length, length-append}
use lib.Seq.{take-append_seam, drop-append_seam, get_or-append-add}
use borrow.Author.Tests.{eq-eqb, ne_eqb, lt-ltb, le-leb, leb-true, ltb-true}
use Rattle.lexis.specs.Sizes.{max_number, max_written, max_exponent, mantissa_end}
use Rattle.lexis.specs.Ascii.{byte}
use Rattle.lexis.specs.Class as Class
use Rattle.lexis.specs.Kind as Kind
use Rattle.lexis.specs.Bytes.{class_of, is_digit, is_letter, span_len}
use Rattle.lexis.specs.Number.{Reduced, strip, led, frac_len, sign_len, is_e, exp_len, parts_of, parts_len, sticks, digits_of, written_in, written_of, minus_of}
use Rattle.lexis.specs.Number.{exponent_of, reduced_of, is_near, is_small, in_range}
use Rattle.lexis.specs.Lexeme.{number_lexeme}
use Rattle.lexis.specs.declared.number.Parts.{Parts}
use Rattle.lexis.specs.Lexeme.Lexeme.{Token}
use Rattle.lexis.proofs.Signs.{pos-sub}
use Rattle.lexis.proofs.Reduction.{strip-is}
use Rattle.lexis.proofs.Ranges.{range-plain}
use Rattle.writing.specs.Spelling.{decimal, spell_exponent, spell_number}
use Rattle.writing.specs.Fit.{Lowest, nought, odd, IsNumber}
use Rattle.writing.proofs.Runs.{next, span-again, next-seam, differs}
use Rattle.canonical.proofs.Digits.{value-digits, IsDigits, some-digits, all_digits, are-digits, digits-length}

-- a byte that goes on with no word and no number
pub record Apart (b : ℕ) : Type 0 where
  pub letter : is_letter b ≡ false
  pub digit : is_digit b ≡ false
  pub point : eqb b (byte ".") ≡ false

no-stick : {b : ℕ} → Apart b → sticks b ≡ false
unfolding sticks
no-stick a = rw (a.letter, a.point)

-- ---- an exponent before r

abbrev is_minus : ℤ → Bool
is_minus (pos n) = false
is_minus (negsuc n) = true

-- a digit is no sign
not-sign : (x c : ℕ) → class_of x ≡ Class.operator → class_of c ≡ Class.digit → eqb c x ≡ false
not-sign x c h k = differs class_of x c Class.operator Class.digit h k (λ e. omega arith)

no_minus : {d : List ℕ} (r : List ℕ) → IsDigits d → eqb (next (d ++ r)) (byte "-") ≡ false
unfolding class_of
no_minus r (some-digits {c} h a) = not-sign (byte "-") c refl h

no_sign : {d : List ℕ} (r : List ℕ) → IsDigits d → sign_len (d ++ r) ≡ 0
unfolding sign_len class_of
no_sign r (some-digits {c} h a) = rw (not-sign (byte "+") c refl h, not-sign (byte "-") c refl h)

led-digits : (lead : ℕ) {d : List ℕ} → IsDigits d → led lead (length d) ≡ lead + length d
led-digits lead (some-digits h a) = refl

module _ (r : List ℕ) (end : Apart (next r)) where
  run_length : (n : ℕ) → span_len is_digit (decimal n ++ r) ≡ length (decimal n)
  run_length n = span-again is_digit r (all_digits (are-digits n)) end.digit

  exponent-length : (e : ℤ) → exp_len (byte "e" ∷ (spell_exponent e ++ r)) ≡ suc (length (spell_exponent e))
  unfolding exp_len is_e sign_len spell_exponent
  exponent-length (pos n) = rw (no_sign r (are-digits n), run_length n, led-digits 1 (are-digits n)) (omega arith)
  exponent-length (negsuc n) = rw (run_length (suc n), led-digits 2 (are-digits (suc n))) (omega arith)

  exponent-written : (e : ℤ) → written_in (byte "e" ∷ (spell_exponent e ++ r)) ≡ nat_abs e
  unfolding sign_len spell_exponent
  exponent-written (pos n) = rw (no_sign r (are-digits n), run_length n, take-append_seam) (value-digits n)
  exponent-written (negsuc n) = rw (run_length (suc n), take-append_seam (decimal (suc n)) r) (value-digits (suc n))

  exponent-sign : (e : ℤ) → eqb (next (spell_exponent e ++ r)) (byte "-") ≡ is_minus e
  unfolding spell_exponent
  exponent-sign (pos n) = no_minus r (are-digits n)
  exponent-sign (negsuc n) = refl

exponent-again : (e : ℤ) → exponent_of (is_minus e) (nat_abs e) 0 0 ≡ e
exponent-again (pos n) = rw (add-zero n) (sym (pos-sub n))
exponent-again (negsuc n) = rw (add-zero (suc n), lt-ltb 0 (suc n) (omega arith)) (ap negsuc (omega arith))

-- ---- a mantissa and an exponent before r

strip-odd : (most m : ℕ) → (m % 10 ≡ 0 → ⊥) → strip most m ≡ record { mantissa = m; zeros = 0 }
strip-odd most m h = rw mul-one at (strip-is 0 most m zero-le h)

abbrev spelt : Reduced → List ℕ → List ℕ
spelt n r = decimal n.mantissa ++ (byte "e" ∷ (spell_exponent n.exponent ++ r))

abbrev parts : Reduced → Parts
parts n = record { whole = length (decimal n.mantissa); frac = 0; exp = suc (length (spell_exponent n.exponent)) }

module _ (r : List ℕ) (end : Apart (next r)) (n : Reduced) where
  mantissa-run : span_len is_digit (spelt n r) ≡ length (decimal n.mantissa)
  unfolding class_of
  mantissa-run = span-again is_digit (byte "e" ∷ (spell_exponent n.exponent ++ r)) (all_digits (are-digits n.mantissa)) refl

  parts_again : parts_of (spelt n r) ≡ parts n
  unfolding parts_of frac_len
  parts_again = simp (mantissa-run, drop-append_seam, add-zero, exponent-length r end n.exponent)

  has-exponent : eqb (parts n).exp 0 ≡ false
  has-exponent = ne_eqb (parts n).exp 0 (λ z. omega arith)

  written-again : written_of (spelt n r) (parts n) ≡ nat_abs n.exponent
  unfolding written_of
  written-again = simp (has-exponent, add-zero, drop-append_seam, exponent-written r end n.exponent)

  minus-again : minus_of (spelt n r) (parts n) ≡ is_minus n.exponent
  unfolding minus_of
  minus-again = simp (has-exponent, add-zero, get_or-append-add, exponent-sign r end n.exponent)

  digits-again : digits_of (spelt n r) (parts n) ≡ decimal n.mantissa
  digits-again = simp (take-append_seam, append-nil)

reduced-again : (r : List ℕ) → Apart (next r) → {n : Reduced} → Lowest n → reduced_of (spelt n r) (parts n) ≡ n
unfolding reduced_of
reduced-again r end nought = simp (digits-again r end (record { mantissa = 0; exponent = pos 0 }), value-digits)
reduced-again r end (odd {m} {e} h) =
    let n : Reduced = record { mantissa = m; exponent = e } in
    let some : (m ≡ 0 → ⊥) = λ z. h (omega arith) in
    simp (digits-again r end n, value-digits, ne_eqb m 0 some, strip-odd (length (decimal m)) m h, minus-again r end n, written-again r end n, exponent-again e)

-- ---- the spelling by itself

end-apart : Apart (next [])
unfolding class_of
end-apart = record { letter = refl; digit = refl; point = refl }

spelt-alone : (n : Reduced) → spell_number n ≡ spelt n []
unfolding spell_number
spelt-alone n = rw append-nil

pub read_number : (n : Reduced) → Lowest n → reduced_of (spell_number n) (parts_of (spell_number n)) ≡ n
read_number n l = rw (spelt-alone n, parts_again [] end-apart n) (reduced-again [] end-apart l)

near-size : (e : ℤ) → is_near e ≡ true → nat_abs e ≤ max_exponent
unfolding is_near
near-size (pos n) h = leb-true n max_exponent h
near-size (negsuc n) h = let l : n ≤ pred max_exponent = leb-true n (pred max_exponent) (rw and-true at h) in omega arith

-- the bounds of a small number
small-bounds : (n : Reduced) → is_small n ≡ true → (n.mantissa < mantissa_end) × (nat_abs n.exponent ≤ max_exponent)
unfolding is_small
small-bounds n h = go (ltb n.mantissa mantissa_end) refl h
  where
    go : (b : Bool) → ltb n.mantissa mantissa_end ≡ b → (b && is_near n.exponent) ≡ true
        → (n.mantissa < mantissa_end) × (nat_abs n.exponent ≤ max_exponent)
    go true t near = (ltb-true n.mantissa mantissa_end t, near-size n.exponent near)
    go false t near = absurd (false≢true near)

exponent-short : (e : ℤ) → nat_abs e ≤ max_exponent → length (spell_exponent e) ≤ 4
unfolding spell_exponent
exponent-short (pos n) h = omega (arith, digits-length 2 n (omega arith))
exponent-short (negsuc n) h = omega (arith, digits-length 2 (suc n) (omega arith))

range-number : (n : Reduced) → IsNumber n → in_range (spell_number n) (parts_of (spell_number n)) ≡ true
unfolding in_range
range-number n h =
    let w : written_of (spell_number n) (parts_of (spell_number n)) ≡ nat_abs n.exponent = rw (spelt-alone n, parts_again [] end-apart n)
    (written-again [] end-apart n) in
    rw (w, read_number n h.lowest, le-leb (nat_abs n.exponent) max_written (omega (arith, small-bounds n h.small)), h.small)

-- ---- the lexer

-- bytes that are a number as far as they go, and in range, are a number before what does not go on with it
number_of : (k : ℕ) (b r : List ℕ) (p : Parts) → parts_of (b ++ r) ≡ p → parts_len p ≡ length b → cond (eqb (length b) p.whole) Kind.whole Kind.real ≡ k
    → Apart (next r) → length b ≤ max_number → in_range b (parts_of b) ≡ true → number_lexeme (b ++ r) ≡ Token k (length b)
unfolding number_lexeme
number_of k b r p is len kind end short range =
    simp (is, len, next-seam, no-stick end, le-leb (length b) max_number short, take-append_seam, range, kind)

pub number-again : (r : List ℕ) → Apart (next r) → (n : Reduced) → IsNumber n → number_lexeme (spell_number n ++ r) ≡ Token Kind.real (length (spell_number n))
unfolding spell_number
number-again r end n h =
    let m = n.mantissa in
    let b = small-bounds n h.small in
    let len : length (spell_number n) ≡ length (decimal m) + suc (length (spell_exponent n.exponent)) = length-append (decimal m)
    (byte "e" ∷ spell_exponent n.exponent) in
    number_of Kind.real (spell_number n) r (parts n) (rw append_assoc (parts_again r end n)) (omega arith)
    (rw (ne_eqb (length (spell_number n)) (length (decimal m)) (λ z. omega arith)))
    end (omega (arith, digits-length 17 m b.0, exponent-short n.exponent b.1)) (range-number n h)

-- whole numbers
module _ (r : List ℕ) (end : Apart (next r)) where
  no_fraction : frac_len r ≡ 0
  unfolding frac_len
  no_fraction = rw end.point

  no-exponent : exp_len r ≡ 0
  unfolding exp_len is_e class_of
  no-exponent =
      rw (
        differs is_letter (byte "e") (next r) true false refl end.letter true≢false,
        differs is_letter (byte "E") (next r) true false refl end.letter true≢false,
      )

  whole_parts : (n : ℕ) → parts_of (decimal n ++ r) ≡ record { whole = length (decimal n); frac = 0; exp = 0 }
  unfolding parts_of
  whole_parts n = simp (run_length r end n, drop-append_seam, no_fraction, add-zero, no-exponent)

range-whole : (n : ℕ) → n < mantissa_end → in_range (decimal n) (parts_of (decimal n)) ≡ true
range-whole n h =
    let none : (parts_of (decimal n)).exp ≡ 0 = ap (λ (p : Parts). p.exp) (rw append-nil at (whole_parts [] end-apart n)) in
    sym (range-plain (decimal n) (parts_of (decimal n)) refl none (digits-length 17 n h))

pub whole_again : (r : List ℕ) → Apart (next r) → (n : ℕ) → n < mantissa_end → number_lexeme (decimal n ++ r) ≡ Token Kind.whole (length (decimal n))
whole_again r end n h =
    number_of Kind.whole (decimal n) r (record { whole = length (decimal n); frac = 0; exp = 0 }) (whole_parts r end n) (omega arith)
    (rw (eq-eqb (length (decimal n)) (length (decimal n)) refl)) end (omega (arith, digits-length 17 n h)) (range-whole n h)
