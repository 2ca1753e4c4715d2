-- The reduction of a number, by the cases that the code meets: first that a number's digits are digits, then each answer, then that a
-- short number is always in range.
use mathlib.Core.Path.{◌≡◌, refl, sym, ap, ◌∙◌, subst}
use mathlib.Core.Bool.{Bool, true, false, cond, ◌&&◌, ◌||◌, false≢true}
use mathlib.Core.List.{List, [], ◌∷◌, ◌++◌}
use mathlib.Core.Logic.{⊎_elim}
use Prim.Native.Nat.{ℕ, zero, suc, pred, ◌+◌, ◌-◌, ◌*◌, ◌%◌, ◌^◌, ◌≤◌, ◌<◌, min, zero-le}
use native.Mathlib.Nat.{mul-le-mul_left, one-le-pow, add-zero, pow-suc, pow-le-pow_right}
use native.Mathlib.Numerals.{add-one}
use native.Mathlib.Omega.{arith}
use native.Mathlib.Decide.{dec_lt}
use lib.Dec.{eqb, leb}
use lib.ListN.{length, take, drop, get_or, length-append, length-take}
use lib.Seq.{drop-drop}
use lib.IntN.{ℤ, pos}
use borrow.Author.Tests.{eq-eqb, ne_eqb, eqb-true, eqb-false, le-leb, lt-leb, lt-ltb, le-ltb, leb-true}
use Rattle.lexis.specs.Sizes.{max_number, max_written, written_end, mantissa_digits, mantissa_end}
use Rattle.lexis.specs.Bytes.{among, within, class_of, is_digit, span_len}
use Rattle.lexis.specs.Number.{exponent_of, is_near, digits, led, frac_len, parts_of, parts_len, value_from, digits_of, written_of, minus_of, strip, reduced_of}
use Rattle.lexis.specs.Number.{is_small, in_range, reduction_of}
use Rattle.lexis.specs.Shapes.{small_written, is_short}
use Rattle.lexis.specs.Push.{no_digits, push_all}
use Rattle.lexis.specs.declared.number.Parts.{Parts}
use Rattle.lexis.specs.declared.mantissa.Mantissa.{Mantissa}
use Rattle.lexis.specs.declared.number.Number.{Number}
use Rattle.std.specs.Prelude.{Option, Some, None, is_some}
use Rattle.lexis.proofs.Shapes.{parts-le}
use Rattle.lexis.proofs.Signs.{near-small, cond_small}
use Rattle.lexis.proofs.Caps.{all-bounded}
use Rattle.lexis.proofs.Reduction.{Digits, Held, held, held-zero, strip-is}

-- ---- the bytes of a number's digits are digits

-- a class by its tests, as `class_of` has it
abbrev by_tests : Bool → Bool → Bool → Bool → Bool → Bool → Bool → Bool → ℕ
by_tests a w l q h o y p = cond a 1 (cond w 2 (cond l 3 (cond q 4 (cond h 5 (cond o 6 (cond y 7 (cond p 8 0)))))))

second : (a w l q h o y p : Bool) → by_tests a w l q h o y p ≡ 2 → w ≡ true
second true w l q h o y p e = absurd (omega arith)
second false true l q h o y p e = refl
second false false true q h o y p e = absurd (omega arith)
second false false false true h o y p e = absurd (omega arith)
second false false false false true o y p e = absurd (omega arith)
second false false false false false true y p e = absurd (omega arith)
second false false false false false false true p e = absurd (omega arith)
second false false false false false false false true e = absurd (omega arith)
second false false false false false false false false e = absurd (omega arith)

both_true : (a b : Bool) → (a && b) ≡ true → (a ≡ true) × (b ≡ true)
both_true true b e = (refl, e)
both_true false b e = absurd (false≢true e)

digit-range : (x : ℕ) → is_digit x ≡ true → (48 ≤ x) × (x ≤ 57)
unfolding class_of
digit-range x t =
    let w : (leb 48 x && leb x 57) ≡ true =
    second (within 9 13 x || eqb x 32) (within 48 57 x) (within 65 90 x || (within 97 122 x || eqb x 95)) (among (34 ∷ 39 ∷ []) x) (eqb x 35)
    (among (43 ∷ 45 ∷ 42 ∷ 47 ∷ 94 ∷ 60 ∷ 62 ∷ 33 ∷ []) x) (among (40 ∷ 41 ∷ 91 ∷ 93 ∷ 123 ∷ 125 ∷ 58 ∷ 61 ∷ 44 ∷ 59 ∷ []) x) (among (38 ∷ 124 ∷ []) x)
    (eqb-true (class_of x) 2 t) in
    let b = both_true (leb 48 x) (leb x 57) w in
    (leb-true 48 x b.0, leb-true x 57 b.1)

span-digits-cons : (x : ℕ) (s : List ℕ) (b : Bool) → is_digit x ≡ b → Digits (take (span_len is_digit s) s)
    → Digits (take (cond b (suc (span_len is_digit s)) 0) (x ∷ s))
span-digits-cons x s true t h = let r = digit-range x t in (r.0, r.1, h)
span-digits-cons x s false t h = tt

span-digits : (s : List ℕ) → Digits (take (span_len is_digit s) s)
unfolding span_len
span-digits [] = tt
span-digits (x ∷ s) = span-digits-cons x s (is_digit x) refl (span-digits s)

digits_append : (a b : List ℕ) → Digits a → Digits b → Digits (a ++ b)
digits_append [] b h k = k
digits_append (x ∷ a) b h k = (h.0, h.1, digits_append a b h.2 k)

led-digits : (d : ℕ) (l : List ℕ) → Digits (take d l) → Digits (take (pred (led 1 d)) l)
led-digits zero l h = tt
led-digits (suc d) l h = let e : pred (1 + suc d) ≡ suc d = omega arith in rw e h

cond-digits : (b : Bool) (n : ℕ) (l : List ℕ) → Digits (take (pred n) l) → Digits (take (pred (cond b n 0)) l)
cond-digits true n l h = h
cond-digits false n l h = tt

frac-digits : (s : List ℕ) → Digits (take (pred (frac_len s)) (drop 1 s))
unfolding frac_len
frac-digits s = cond-digits (eqb (get_or s 0 0) 46) (led 1 (digits (drop 1 s))) (drop 1 s) (led-digits (digits (drop 1 s)) (drop 1 s) (span-digits (drop 1 s)))

pub digits_are : (s : List ℕ) → Digits (digits_of s (parts_of s))
unfolding parts_of
digits_are s =
    digits_append (take (digits s) s) _ (span-digits s)
    (subst (λ (l : List ℕ). Digits (take (pred (frac_len (drop (digits s) s))) l)) (drop-drop 1 (digits s) s) (frac-digits (drop (digits s) s)))

-- ---- the reduction

-- a number reduced to this mantissa and exponent
abbrev pub reduced : ℕ → ℤ → Option Number
reduced m e = Some (record { mantissa = m; exponent = e })

pub zeros-small : (s : List ℕ) (p : Parts) (m : Mantissa) → m ≡ push_all no_digits (digits_of s p) → p.whole + p.frac + p.exp ≤ max_number → m.zeros ≤ max_number
zeros-small s p m e h =
    let ds = digits_of s p in
    let r = all-bounded no_digits 0 ds (record { capped = zero-le; few = zero-le }) in
    let f = take (pred p.frac) (drop (p.whole + 1) s) in
    let l : length ds ≤ max_number = omega
    (arith, length-append (take p.whole s) f, length-take p.whole s, length-take (pred p.frac) (drop (p.whole + 1) s)) in
    rw e (omega (arith, r.few))

module _ (s : List ℕ) (p : Parts) (is : p ≡ parts_of s) (m : Mantissa) (read : m ≡ push_all no_digits (digits_of s p)) where
  holds : Held (value_from 0 (digits_of s p)) (length (digits_of s p)) m
  holds = rw read (held (digits_of s p) (rw is (digits_are s)))

  value-zero : m.value ≡ 0 → value_from 0 (digits_of s p) ≡ 0
  value-zero e = held-zero _ _ m holds e

  value-some : (m.value ≡ 0 → ⊥) → (holds.mantissa % 10 ≡ 0 → ⊥)
  value-some n = ⊎_elim (λ w. absurd (n (omega (arith, holds.value, w.0)))) (λ w. w) holds.tail

  value_pos : (m.value ≡ 0 → ⊥) → value_from 0 (digits_of s p) ≡ 0 → ⊥
  value_pos n e =
      let q : 1 ≤ 10 ^ m.zeros = one-le-pow m.zeros 10 (omega arith) in
      let r : holds.mantissa * 1 ≤ holds.mantissa * 10 ^ m.zeros = mul-le-mul_left holds.mantissa q in
      n (omega (arith, holds.value, holds.whole))

  reduced-zero : m.value ≡ 0 → reduced_of s p ≡ record { mantissa = 0; exponent = pos 0 }
  unfolding reduced_of
  reduced-zero e = rw (value-zero e)

  reduced-some : (m.value ≡ 0 → ⊥)
      → reduced_of s p ≡ record { mantissa = holds.mantissa; exponent = exponent_of (minus_of s p) (written_of s p) (pred p.frac) m.zeros }
  unfolding reduced_of
  reduced-some n =
      let st : strip (length (digits_of s p)) (value_from 0 (digits_of s p)) ≡ record { mantissa = holds.mantissa; zeros = m.zeros } =
      ap (strip (length (digits_of s p))) holds.whole ∙ strip-is m.zeros (length (digits_of s p)) holds.mantissa holds.few (value-some n) in
      rw (ne_eqb _ 0 (value_pos n), st)

  module _ (w : ℕ) (written : w ≡ min (written_of s p) written_end) where
    pub out_written : max_written < w → None ≡ reduction_of s p
    unfolding reduction_of in_range
    out_written h = rw (lt-leb (written_of s p) max_written (omega arith))

    module _ (fits : w ≤ max_written) where
      same-written : written_of s p ≡ w
      same-written = omega arith

      in-written : leb (written_of s p) max_written ≡ true
      in-written = le-leb (written_of s p) max_written (omega arith)

      pub number-zero : m.value ≡ 0 → reduced 0 (pos 0) ≡ reduction_of s p
      unfolding reduction_of in_range is_small is_near
      number-zero e = rw (in-written, reduced-zero e)

      pub out-mantissa : mantissa_end ≤ m.value → None ≡ reduction_of s p
      unfolding reduction_of in_range is_small
      out-mantissa h =
          let n : (m.value ≡ 0 → ⊥) = λ e. omega arith in
          let big : mantissa_end ≤ holds.mantissa = omega (arith, holds.value) in
          rw (in-written, reduced-some n, le-ltb holds.mantissa mantissa_end big)

      module _ (n : m.value ≡ 0 → ⊥) (small : m.value < mantissa_end) (e : ℤ) (exponent : e ≡ exponent_of (minus_of s p) w (pred p.frac) m.zeros) where
        mantissa-is : holds.mantissa ≡ m.value
        mantissa-is = omega (arith, holds.value)

        pub out-exponent : is_near e ≡ false → None ≡ reduction_of s p
        unfolding reduction_of in_range is_small
        out-exponent t = rw (in-written, reduced-some n, mantissa-is, same-written, ← exponent, lt-ltb _ _ small, t)

        pub number-good : is_near e ≡ true → reduced m.value e ≡ reduction_of s p
        unfolding reduction_of in_range is_small
        number-good t = rw (in-written, reduced-some n, mantissa-is, same-written, ← exponent, lt-ltb _ _ small, t)

-- a number has a reduction where it is in range
pub in-range-some : (s : List ℕ) (p : Parts) → is_some (reduction_of s p) ≡ in_range s p
unfolding reduction_of
in-range-some s p = go (in_range s p)
  where
    go : (b : Bool) → is_some (cond b (reduced (reduced_of s p).mantissa (reduced_of s p).exponent) None) ≡ b
    go true = refl
    go false = refl

in-range-yes : (s : List ℕ) (p : Parts) (m : ℕ) (e : ℤ) → reduced m e ≡ reduction_of s p → true ≡ in_range s p
in-range-yes s p m e q = ap is_some q ∙ in-range-some s p

-- ---- a short number

value-below : (v k : ℕ) (ds : List ℕ) → Digits ds → v < 10 ^ k → value_from v ds < 10 ^ (k + length ds)
unfolding value_from
value-below v k [] t h = rw (add-zero k) h
value-below v k (d ∷ ds) t h =
    let more : 10 ^ (k + 1) ≡ 10 ^ k * 10 = rw (add-one k) (pow-suc 10 k) in
    let below : v * 10 + (d - 48) < 10 ^ (k + 1) = rw more (omega (arith, t.0, t.1)) in
    let e : k + suc (length ds) ≡ k + 1 + length ds = omega arith in
    rw e (value-below (v * 10 + (d - 48)) (k + 1) ds t.2 below)

-- the number that a short number's digits spell is small
module _ (s : List ℕ) (p : Parts) (is : p ≡ parts_of s) (few : p.whole + p.frac ≤ mantissa_digits) where
  short-digits : length (digits_of s p) ≤ mantissa_digits
  short-digits =
      let f = take (pred p.frac) (drop (p.whole + 1) s) in
      omega (arith, length-append (take p.whole s) f, length-take p.whole s, length-take (pred p.frac) (drop (p.whole + 1) s))

  short-small : (push_all no_digits (digits_of s p)).value < mantissa_end
  short-small =
      let ds = digits_of s p in
      let hold = holds s p is (push_all no_digits ds) refl in
      let q : 1 ≤ 10 ^ (push_all no_digits ds).zeros = one-le-pow (push_all no_digits ds).zeros 10 (omega arith) in
      let r : hold.mantissa * 1 ≤ hold.mantissa * 10 ^ (push_all no_digits ds).zeros = mul-le-mul_left hold.mantissa q in
      let v : value_from 0 ds < 10 ^ (0 + length ds) = value-below 0 0 ds (rw is (digits_are s)) (omega arith) in
      let few : 0 + length ds ≤ 18 = omega (arith, short-digits) in
      let ten : 0 < 10 = omega arith in
      let top : 10 ^ (0 + length ds) ≤ 10 ^ 18 = pow-le-pow_right ten few in
      omega (arith, hold.value, hold.whole)

  module _ (fits : parts_len p ≤ max_number) (small : written_of s p ≤ small_written) where
    abbrev short-exponent : ℤ
    short-exponent = exponent_of (minus_of s p) (written_of s p) (pred p.frac) (push_all no_digits (digits_of s p)).zeros

    -- and its exponent is near
    short-near : is_near short-exponent ≡ true
    short-near =
        let z : (push_all no_digits (digits_of s p)).zeros ≤ max_number = zeros-small s p (push_all no_digits (digits_of s p)) refl fits in
        let up : cond (minus_of s p) 0 (written_of s p) ≤ small_written = cond_small (minus_of s p) 0 (written_of s p) small_written zero-le small in
        let down : cond (minus_of s p) (written_of s p) 0 ≤ small_written = cond_small (minus_of s p) (written_of s p) 0 small_written small zero-le in
        near-small (cond (minus_of s p) 0 (written_of s p) + (push_all no_digits (digits_of s p)).zeros)
        (cond (minus_of s p) (written_of s p) 0 + pred p.frac) (omega arith) (omega arith)

    capped-written : written_of s p ≡ min (written_of s p) written_end
    capped-written = omega arith

    -- so it is in range
    range-short : true ≡ in_range s p
    range-short = go (eqb (push_all no_digits (digits_of s p)).value 0) refl
      where
        go : (b : Bool) → eqb (push_all no_digits (digits_of s p)).value 0 ≡ b → true ≡ in_range s p
        go true t =
            in-range-yes s p 0 (pos 0)
            (number-zero s p is (push_all no_digits (digits_of s p)) refl (written_of s p) capped-written (omega arith) (eqb-true _ 0 t))
        go false t =
            in-range-yes s p (push_all no_digits (digits_of s p)).value short-exponent
            (number-good s p is (push_all no_digits (digits_of s p)) refl (written_of s p) capped-written (omega arith) (eqb-false _ 0 t)
            short-small short-exponent refl short-near)

no-exponent : (s : List ℕ) (p : Parts) → p.exp ≡ 0 → written_of s p ≡ 0
unfolding written_of
no-exponent s p e = rw (eq-eqb p.exp 0 e)

-- and so is one of at most 18 bytes without an exponent
pub range-plain : (s : List ℕ) (p : Parts) → p ≡ parts_of s → p.exp ≡ 0 → length s ≤ mantissa_digits → true ≡ in_range s p
range-plain s p is none h =
    let n : parts_len p ≤ length s = rw is (parts-le s) in
    range-short s p is (omega arith) (omega arith) (omega (arith, no-exponent s p none))

-- ---- the test of a short number

pub few-not : (s : List ℕ) (p : Parts) → mantissa_digits < p.whole + p.frac → false ≡ is_short s p
unfolding is_short
few-not s p h = rw (lt-leb (p.whole + p.frac) mantissa_digits h)

pub few-then : (s : List ℕ) (p : Parts) (w : ℕ) → p.whole + p.frac ≤ mantissa_digits → w ≡ min (written_of s p) written_end → leb w small_written ≡ is_short s p
unfolding is_short
few-then s p w h e = rw (le-leb (p.whole + p.frac) mantissa_digits h) (go (dec_lt small_written (written_of s p)))
  where
    go : Dec (small_written < written_of s p) → leb w small_written ≡ leb (written_of s p) small_written
    go (yes l) = lt-leb w small_written (omega arith) ∙ sym (lt-leb (written_of s p) small_written l)
    go (no l) = le-leb w small_written (omega arith) ∙ sym (le-leb (written_of s p) small_written (omega arith))

pub short-in-range : (s : List ℕ) (p : Parts) (b : Bool) → p ≡ parts_of s → parts_len p ≤ max_number → b ≡ is_short s p → b ≡ true → true ≡ in_range s p
unfolding is_short
short-in-range s p b is fits e t =
    let two = both_true (leb (p.whole + p.frac) mantissa_digits) (leb (written_of s p) small_written) (sym e ∙ t) in
    range-short s p is (leb-true _ mantissa_digits two.0) fits (leb-true _ small_written two.1)
