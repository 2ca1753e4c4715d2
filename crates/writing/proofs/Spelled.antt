-- How numbers and strings are spelt, step by step as the code does it. In order: the digits of a number, stored from the last on; digits that spell a number
-- as they are; exponents; reduced numbers; the quote and the content of a string.
use mathlib.Core.Path.{◌≡◌, refl, sym, ap, ap₂, ◌∙◌, subst}
use mathlib.Core.Bool.{Bool, true, false, cond, ◌&&◌, ◌||◌, and-true}
use Rattle.std.specs.List.{list_any}
use mathlib.Core.List.{List, [], ◌∷◌, ◌++◌, append_assoc, append-nil}
use Prim.Native.Nat.{ℕ, zero, suc, ◌+◌, ◌-◌, ◌*◌, ◌^◌, ◌/◌, ◌%◌, ◌≤◌, ◌<◌}
use native.Mathlib.Decide.{dec_lt}
use native.Mathlib.Omega.{arith}
use native.Mathlib.Numerals.{add-one}
use borrow.Author.Tests.{eq-eqb, ne_eqb, eqb-true, eqb-false, lt-ltb, le-ltb, ltb-true, leb-true}
use lib.Dec.{T, eqb, ltb, leb}
use lib.IntN.{ℤ, pos, negsuc, nat_abs, ◌-ℤ◌, +ℤ_idl}
use lib.Signed.{mag, lt_z, non_neg}
use lib.ListN.{length, get_or, set, take, drop, length-set, length-drop, drop_of_length-le}
use lib.Seq.{drop-cons, take_all, take-length, lt-length-set, get_or-set_same, drop-set-lt}
use mir.Syntax.{w32, w64}
use mir.Val.{Fits, SFits, to_z, of_z}
use mir.Facts.{to_z-of_z}
use Rattle.lexis.specs.Ascii.{byte}
use Rattle.lexis.specs.Sizes.{max_exponent, max_written, mantissa_end}
use Rattle.lexis.specs.Bytes.{is_digit}
use Rattle.lexis.specs.Number.{value_from, parts_of, written_of, reduced_of, is_near, is_small, in_range, reduction_of, reduction}
use Rattle.std.proofs.Common.{Option, Some, None, pos}
use Rattle.lexis.specs.declared.number.Number.{Number}
use Rattle.lexis.proofs.Ranges.{reduced}
use Rattle.lists.specs.Reading.{content_of}
use Rattle.lists.proofs.Extents.{value-step}
use Rattle.writing.specs.Spelling.{decimal_by, decimal, spell_exponent, holds_single}
use Rattle.writing.specs.Writing.{Unpadded, AreDigits}
use Rattle.writing.specs.Fit.{All, none, more}
use Rattle.writing.proofs.Good.{digit-range}
use Rattle.writing.proofs.Runs.{span-all}

-- ---- digits

-- enough fuel is as good as any
digits-fuel : (f g n : ℕ) → n ≤ f → n ≤ g → decimal_by f n ≡ decimal_by g n
unfolding decimal_by
digits-fuel zero zero n p q = refl
digits-fuel zero (suc g) n p q = let h : n < 10 = omega arith in rw (lt-ltb n 10 h)
digits-fuel (suc f) zero n p q = let h : n < 10 = omega arith in rw (lt-ltb n 10 h)
digits-fuel (suc f) (suc g) n p q =
    ap (λ (ds : List ℕ). cond (ltb n 10) ((byte "0" + n) ∷ []) (ds ++ ((byte "0" + n % 10) ∷ []))) (digits-fuel f g (n / 10) (omega arith) (omega arith))

-- one digit, or the digits before the last one and the last one
pub digits-one : (n : ℕ) → n < 10 → decimal n ≡ (byte "0" + n) ∷ []
unfolding decimal decimal_by
digits-one n h = digits-fuel n (suc n) n (omega arith) (omega arith) ∙ rw (lt-ltb n 10 h)

pub digits_more : (n : ℕ) → 10 ≤ n → decimal n ≡ decimal (n / 10) ++ ((byte "0" + n % 10) ∷ [])
unfolding decimal decimal_by
digits_more n h =
    let last : List ℕ = (byte "0" + n % 10) ∷ [] in
    digits-fuel n (suc n) n (omega arith) (omega arith) ∙ rw (le-ltb n 10 h)
    (ap (λ (ds : List ℕ). ds ++ last) (digits-fuel n (n / 10) (n / 10) (omega arith) (omega arith)))

-- the digits of n are those of `rest` and those stored behind place i
pub record Filled (n rest i : ℕ) (buffer : List ℕ) : Type 0 where
  pub few : rest < 10 ^ suc i
  pub digits : decimal n ≡ decimal rest ++ drop (i + 1) buffer

-- a word has at most 20 digits
pub filled_none : (n : ℕ) (buffer : List ℕ) → n < 2 ^ 64 → length buffer ≤ 20 → Filled n n 19 buffer
filled_none n buffer h l = record {
  few = omega arith;
  digits = sym (append-nil (decimal n))
      ∙ ap (λ (s : List ℕ). decimal n ++ s) (sym (drop_of_length-le buffer l));
}

-- a number of two digits or more has a place before place i
pub filled-room : {n rest : ℕ} (i : ℕ) {buffer : List ℕ} → 10 ≤ rest → Filled n rest i buffer → 0 < i
filled-room zero h f = absurd (omega (arith, f.few))
filled-room (suc i) h f = omega arith

-- its last digit is stored there
stored-digit : (buffer : List ℕ) (i d : ℕ) → i < length buffer → drop i (set buffer i d) ≡ d ∷ drop (i + 1) buffer
stored-digit buffer i d l = drop-cons (set buffer i d) i 0 (lt-length-set buffer i d l)
    ∙ rw (get_or-set_same buffer i d 0 l, drop-set-lt (suc i) buffer i d (omega arith), add-one i)

pub filled_more : {n rest : ℕ} (i : ℕ) {buffer : List ℕ} → 10 ≤ rest → i < length buffer → Filled n rest i buffer
    → Filled n (rest / 10) (i - 1) (set buffer i (byte "0" + rest % 10))
filled_more zero h l f = absurd (omega (arith, f.few))
filled_more {n} {rest} (suc i) {buffer} h l f =
    let d = byte "0" + rest % 10 in
    let before : suc i - 1 ≡ i = omega arith in
    let here : suc i - 1 + 1 ≡ suc i = omega arith in
    record {
      few = rw before (omega (arith, f.few));
      digits =
          f.digits
          ∙ ap (λ (s : List ℕ). s ++ drop (suc i + 1) buffer) (digits_more rest h)
          ∙ append_assoc (decimal (rest / 10)) (d ∷ []) (drop (suc i + 1) buffer)
          ∙ ap (λ (s : List ℕ). decimal (rest / 10) ++ s) (sym (ap (λ (k : ℕ). drop k (set buffer (suc i) d)) here ∙ stored-digit buffer (suc i) d l));
    }

pub filled-all : {n rest i : ℕ} {buffer : List ℕ} → rest < 10 → i < 20 → length buffer ≡ 20 → Filled n rest i buffer
    → take (20 - i) (drop i (set buffer i (byte "0" + rest))) ≡ decimal n
filled-all {n} {rest} {i} {buffer} h l k f =
    take_all (20 - i) (drop i (set buffer i (byte "0" + rest))) (simp (length-drop, length-set) (omega (arith, k)))
    ∙ stored-digit buffer i (byte "0" + rest) (omega (arith, l, k))
    ∙ ap (λ (s : List ℕ). s ++ drop (i + 1) buffer) (sym (digits-one rest h))
    ∙ sym f.digits

-- ---- digits that spell a number

-- digits after those of a number that is not 0
digits-after : (v : ℕ) {s : List ℕ} → 0 < v → All is_digit s → decimal (value_from v s) ≡ decimal v ++ s
unfolding value_from
digits-after v p none = sym (append-nil (decimal v))
digits-after v p (more {c} {s} h a) =
    let r = digit-range c h in
    let w = v * 10 + (c - byte "0") in
    let tens : w / 10 ≡ v = omega (arith, r) in
    let unit : byte "0" + w % 10 ≡ c = omega (arith, r) in
    digits-after w (omega (arith, p)) a
    ∙ ap (λ (ds : List ℕ). ds ++ s) (digits_more w (omega (arith, p)) ∙ ap₂ (λ (x y : ℕ). decimal x ++ (y ∷ [])) tens unit)
    ∙ append_assoc (decimal v) (c ∷ []) s

-- digits without leading zeros are those of their number; a last zero leads nothing
digits-own : (c : ℕ) {s : List ℕ} → is_digit c ≡ true → All is_digit s → (c ≡ byte "0" → s ≡ []) → decimal (value_from 0 (c ∷ s)) ≡ c ∷ s
unfolding value_from
digits-own c {s} h a z = go (dec_lt (byte "0") c)
  where
    go : Dec (byte "0" < c) → decimal (value_from (0 * 10 + (c - byte "0")) s) ≡ c ∷ s
    go (yes l) =
        let r = digit-range c h in
        let own : byte "0" + (c - byte "0") ≡ c = omega (arith, l) in
        let value : 0 * 10 + (c - byte "0") ≡ c - byte "0" = omega arith in
        ap (λ (v : ℕ). decimal (value_from v s)) value ∙ digits-after (c - byte "0") (omega (arith, l)) a ∙ ap (λ (ds : List ℕ). ds ++ s)
        (digits-one (c - byte "0") (omega (arith, r)) ∙ ap (λ (x : ℕ). x ∷ []) own)
    go (no n) =
        let r = digit-range c h in
        let e : c ≡ byte "0" = omega (arith, r, n) in
        rw (z e, e) (digits-one 0 (omega arith))

all_drop : (f : ℕ → Bool) (i : ℕ) {s : List ℕ} → All f s → All f (drop i s)
all_drop f zero a = a
all_drop f (suc i) none = none
all_drop f (suc i) (more h a) = all_drop f i a

-- a zero that leads nothing is the last digit
zero-last : (w : List ℕ) (i : ℕ) → Unpadded w i → get_or w i 0 ≡ byte "0" → length w ≤ suc i
zero-last w i u z = go (dec_lt (i + 1) (length w))
  where
    go : Dec (i + 1 < length w) → length w ≤ suc i
    go (yes h) = absurd (u.leading h z)
    go (no n) = omega (arith, n)

pub digits-kept : (w : List ℕ) (i : ℕ) → AreDigits w → Unpadded w i → drop i w ≡ decimal (value_from 0 w)
digits-kept w i d u =
    let l = u.inside d.begun in
    let e = drop-cons w i 0 l in
    let all = rw (d.digits, take-length w) at (span-all is_digit w) in
    sym (ap (λ (v : ℕ). decimal v) (sym u.same) ∙ go (rw e at (all_drop is_digit i all)) e u.same)
  where
    go : All is_digit (get_or w i 0 ∷ drop (suc i) w) → drop i w ≡ get_or w i 0 ∷ drop (suc i) w → value_from 0 (drop i w) ≡ value_from 0 w
        → decimal (value_from 0 (drop i w)) ≡ drop i w
    go (more h a) e s = rw e (digits-own (get_or w i 0) h a λ z. drop_of_length-le w (zero-last w i u z))

-- the first digit that does not lead is zero where the number is
pub zero-first : (w : List ℕ) (i : ℕ) → AreDigits w → Unpadded w i → eqb (get_or w i 0) (byte "0") ≡ eqb (value_from 0 w) 0
unfolding value_from
zero-first w i d u = go (eqb (get_or w i 0) (byte "0")) refl
  where
    here : drop i w ≡ get_or w i 0 ∷ drop (suc i) w
    here = drop-cons w i 0 (u.inside d.begun)

    nought : get_or w i 0 ≡ byte "0" → value_from 0 w ≡ 0
    nought z = sym u.same ∙ (ap (value_from 0) here ∙ rw (z, drop_of_length-le w (zero-last w i u z)))

    first : value_from 0 w ≡ 0 → get_or w i 0 ≡ byte "0"
    first z =
        let q : get_or w i 0 ∷ drop (suc i) w ≡ byte "0" ∷ [] =
        sym here ∙ (digits-kept w i d u ∙ (ap decimal z ∙ digits-one 0 (omega arith))) in
        cc

    go : (b : Bool) → eqb (get_or w i 0) (byte "0") ≡ b → b ≡ eqb (value_from 0 w) 0
    go true e = sym (eq-eqb (value_from 0 w) 0 (nought (eqb-true (get_or w i 0) (byte "0") e)))
    go false e = sym (ne_eqb (value_from 0 w) 0 (λ z. eqb-false (get_or w i 0) (byte "0") e (first z)))

-- a zero before another digit leads
pub unpadded-next : (w : List ℕ) (i : ℕ) → i < length w → get_or w i 0 ≡ byte "0" → value_from 0 (drop i w) ≡ value_from 0 (drop (i + 1) w)
unpadded-next w i h e = value-step w i 0 h ∙ rw e

-- nor do all zeros before a place
pub zeros-lead : (w : List ℕ) (i : ℕ) → i ≤ length w → ((k : ℕ) → k < i → get_or w k 0 ≡ byte "0") → value_from 0 (drop i w) ≡ value_from 0 w
zeros-lead w zero h f = refl
zeros-lead w (suc i) h f =
    let j : i + 1 ≡ suc i = add-one i in
    ap (λ (k : ℕ). value_from 0 (drop k w)) (sym j) ∙ sym (unpadded-next w i (omega arith) (f i (omega arith)))
    ∙ zeros-lead w i (omega arith) (λ k l. f k (omega (arith, l)))

-- ---- exponents, as the machine has them: a signed local holds bits

-- a near exponent is small
near-mag : (e : ℤ) → is_near e ≡ true → mag e ≤ max_exponent
unfolding is_near
near-mag (pos n) h = leb-true n max_exponent h
near-mag (negsuc n) h = let l = leb-true n 998 (sym (and-true (leb n 998)) ∙ h) in omega arith

-- what a signed local of the value e is read as
abbrev held : ℤ → ℤ
held e = to_z w32 (of_z w32 e)

pub held-is : (e : ℤ) → is_near e ≡ true → held e ≡ e
held-is e near = let l = near-mag e near in to_z-of_z {w = w32} (record { sfits = omega arith })

-- by its sign
minus_is : (e : ℤ) → lt_z e (pos 0) ≡ true → e ≡ negsuc (mag e)
minus_is (pos n) t = let l = ltb-true n 0 t in absurd (omega arith)
minus_is (negsuc n) t = refl

plus-is : (e : ℤ) → lt_z e (pos 0) ≡ false → e ≡ pos (mag e)
plus-is (pos n) t = refl
plus-is (negsuc n) t = cc

module _ (e : ℤ) (near : is_near e ≡ true) where
  -- the opposite of a negative one
  module _ (minus : lt_z (held e) (pos 0) ≡ true) where
    negative : e ≡ negsuc (mag e)
    negative = minus_is e (rw (held-is e near) at minus)

    opposite : pos 0 -ℤ held e ≡ pos (suc (mag e))
    opposite = rw (held-is e near) (ap (λ (z : ℤ). pos 0 -ℤ z) negative ∙ +ℤ_idl (pos (suc (mag e))))

    pub minus-fits : SFits w32 (pos 0 -ℤ held e)
    minus-fits = let l = near-mag e near in subst (SFits w32) (sym opposite) (record { sfits = omega arith })

    read_back : held (pos 0 -ℤ held e) ≡ pos (suc (mag e))
    read_back = to_z-of_z minus-fits ∙ opposite

    pub minus-casts : T (non_neg (held (pos 0 -ℤ held e))) × Fits w64 (nat_abs (held (pos 0 -ℤ held e)))
    minus-casts = let l = near-mag e near in rw read_back (tt, record { fits = omega arith })

    pub minus-spelt : spell_exponent e ≡ byte "-" ∷ decimal (nat_abs (held (pos 0 -ℤ held e)))
    unfolding spell_exponent
    minus-spelt = ap spell_exponent negative ∙ ap (λ (z : ℤ). byte "-" ∷ decimal (nat_abs z)) (sym read_back)

  -- one that is not negative
  module _ (plus : lt_z (held e) (pos 0) ≡ false) where
    positive : held e ≡ pos (mag e)
    positive = held-is e near ∙ plus-is e (rw (held-is e near) at plus)

    pub plus-casts : T (non_neg (held e)) × Fits w64 (nat_abs (held e))
    plus-casts = let l = near-mag e near in rw positive (tt, record { fits = omega arith })

    pub plus-spelt : spell_exponent e ≡ decimal (nat_abs (held e))
    unfolding spell_exponent
    plus-spelt = ap spell_exponent (sym (held-is e near) ∙ positive) ∙ ap (λ (z : ℤ). decimal (nat_abs z)) (sym positive)

-- ---- numbers

pub second : (a b : Bool) → (a && b) ≡ true → b ≡ true
second true b h = h
second false b h = cc

-- the parts of a number that is there
mantissa_in : Option Number → ℕ
mantissa_in None = 0
mantissa_in (Some n) = n.mantissa

exponent_in : Option Number → ℤ
exponent_in None = pos 0
exponent_in (Some n) = n.exponent

-- there is a reduced number where the number is in range; what the code finds is that number, and near
module _ (w : List ℕ) where
  pub reduced-some : in_range w (parts_of w) ≡ true → reduction w ≡ None → ⊥
  unfolding reduction_of
  reduced-some ok is =
      let q = rw ok at is in
      let z : ◌≡◌ {A = ℕ} 0 1 = cc in
      omega arith

  near : in_range w (parts_of w) ≡ true → is_near (reduced_of w (parts_of w)).exponent ≡ true
  unfolding in_range is_small
  near ok =
      let r = reduced_of w (parts_of w) in
      second (ltb r.mantissa mantissa_end) (is_near r.exponent) (second (leb (written_of w (parts_of w)) max_written) (is_small r) ok)

  module _ {m : ℕ} {e : ℤ} (is : reduction w ≡ reduced m e) where
    found : (in_range w (parts_of w) ≡ true) × ((reduced_of w (parts_of w)).mantissa ≡ m) × ((reduced_of w (parts_of w)).exponent ≡ e)
    unfolding reduction_of mantissa_in exponent_in
    found = go (in_range w (parts_of w)) (reduced_of w (parts_of w)).mantissa (reduced_of w (parts_of w)).exponent is
      where
        go : (b : Bool) (x : ℕ) (y : ℤ) → cond b (reduced x y) None ≡ reduced m e → (b ≡ true) × (x ≡ m) × (y ≡ e)
        go true x y q = (refl, ap mantissa_in q, ap exponent_in q)
        go false x y q = (cc, cc, cc)

    pub reduced-near : is_near e ≡ true
    reduced-near = rw found.2 at (near found.0)

    pub reduced-is : reduced_of w (parts_of w) ≡ record { mantissa = m; exponent = held e }
    reduced-is = rw (held-is e reduced-near) (ap₂ (λ (x : ℕ) (y : ℤ). record { mantissa = x; exponent = y }) found.1 found.2)

-- ---- strings

-- whether a content holds a single quote, as the library tests it
pub single-held : (s : List ℕ) → list_any (λ y. eqb y (byte "'")) s ≡ holds_single s
unfolding holds_single
single-held [] = refl
single-held (c ∷ s) = ap (λ (b : Bool). eqb c (byte "'") || b) (single-held s)

-- what stands between the quotes: nothing in a word of fewer than two bytes
pub content-short : (w : List ℕ) → length w < 2 → content_of w ≡ []
content-short w h = let e : length w - 2 ≡ 0 = omega arith in rw e

pub content-long : (w : List ℕ) → take (length w - 1 - 1) (drop 1 w) ≡ content_of w
content-long w = let e : length w - 1 - 1 ≡ length w - 2 = omega arith in rw e
