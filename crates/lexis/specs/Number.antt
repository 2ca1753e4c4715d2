-- Numbers: the parts of the longest number at the front of a text, the value of its digits, the reduced number, and its range.
-- Relies on `Sizes` for the bounds and `Bytes` for digits.
use Rattle.std.specs.Prelude.{◌≡◌, ℕ, zero, suc, pred, ◌+◌, ◌-◌, ◌*◌, ◌/◌, ◌%◌, ◌^◌, Bool, true, false, cond, ◌&&◌, ◌||◌, List, [], ◌∷◌, ◌++◌, leb, ltb, eqb, length, take, drop, get_or, ℤ, pos, negsuc, neg_ℤ, Option, Some, None}
use Rattle.std.proofs.Math.IntN.{sub_ℕ}
use Rattle.std.specs.Int.Signed.{le_z}
use Rattle.lexis.specs.declared.number.Parts.{Parts}
use Rattle.lexis.specs.declared.number.Number.{Number}
use Rattle.lexis.specs.Sizes.{max_written, max_exponent, mantissa_end}
use Rattle.lexis.specs.Ascii.{byte}
use Rattle.lexis.specs.Bytes.{is_digit, is_letter, span_len}

-- ---- parts: digits, then optionally a point and digits, then optionally e or E, a sign or none, and digits

-- how many digits stand at the front of s
abbrev pub digits : List ℕ → ℕ
digits s = span_len is_digit s

-- a length that counts only where some digits follow: lead bytes and n digits, or nothing
abbrev pub led : ℕ → ℕ → ℕ
led lead zero = zero
led lead (suc n) = lead + suc n

-- how many bytes of s are a point and digits
unfoldable pub frac_len : List ℕ → ℕ
frac_len s = cond (eqb (get_or s 0 0) (byte ".")) (led 1 (digits (drop 1 s))) 0

-- 1 where s begins with a sign
unfoldable pub sign_len : List ℕ → ℕ
sign_len s = cond (eqb (get_or s 0 0) (byte "+") || eqb (get_or s 0 0) (byte "-")) 1 0

-- the letter of an exponent
unfoldable pub is_e : ℕ → Bool
is_e b = eqb b (byte "e") || eqb b (byte "E")

-- how many bytes of s are e or E, a sign or none, and digits
unfoldable pub exp_len : List ℕ → ℕ
exp_len s =
    cond (is_e (get_or s 0 0))
    (led (1 + sign_len (drop 1 s)) (digits (drop (1 + sign_len (drop 1 s)) s))) 0

-- the three parts of the longest number at the front of s: whole digits, point and fraction, exponent
unfoldable pub parts_of : List ℕ → Parts
parts_of s =
    let w = digits s in
    let f = frac_len (drop w s) in
    record { whole = w; frac = f; exp = exp_len (drop (w + f) s) }

-- how many bytes the number has
abbrev pub parts_len : Parts → ℕ
parts_len p = p.whole + p.frac + p.exp

-- a byte that may not follow a number: a letter, the underscore or a point
unfoldable pub sticks : ℕ → Bool
sticks b = is_letter b || eqb b (byte ".")

-- ---- value

-- the number that digits spell, after a number v
unfoldable pub value_from : ℕ → List ℕ → ℕ
value_from v [] = v
value_from v (d ∷ ds) = value_from (v * 10 + (d - byte "0")) ds

-- the digits of the whole part and of the fraction, side by side
abbrev pub digits_of : List ℕ → Parts → List ℕ
digits_of s p = take p.whole s ++ take (pred p.frac) (drop (p.whole + 1) s)

-- the number that the digits of an exponent part e spell
abbrev pub written_in : List ℕ → ℕ
written_in e = value_from 0 (take (digits (drop (1 + sign_len (drop 1 e)) e)) (drop (1 + sign_len (drop 1 e)) e))

-- the exponent as written, without its sign; 0 where there is none
unfoldable pub written_of : List ℕ → Parts → ℕ
written_of s p = cond (eqb p.exp 0) 0 (written_in (drop (p.whole + p.frac) s))

-- whether the exponent has a minus sign
unfoldable pub minus_of : List ℕ → Parts → Bool
minus_of s p = cond (eqb p.exp 0) false (eqb (get_or s (p.whole + p.frac + 1) 0) (byte "-"))

-- the number n, with a minus before it or without one; minus zero is zero
abbrev pub signed : Bool → ℕ → ℤ
signed false n = pos n
signed true n = neg_ℤ (pos n)

-- ---- reduced number: mantissa times ten to the exponent, the mantissa not divisible by ten; zero is 0 and 0

-- a number without its last zeros, and how many there were
pub record Stripped : Type 0 where
  pub mantissa : ℕ
  pub zeros : ℕ

-- v without its last zeros, at most `most` of them; a number of so many digits that is not 0 has no more
unfoldable pub strip : ℕ → ℕ → Stripped
strip zero v = record { mantissa = v; zeros = 0 }
strip (suc most) v =
    let r = strip most (v / 10) in
    let less : Stripped = record { mantissa = r.mantissa; zeros = suc r.zeros } in
    cond (eqb (v % 10) 0) less (record { mantissa = v; zeros = 0 })

-- the signed exponent as written, less the digits of the fraction, plus the zeros dropped
abbrev pub exponent_of : Bool → ℕ → ℕ → ℕ → ℤ
exponent_of minus w points zeros = sub_ℕ (cond minus 0 w + zeros) (cond minus w 0 + points)

-- a reduced number
pub record Reduced : Type 0 where
  pub mantissa : ℕ
  pub exponent : ℤ

-- the number of parts p at the front of s, reduced
unfoldable pub reduced_of : List ℕ → Parts → Reduced
reduced_of s p =
    let ds = digits_of s p in
    let v = value_from 0 ds in
    let r = strip (length ds) v in
    cond (eqb v 0) (record { mantissa = 0; exponent = pos 0 })
    (record { mantissa = r.mantissa; exponent = exponent_of (minus_of s p) (written_of s p) (pred p.frac) r.zeros })

-- ---- range

-- between -999 and 999, both included (`negsuc n` is the number -1 - n)
unfoldable pub is_near : ℤ → Bool
is_near e = le_z (negsuc (pred max_exponent)) e && le_z e (pos max_exponent)

-- a reduced number of at most 18 digits and a near exponent
unfoldable pub is_small : Reduced → Bool
is_small r = ltb r.mantissa mantissa_end && is_near r.exponent

-- code 7 is for any other: the exponent as written is at most 9999, and the reduced number is small
unfoldable pub in_range : List ℕ → Parts → Bool
in_range s p = leb (written_of s p) max_written && is_small (reduced_of s p)

-- the reduced number where it is in range
unfoldable pub reduction_of : List ℕ → Parts → Option Number
reduction_of s p = cond (in_range s p) (Some (record { mantissa = (reduced_of s p).mantissa; exponent = (reduced_of s p).exponent })) None

-- what the number at the front of w reduces to
abbrev pub reduction : List ℕ → Option Number
reduction w = reduction_of w (parts_of w)

-- ---- what the theorem claims of a reduced number

-- the number that the digits of w spell, its point left out
abbrev pub spelt : List ℕ → ℕ
spelt w = value_from 0 (digits_of w (parts_of w))

-- its exponent where that has no minus
abbrev pub up : List ℕ → ℕ
up w = cond (minus_of w (parts_of w)) 0 (written_of w (parts_of w))

-- its exponent where that has a minus, and the digits after its point
abbrev pub down : List ℕ → ℕ
down w = cond (minus_of w (parts_of w)) (written_of w (parts_of w)) 0 + pred (parts_of w).frac

-- r is the number at the front of w reduced. Zero is 0 and 0; any other mantissa ends in no zero. The number is its digits times ten to
-- `up`, over ten to `down`; r is its mantissa times ten to x, over ten to y, where its exponent is x - y; and the two are equal.
pub record IsReduced (w : List ℕ) (r : Reduced) : Type 0 where
  pub zero : spelt w ≡ 0 → r ≡ record { mantissa = 0; exponent = pos 0 }
  pub ends : (spelt w ≡ 0 → ⊥) → r.mantissa % 10 ≡ 0 → ⊥
  pub value : (x y : ℕ) → r.exponent ≡ sub_ℕ x y → r.mantissa * 10 ^ x * 10 ^ down w ≡ spelt w * 10 ^ up w * 10 ^ y
