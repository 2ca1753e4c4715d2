-- How canonical text spells numbers, strings and truth values.
use Rattle.std.specs.Prelude.{ℕ, zero, suc, ◌+◌, ◌/◌, ◌%◌, Bool, true, false, cond, ◌||◌, List, [], ◌∷◌, ◌++◌, eqb, ltb, ℤ, pos, negsuc}
use Rattle.lexis.specs.Ascii.{ascii, byte}
use Rattle.lexis.specs.Number.{Reduced}

-- the decimal digits of n, the most significant first, at most `fuel` + 1 of them
unfoldable pub decimal_by : ℕ → ℕ → List ℕ
decimal_by zero n = (byte "0" + n) ∷ []
decimal_by (suc fuel) n = let r = decimal_by fuel (n / 10) in cond (ltb n 10) ((byte "0" + n) ∷ []) (r ++ ((byte "0" + n % 10) ∷ []))

-- the plain digits of n without leading zeros; zero is `0`
unfoldable pub decimal : ℕ → List ℕ
decimal n = decimal_by n n

-- an exponent: its digits, a minus before them where it is negative (`negsuc n` is the number -1 - n)
unfoldable pub spell_exponent : ℤ → List ℕ
spell_exponent (pos n) = decimal n
spell_exponent (negsuc n) = byte "-" ∷ decimal (suc n)

-- a reduced number: mantissa, `e`, exponent; the sign of a number is a token of its own
unfoldable pub spell_number : Reduced → List ℕ
spell_number r = decimal r.mantissa ++ (byte "e" ∷ spell_exponent r.exponent)

-- a string: in single quotes, or in double ones when its content holds a single one
unfoldable pub holds_single : List ℕ → Bool
holds_single [] = false
holds_single (c ∷ s) = eqb c (byte "'") || holds_single s

unfoldable pub quote_for : List ℕ → ℕ
quote_for s = cond (holds_single s) (byte "\"") (byte "'")

abbrev pub quoted : ℕ → List ℕ → List ℕ
quoted q s = q ∷ (s ++ (q ∷ []))

unfoldable pub spell_string : List ℕ → List ℕ
spell_string s = quoted (quote_for s) s

abbrev pub spell_truth : Bool → List ℕ
spell_truth true = ascii "true"
spell_truth false = ascii "false"
