-- The shape of the number at the front of a text, as the code finds it, and which numbers are short. Relies on `Number`.
use Rattle.std.specs.Prelude.{ℕ, ◌+◌, Bool, cond, ◌&&◌, List, leb, get_or, Option, Some, None}
use Rattle.lexis.specs.Sizes.{mantissa_digits}
use Rattle.lexis.specs.Number.{parts_of, parts_len, sticks, written_of}
use Rattle.lexis.specs.declared.number.Parts.{Parts}

-- the parts, where no letter or point follows them
unfoldable pub shape_of : List ℕ → Option Parts
shape_of s = cond (sticks (get_or s (parts_len (parts_of s)) 0)) None (Some (parts_of s))

-- an exponent as written that is near 0 whatever the digits of a short number add to it
abbrev pub small_written : ℕ
small_written = 900

-- the number of parts p is short: few digits, and a small exponent
unfoldable pub is_short : List ℕ → Parts → Bool
is_short s p = leb (p.whole + p.frac) mantissa_digits && leb (written_of s p) small_written
