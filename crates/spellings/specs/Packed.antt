-- Bytes as one number, the first the lowest.
use Rattle.std.specs.Prelude.{ℕ, ◌+◌, ◌*◌, List, get_or}

-- four bytes as one number
abbrev pub four_at : List ℕ → ℕ → ℕ
four_at w i = get_or w i 0 + get_or w (i + 1) 0 * 256 + get_or w (i + 2) 0 * 65536 + get_or w (i + 3) 0 * 16777216

-- eight bytes as one number
abbrev pub eight_at : List ℕ → ℕ → ℕ
eight_at w i = four_at w i + four_at w (i + 4) * 4294967296
