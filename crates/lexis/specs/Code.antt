-- The code of acceptance, and the codes of a refusal that the bytes of a text may get, by name. Relies on nothing.
use Rattle.std.specs.Prelude.{ℕ}

-- code 0: acceptance
abbrev pub accepted : ℕ
accepted = 0

-- code 1: a lent table or work area is too short
abbrev pub short_room : ℕ
short_room = 1

-- code 2: the text is too long
abbrev pub long_text : ℕ
long_text = 2

-- code 3: a byte begins no token
abbrev pub no_token : ℕ
no_token = 3

-- code 4: a number is misspelt
abbrev pub misspelt : ℕ
misspelt = 4

-- code 5: a string is unclosed, or holds a byte outside 32 to 126
abbrev pub bad_string : ℕ
bad_string = 5

-- code 6: a name, string or number is too long
abbrev pub too_long : ℕ
too_long = 6

-- code 7: a number is out of range
abbrev pub out_of_range : ℕ
out_of_range = 7

-- code 8: there are too many tokens
abbrev pub too_many : ℕ
too_many = 8
