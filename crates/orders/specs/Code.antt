-- The codes of a refusal that an order of calls may get, by name. Relies on nothing.
use Rattle.std.specs.Prelude.{ℕ}

-- code 41: there are not as many numbers as calls
abbrev pub wrong_length : ℕ
wrong_length = 41

-- code 42: a number is that of no call
abbrev pub out_of_range : ℕ
out_of_range = 42

-- code 43: a number stands at an earlier place too
abbrev pub repeated_call : ℕ
repeated_call = 43

-- code 44: a call uses an identifier whose assigning call stands at no earlier place
abbrev pub early_use : ℕ
early_use = 44
