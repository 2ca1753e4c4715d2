-- The codes of a refusal that the rules of an operation list may get, by name. A document may get the first two as well. Relies on nothing.
use Rattle.std.specs.Prelude.{ℕ}

-- code 12: a count is above its size
abbrev pub over_size : ℕ
over_size = 12

-- code 13: a name is repeated where it may not be
abbrev pub repeated_name : ℕ
repeated_name = 13

-- code 14: a default does not fit its parameter
abbrev pub bad_default : ℕ
bad_default = 14
