-- The codes of a refusal that the canonical text of a document may get, by name. Relies on nothing.
use Rattle.std.specs.Prelude.{ℕ}

-- code 25: the canonical text has too many bytes or tokens
abbrev pub over_limits : ℕ
over_limits = 25

-- code 26: the output is shorter than the canonical text
abbrev pub short_output : ℕ
short_output = 26
