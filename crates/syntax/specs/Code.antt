-- The codes of a refusal that the tokens of a text may get, by name. Relies on nothing.
use Rattle.std.specs.Prelude.{ℕ}

-- code 9: no valid text has this token here, or ends here
abbrev pub syntax : ℕ
syntax = 9

-- code 10: a bracket more than may be open, where code 9 does not apply
abbrev pub bracket : ℕ
bracket = 10
