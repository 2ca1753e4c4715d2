-- The codes of a refusal that only the rules of a document may get, by name; 12 and 13 it has in common with lists. Relies on nothing.
use Rattle.std.specs.Prelude.{ℕ}

-- code 11: the version is not spelt `1.0`
abbrev pub wrong_version : ℕ
wrong_version = 11

-- code 15: an operation is not declared
abbrev pub undeclared : ℕ
undeclared = 15

-- code 16: a positional argument stands where none may
abbrev pub misplaced : ℕ
misplaced = 16

-- code 17: a named argument is unknown or already bound
abbrev pub misnamed : ℕ
misnamed = 17

-- code 18: a bound argument does not fit its parameter
abbrev pub misfit : ℕ
misfit = 18

-- code 19: a parameter without default is not bound
abbrev pub unbound : ℕ
unbound = 19

-- code 20: a left side does not match the results
abbrev pub unmatched : ℕ
unmatched = 20

-- code 21: an identifier is assigned again
abbrev pub assigned_again : ℕ
assigned_again = 21

-- code 22: an identifier is used and not assigned by an earlier call
abbrev pub unassigned_use : ℕ
unassigned_use = 22

-- code 23: an input is not assigned by `external`, or another identifier is
abbrev pub misfed : ℕ
misfed = 23

-- code 24: an output is never assigned
abbrev pub unassigned_output : ℕ
unassigned_output = 24
