-- The number of each refusal of the code. Relies on nothing.
use Rattle.std.specs.Prelude.{ℕ}
use Rattle.lexis.specs.declared.refusal.Refusal.{Refusal}
use Rattle.lexis.specs.declared.refusal.Refusal.TheVariants.{ShortRoom, LongText, NoToken, Misspelt, BadString, TooLong, OutOfRange, TooManyTokens, Syntax, Bracket, WrongVersion, OverSize, RepeatedName, BadDefault, Undeclared, Misplaced, Misnamed, Misfit, Unbound, Unmatched, AssignedAgain, UnassignedUse, Misfed, UnassignedOutput, OverLimits, ShortOutput, WrongLength, NoSuchCall, RepeatedCall, EarlyUse}

-- the number of each, as an answer has it
abbrev pub refusal_number : Refusal → ℕ
refusal_number ShortRoom = 1
refusal_number LongText = 2
refusal_number NoToken = 3
refusal_number Misspelt = 4
refusal_number BadString = 5
refusal_number TooLong = 6
refusal_number OutOfRange = 7
refusal_number TooManyTokens = 8
refusal_number Syntax = 9
refusal_number Bracket = 10
refusal_number WrongVersion = 11
refusal_number OverSize = 12
refusal_number RepeatedName = 13
refusal_number BadDefault = 14
refusal_number Undeclared = 15
refusal_number Misplaced = 16
refusal_number Misnamed = 17
refusal_number Misfit = 18
refusal_number Unbound = 19
refusal_number Unmatched = 20
refusal_number AssignedAgain = 21
refusal_number UnassignedUse = 22
refusal_number Misfed = 23
refusal_number UnassignedOutput = 24
refusal_number OverLimits = 25
refusal_number ShortOutput = 26
refusal_number WrongLength = 41
refusal_number NoSuchCall = 42
refusal_number RepeatedCall = 43
refusal_number EarlyUse = 44
