-- No refusal has the number of acceptance.
use Prim.Native.Nat.{◌<◌}
use native.Mathlib.Omega.{arith}
use Rattle.lexis.specs.Refusal.{refusal_number}
use Rattle.lexis.specs.declared.refusal.Refusal.{Refusal}
use Rattle.lexis.specs.declared.refusal.Refusal.TheVariants.{ShortRoom, LongText, NoToken, Misspelt, BadString, TooLong, OutOfRange, TooManyTokens, Syntax, Bracket, WrongVersion, OverSize, RepeatedName, BadDefault, Undeclared, Misplaced, Misnamed, Misfit, Unbound, Unmatched, AssignedAgain, UnassignedUse, Misfed, UnassignedOutput, OverLimits, ShortOutput, WrongLength, NoSuchCall, RepeatedCall, EarlyUse}

pub refusal-positive : (r : Refusal) → 0 < refusal_number r
refusal-positive ShortRoom = omega arith
refusal-positive LongText = omega arith
refusal-positive NoToken = omega arith
refusal-positive Misspelt = omega arith
refusal-positive BadString = omega arith
refusal-positive TooLong = omega arith
refusal-positive OutOfRange = omega arith
refusal-positive TooManyTokens = omega arith
refusal-positive Syntax = omega arith
refusal-positive Bracket = omega arith
refusal-positive WrongVersion = omega arith
refusal-positive OverSize = omega arith
refusal-positive RepeatedName = omega arith
refusal-positive BadDefault = omega arith
refusal-positive Undeclared = omega arith
refusal-positive Misplaced = omega arith
refusal-positive Misnamed = omega arith
refusal-positive Misfit = omega arith
refusal-positive Unbound = omega arith
refusal-positive Unmatched = omega arith
refusal-positive AssignedAgain = omega arith
refusal-positive UnassignedUse = omega arith
refusal-positive Misfed = omega arith
refusal-positive UnassignedOutput = omega arith
refusal-positive OverLimits = omega arith
refusal-positive ShortOutput = omega arith
refusal-positive WrongLength = omega arith
refusal-positive NoSuchCall = omega arith
refusal-positive RepeatedCall = omega arith
refusal-positive EarlyUse = omega arith
