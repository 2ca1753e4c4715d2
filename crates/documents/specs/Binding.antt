-- Binding of a call's arguments to the parameters of its operation: codes 16 to 19.
use Rattle.std.specs.Prelude.{ℕ, suc, Bool, true, false, cond, not, ◌&&◌}
use mathlib.Core.List.{List, [], ◌∷◌, ◌++◌, map, flat_map, flatten}
use Rattle.std.proofs.Math.Option.{Option, some, none as nothing}
use Rattle.spellings.specs.Comparison.{same_bytes}
use Rattle.lexis.specs.Lexer.{Token}
use Rattle.syntax.specs.Tree.{Value, Ty, Param, Arg}
use Rattle.syntax.specs.Tree.Arg.{positional, named}
use Rattle.lists.specs.Fault.{Fault, fault, faults, starts, unless}
use Rattle.lists.specs.Names.{those, is_among, repeats, start_of}
use Rattle.lists.specs.Reading.{is_some, fits, all_tensor}
use Rattle.lists.specs.ListRules.{param_names}
use Rattle.documents.specs.Code as Code

-- ---- what binds

-- the values of the positional arguments that stand before any named one: each is for the parameter at its place
unfoldable pub leading : List Arg → List Value
leading [] = []
leading (positional v ∷ xs) = v ∷ leading xs
leading (named t v ∷ xs) = []

-- the names of the named arguments
unfoldable pub labels : List Arg → List Token
labels [] = []
labels (positional v ∷ xs) = labels xs
labels (named t v ∷ xs) = t ∷ labels xs

-- a parameter takes the value at its place if its type is all tensor; vs are the values from that place on
abbrev pub value_at_place : Param → List Value → Option Value
value_at_place p [] = nothing
value_at_place p (v ∷ vs) = cond (all_tensor p.ty) (some v) nothing

abbrev pub later : {A : Type 0} → List A → List A
later [] = []
later (x ∷ xs) = xs

-- the value of the first argument of this name
unfoldable pub named_value : Token → List Arg → Option Value
named_value n [] = nothing
named_value n (positional v ∷ xs) = named_value n xs
named_value n (named t v ∷ xs) = let r = named_value n xs in cond (same_bytes n.bytes t.bytes) (some v) r

abbrev pub or_else : {A : Type 0} → Option A → Option A → Option A
or_else nothing y = y
or_else (some x) y = some x

-- A parameter and the value that is bound to it: the one at its place, else the first one of its name.
pub record Slot : Type 0 where
  pub param : Param
  pub value : Option Value

unfoldable pub slots_from : List Param → List Value → List Arg → List Slot
slots_from [] vs xs = []
slots_from (p ∷ ps) vs xs = record { param = p; value = or_else (value_at_place p vs) (named_value p.name xs) } ∷ slots_from ps (later vs) xs

-- the slots of all parameters, in declared order
abbrev pub slots : List Param → List Arg → List Slot
slots ps xs = slots_from ps (leading xs) xs

-- the names of the parameters that are bound by place
unfoldable pub taken : List Param → List Value → List Token
taken [] vs = []
taken (p ∷ ps) vs = let r = taken ps (later vs) in cond (is_some (value_at_place p vs)) (p.name ∷ r) r

-- ---- the four rules

-- the parameter at an argument's place is there and all tensor; ps are the parameters from that place on
abbrev pub takes_place : List Param → Bool
takes_place [] = false
takes_place (p ∷ ps) = all_tensor p.ty

-- 16: a positional argument after a named one, beyond the parameters, or for a parameter that is not all tensor, at the argument.
-- The flag says that no named one stands before; ps are the parameters from the argument's place on.
unfoldable pub misplaced_from : Bool → List Param → List Arg → List Fault
misplaced_from b ps [] = []
misplaced_from b ps (named t v ∷ xs) = misplaced_from false (later ps) xs
misplaced_from b ps (positional v ∷ xs) = unless (b && takes_place ps) (fault Code.misplaced (start_of v)) ++ misplaced_from b (later ps) xs

abbrev pub misplaced : List Param → List Arg → List Fault
misplaced ps xs = misplaced_from true ps xs

-- 17: a named argument that is unknown, bound by place already, or bound by a named one before it, at its name
unfoldable pub misnamed : List Param → List Arg → List Fault
misnamed ps xs =
    faults Code.misnamed (starts
    (flatten
    (those (λ t. not (is_among (param_names ps) t)) (labels xs)
    ∷ those (is_among (taken ps (leading xs))) (labels xs)
    ∷ repeats (labels xs)
    ∷ [])))

-- 18: a bound argument that does not fit its parameter's type, at the value's start
abbrev pub misfit : Ty → Option Value → List Fault
misfit u nothing = []
misfit u (some v) = unless (fits v u) (fault Code.misfit (start_of v))

unfoldable pub misfits : List Slot → List Fault
misfits ss = flat_map (λ (s : Slot). misfit s.param.ty s.value) ss

-- 19: a parameter without default that is not bound, at the operation's name; the detail is the first such parameter's index, from 0
abbrev pub is_missing : Slot → Bool
is_missing s = not (is_some s.value) && not (is_some s.param.default)

-- 19 at a place, with the number of the first flag that is set, the first of the list being number k
unfoldable pub lacked : ℕ → ℕ → List Bool → List Fault
lacked place k [] = []
lacked place k (b ∷ bs) = let r = lacked place (suc k) bs in cond b (record { at = place; code = Code.unbound; detail = k } ∷ []) r

abbrev pub missing : ℕ → List Slot → List Fault
missing place ss = lacked place 0 (map is_missing ss)
