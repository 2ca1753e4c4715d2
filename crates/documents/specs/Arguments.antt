-- What only the contracts behind codes 16 to 19 cite: flags of parameters as the bits of a word, how a parameter is sought, and what
-- the arguments before a place amount to.
use Rattle.std.specs.Prelude.{ℕ, suc, Bool, true, false, cond, not, ◌&&◌}
use mathlib.Core.List.{List, [], ◌∷◌, map, flatten}
use Rattle.std.proofs.Math.Option.{Option, some, none as nothing}
use Rattle.syntax.specs.Tree.{Param, Arg}
use Rattle.syntax.specs.Tree.Arg.{positional, named}
use Rattle.lists.specs.Fault.{Fault}
use Rattle.lists.specs.Reading.{is_some}
use Rattle.documents.specs.Binding.{Slot, slots, misplaced, misnamed, misfits}

-- ---- flags as bits

-- the flags of the first list that the second lacks
unfoldable pub without : List Bool → List Bool → List Bool
without [] bs = []
without (r ∷ rs) [] = r ∷ without rs []
without (r ∷ rs) (b ∷ bs) = (r && not b) ∷ without rs bs

-- ---- the flags of parameters

abbrev pub is_bound : Slot → Bool
is_bound s = is_some s.value

-- the parameters that these arguments bind
abbrev pub bound : List Param → List Arg → List Bool
bound ps xs = map is_bound (slots ps xs)

-- ---- the arguments before a place

-- none of them is named
unfoldable pub leads : List Arg → Bool
leads [] = true
leads (positional v ∷ xs) = leads xs
leads (named t v ∷ xs) = false

-- their faults of codes 16 to 18
unfoldable pub tally_faults : List Param → List Arg → List Fault
tally_faults ps xs = flatten (misplaced ps xs ∷ misnamed ps xs ∷ misfits (slots ps xs) ∷ [])

-- ---- a parameter that is sought

-- a parameter and its index
pub record SoughtParam : Type 0 where
  pub index : ℕ
  pub param : Param

-- the first parameter that passes the test, the first of the list being number k
unfoldable pub seek : (ℕ → Param → Bool) → ℕ → List Param → Option SoughtParam
seek f k [] = nothing
seek f k (p ∷ ps) = let r = seek f (suc k) ps in cond (f k p) (some (record { index = k; param = p })) r
