-- Flags of parameters as the bits of a word.
use Rattle.std.specs.Prelude.{ℕ, ◌+◌, ◌*◌, Bool, true, false, not, List, [], ◌∷◌}
use Rattle.syntax.specs.Tree.{Param}
use Rattle.lists.specs.Reading.{is_some}

abbrev pub bit : Bool → ℕ
bit true = 1
bit false = 0

-- the first flag is the lowest bit
unfoldable pub mask_of : List Bool → ℕ
mask_of [] = 0
mask_of (b ∷ bs) = mask_of bs * 2 + bit b

-- a parameter without default
abbrev pub is_required : Param → Bool
is_required p = not (is_some p.default)
