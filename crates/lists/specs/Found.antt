-- The operation of a list that a name names: its header, its index, and what a look-up answers.
use Rattle.std.specs.Prelude.{ℕ, suc, cond, List, [], ◌∷◌}
use Rattle.std.proofs.Math.Option.{Option, some, none as nothing}
use Rattle.spellings.specs.Comparison.{same_bytes}
use Rattle.lexis.specs.Lexer.{Token}
use Rattle.syntax.specs.Tree.{Header}
use Rattle.lists.specs.Reading.{is_some}
use Rattle.std.specs.Prelude.{Option as Maybe, Some, None}

-- the declared operation of a name
unfoldable pub operation_of : List Header → List ℕ → Option Header
operation_of [] w = nothing
operation_of (h ∷ hs) w = let r = operation_of hs w in cond (same_bytes h.name.bytes w) (some h) r

-- the declared operation that a token names
abbrev pub find : List Header → Token → Option Header
find hs t = operation_of hs t.bytes

-- the index of the operation of a name
unfoldable pub index_of : List Header → Token → ℕ
index_of [] t = 0
index_of (h ∷ hs) t = let r = suc (index_of hs t) in cond (same_bytes h.name.bytes t.bytes) 0 r

-- the index of the declared operation of a name, where there is one
unfoldable pub found : List Header → Token → Maybe ℕ
found hs t = cond (is_some (find hs t)) (Some (index_of hs t)) None
