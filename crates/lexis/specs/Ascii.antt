-- The bytes of a quoted text, so that a definition can quote words. Relies on nothing.
use Rattle.std.specs.Prelude.{ℕ, List, [], ◌∷◌}
use Prim.Native.String.{String, [] as []ˢ, ◌∷◌ as ◌∷ˢ◌}
use Prim.Native.Char.{code}

-- each character's code, in order
abbrev pub ascii : String → List ℕ
ascii []ˢ = []
ascii (c ∷ˢ s) = code c ∷ ascii s

-- the code of a text's first character
abbrev pub byte : String → ℕ
byte []ˢ = 0
byte (c ∷ˢ s) = code c
