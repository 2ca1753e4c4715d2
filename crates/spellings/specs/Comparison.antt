-- When two spellings are the same, and how many pairs of their bytes are compared to tell: lengths before bytes, and the last byte before the others.
use Rattle.std.specs.Prelude.{ℕ, ◌+◌, ◌-◌, ◌<◌, min, ◌≡◌, Bool, true, false, cond, not, ◌&&◌, List, [], ◌∷◌, eqb, length, get_or}
use Rattle.spellings.specs.declared.Comparison.{Comparison}
use Rattle.spellings.specs.declared.Compared.{Compared}

-- the two texts are the same, byte by byte
unfoldable pub same_bytes : List ℕ → List ℕ → Bool
same_bytes [] [] = true
same_bytes [] (y ∷ t) = false
same_bytes (x ∷ s) [] = false
same_bytes (x ∷ s) (y ∷ t) = eqb x y && same_bytes s t

-- ---- the pairs of bytes that are compared

-- the last byte
abbrev pub last_byte : List ℕ → ℕ
last_byte a = get_or a (length a - 1) 0

-- the pairs from the front through the first difference: one, and where that is no difference those after it
unfoldable pub through_difference : List ℕ → List ℕ → ℕ
through_difference [] b = 0
through_difference (x ∷ s) [] = 0
through_difference (x ∷ s) (y ∷ t) = 1 + cond (eqb x y) (through_difference s t) 0

-- the pairs of bytes compared: none for unequal lengths; the length for equal spellings; one for unequal last bytes; else one more for each from
-- the front through the first difference
unfoldable pub pairs : List ℕ → List ℕ → ℕ
pairs a b =
    cond (not (eqb (length a) (length b))) 0
    (cond (same_bytes a b) (length a)
    (cond (not (eqb (last_byte a) (last_byte b))) 1
    (1 + through_difference a b)))

-- ---- what is given for both

-- a verdict after so many pairs
abbrev pub told : Bool → ℕ → Comparison
told s n = record { same = s; pairs = n }

-- what `compare` gives
unfoldable pub comparison : List ℕ → List ℕ → Comparison
comparison a b = told (same_bytes a b) (pairs a b)

-- ---- two words

-- the greatest count that a word holds
abbrev pub max_count : ℕ
max_count = 4294967295

-- a comparison as two words: 1 where the spellings are the same, else 0; and the count, or the greatest one where there are more pairs
abbrev pub words_of : Comparison → Compared
words_of c = record { same = cond c.same 1 0; pairs = min c.pairs max_count }

-- ---- what the theorems claim

-- the bytes before place i are the same
abbrev pub Agree : List ℕ → List ℕ → ℕ → Type 0
Agree a b i = (j : ℕ) → j < i → get_or a j 0 ≡ get_or b j 0
