-- An index as a map: two words for each spelling, 0 for a name that is not entered. What the functions answer is said of whatever map the index is.
use Rattle.std.specs.Prelude.{ℕ, zero, suc, ◌+◌, ◌<◌, ◌≤◌, ◌≡◌, cond, List, eqb, set}
use Rattle.spellings.specs.Comparison.{same_bytes}
use Rattle.index.specs.Found.{bytes_at, found_in}
use Rattle.index.specs.Layout.{name_words, word_place, word_at}
use Rattle.index.specs.Indexed.{Indexed}

-- the words of spellings: word i of the spelling w
abbrev pub Words : Type 0
Words = ℕ → List ℕ → ℕ

-- the names entered stand below k, and word i of the spelling w is f i w; the words of places from k on are 0
pub record Mapped (text table index : List ℕ) (k : ℕ) (f : Words) : Type 0 where
  pub places : List ℕ
  pub indexed : Indexed text table index k places
  pub known : (i p : ℕ) (w : List ℕ) → i < name_words → found_in text table places w ≡ p + 1 → word_at index p i ≡ f i w
  pub absent : (i : ℕ) (w : List ℕ) → i < name_words → found_in text table places w ≡ 0 → f i w ≡ 0
  pub fresh : (i p : ℕ) → i < name_words → k ≤ p → word_at index p i ≡ 0

-- and the name spelt w is entered at place p
pub record EnteredAt (text table index : List ℕ) (k : ℕ) (f : Words) (w : List ℕ) (p : ℕ) : Type 0 where
  pub mapped : Mapped text table index k f
  pub place : found_in text table mapped.places w ≡ p + 1

-- word 0 by f, word 1 by g
abbrev pub both : (List ℕ → ℕ) → (List ℕ → ℕ) → Words
both f g zero w = f w
both f g (suc i) w = g w

-- a number that is there, or else another
abbrev pub kept : ℕ → ℕ → ℕ
kept a b = cond (eqb a 0) b a

-- f with x for the spelling w, where it has none
abbrev pub keeping : (List ℕ → ℕ) → List ℕ → ℕ → List ℕ → ℕ
keeping f w x v = kept (f v) (cond (same_bytes w v) x 0)

-- f with x for the spelling w
abbrev pub changed : (List ℕ → ℕ) → List ℕ → ℕ → List ℕ → ℕ
changed f w x v = cond (same_bytes w v) x (f v)

-- the index after the name at place p got x for word i, where it had none
abbrev pub kept_in : List ℕ → ℕ → ℕ → ℕ → List ℕ
kept_in index p i x = cond (eqb (word_at index p i) 0) (set index (word_place p i) x) index

-- ---- what the functions answer

-- `find` answers r for the spelling w: one more than the place of the name spelt so, 0 where there is none
abbrev pub Finds : List ℕ → List ℕ → List ℕ → List ℕ → ℕ → Type 0
Finds text table index w r = (k : ℕ) (f : Words) (m : Mapped text table index k f) → r ≡ found_in text table m.places w

-- `look_up` answers r for word i of the spelling w
abbrev pub LooksUp : List ℕ → List ℕ → List ℕ → List ℕ → ℕ → ℕ → Type 0
LooksUp text table index w i r = (k : ℕ) (f : Words) → Mapped text table index k f → r ≡ f i w

-- `enter` answers r for the name at place t, and leaves this index: the map is as it was, and the name is entered at place r
abbrev pub Enters : List ℕ → List ℕ → List ℕ → List ℕ → ℕ → ℕ → Type 0
Enters text table index index' t r =
    (k : ℕ) (f : Words) → k ≤ t → Mapped text table index k f → EnteredAt text table index' (t + 1) f (bytes_at text table t) r
