-- The search for a word among those that have its first byte; where none has, a word is a name.
use mathlib.Core.Path.{◌≡◌, refl, sym, ap, ◌∙◌}
use mathlib.Core.Bool.{Bool, true, false, cond}
use mathlib.Core.List.{List, [], ◌∷◌}
use Prim.Native.Nat.{ℕ}
use lib.Dec.{eqb}
use lib.ListN.{get_or}
use borrow.Author.Tests.{ne_eqb, eqb-false}
use Rattle.spellings.specs.Comparison.{same_bytes}
use Rattle.lexis.specs.Words.{Word, words, kind_in}

unfoldable pub keep : Bool → Word → List Word → List Word
keep true x xs = x ∷ xs
keep false x xs = xs

-- the words of first byte f
unfoldable pub begun : ℕ → List Word → List Word
begun f [] = []
begun f (x ∷ xs) = keep (eqb f (get_or x.spelling 0 0)) x (begun f xs)

-- texts that differ in their first byte, 0 where there is none, are not the same
pub same-firsts : (a b : List ℕ) → (get_or a 0 0 ≡ get_or b 0 0 → ⊥) → same_bytes a b ≡ false
unfolding same_bytes
same-firsts [] [] h = absurd (h refl)
same-firsts [] (y ∷ b) h = refl
same-firsts (x ∷ a) [] h = refl
same-firsts (x ∷ a) (y ∷ b) h = rw (ne_eqb x y h)

kind-begun : (w : List ℕ) (xs : List Word) → kind_in xs w ≡ kind_in (begun (get_or w 0 0) xs) w
unfolding kind_in begun keep
kind-begun w [] = refl
kind-begun w (x ∷ xs) = go (eqb (get_or w 0 0) (get_or x.spelling 0 0)) refl (kind-begun w xs)
  where
    go : (a : Bool) → eqb (get_or w 0 0) (get_or x.spelling 0 0) ≡ a → kind_in xs w ≡ kind_in (begun (get_or w 0 0) xs) w
        → cond (same_bytes w x.spelling) x.kind (kind_in xs w) ≡ kind_in (keep a x (begun (get_or w 0 0) xs)) w
    go true e r = ap (cond (same_bytes w x.spelling) x.kind) r
    go false e r = rw (same-firsts w x.spelling (eqb-false _ _ e)) r

-- the kind of a word of first byte f
pub kind-by : (w : List ℕ) (f : ℕ) → get_or w 0 0 ≡ f → kind_in words w ≡ kind_in (begun f words) w
kind-by w f e = kind-begun w words ∙ ap (λ (a : ℕ). kind_in (begun a words) w) e

-- no word has another first byte than these
pub none-else : (w : List ℕ) (a : ℕ) → a ≡ get_or w 0 0 → (a ≡ 116 → ⊥) → (a ≡ 102 → ⊥) → (a ≡ 103 → ⊥) → (a ≡ 101 → ⊥) → (a ≡ 115 → ⊥)
    → (a ≡ 108 → ⊥) → (a ≡ 114 → ⊥) → (a ≡ 105 → ⊥) → (a ≡ 118 → ⊥) → 1 ≡ kind_in words w
unfolding begun keep words kind_in
none-else w a e n116 n102 n103 n101 n115 n108 n114 n105 n118 =
    let none : begun a words ≡ [] =
    rw (ne_eqb _ 116 n116, ne_eqb _ 102 n102, ne_eqb _ 103 n103, ne_eqb _ 101 n101, ne_eqb _ 115 n115)
    (rw (ne_eqb _ 108 n108, ne_eqb _ 114 n114, ne_eqb _ 105 n105, ne_eqb _ 118 n118)) in
    sym (kind-by w a (sym e) ∙ ap (λ (l : List Word). kind_in l w) none)
