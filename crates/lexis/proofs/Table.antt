-- The table of classes: its entry at each byte value, by one induction over the row. Relies on `Bytes` of the specs alone.
use mathlib.Core.Path.{◌≡◌, refl, sym, ap, ◌∙◌}
use mathlib.Core.List.{List, [], ◌∷◌, map}
use Prim.Native.Nat.{ℕ, zero, suc, ◌+◌, ◌<◌}
use native.Mathlib.Nat.{add-zero, zero-add, add-suc, suc-add, le_of_suc-le-suc, not-suc-le-zero}
use lib.ListN.{get_or}
use Rattle.lexis.specs.Bytes.{class_of, classes_from, class_table}
use Rattle.lexis.specs.Class.{class_number}
use Rattle.lexis.specs.declared.class.Class.{Class}
use Rattle.lexis.specs.declared.class.Class.TheVariants.{Other, Space, Digit, Letter, Quote, Comment, Operator, Syntactic, Twice}

row_at : (n b k : ℕ) → k < n → get_or (classes_from n b) k 0 ≡ class_of (b + k)
unfolding classes_from
row_at zero b k h = absurd (not-suc-le-zero h)
row_at (suc n) b zero h = ap class_of (sym (add-zero b))
row_at (suc n) b (suc k) h = row_at n (suc b) k (le_of_suc-le-suc h) ∙ ap class_of (suc-add b k ∙ sym (add-suc b k))

number-at : (t : List Class) (k : ℕ) → class_number (get_or t k Other) ≡ get_or (map class_number t) k 0
number-at [] zero = refl
number-at [] (suc k) = refl
number-at (x ∷ t) zero = refl
number-at (x ∷ t) (suc k) = number-at t k

-- the entry of byte b in a table that holds the classes
pub class-at : (t : List Class) → map class_number t ≡ class_table → (b : ℕ) → b < 256 → class_number (get_or t b Other) ≡ class_of b
unfolding class_table
class-at t e b h = number-at t b ∙ ap (λ (l : List ℕ). get_or l b 0) e ∙ row_at 256 0 b h ∙ ap class_of (zero-add b)

-- ---- the number of a class tells it

numbered : ℕ → Class
numbered zero = Other
numbered (suc zero) = Space
numbered (suc (suc zero)) = Digit
numbered (suc (suc (suc zero))) = Letter
numbered (suc (suc (suc (suc zero)))) = Quote
numbered (suc (suc (suc (suc (suc zero))))) = Comment
numbered (suc (suc (suc (suc (suc (suc zero)))))) = Operator
numbered (suc (suc (suc (suc (suc (suc (suc zero))))))) = Syntactic
numbered (suc (suc (suc (suc (suc (suc (suc (suc k)))))))) = Twice

numbered-is : (c : Class) → numbered (class_number c) ≡ c
unfolding numbered
numbered-is Other = refl
numbered-is Space = refl
numbered-is Digit = refl
numbered-is Letter = refl
numbered-is Quote = refl
numbered-is Comment = refl
numbered-is Operator = refl
numbered-is Syntactic = refl
numbered-is Twice = refl

-- other classes have other numbers
pub class-not : (c d : Class) → (c ≡ d → ⊥) → class_number c ≡ class_number d → ⊥
class-not c d n e = n (sym (numbered-is c) ∙ ap numbered e ∙ numbered-is d)
