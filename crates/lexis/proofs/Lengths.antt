-- A token has at least one byte and lies within its text: number, word, string, mark, and then any lexeme (`sized`).
use mathlib.Core.Path.{◌≡◌, refl, sym, ap, ◌∙◌}
use mathlib.Core.Bool.{Bool, true, false, cond, and-false, false≢true}
use mathlib.Core.List.{List, [], ◌∷◌}
use Prim.Native.Nat.{ℕ, suc, ◌≤◌, ◌<◌, zero-le, suc-le-suc}
use native.Mathlib.Omega.{arith}
use native.Mathlib.Decide.{dec_lt}
use lib.Dec.{eqb, leb}
use lib.ListN.{length, take, get_or, get_or-eq_default}
use borrow.Author.Tests.{eqb-true}
use Rattle.lexis.specs.Sizes.{max_name, max_string, max_number}
use Rattle.lexis.specs.Bytes.{class_of, is_digit, is_name_part, is_content, span_len}
use Rattle.lexis.specs.Number.{digits, parts_of, parts_len, sticks, in_range}
use Rattle.lexis.specs.Lexeme.{number_lexeme, word_lexeme, string_lexeme, is_pair, is_arrow, mark_lexeme, lexeme}
use Rattle.lexis.specs.Lexeme.{Lexeme}
use Rattle.lexis.specs.Lexeme.{Token, Fault}
use Rattle.lexis.proofs.Positions.{span-le}
use Rattle.lexis.proofs.Shapes.{parts-le}

-- a token of at least one byte and at most m
abbrev pub Sized : ℕ → Lexeme → Type 0
Sized m (Token k n) = (1 ≤ n) × (n ≤ m)
Sized m (Fault c) = Unit {0}

-- whatever holds of both lexemes, each where its test says so, holds of the one that the test picks
pub by_cases : (P : Lexeme → Type 0) (b : Bool) (x y : Lexeme) → (b ≡ true → P x) → (b ≡ false → P y) → P (cond b x y)
by_cases P true x y f g = f refl
by_cases P false x y f g = g refl

-- a run whose first byte passes
span_pos : (f : ℕ → Bool) (x : ℕ) (s : List ℕ) → f x ≡ true → 1 ≤ span_len f (x ∷ s)
unfolding span_len
span_pos f x s t = rw t (suc-le-suc zero-le)

word-sized : (x : ℕ) (s : List ℕ) → class_of x ≡ 3 → Sized (suc (length s)) (word_lexeme (x ∷ s))
unfolding word_lexeme
word-sized x s e =
    let n = span_len is_name_part (x ∷ s) in
    by_cases (Sized (suc (length s))) (leb n max_name) _ _ (λ _. (span_pos is_name_part x s (rw e), span-le is_name_part (x ∷ s))) (λ _. tt)

whole_le : (s : List ℕ) → digits s ≤ parts_len (parts_of s)
unfolding parts_of
whole_le s = omega arith

number-sized : (x : ℕ) (s : List ℕ) → class_of x ≡ 2 → Sized (suc (length s)) (number_lexeme (x ∷ s))
unfolding number_lexeme
number-sized x s e =
    let p = parts_of (x ∷ s) in
    let n = parts_len p in
    let d : 1 ≤ digits (x ∷ s) = span_pos is_digit x s (rw e) in
    let pos : 1 ≤ n = omega (arith, whole_le (x ∷ s)) in
    by_cases (Sized (suc (length s))) (sticks (get_or (x ∷ s) n 0)) _ _ (λ _. tt)
    (λ _. by_cases (Sized (suc (length s))) (leb n max_number) _ _
    (λ _. by_cases (Sized (suc (length s))) (in_range (take n (x ∷ s)) (parts_of (take n (x ∷ s)))) _ _ (λ _. (pos, parts-le (x ∷ s))) (λ _. tt)) (λ _. tt))

-- a byte that is not 0 stands within the text
inside : (s : List ℕ) (n : ℕ) → (get_or s n 0 ≡ 0 → ⊥) → n < length s
inside s n h = go (dec_lt n (length s))
  where
    go : Dec (n < length s) → n < length s
    go (yes l) = l
    go (no nl) = let le : length s ≤ n = omega arith in absurd (h (get_or-eq_default s 0 le))

-- a byte of a class above that of another is another byte
pub another-class : (x z k : ℕ) → class_of x ≡ k → class_of z < k → x ≡ z → ⊥
another-class x z k q h e = omega (arith, ap class_of e)

-- the byte that stands past the end is of no class
class-none : class_of 0 ≡ 0
unfolding class_of
class-none = refl

string-sized : (q : ℕ) (s : List ℕ) → class_of q ≡ 4 → Sized (suc (length s)) (string_lexeme q s)
unfolding string_lexeme
string-sized q s e =
    let n = span_len (is_content q) s in
    by_cases (Sized (suc (length s))) (eqb (get_or s n 0) q) _ _
    (λ t.
    let l : n < length s = inside s n (λ z. another-class q 0 4 e (omega (arith, class-none)) (sym (eqb-true (get_or s n 0) q t) ∙ z)) in
    by_cases (Sized (suc (length s))) (leb n max_string) _ _ (λ _. (omega arith, omega arith)) (λ _. tt))
    (λ _. tt)

-- the second byte of a mark of two is no byte z that is neither = nor of the class of such marks, and no byte other than > after -
pub pair-next : (z a b : ℕ) → class_of z < 8 → eqb z 61 ≡ false → is_pair a b ≡ true → b ≡ z → ⊥
unfolding is_pair
pair-next z a b low h t e = go (eqb (class_of a) 8) refl
  where
    go : (c : Bool) → eqb (class_of a) 8 ≡ c → ⊥
    go true q = another-class a z 8 (eqb-true (class_of a) 8 q) low (let w : eqb b a ≡ true = rw q at t in sym (eqb-true b a w) ∙ e)
    go false q = false≢true (rw (e, h) at (rw q at t))

pub arrow-next : (z a b : ℕ) → eqb z 62 ≡ false → is_arrow a b ≡ true → b ≡ z → ⊥
unfolding is_arrow
arrow-next z a b h t e = false≢true (sym (and-false (eqb a 45)) ∙ (rw (e, h) at t))

pub mark-sized : (a : ℕ) (s : List ℕ) → Sized (suc (length s)) (mark_lexeme a (get_or s 0 0))
unfolding mark_lexeme
mark-sized a s =
    let b = get_or s 0 0 in
    by_cases (Sized (suc (length s))) (is_pair a b) _ _ (λ t. (omega arith, let l : 0 < length s = inside s 0 (pair-next 0 a b (omega (arith, class-none)) refl t) in omega arith))
    (λ _.
    by_cases (Sized (suc (length s))) (is_arrow a b) _ _ (λ t. (omega arith, let l : 0 < length s = inside s 0 (arrow-next 0 a b refl t) in omega arith))
    (λ _.
    by_cases (Sized (suc (length s))) (eqb (class_of a) 6) _ _ (λ _. (omega arith, omega arith))
    (λ _. by_cases (Sized (suc (length s))) (eqb (class_of a) 7) _ _ (λ _. (omega arith, omega arith)) (λ _. tt))))

pub sized : (s : List ℕ) → Sized (length s) (lexeme s)
unfolding lexeme
sized [] = tt
sized (x ∷ s) =
    by_cases (Sized (suc (length s))) (eqb (class_of x) 2) _ _ (λ t. number-sized x s (eqb-true (class_of x) 2 t))
    (λ _.
    by_cases (Sized (suc (length s))) (eqb (class_of x) 3) _ _ (λ t. word-sized x s (eqb-true (class_of x) 3 t))
    (λ _. by_cases (Sized (suc (length s))) (eqb (class_of x) 4) _ _ (λ t. string-sized x s (eqb-true (class_of x) 4 t)) (λ _. mark-sized x s)))
