-- The kind of a lexeme that is a token, and the code of one that is a fault: kinds are 1 to 8, codes 3 to 7.
-- Relies on `Lexeme` of the specs alone.
use mathlib.Core.Bool.{Bool, true, false, cond}
use mathlib.Core.List.{List, [], ◌∷◌}
use Prim.Native.Nat.{ℕ, ◌≤◌}
use native.Mathlib.Omega.{arith}
use lib.Dec.{eqb, leb}
use lib.ListN.{take, get_or}
use Rattle.spellings.specs.Comparison.{same_bytes}
use Rattle.lexis.specs.Sizes.{max_name, max_string, max_number}
use Rattle.lexis.specs.Kind.{IsKind}
use Rattle.lexis.specs.Bytes.{class_of, is_name_part, is_content, span_len}
use Rattle.lexis.specs.Words.{Word, words, kind_in}
use Rattle.lexis.specs.Number.{parts_of, parts_len, sticks, in_range}
use Rattle.lexis.specs.Lexeme.{number_lexeme, word_lexeme, string_lexeme, is_pair, is_arrow, mark_lexeme, lexeme}
use Rattle.lexis.specs.Lexeme.{Lexeme}
use Rattle.lexis.specs.Lexeme as L

-- a token of one of the eight kinds, or a fault of one of the codes 3 to 7
abbrev pub Told : Lexeme → Type 0
Told (L.Token k n) = IsKind k
Told (L.Fault c) = (3 ≤ c) × (c ≤ 7)

cond-kind : (b : Bool) (x y : ℕ) → IsKind x → IsKind y → IsKind (cond b x y)
cond-kind true x y p q = p
cond-kind false x y p q = q

pick : (b : Bool) (x y : Lexeme) → Told x → Told y → Told (cond b x y)
pick true x y p q = p
pick false x y p q = q

abbrev AllKinds : List Word → Type 0
AllKinds [] = Unit {0}
AllKinds (x ∷ xs) = IsKind x.kind × AllKinds xs

kind-in : (xs : List Word) (w : List ℕ) → AllKinds xs → IsKind (kind_in xs w)
unfolding kind_in
kind-in [] w h = omega arith
kind-in (x ∷ xs) w h = cond-kind (same_bytes w x.spelling) x.kind (kind_in xs w) h.0 (kind-in xs w h.1)

words-kinds : AllKinds words
unfolding words
words-kinds =
    let five : IsKind 5 = omega arith in
    let six : IsKind 6 = omega arith in
    (five, (five, (six, (six, (six, (six, (six, (six, (six, (six, (six, (six, (six, (six, (six, (six, (six, tt)))))))))))))))))

number-told : (s : List ℕ) → Told (number_lexeme s)
unfolding number_lexeme
number-told s =
    let n = parts_len (parts_of s) in
    pick (sticks (get_or s n 0)) _ _ (omega arith)
    (pick (leb n max_number) _ _
    (pick (in_range (take n s) (parts_of (take n s))) _ _ (cond-kind (eqb n (parts_of s).whole) 2 3 (omega arith) (omega arith)) (omega arith)) (omega arith))

word-told : (s : List ℕ) → Told (word_lexeme s)
unfolding word_lexeme
word-told s = pick (leb (span_len is_name_part s) max_name) _ _ (kind-in words (take (span_len is_name_part s) s) words-kinds) (omega arith)

string-told : (q : ℕ) (s : List ℕ) → Told (string_lexeme q s)
unfolding string_lexeme
string-told q s =
    let n = span_len (is_content q) s in
    pick (eqb (get_or s n 0) q) _ _ (pick (leb n max_string) _ _ (omega arith) (omega arith)) (omega arith)

mark-told : (a b : ℕ) → Told (mark_lexeme a b)
unfolding mark_lexeme
mark-told a b =
    pick (is_pair a b) _ _ (omega arith)
    (pick (is_arrow a b) _ _ (omega arith) (pick (eqb (class_of a) 6) _ _ (omega arith) (pick (eqb (class_of a) 7) _ _ (omega arith) (omega arith))))

pub told : (s : List ℕ) → Told (lexeme s)
unfolding lexeme
told [] = omega arith
told (x ∷ s) =
    pick (eqb (class_of x) 2) _ _ (number-told (x ∷ s))
    (pick (eqb (class_of x) 3) _ _ (word-told (x ∷ s)) (pick (eqb (class_of x) 4) _ _ (string-told x s) (mark-told x (get_or s 0 0))))
