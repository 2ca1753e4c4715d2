-- Line feeds: in two parts of a text, in a run, in a token, which holds none (`flat`). Then the lines of two positions of a text.
-- Relies on `Line` and `Lexeme` of the specs, and on `Lengths` for the bytes of marks.
use mathlib.Core.Path.{◌≡◌, refl, sym, ap, ◌∙◌, subst}
use mathlib.Core.Bool.{Bool, true, false, cond, ◌||◌, and-false, false≢true}
use mathlib.Core.List.{List, [], ◌∷◌, ◌++◌}
use Prim.Native.Nat.{ℕ, zero, suc, ◌+◌, ◌-◌, ◌≤◌, ◌<◌, zero-le, suc-le-suc}
use native.Mathlib.Nat.{add-zero, zero-add}
use native.Mathlib.Numerals.{add-one}
use native.Mathlib.Omega.{arith}
use lib.Dec.{eqb, leb}
use lib.ListN.{length, take, drop, get_or, length-take}
use lib.Seq.{take-add, drop-cons, get_or-drop, get_or-take}
use borrow.Author.Tests.{eq-eqb, ne_eqb, eqb-true}
use Rattle.lexis.specs.Sizes.{max_name, max_string, max_number}
use Rattle.lexis.specs.Bytes.{class_of, is_digit, is_name_part, is_content, span_len}
use Rattle.lexis.specs.Number.{digits, led, frac_len, sign_len, is_e, exp_len, parts_of, parts_len, sticks, in_range}
use Rattle.lexis.specs.Lexeme.{number_lexeme, word_lexeme, string_lexeme, takes_equal, is_pair, is_arrow, mark_lexeme, lexeme}
use Rattle.lexis.specs.Line.{line_feeds, line_of, NoFeed}
use Rattle.lexis.specs.Lexeme.{Lexeme}
use Rattle.lexis.specs.Lexeme.{Token, Fault}
use Rattle.lexis.proofs.Lengths.{by_cases, another-class, pair-next, arrow-next}

-- ---- two parts

either-append : (c : Bool) (n m l : ℕ) → n ≡ m + l → cond c (suc n) n ≡ cond c (suc m) m + l
either-append true n m l e = omega arith
either-append false n m l e = e

feeds-append : (a b : List ℕ) → line_feeds (a ++ b) ≡ line_feeds a + line_feeds b
unfolding line_feeds
feeds-append [] b = sym (zero-add (line_feeds b))
feeds-append (x ∷ a) b = either-append (eqb x 10) (line_feeds (a ++ b)) (line_feeds a) (line_feeds b) (feeds-append a b)

feeds-add : (n m : ℕ) (s : List ℕ) → line_feeds (take (n + m) s) ≡ line_feeds (take n s) + line_feeds (take m (drop n s))
feeds-add n m s = ap line_feeds (take-add n m s) ∙ feeds-append (take n s) (take m (drop n s))

-- the line further on
line_on : (text : List ℕ) (p d : ℕ) → line_of text (p + d) ≡ line_of text p + line_feeds (take d (drop p text))
line_on text p d = omega (arith, feeds-add p d text)

-- ---- one more byte, for a loop over a part

module _ (s : List ℕ) (i to : ℕ) (h : i < to) (l : to ≤ length s) where
  feeds-here : (c : Bool) → eqb (get_or s i 0) 10 ≡ c
      → line_feeds (take (to - i) (drop i s))
      ≡ cond c (suc (line_feeds (take (to - (i + 1)) (drop (i + 1) s)))) (line_feeds (take (to - (i + 1)) (drop (i + 1) s)))
  unfolding line_feeds
  feeds-here c e =
      let k : to - i ≡ suc (to - (i + 1)) = omega arith in
      let m : i < length s = omega arith in
      rw (k, add-one, drop-cons s i 0 m, e)

  pub feeds-feed : get_or s i 0 ≡ 10 → line_feeds (take (to - i) (drop i s)) ≡ 1 + line_feeds (take (to - (i + 1)) (drop (i + 1) s))
  feeds-feed e = feeds-here true (eq-eqb _ 10 e) ∙ omega arith

  pub feeds-other : (get_or s i 0 ≡ 10 → ⊥) → line_feeds (take (to - i) (drop i s)) ≡ line_feeds (take (to - (i + 1)) (drop (i + 1) s))
  feeds-other n = feeds-here false (ne_eqb _ 10 n)

pub feeds-none : (s : List ℕ) → line_feeds (take 0 s) ≡ 0
unfolding line_feeds
feeds-none s = refl

either-le : (c : Bool) (n m : ℕ) → n ≤ m → cond c (suc n) n ≤ suc m
either-le true n m h = omega arith
either-le false n m h = omega arith

pub feeds-le : (s : List ℕ) (n : ℕ) → line_feeds (take n s) ≤ n
unfolding line_feeds
feeds-le s zero = zero-le
feeds-le [] (suc n) = zero-le
feeds-le (x ∷ s) (suc n) = either-le (eqb x 10) (line_feeds (take n s)) n (feeds-le s n)

-- ---- a token holds no byte 10

first_flat : (s : List ℕ) → (get_or s 0 0 ≡ 10 → ⊥) → line_feeds (take 1 s) ≡ 0
unfolding line_feeds
first_flat [] h = refl
first_flat (x ∷ s) h = rw (ne_eqb x 10 h)

run-flat : (f : ℕ → Bool) (x : ℕ) (s : List ℕ) (b c : Bool) → f x ≡ b → eqb x 10 ≡ c → f 10 ≡ false → line_feeds (take (span_len f s) s) ≡ 0
    → line_feeds (take (cond b (suc (span_len f s)) 0) (x ∷ s)) ≡ 0
unfolding line_feeds
run-flat f x s false c p q h r = refl
run-flat f x s true true p q h r = absurd (false≢true (sym h ∙ ap f (sym (eqb-true x 10 q)) ∙ p))
run-flat f x s true false p q h r = rw q r

span-flat : (f : ℕ → Bool) (s : List ℕ) → f 10 ≡ false → line_feeds (take (span_len f s) s) ≡ 0
unfolding span_len line_feeds
span-flat f [] h = refl
span-flat f (x ∷ s) h = run-flat f x s (f x) (eqb x 10) refl refl h (span-flat f s h)

-- two parts without one
both-flat : (n m : ℕ) (s : List ℕ) → line_feeds (take n s) ≡ 0 → line_feeds (take m (drop n s)) ≡ 0 → line_feeds (take (n + m) s) ≡ 0
both-flat n m s p q = omega (arith, feeds-add n m s)

digits-flat : (s : List ℕ) → line_feeds (take (digits s) s) ≡ 0
unfolding class_of
digits-flat s = span-flat is_digit s refl

led-flat : (lead n : ℕ) (s : List ℕ) → line_feeds (take lead s) ≡ 0 → line_feeds (take n (drop lead s)) ≡ 0 → line_feeds (take (led lead n) s) ≡ 0
led-flat lead zero s p q = feeds-none s
led-flat lead (suc n) s p q = both-flat lead (suc n) s p q

-- a length by a test
test-flat : (b : Bool) (n : ℕ) (s : List ℕ) → (b ≡ true → line_feeds (take n s) ≡ 0) → line_feeds (take (cond b n 0) s) ≡ 0
test-flat true n s h = h refl
test-flat false n s h = feeds-none s

-- a byte that a test knows for another is no line feed
no-feed : (f : ℕ → Bool) (x : ℕ) → f 10 ≡ false → f x ≡ true → x ≡ 10 → ⊥
no-feed f x h t e = false≢true (sym h ∙ ap f (sym e) ∙ t)

frac-flat : (s : List ℕ) → line_feeds (take (frac_len s) s) ≡ 0
unfolding frac_len
frac-flat s =
    test-flat (eqb (get_or s 0 0) 46) _ s (λ t. led-flat 1 (digits (drop 1 s)) s (first_flat s (no-feed (λ x. eqb x 46) _ refl t)) (digits-flat (drop 1 s)))

sign-flat : (s : List ℕ) → line_feeds (take (sign_len s) s) ≡ 0
unfolding sign_len
sign-flat s = test-flat _ 1 s (λ t. first_flat s (no-feed (λ x. eqb x 43 || eqb x 45) _ refl t))

exp-flat : (s : List ℕ) → line_feeds (take (exp_len s) s) ≡ 0
unfolding exp_len is_e
exp-flat s =
    let lead = 1 + sign_len (drop 1 s) in
    test-flat (is_e (get_or s 0 0)) _ s
    (λ t. led-flat lead (digits (drop lead s)) s (both-flat 1 (sign_len (drop 1 s)) s (first_flat s (no-feed is_e _ refl t)) (sign-flat (drop 1 s)))
    (digits-flat (drop lead s)))

parts-flat : (s : List ℕ) → line_feeds (take (parts_len (parts_of s)) s) ≡ 0
unfolding parts_of
parts-flat s =
    let w = digits s in
    let f = frac_len (drop w s) in
    both-flat (w + f) (exp_len (drop (w + f) s)) s (both-flat w f s (digits-flat s) (frac-flat (drop w s))) (exp-flat (drop (w + f) s))

-- a token at the front of s that holds no byte 10, or a fault
abbrev Flat : List ℕ → Lexeme → Type 0
Flat s (Token k n) = line_feeds (take n s) ≡ 0
Flat s (Fault c) = Unit {0}

number-flat : (s : List ℕ) → Flat s (number_lexeme s)
unfolding number_lexeme
number-flat s =
    let n = parts_len (parts_of s) in
    by_cases (Flat s) (sticks (get_or s n 0)) _ _ (λ _. tt)
    (λ _. by_cases (Flat s) (leb n max_number) _ _ (λ _. by_cases (Flat s) (in_range (take n s) (parts_of (take n s))) _ _ (λ _. parts-flat s) (λ _. tt)) (λ _. tt))

word_flat : (s : List ℕ) → Flat s (word_lexeme s)
unfolding word_lexeme class_of
word_flat s = by_cases (Flat s) (leb (span_len is_name_part s) max_name) _ _ (λ _. span-flat is_name_part s refl) (λ _. tt)

string-flat : (q : ℕ) (s : List ℕ) → (q ≡ 10 → ⊥) → Flat (q ∷ s) (string_lexeme q s)
unfolding string_lexeme
string-flat q s h =
    let n = span_len (is_content q) s in
    by_cases (Flat (q ∷ s)) (eqb (get_or s n 0) q) _ _
    (λ t. by_cases (Flat (q ∷ s)) (leb n max_string) _ _
    (λ _.
    let long : n + 2 ≡ 1 + n + 1 = omega arith in
    let from : get_or (drop n s) 0 0 ≡ get_or s n 0 = get_or-drop n s 0 0 ∙ ap (λ (i : ℕ). get_or s i 0) (add-zero n) in
    let last : line_feeds (take 1 (drop n s)) ≡ 0 = first_flat (drop n s) (λ e. h (sym (eqb-true (get_or s n 0) q t) ∙ sym from ∙ e)) in
    let after : drop (1 + n) (q ∷ s) ≡ drop n s = ap (λ (i : ℕ). drop i (q ∷ s)) (let z : 1 + n ≡ suc n = omega arith in z) in
    subst (λ (m : ℕ). line_feeds (take m (q ∷ s)) ≡ 0) (sym long)
    (both-flat (1 + n) 1 (q ∷ s) (both-flat 1 n (q ∷ s) (first_flat (q ∷ s) h) (span-flat (is_content q) s refl))
    (ap (λ (r : List ℕ). line_feeds (take 1 r)) after ∙ last)))
    (λ _. tt))
    (λ _. tt)

-- the line feed is white space
class-feed : class_of 10 ≡ 1
unfolding class_of
class-feed = refl

two-flat : (a : ℕ) (s : List ℕ) → (a ≡ 10 → ⊥) → (get_or s 0 0 ≡ 10 → ⊥) → line_feeds (take 2 (a ∷ s)) ≡ 0
two-flat a s h l = both-flat 1 1 (a ∷ s) (first_flat (a ∷ s) h) (first_flat s l)

pair-first : (a b : ℕ) → is_pair a b ≡ true → a ≡ 10 → ⊥
unfolding is_pair takes_equal class_of
pair-first a b t e = false≢true (sym (and-false (eqb b 61)) ∙ ap (λ (x : ℕ). is_pair x b) (sym e) ∙ t)

arrow-first : (a b : ℕ) → is_arrow a b ≡ true → a ≡ 10 → ⊥
unfolding is_arrow
arrow-first a b t z = false≢true (rw z at t)

mark-flat : (a : ℕ) (s : List ℕ) → Flat (a ∷ s) (mark_lexeme a (get_or s 0 0))
unfolding mark_lexeme
mark-flat a s =
    let b = get_or s 0 0 in
    by_cases (Flat (a ∷ s)) (is_pair a b) _ _ (λ t. two-flat a s (pair-first a b t) (pair-next 10 a b (omega (arith, class-feed)) refl t))
    (λ _.
    by_cases (Flat (a ∷ s)) (is_arrow a b) _ _ (λ t. two-flat a s (arrow-first a b t) (arrow-next 10 a b refl t))
    (λ _.
    by_cases (Flat (a ∷ s)) (eqb (class_of a) 6) _ _ (λ t. first_flat (a ∷ s) (another-class a 10 6 (eqb-true (class_of a) 6 t) (omega (arith, class-feed))))
    (λ _. by_cases (Flat (a ∷ s)) (eqb (class_of a) 7) _ _ (λ t. first_flat (a ∷ s) (another-class a 10 7 (eqb-true (class_of a) 7 t) (omega (arith, class-feed)))) (λ _. tt))))

flat : (s : List ℕ) → Flat s (lexeme s)
unfolding lexeme
flat [] = tt
flat (x ∷ s) =
    by_cases (Flat (x ∷ s)) (eqb (class_of x) 2) _ _ (λ _. number-flat (x ∷ s))
    (λ _.
    by_cases (Flat (x ∷ s)) (eqb (class_of x) 3) _ _ (λ _. word_flat (x ∷ s))
    (λ _. by_cases (Flat (x ∷ s)) (eqb (class_of x) 4) _ _ (λ t. string-flat x s (another-class x 10 4 (eqb-true (class_of x) 4 t) (omega (arith, class-feed)))) (λ _. mark-flat x s)))

-- so it ends on the line on which it starts
pub token-line : (text : List ℕ) (p k n : ℕ) → lexeme (drop p text) ≡ Token k n → line_of text (p + n) ≡ line_of text p
token-line text p k n e =
    let none : line_feeds (take n (drop p text)) ≡ 0 = subst (Flat (drop p text)) e (flat (drop p text)) in
    omega (arith, line_on text p n, none)

-- ---- the lines of two positions

either-zero : (x : ℕ) (n : ℕ) (c : Bool) → eqb x 10 ≡ c → cond c (suc n) n ≡ 0 → (n ≡ 0) × (x ≡ 10 → ⊥)
either-zero x n true e h = absurd (omega arith)
either-zero x n false e h = (h, λ z. false≢true (sym e ∙ eq-eqb x 10 z))

-- no line feed among bytes, and among them at every place
feeds-zero : (s : List ℕ) → line_feeds s ≡ 0 → (i : ℕ) → get_or s i 0 ≡ 10 → ⊥
unfolding line_feeds
feeds-zero [] h i e = omega arith
feeds-zero (x ∷ s) h zero e = (either-zero x (line_feeds s) (eqb x 10) refl h).1 e
feeds-zero (x ∷ s) h (suc i) e = feeds-zero s (either-zero x (line_feeds s) (eqb x 10) refl h).0 i e

zero-feeds : (s : List ℕ) → ((i : ℕ) → i < length s → get_or s i 0 ≡ 10 → ⊥) → line_feeds s ≡ 0
unfolding line_feeds
zero-feeds [] h = refl
zero-feeds (x ∷ s) h = rw (ne_eqb x 10 (h 0 (omega arith))) (zero-feeds s (λ i l. h (suc i) (suc-le-suc l)))

module _ (text : List ℕ) (p q : ℕ) (h : p ≤ q) where
  -- the line of the later one, by the bytes between them
  pub between : line_of text q ≡ line_of text p + line_feeds (take (q - p) (drop p text))
  between = let e : q ≡ p + (q - p) = omega arith in ap (line_of text) e ∙ line_on text p (q - p)

  -- a later position stands on the same line or further down
  pub line-le : line_of text p ≤ line_of text q
  line-le = omega (arith, between)

  -- the same line, exactly when no byte 10 stands between them
  pub same_none : line_of text p ≡ line_of text q → NoFeed text p q
  same_none e i l u z =
      let j : p + (i - p) ≡ i = omega arith in
      feeds-zero (take (q - p) (drop p text)) (omega (arith, between)) (i - p)
      (get_or-take (q - p) (drop p text) (i - p) 0 (omega arith) ∙ get_or-drop p text (i - p) 0 ∙ ap (λ (k : ℕ). get_or text k 0) j ∙ z)

  pub none-same : NoFeed text p q → line_of text p ≡ line_of text q
  none-same n =
      let long : length (take (q - p) (drop p text)) ≤ q - p = omega (arith, length-take (q - p) (drop p text)) in
      let zero : line_feeds (take (q - p) (drop p text)) ≡ 0 =
      zero-feeds (take (q - p) (drop p text))
      (λ i l e. n (p + i) (omega arith) (omega arith) (sym (get_or-take (q - p) (drop p text) i 0 (omega arith) ∙ get_or-drop p text i 0) ∙ e)) in
      omega (arith, between)
