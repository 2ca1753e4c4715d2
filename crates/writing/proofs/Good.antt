-- Every token that the lexer gives is good: what the grammar takes for a name is a name, a number is in range, and a string's content
-- is clean for the quote that canonical text puts around it. In order: good tokens; words; numbers; strings; marks; all of a text.
use mathlib.Core.Path.{◌≡◌, refl, sym, ◌∙◌}
use mathlib.Core.Logic.{◌⊎◌, inl, inr}
use mathlib.Core.Bool.{Bool, true, false, cond, not, ◌&&◌, ◌||◌, and-false, true≢false, false≢true}
use mathlib.Core.List.{List, [], ◌∷◌}
use Prim.Native.Nat.{ℕ, zero, suc, ◌+◌, ◌-◌, ◌≤◌}
use native.Mathlib.Omega.{arith}
use lib.Dec.{leb, eqb}
use lib.ListN.{length, length-take, get_or, take, drop}
use lib.Seq.{take-take}
use borrow.Author.Tests.{leb-true, eqb-true}
use Rattle.spellings.specs.Comparison.{same_bytes}
use Rattle.lexis.specs.Sizes.{max_name, max_number, max_string}
use Rattle.lexis.specs.Ascii.{ascii}
use Rattle.lexis.specs.Class as Class
use Rattle.lexis.specs.Kind as Kind
use Rattle.lexis.specs.Bytes.{class_of, within, among, is_digit, is_name_part, is_content, span_len}
use Rattle.lexis.specs.Words.{Word, words, kind_in, kind_of_word}
use Rattle.lexis.specs.Number.{parts_of, parts_len, sticks, in_range}
use Rattle.lexis.specs.Lexeme.{number_lexeme, word_lexeme, string_lexeme, is_pair, is_arrow, mark_lexeme, lexeme}
use Rattle.lexis.specs.Lexer.{Token, accepted, lex, Placed, next}
use Rattle.lexis.specs.Lexer.{none as no-token}
use Rattle.lexis.specs.Lexeme as L
use Rattle.lexis.specs.Lexeme.{Lexeme}
use Rattle.lexis.specs.Symbol.{sym_of, symbol_of, other, minus, a_name}
use Rattle.lexis.proofs.Theorems.{placed}
use Rattle.lists.specs.Reading.{is_number, content_of}
use Rattle.lists.proofs.Leaves.{keyword-not}
use Rattle.writing.specs.Spelling.{holds_single, quote_for}
use Rattle.writing.proofs.Runs.{span-all, span-of-all}
use Rattle.writing.specs.Fit.{All, none, more, IsWord, IsName, IsText}

-- ---- good tokens

-- every item of a list has the property
abbrev pub Each : {A : Type 0} → (A → Type 0) → List A → Type 0
Each P [] = Unit {0}
Each P (x ∷ xs) = P x × Each P xs

-- a token of kind k and bytes w: a name, if the grammar takes it for one; in range, if it is a number, and digits alone, if it is whole; clean between
-- its quotes
pub record Good (k : ℕ) (w : List ℕ) : Type 0 where
  pub name : symbol_of k w ≡ a_name → IsName w
  pub number : is_number k ≡ true → (in_range w (parts_of w) ≡ true) × (length w ≤ max_number)
  pub whole : k ≡ Kind.whole → span_len is_digit w ≡ length w
  pub text : k ≡ Kind.string → IsText (content_of w)

pub good-name : (t : Token) → Good t.kind t.bytes → sym_of t ≡ a_name → IsName t.bytes
unfolding sym_of
good-name t g h = g.name h

abbrev pub AllGood : List Token → Type 0
AllGood ts = Each (λ (t : Token). Good t.kind t.bytes) ts

-- a lexeme at the front of s
abbrev Fine : List ℕ → Lexeme → Type 0
Fine s (L.Token k n) = Good k (take n s)
Fine s (L.Fault c) = Unit {0}

by_cases : (s : List ℕ) (b : Bool) (x y : Lexeme) → (b ≡ true → Fine s x) → (b ≡ false → Fine s y) → Fine s (cond b x y)
by_cases s true x y f g = f refl
by_cases s false x y f g = g refl

-- neither of two numbers is n
neither : (n : ℕ) (b : Bool) (x y : ℕ) → (b ≡ true → x ≡ n → ⊥) → (y ≡ n → ⊥) → cond b x y ≡ n → ⊥
neither n true x y f g h = f refl h
neither n false x y f g h = g h

-- ---- words

-- the kinds of words
data WordKind : ℕ → Type 0 where
  a-name : WordKind Kind.name
  a-truth : WordKind Kind.truth
  a-keyword : WordKind Kind.keyword

kind-in : (xs : List Word) (w : List ℕ) → Each (λ (x : Word). WordKind x.kind) xs → WordKind (kind_in xs w)
unfolding kind_in
kind-in [] w h = a-name
kind-in (x ∷ xs) w h = go (same_bytes w x.spelling) (kind-in xs w h.1)
  where
    go : (b : Bool) → WordKind (kind_in xs w) → WordKind (cond b x.kind (kind_in xs w))
    go true r = h.0
    go false r = r

word-kind : (w : List ℕ) → WordKind (kind_of_word w)
unfolding words
word-kind w =
    let k = a-keyword in
    kind-in words w (a-truth, (a-truth, (k, (k, (k, (k, (k, (k, (k, (k, (k, (k, (k, (k, (k, (k, (k, tt)))))))))))))))))

word-token : {k : ℕ} {w : List ℕ} → IsWord w → kind_of_word w ≡ k → WordKind k → Good k w
unfolding symbol_of
word-token i e a-name = record {
  name = λ _. record { word = i; kind = e };
  number = λ h. absurd (false≢true h);
  whole = λ h. absurd (omega arith);
  text = λ h. absurd (omega arith);
}
word-token i e a-truth = record {
  name = λ h. absurd (omega arith);
  number = λ h. absurd (false≢true h);
  whole = λ h. absurd (omega arith);
  text = λ h. absurd (omega arith);
}
word-token {w = w} i e a-keyword = record {
  name = λ h. absurd (keyword-not w h);
  number = λ h. absurd (false≢true h);
  whole = λ h. absurd (omega arith);
  text = λ h. absurd (omega arith);
}

word-fine : (x : ℕ) (s : List ℕ) → class_of x ≡ Class.letter → Fine (x ∷ s) (word_lexeme (x ∷ s))
unfolding word_lexeme span_len
word-fine x s l =
    let n = span_len is_name_part (x ∷ s) in
    let p : n ≡ suc (span_len is_name_part s) = simp l in
    let word : n ≤ max_name → IsWord (take n (x ∷ s)) =
    λ h. record { first = rw p l; parts = span-all is_name_part (x ∷ s); short = simp length-take (omega arith) } in
    by_cases (x ∷ s) (leb n max_name) _ _ (λ e. word-token (word (leb-true n max_name e)) refl (word-kind (take n (x ∷ s)))) (λ _. tt)

-- ---- numbers

number-token : (b : Bool) (w : List ℕ) → in_range w (parts_of w) ≡ true → length w ≤ max_number → (b ≡ true → span_len is_digit w ≡ length w)
    → Good (cond b Kind.whole Kind.real) w
unfolding symbol_of
number-token true w r l d = record { name = λ h. absurd (omega arith); number = λ _. (r, l); whole = λ _. d refl; text = λ h. absurd (omega arith) }
number-token false w r l d = record {
  name = λ h. absurd (omega arith);
  number = λ _. (r, l);
  whole = λ h. absurd (omega arith);
  text = λ h. absurd (omega arith);
}

-- a number that is all whole part is digits alone
whole-digits : (s : List ℕ) (n : ℕ) → n ≡ (parts_of s).whole → span_len is_digit (take n s) ≡ length (take n s)
unfolding parts_of
whole-digits s n e = rw e (span-of-all is_digit (span-all is_digit s))

number-fine : (s : List ℕ) → Fine s (number_lexeme s)
unfolding number_lexeme
number-fine s =
    let n = parts_len (parts_of s) in
    by_cases s (sticks (get_or s n 0)) _ _ (λ _. tt)
    (λ _. by_cases s (leb n max_number) _ _
    (λ e. by_cases s (in_range (take n s) (parts_of (take n s))) _ _
    (λ r. number-token (eqb n (parts_of s).whole) (take n s) r (simp length-take (omega (arith, leb-true n max_number e)))
    (λ w. whole-digits s n (eqb-true n (parts_of s).whole w)))
    (λ _. tt)) (λ _. tt))

-- a digit by its number
pub digit-range : (x : ℕ) → is_digit x ≡ true → (48 ≤ x) × (x ≤ 57)
unfolding class_of
digit-range x t = go (leb 48 x) (leb x 57) refl refl
  where
    other : (leb 48 x && leb x 57) ≡ false → class_of x ≡ Class.digit → ⊥
    other e =
        neither 2 (within 9 13 x || eqb x 32) _ _ (λ _. omega arith)
        (neither 2 (within 48 57 x) _ _ (λ t. absurd (true≢false (sym t ∙ e)))
        (neither 2 (within 65 90 x || (within 97 122 x || eqb x 95)) _ _ (λ _. omega arith)
        (neither 2 (among (ascii "\"'") x) _ _ (λ _. omega arith)
        (neither 2 (eqb x 35) _ _ (λ _. omega arith)
        (neither 2 (among (ascii "+-*/^<>!") x) _ _ (λ _. omega arith)
        (neither 2 (among (ascii "()[]{}:=,;") x) _ _ (λ _. omega arith) (neither 2 (among (ascii "&|") x) _ _ (λ _. omega arith) (omega arith))))))))

    go : (a b : Bool) → leb 48 x ≡ a → leb x 57 ≡ b → (48 ≤ x) × (x ≤ 57)
    go true true e f = (leb-true 48 x e, leb-true x 57 f)
    go true false e f = absurd (other (rw (e, f)) (eqb-true (class_of x) Class.digit t))
    go false b e f = absurd (other (rw e) (eqb-true (class_of x) Class.digit t))

-- ---- strings

-- a byte of a string's content that is not the quote r
content-but : (q r c : ℕ) → is_content q c ≡ true → eqb c r ≡ false → is_content r c ≡ true
content-but q r c h e = rw e (go (leb 32 c) (leb c 126) (not (eqb c q)) h)
  where
    go : (x y z : Bool) → (x && (y && z)) ≡ true → (x && (y && true)) ≡ true
    go true true z h = refl
    go true false z h = h
    go false y z h = h

-- content without a single quote is clean for it; content that is clean for it is without
clean-single : (q : ℕ) {s : List ℕ} → All (is_content q) s → holds_single s ≡ false → All (is_content 39) s
unfolding holds_single
clean-single q none h = none
clean-single q (more {c} {s} p r) h = go (eqb c 39) refl h (clean-single q r)
  where
    go : (b : Bool) → eqb c 39 ≡ b → (b || holds_single s) ≡ false → (holds_single s ≡ false → All (is_content 39) s) → All (is_content 39) (c ∷ s)
    go true e h r = absurd (true≢false h)
    go false e h r = more (content-but q 39 c p e) (r h)

no-single : {s : List ℕ} → All (is_content 39) s → holds_single s ≡ false
unfolding holds_single
no-single none = refl
no-single (more {c} p r) = rw (go (leb 32 c) (leb c 126) (eqb c 39) p) (no-single r)
  where
    go : (x y z : Bool) → (x && (y && not z)) ≡ true → z ≡ false
    go x y true h = absurd (false≢true (simp and-false at h))
    go x y false h = refl

-- a quote is double or single
quote-is : (q : ℕ) → class_of q ≡ Class.quote → (q ≡ 34) ⊎ (q ≡ 39)
unfolding class_of
quote-is q h = go (eqb q 34) (eqb q 39) refl refl
  where
    go : (x y : Bool) → eqb q 34 ≡ x → eqb q 39 ≡ y → (q ≡ 34) ⊎ (q ≡ 39)
    go true y e f = inl (eqb-true q 34 e)
    go false true e f = inr (eqb-true q 39 f)
    go false false e f = absurd (
        neither 4 (within 9 13 q || eqb q 32) _ _ (λ _. omega arith)
        (neither 4 (within 48 57 q) _ _ (λ _. omega arith)
        (neither 4 (within 65 90 q || (within 97 122 q || eqb q 95)) _ _ (λ _. omega arith)
        (neither 4 (among (ascii "\"'") q) _ _ (λ t. absurd (true≢false (sym t ∙ rw (e, f))))
        (neither 4 (eqb q 35) _ _ (λ _. omega arith)
        (neither 4 (among (ascii "+-*/^<>!") q) _ _ (λ _. omega arith)
        (neither 4 (among (ascii "()[]{}:=,;") q) _ _ (λ _. omega arith) (neither 4 (among (ascii "&|") q) _ _ (λ _. omega arith) (omega arith)))))))) h)

-- content between quotes is clean for the quote that it is given
clean-for : (q : ℕ) (s : List ℕ) → (q ≡ 34) ⊎ (q ≡ 39) → All (is_content q) s → All (is_content (quote_for s)) s
unfolding quote_for
clean-for q s (inr e) a = let c = rw e at a in rw (no-single c) c
clean-for q s (inl e) a = go (holds_single s) refl
  where
    go : (b : Bool) → holds_single s ≡ b → All (is_content (cond b 34 39)) s
    go true h = rw e at a
    go false h = clean-single q a h

all_take : (f : ℕ → Bool) (n : ℕ) {s : List ℕ} → All f s → All f (take n s)
all_take f zero a = none
all_take f (suc n) none = none
all_take f (suc n) (more p r) = more p (all_take f n r)

string-fine : (q : ℕ) (s : List ℕ) → class_of q ≡ Class.quote → Fine (q ∷ s) (string_lexeme q s)
unfolding string_lexeme symbol_of
string-fine q s l =
    let n = span_len (is_content q) s in
    by_cases (q ∷ s) (eqb (get_or s n 0) q) _ _
    (λ _. by_cases (q ∷ s) (leb n max_string) _ _ (λ e. token n (leb-true n max_string e) (span-all (is_content q) s)) (λ _. tt)) (λ _. tt)
  where
    token : (n : ℕ) → n ≤ max_string → All (is_content q) (take n s) → Good Kind.string (take (n + 2) (q ∷ s))
    token n h a =
        let two : n + 2 ≡ suc (suc n) = omega arith in
        let m = suc (length (take (suc n) s)) - 2 in
        let low : m ≤ n = omega (arith, length-take (suc n) s) in
        let c : content_of (q ∷ take (suc n) s) ≡ take m (take n s) = take-take m (suc n) s (omega arith) ∙ sym (take-take m n s low) in
        let clean = clean-for q (take m (take n s)) (quote-is q l) (all_take (is_content q) m a) in
        let t : IsText (content_of (q ∷ take (suc n) s)) = rw c (record { clean = clean; short = omega (arith, length-take m (take n s)) }) in
        rw two (record { name = λ h. absurd (omega arith); number = λ h. absurd (false≢true h); whole = λ h. absurd (omega arith); text = λ _. t })

-- ---- marks

mark-token : (w : List ℕ) → (get_or w 0 0 ≡ a_name → ⊥) → Good Kind.syntactic w
unfolding symbol_of
mark-token w n = record { name = λ h. absurd (n h); number = λ h. absurd (false≢true h); whole = λ h. absurd (omega arith); text = λ h. absurd (omega arith) }

operator-token : (w : List ℕ) → Good Kind.operator w
unfolding symbol_of
operator-token w = record {
  name = λ h. absurd (no_name (same_bytes w (ascii "-")) h);
  number = λ h. absurd (false≢true h);
  whole = λ h. absurd (omega arith);
  text = λ h. absurd (omega arith);
}
  where
    no_name : (b : Bool) → cond b minus other ≡ a_name → ⊥
    no_name true h = omega arith
    no_name false h = omega arith

mark-fine : (x : ℕ) (s : List ℕ) → Fine (x ∷ s) (mark_lexeme x (get_or s 0 0))
unfolding mark_lexeme is_arrow class_of
mark-fine x s =
    let b = get_or s 0 0 in
    by_cases (x ∷ s) (is_pair x b) _ _ (λ _. operator-token (take 2 (x ∷ s)))
    (λ _.
    by_cases (x ∷ s) (is_arrow x b) _ _ (λ e. mark-token (take 2 (x ∷ s)) (λ h. false≢true (rw h at e)))
    (λ _.
    by_cases (x ∷ s) (eqb (class_of x) Class.operator) _ _ (λ _. operator-token (take 1 (x ∷ s)))
    (λ _. by_cases (x ∷ s) (eqb (class_of x) Class.syntactic) _ _ (λ e. mark-token (take 1 (x ∷ s)) (λ h. false≢true (rw h at e))) (λ _. tt))))

-- ---- all tokens of a text

lexeme-fine : (s : List ℕ) → Fine s (lexeme s)
unfolding lexeme
lexeme-fine [] = tt
lexeme-fine (x ∷ s) =
    by_cases (x ∷ s) (eqb (class_of x) Class.digit) _ _ (λ _. number-fine (x ∷ s))
    (λ _.
    by_cases (x ∷ s) (eqb (class_of x) Class.letter) _ _ (λ e. word-fine x s (eqb-true (class_of x) Class.letter e))
    (λ _. by_cases (x ∷ s) (eqb (class_of x) Class.quote) _ _ (λ e. string-fine x s (eqb-true (class_of x) Class.quote e)) (λ _. mark-fine x s)))

-- tokens in their places; those that the lexer gives are
pub placed-good : {text : List ℕ} {at : ℕ} {ts : List Token} → Placed text at ts → AllGood ts
placed-good (no-token e) = tt
placed-good {text} (next {t = t} s l n i b r) = (rw (← b) at (rw l at (lexeme-fine (drop t.start text))), placed-good r)

pub lex-good : (text : List ℕ) (ts : List Token) → lex text ≡ accepted ts → AllGood ts
lex-good text ts e = placed-good (placed text ts e)
