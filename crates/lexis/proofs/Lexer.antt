-- The laws of `lex_from`: bytes passed over, a gap, a token; and that a gap lies in its text and no gap follows it.
use mathlib.Core.Path.{◌≡◌, refl, sym, ap, ◌∙◌}
use mathlib.Core.Bool.{Bool, true, false, cond, not}
use mathlib.Core.List.{List, [], ◌∷◌}
use Prim.Native.Nat.{ℕ, zero, suc, pred, ◌+◌, ◌≤◌, ◌<◌, zero-le, suc-le-suc}
use native.Mathlib.Nat.{add-zero, add-suc, suc-add, le_of_suc-le-suc, not-suc-le-zero}
use lib.Dec.{eqb, ltb}
use lib.ListN.{length, take, drop}
use lib.Seq.{drop-nil}
use Rattle.lexis.specs.Sizes.{max_tokens}
use Rattle.lexis.specs.Bytes.{class_of, gap_from, gap_len}
use Rattle.lexis.specs.Lexeme.{lexeme}
use Rattle.lexis.specs.Lexer.{Lexed, accepted, refused, prepend, admit, lex_from}
use Rattle.lexis.specs.Lexeme.{Lexeme}
use Rattle.lexis.specs.Lexeme as L
use Rattle.lexis.proofs.Lengths.{Sized, sized}

pub lex-nil : (k n at : ℕ) → lex_from k n at [] ≡ accepted []
unfolding lex_from
lex-nil k n at = refl

-- bytes passed over
pub lex-skip : (k n at : ℕ) (s : List ℕ) → k ≤ length s → lex_from k n at s ≡ lex_from 0 n (at + k) (drop k s)
unfolding lex_from
lex-skip k n at [] h = ap (λ (l : List ℕ). lex_from 0 n (at + k) l) (sym (drop-nil k))
lex-skip zero n at (x ∷ s) h = ap (λ (m : ℕ). lex_from 0 n m (x ∷ s)) (sym (add-zero at))
lex-skip (suc k) n at (x ∷ s) h =
    lex-skip k n (suc at) s (le_of_suc-le-suc h) ∙ ap (λ (m : ℕ). lex_from 0 n m (drop k s)) (suc-add at k ∙ sym (add-suc at k))

-- a gap is no longer than its text
gap-le-cons : (b c : Bool) (k m n : ℕ) → k ≤ n → m ≤ n → cond b (suc k) (cond c (suc m) 0) ≤ suc n
gap-le-cons true c k m n h l = suc-le-suc h
gap-le-cons false true k m n h l = suc-le-suc l
gap-le-cons false false k m n h l = zero-le

pub gap-le : (b : Bool) (s : List ℕ) → gap_from b s ≤ length s
unfolding gap_from
gap-le b [] = zero-le
gap-le true (x ∷ s) = suc-le-suc (gap-le (not (eqb x 10)) s)
gap-le false (x ∷ s) = gap-le-cons (eqb (class_of x) 1) (eqb (class_of x) 5) (gap_from false s) (gap_from true s) (length s) (gap-le false s) (gap-le true s)

-- no gap follows a gap
gap-done-cons : (x : ℕ) (s : List ℕ) (b c : Bool) → eqb (class_of x) 1 ≡ b → eqb (class_of x) 5 ≡ c
    → gap_from false (drop (gap_from false s) s) ≡ 0 → gap_from false (drop (gap_from true s) s) ≡ 0
    → gap_from false (drop (gap_from false (x ∷ s)) (x ∷ s)) ≡ 0
unfolding gap_from
gap-done-cons x s true c e1 e5 p q = rw e1 p
gap-done-cons x s false true e1 e5 p q = rw (e1, e5) q
gap-done-cons x s false false e1 e5 p q = rw (e1, e5, e1, e5)

pub gap-done : (b : Bool) (s : List ℕ) → gap_from false (drop (gap_from b s) s) ≡ 0
unfolding gap_from
gap-done b [] = ap (gap_from false) (drop-nil 0)
gap-done true (x ∷ s) = gap-done (not (eqb x 10)) s
gap-done false (x ∷ s) = gap-done-cons x s (eqb (class_of x) 1) (eqb (class_of x) 5) refl refl (gap-done false s) (gap-done true s)

gap-first : (g n at x : ℕ) (s : List ℕ) → gap_len (x ∷ s) ≡ suc g → lex_from 0 n at (x ∷ s) ≡ lex_from g n (suc at) s
unfolding lex_from
gap-first g n at x s e = rw (e, lex_from)

-- a gap is passed over
gap_step : (g n at x : ℕ) (s : List ℕ) → gap_len (x ∷ s) ≡ g → g ≤ suc (length s) → lex_from 0 n at (x ∷ s) ≡ lex_from 0 n (at + g) (drop g (x ∷ s))
gap_step zero n at x s e h = ap (λ (m : ℕ). lex_from 0 n m (x ∷ s)) (sym (add-zero at))
gap_step (suc g) n at x s e h =
    gap-first g n at x s e ∙ lex-skip g n (suc at) s (le_of_suc-le-suc h) ∙ ap (λ (m : ℕ). lex_from 0 n m (drop g s)) (suc-add at g ∙ sym (add-suc at g))

pub lex-gap : (n at : ℕ) (s : List ℕ) → lex_from 0 n at s ≡ lex_from 0 n (at + gap_len s) (drop (gap_len s) s)
unfolding gap_from
lex-gap n at [] = ap (λ (m : ℕ). lex_from 0 n m []) (sym (add-zero at))
lex-gap n at (x ∷ s) = gap_step (gap_len (x ∷ s)) n at x s refl (gap-le false (x ∷ s))

-- what a token or a fault at the front of s leaves to read
abbrev pub after : Lexeme → ℕ → ℕ → List ℕ → Lexed
after (L.Fault c) n at s = refused c at
after (L.Token k len) n at s =
    cond (ltb n max_tokens) (prepend (record { kind = k; start = at; bytes = take len s }) (lex_from 0 (suc n) (at + len) (drop len s))) (refused 8 at)

token-step : (l : Lexeme) (n at x : ℕ) (s : List ℕ) → Sized (suc (length s)) l
    → admit l n at (x ∷ s) (λ len. lex_from (pred len) (suc n) (suc at) s) ≡ after l n at (x ∷ s)
unfolding admit
token-step (L.Fault c) n at x s z = refl
token-step (L.Token k zero) n at x s z = absurd (not-suc-le-zero z.0)
token-step (L.Token k (suc m)) n at x s z =
    ap (λ (r : Lexed). cond (ltb n max_tokens) (prepend (record { kind = k; start = at; bytes = take (suc m) (x ∷ s) }) r) (refused 8 at))
    (lex-skip m (suc n) (suc at) s (le_of_suc-le-suc z.1) ∙ ap (λ (q : ℕ). lex_from 0 (suc n) q (drop m s)) (suc-add at m ∙ sym (add-suc at m)))

pub lex-token : (n at : ℕ) (s : List ℕ) → 0 < length s → gap_len s ≡ 0 → lex_from 0 n at s ≡ after (lexeme s) n at s
unfolding lex_from
lex-token n at [] h e = absurd (not-suc-le-zero h)
lex-token n at (x ∷ s) h e = rw (e, lex_from) (token-step (lexeme (x ∷ s)) n at x s (sized (x ∷ s)))
