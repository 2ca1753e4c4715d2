-- Runs of bytes that pass a test, and what stands after them.
use mathlib.Core.Path.{◌≡◌, refl, sym, ap, ◌∙◌}
use mathlib.Core.Bool.{Bool, true, false, cond}
use mathlib.Core.List.{List, [], ◌∷◌, ◌++◌}
use Prim.Native.Nat.{ℕ, suc}
use native.Mathlib.Nat.{add-zero}
use lib.Dec.{eqb}
use lib.ListN.{length, take, get_or}
use lib.Seq.{get_or-append-add}
use borrow.Author.Tests.{ne_eqb}
use Rattle.lexis.specs.Bytes.{span_len}
use Rattle.writing.specs.Fit.{All, none, more}

-- the first byte of a text, 0 where it has none
abbrev pub next : List ℕ → ℕ
next r = get_or r 0 0

pub all_append : (f : ℕ → Bool) {s t : List ℕ} → All f s → All f t → All f (s ++ t)
all_append f none b = b
all_append f (more h a) b = more h (all_append f a b)

span-stop : (f : ℕ → Bool) (r : List ℕ) → f (next r) ≡ false → span_len f r ≡ 0
unfolding span_len
span-stop f [] h = refl
span-stop f (c ∷ r) h = rw h

-- a run before a byte that fails is found again
pub span-again : (f : ℕ → Bool) {s : List ℕ} (r : List ℕ) → All f s → f (next r) ≡ false → span_len f (s ++ r) ≡ length s
unfolding span_len
span-again f r none h = span-stop f r h
span-again f r (more y a) h = simp (y, span-again f r a h)

-- where all bytes pass, the run is all
pub span-of-all : (f : ℕ → Bool) {s : List ℕ} → All f s → span_len f s ≡ length s
unfolding span_len
span-of-all f none = refl
span-of-all f (more y a) = simp (y, span-of-all f a)

-- what the run counts passes
pub span-all : (f : ℕ → Bool) (s : List ℕ) → All f (take (span_len f s) s)
unfolding span_len
span-all f [] = none
span-all f (c ∷ s) = go (f c) refl (span-all f s)
  where
    go : (b : Bool) → f c ≡ b → All f (take (span_len f s) s) → All f (take (cond b (suc (span_len f s)) 0) (c ∷ s))
    go true e a = more e a
    go false e a = none

pub next-seam : (s r : List ℕ) → get_or (s ++ r) (length s) 0 ≡ next r
next-seam s r = rw add-zero at (get_or-append-add s r 0 0)

-- a byte at which a test answers otherwise than at a is not a
pub differs : {B : Type 0} (f : ℕ → B) (a c : ℕ) (x y : B) → f a ≡ x → f c ≡ y → (x ≡ y → ⊥) → eqb c a ≡ false
differs f a c x y p q n = ne_eqb c a (λ e. n (sym p ∙ ap f (sym e) ∙ q))
