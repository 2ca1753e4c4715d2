-- Rows of items without their fuel. A reader shrinks if it leaves fewer tokens than it was given; the row of such a reader is one
-- item, what follows it, and the row again, and it shrinks too. Assumes nothing.
use mathlib.Core.Path.{◌≡◌, refl, ap}
use mathlib.Core.Bool.{Bool, true, false, cond}
use mathlib.Core.List.{List, [], ◌∷◌}
use Prim.Native.Nat.{ℕ, zero, suc, ◌<◌, ◌≤◌, zero-le}
use native.Mathlib.Nat.{le_refl, le_trans}
use native.Mathlib.Omega.{arith}
use lib.Dec.{eqb}
use lib.ListN.{length}
use Rattle.lexis.specs.Lexer.{Token}
use Rattle.lexis.specs.Symbol.{sym_of, comma}
use Rattle.syntax.specs.Parser.{Parse, Reader, Row, Follow, Lists, then, mapped, follow, onward, row_f, row}
use Rattle.syntax.specs.Parser.Parse.{ok, bad}
use Rattle.syntax.specs.Parser.Row.{commas, closed, to_the_end}
use Rattle.syntax.specs.Parser.Follow.{again, done, neither}

-- what holds of both sides of a choice holds of the choice
pub cond_has : {X : Type 0} (P : X → Type 0) (c : Bool) {x y : X} → P x → P y → P (cond c x y)
cond_has P true p q = p
cond_has P false p q = q

-- ---- readers that shrink

-- after what was read fewer than n tokens are left
pub data Left {A : Type 0} (n : ℕ) : Parse A → Type 0 where
  fewer : {a : A} {us : List Token} → length us < n → Left n (ok a us)
  fault : {c : ℕ} {us : List Token} → Left n (bad c us)

-- it leaves fewer than it was given
abbrev pub Shrinks : {A : Type 0} → Reader A → Type 0
Shrinks item = (ts : List Token) → Left (length ts) (item ts)

pub left-ok : {A : Type 0} {n : ℕ} {a : A} {us : List Token} → Left n (ok a us) → length us < n
left-ok (fewer h) = h

pub then-left : {A B : Type 0} {m n : ℕ} {x : Parse A} {k : A → Reader B} → Left m x → ((a : A) (us : List Token) → length us < m → Left n (k a us))
    → Left n (then x k)
then-left (fewer h) f = f _ _ h
then-left fault f = fault

pub mapped-left : {A B : Type 0} {n : ℕ} {x : Parse A} (f : A → B) → Left n x → Left n (mapped f x)
mapped-left f (fewer h) = fewer h
mapped-left f fault = fault

-- a higher bound
pub left_le : {A : Type 0} {m n : ℕ} {x : Parse A} → m ≤ n → Left m x → Left n x
left_le l (fewer h) = fewer (le_trans h l)
left_le l fault = fault

-- two ways to go on that agree on fewer than n tokens
pub then_same : {A B : Type 0} {n : ℕ} {x : Parse A} {k k' : A → Reader B} → Left n x → ((a : A) (us : List Token) → length us < n → k a us ≡ k' a us)
    → then x k ≡ then x k'
then_same (fewer h) f = f _ _ h
then_same fault f = refl

-- ---- what follows an item

-- at most n tokens are left to go on with, or after the row
data Behind (n : ℕ) : Follow → Type 0 where
  next : {ws : List Token} → length ws ≤ n → Behind n (again ws)
  last : {ws : List Token} → length ws ≤ n → Behind n (done ws)
  stop : Behind n neither

follow-behind : (r : Row) (us : List Token) → Behind (length us) (follow r us)
unfolding follow
follow-behind (commas close) [] = stop
follow-behind (commas close) (t ∷ us) =
    cond_has (λ f. Behind (suc (length us)) f) (eqb (sym_of t) comma) (next (omega arith))
    (cond_has (λ f. Behind (suc (length us)) f) (eqb (sym_of t) close) (last (omega arith)) stop)
follow-behind (closed close) [] = stop
follow-behind (closed close) (t ∷ us) = cond_has (λ f. Behind (suc (length us)) f) (eqb (sym_of t) close) (last (omega arith)) (next (omega arith))
follow-behind to_the_end [] = last zero-le
follow-behind to_the_end (t ∷ us) = next (le_refl (suc (length us)))

module _ {A : Type 0} {m : ℕ} (us : List Token) (k j : List Token → Parse A) where
  onward-left : {n : ℕ} {f : Follow} → Behind m f →
      ((ws : List Token) → length ws ≤ m → Left n (k ws)) → ((ws : List Token) → length ws ≤ m → Left n (j ws)) → Left n (onward f us k j)
  onward-left (next h) p q = p _ h
  onward-left (last h) p q = q _ h
  onward-left stop p q = fault

  onward-same : {f : Follow} (k' : List Token → Parse A) → Behind m f → ((ws : List Token) → length ws ≤ m → k ws ≡ k' ws) → onward f us k j ≡ onward f us k' j
  onward-same k' (next h) p = p _ h
  onward-same k' (last h) p = refl
  onward-same k' stop p = refl

-- ---- rows

module _ {A L : Type 0} (l : Lists A L) (r : Row) (item : Reader A) (small : Shrinks item) where
  any_fuel : (f g : ℕ) (ts : List Token) → length ts < f → length ts < g → row_f f l r item ts ≡ row_f g l r item ts
  unfolding row_f
  any_fuel zero g ts p q = absurd (omega arith)
  any_fuel (suc f) zero ts p q = absurd (omega arith)
  any_fuel (suc f) (suc g) ts p q =
      then_same (small ts) (λ a us h.
      onward-same us _ _ _ (follow-behind r us) (λ ws h'. ap (mapped (l.cons a)) (any_fuel f g ws (omega arith) (omega arith))))

  -- one item, what follows it, and the row again
  pub row_is : (ts : List Token)
      → row l r item ts ≡ then (item ts) (λ a us. onward (follow r us) us (λ ws. mapped (l.cons a) (row l r item ws)) (λ ws. ok (l.one a) ws))
  unfolding row row_f
  row_is ts =
      then_same (small ts) (λ a us h.
      onward-same us _ _ _ (follow-behind r us) (λ ws h'. ap (mapped (l.cons a)) (any_fuel (length ts) (suc (length ws)) ws (omega arith) (omega arith))))

  row-left : (f : ℕ) (ts : List Token) → Left (length ts) (row_f f l r item ts)
  unfolding row_f
  row-left zero ts = fault
  row-left (suc f) ts =
      then-left (small ts) (λ a us h.
      onward-left us _ _ (follow-behind r us) (λ ws h'. mapped-left _ (left_le (omega arith) (row-left f ws))) (λ ws h'. fewer (omega arith)))

  pub row-shrinks : Shrinks (row l r item)
  unfolding row
  row-shrinks ts = row-left (suc (length ts)) ts
