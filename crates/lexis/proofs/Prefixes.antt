-- The number at the front of a text is read off its own bytes: its parts are those of the whole text (`parts-take`).
use mathlib.Core.Path.{◌≡◌, refl, sym, ap, ◌∙◌}
use mathlib.Core.Bool.{Bool, true, false, cond, ◌||◌}
use mathlib.Core.List.{List, [], ◌∷◌}
use Prim.Native.Nat.{ℕ, zero, suc, ◌+◌, ◌-◌, ◌≤◌, min}
use native.Mathlib.Nat.{sub-zero, le_refl}
use native.Mathlib.Omega.{arith}
use lib.Dec.{eqb}
use lib.ListN.{take, drop}
use lib.Seq.{take-nil}
use Rattle.lexis.specs.Bytes.{is_digit, span_len}
use Rattle.lexis.specs.Number.{digits, led, frac_len, sign_len, is_e, exp_len, parts_of, parts_len, in_range}
use Rattle.lexis.specs.declared.number.Parts.{Parts}
use Rattle.lexis.proofs.Shapes.{parts-front, sign_small}

drop_of_take : (k m : ℕ) (s : List ℕ) → drop k (take m s) ≡ take (m - k) (drop k s)
drop_of_take zero m s = ap (λ (n : ℕ). take n s) (sym (sub-zero m))
drop_of_take (suc k) zero s = let e : 0 - suc k ≡ 0 = omega arith in rw e
drop_of_take (suc k) (suc m) [] = sym (take-nil (suc m - suc k))
drop_of_take (suc k) (suc m) (x ∷ s) = let e : suc m - suc k ≡ m - k = omega arith in rw e (drop_of_take k m s)

span-cons : (b : Bool) (k l m : ℕ) → k ≡ min m l → cond b (suc k) 0 ≡ min (suc m) (cond b (suc l) 0)
span-cons true k l m e = omega arith
span-cons false k l m e = omega arith

pub span-take : (f : ℕ → Bool) (m : ℕ) (s : List ℕ) → span_len f (take m s) ≡ min m (span_len f s)
unfolding span_len
span-take f zero s = omega arith
span-take f (suc m) [] = omega arith
span-take f (suc m) (x ∷ s) = span-cons (f x) (span_len f (take m s)) (span_len f s) m (span-take f m s)

led-take : (l d e m : ℕ) → e ≡ min m d → led l d ≤ l + m → led l e ≡ led l d
led-take l zero e m q h = let z : e ≡ 0 = omega arith in ap (led l) z
led-take l (suc d) e m q h = let z : e ≡ suc d = omega arith in ap (led l) z

frac-cons : (b : Bool) (d e m : ℕ) → e ≡ min m d → cond b (led 1 d) 0 ≤ suc m → cond b (led 1 e) 0 ≡ cond b (led 1 d) 0
frac-cons true d e m q h = led-take 1 d e m q (omega arith)
frac-cons false d e m q h = refl

frac-take : (m : ℕ) (s : List ℕ) → frac_len s ≤ m → frac_len (take m s) ≡ frac_len s
unfolding frac_len
frac-take zero s h = omega arith
frac-take (suc m) [] h = refl
frac-take (suc m) (y ∷ s) h = frac-cons (eqb y 46) (digits s) (digits (take m s)) m (span-take is_digit m s) h

exp-short : (b : Bool) (g d : ℕ) → cond b (led (1 + g) d) 0 ≤ 1 → cond b 0 0 ≡ cond b (led (1 + g) d) 0
exp-short true g zero h = refl
exp-short true g (suc d) h = absurd (omega arith)
exp-short false g d h = refl

drop_more : (g y : ℕ) (s : List ℕ) → drop (1 + g) (y ∷ s) ≡ drop g s
drop_more g y s = let e : 1 + g ≡ suc g = omega arith in rw e

exp-cons : (b : Bool) (g d e m : ℕ) → g ≤ m → e ≡ min (m - g) d → cond b (led (1 + g) d) 0 ≤ suc m → cond b (led (1 + g) e) 0 ≡ cond b (led (1 + g) d) 0
exp-cons true g d e m k q h = led-take (1 + g) d e (m - g) q (omega arith)
exp-cons false g d e m k q h = refl

exp-take : (m : ℕ) (s : List ℕ) → exp_len s ≤ m → exp_len (take m s) ≡ exp_len s
unfolding exp_len is_e sign_len span_len
exp-take zero s h = omega arith
exp-take (suc m) [] h = refl
exp-take (suc zero) (y ∷ s) h = exp-short (eqb y 101 || eqb y 69) (sign_len s) (digits (drop (1 + sign_len s) (y ∷ s))) h
exp-take (suc (suc m)) (y ∷ []) h = refl
exp-take (suc (suc m)) (y ∷ (z ∷ s)) h =
    let g = sign_len (z ∷ s) in
    exp-cons (eqb y 101 || eqb y 69) g (digits (drop (1 + g) (y ∷ (z ∷ s)))) (digits (drop (1 + g) (y ∷ (z ∷ take m s)))) (suc m)
    (omega (arith, sign_small (z ∷ s)))
    (ap digits (drop_more g y (z ∷ take m s) ∙ drop_of_take g (suc m) (z ∷ s)) ∙ span-take is_digit (suc m - g) (drop g (z ∷ s))
    ∙ ap (λ (l : List ℕ). min (suc m - g) (digits l)) (sym (drop_more g y (z ∷ s))))
    h

-- the parts of a number are found in any part of the text that holds the number
pub parts-take : (s : List ℕ) (m : ℕ) → parts_len (parts_of s) ≤ m → parts_of (take m s) ≡ parts_of s
unfolding parts_of
parts-take s m h =
    let w = digits s in
    let f = frac_len (drop w s) in
    let x = exp_len (drop (w + f) s) in
    let e : w ≡ 0 + span_len is_digit (take m s) = omega (arith, span-take is_digit m s) in
    let d1 : drop w (take m s) ≡ take (m - w) (drop w s) = drop_of_take w m s in
    let d2 : drop (w + f) (take m s) ≡ take (m - (w + f)) (drop (w + f) s) = drop_of_take (w + f) m s in
    let ef : f ≡ frac_len (drop w (take m s)) = sym (ap frac_len d1 ∙ frac-take (m - w) (drop w s) (omega arith)) in
    let ex : x ≡ exp_len (drop (w + f) (take m s)) = sym (ap exp_len d2 ∙ exp-take (m - (w + f)) (drop (w + f) s) (omega arith)) in
    sym (parts-front (take m s) w f x e ef ex)

module _ (s : List ℕ) (at : ℕ) (p : Parts) (is : p ≡ parts_of (drop at s)) where
  len : at + parts_len p - at ≡ parts_len p
  len = omega arith

  own : p ≡ parts_of (take (parts_len p) (drop at s))
  own = is ∙ sym (parts-take (drop at s) (parts_len (parts_of (drop at s))) (le_refl _)) ∙ ap (λ (q : Parts). parts_of (take (parts_len q) (drop at s))) (sym is)

  -- the part of the text that is handed on as the number's bytes
  pub parts-own : p ≡ parts_of (take (at + parts_len p - at) (drop at s))
  parts-own = rw len own

  pub range-own : (r b : Bool) → r ≡ in_range (take (at + parts_len p - at) (drop at s)) p → r ≡ b
      → in_range (take (parts_len p) (drop at s)) (parts_of (take (parts_len p) (drop at s))) ≡ b
  range-own r b e f =
      ap (in_range (take (parts_len p) (drop at s))) (sym own) ∙ ap (λ (k : ℕ). in_range (take k (drop at s)) p) (sym len) ∙ sym e ∙ f
