-- The shape of a number at a position of a text: each part lies within the text, the parts as the code finds them, the number that they
-- make, what a shape says.
use mathlib.Core.Path.{◌≡◌, refl, sym, ap, ◌∙◌}
use mathlib.Core.Bool.{Bool, true, false, cond, ◌||◌, false≢true}
use mathlib.Core.List.{List, [], ◌∷◌}
use Prim.Native.Nat.{ℕ, zero, suc, ◌+◌, ◌-◌, ◌≤◌, zero-le, suc-le-suc}
use native.Mathlib.Nat.{sub-zero, le_refl}
use native.Mathlib.Omega.{arith}
use lib.Dec.{eqb, leb}
use lib.ListN.{length, take, drop, get_or, length-drop}
use lib.Seq.{drop-drop, get_or-drop}
use borrow.Author.Tests.{eq-eqb, ne_eqb}
use Rattle.lexis.specs.Sizes.{max_number}
use Rattle.lexis.specs.Bytes.{class_of, is_digit, span_len}
use Rattle.lexis.specs.Number.{digits, led, frac_len, sign_len, is_e, exp_len, parts_of, parts_len, sticks, in_range}
use Rattle.lexis.specs.Lexeme.{number_lexeme}
use Rattle.lexis.specs.Shapes.{shape_of}
use Rattle.std.specs.Prelude.{Option, Some, None}
use Rattle.lexis.specs.declared.number.Parts.{Parts}
use Rattle.lexis.specs.Lexeme.{Token, Fault}
use Rattle.lexis.proofs.Positions.{front, span-le}

led-some : (l d : ℕ) → (d ≡ 0 → ⊥) → led l d ≡ l + d
led-some l zero h = absurd (h refl)
led-some l (suc d) h = refl

led-le : (l d : ℕ) → led l d ≤ l + d
led-le l zero = zero-le
led-le l (suc d) = le_refl (l + suc d)

cond-le : (b : Bool) (m n : ℕ) → m ≤ n → cond b m 0 ≤ n
cond-le true m n h = h
cond-le false m n h = zero-le

-- ---- each part is within its text

pub frac-le : (s : List ℕ) → frac_len s ≤ length s
unfolding frac_len
frac-le [] = zero-le
frac-le (x ∷ s) = cond-le (eqb x 46) (led 1 (digits s)) (suc (length s)) (omega (arith, led-le 1 (digits s), span-le is_digit s))

pub sign_le : (s : List ℕ) → sign_len s ≤ length s
unfolding sign_len
sign_le [] = zero-le
sign_le (x ∷ s) = cond-le (eqb x 43 || eqb x 45) 1 (suc (length s)) (suc-le-suc zero-le)

pub sign_small : (s : List ℕ) → sign_len s ≤ 1
unfolding sign_len
sign_small s = cond-le (eqb (get_or s 0 0) 43 || eqb (get_or s 0 0) 45) 1 1 (le_refl 1)

exp-le-cons : (x : ℕ) (s : List ℕ) (g : ℕ) → g ≤ length s → led (1 + g) (digits (drop (1 + g) (x ∷ s))) ≤ suc (length s)
exp-le-cons x s g h =
    omega (arith, led-le (1 + g) (digits (drop (1 + g) (x ∷ s))), span-le is_digit (drop (1 + g) (x ∷ s)), length-drop (1 + g) (x ∷ s))

pub exp-le : (s : List ℕ) → exp_len s ≤ length s
unfolding exp_len is_e
exp-le [] = zero-le
exp-le (x ∷ s) =
    cond-le (eqb x 101 || eqb x 69) (led (1 + sign_len s) (digits (drop (1 + sign_len s) (x ∷ s)))) (suc (length s)) (exp-le-cons x s (sign_len s) (sign_le s))

pub parts-le : (s : List ℕ) → parts_len (parts_of s) ≤ length s
unfolding parts_of
parts-le s =
    let w = digits s in
    let f = frac_len (drop w s) in
    omega (arith, span-le is_digit s, frac-le (drop w s), exp-le (drop (w + f) s), length-drop w s, length-drop (w + f) s)

-- ---- at a position

free-e : (b : ℕ) → sticks b ≡ false → is_e b ≡ false
unfolding is_e sticks class_of
free-e b t = rw (ne_eqb b 101 (λ e. false≢true (sym t ∙ ap sticks e)), ne_eqb b 69 (λ e. false≢true (sym t ∙ ap sticks e)))

module _ (s : List ℕ) (at : ℕ) where
  pub frac-none : (get_or s at 0 ≡ 46 → ⊥) → 0 ≡ frac_len (drop at s)
  unfolding frac_len
  frac-none n = rw (front s at, ne_eqb _ 46 n)

  frac-here : get_or s at 0 ≡ 46 → frac_len (drop at s) ≡ led 1 (digits (drop (at + 1) s))
  unfolding frac_len
  frac-here e = rw (front s at, eq-eqb _ 46 e, drop-drop 1 at s)

  pub frac-bare : (end : ℕ) → get_or s at 0 ≡ 46 → end ≡ at + 1 + span_len is_digit (drop (at + 1) s) → end ≡ at + 1 → 0 ≡ frac_len (drop at s)
  frac-bare end e r z =
      let d : digits (drop (at + 1) s) ≡ 0 = omega arith in
      rw (frac-here e, d)

  pub frac-some : (end : ℕ) → get_or s at 0 ≡ 46 → end ≡ at + 1 + span_len is_digit (drop (at + 1) s) → (end ≡ at + 1 → ⊥) → end - at ≡ frac_len (drop at s)
  frac-some end e r z =
      let d : (digits (drop (at + 1) s) ≡ 0 → ⊥) = λ q. z (omega arith) in
      rw (frac-here e, led-some 1 _ d) (omega arith)

  pub sign-plus : get_or s at 0 ≡ 43 → 1 ≡ sign_len (drop at s)
  unfolding sign_len
  sign-plus e = rw (front s at, eq-eqb _ 43 e)

  pub sign-minus : (get_or s at 0 ≡ 43 → ⊥) → get_or s at 0 ≡ 45 → 1 ≡ sign_len (drop at s)
  unfolding sign_len
  sign-minus n e = rw (front s at, ne_eqb _ 43 n, eq-eqb _ 45 e)

  pub sign-none : (get_or s at 0 ≡ 43 → ⊥) → (get_or s at 0 ≡ 45 → ⊥) → 0 ≡ sign_len (drop at s)
  unfolding sign_len
  sign-none n m = rw (front s at, ne_eqb _ 43 n, ne_eqb _ 45 m)

  pub exp-none : is_e (get_or s at 0) ≡ false → 0 ≡ exp_len (drop at s)
  unfolding exp_len
  exp-none t = rw (front s at, t)

  module _ (g end : ℕ) (sign : g ≡ sign_len (drop (at + 1) s)) (run : end ≡ at + (1 + g) + span_len is_digit (drop (at + (1 + g)) s)) where
    exp-here : is_e (get_or s at 0) ≡ true → exp_len (drop at s) ≡ led (1 + g) (digits (drop (at + (1 + g)) s))
    unfolding exp_len
    exp-here t = rw (front s at, t, drop-drop 1 at s, ← sign, drop-drop (1 + g) at s)

    pub exp-bare : is_e (get_or s at 0) ≡ true → end ≡ at + (1 + g) → 0 ≡ exp_len (drop at s)
    exp-bare t z =
        let d : digits (drop (at + (1 + g)) s) ≡ 0 = omega arith in
        rw (exp-here t, d)

    pub exp-some : is_e (get_or s at 0) ≡ true → (end ≡ at + (1 + g) → ⊥) → end - at ≡ exp_len (drop at s)
    exp-some t z =
        let d : (digits (drop (at + (1 + g)) s) ≡ 0 → ⊥) = λ q. z (omega arith) in
        rw (exp-here t, led-some (1 + g) _ d) (omega arith)

  pub parts_are : (end f x : ℕ) → end ≡ at + span_len is_digit (drop at s) → f ≡ frac_len (drop end s) → x ≡ exp_len (drop (end + f) s)
      → record { whole = end - at; frac = f; exp = x } ≡ parts_of (drop at s)
  unfolding parts_of
  parts_are end f x e ef ex =
      let w : ℕ = digits (drop at s) in
      let w1 : end - at ≡ w = omega arith in
      let d1 : drop w (drop at s) ≡ drop end s = drop-drop w at s ∙ ap (λ (n : ℕ). drop n s) (sym e) in
      let f1 : frac_len (drop w (drop at s)) ≡ f = ap frac_len d1 ∙ sym ef in
      let n1 : at + (w + f) ≡ end + f = omega arith in
      let x1 : exp_len (drop (w + frac_len (drop w (drop at s))) (drop at s)) ≡ x =
      ap (λ (n : ℕ). exp_len (drop (w + n) (drop at s))) f1 ∙ ap exp_len (drop-drop (w + f) at s ∙ ap (λ (n : ℕ). drop n s) n1) ∙ sym ex in
      λ k. record { whole = w1 k; frac = sym f1 k; exp = sym x1 k }

  -- nothing that sticks: no fraction, no exponent
  free-frac : sticks (get_or s at 0) ≡ false → 0 ≡ frac_len (drop at s)
  unfolding sticks class_of
  free-frac t = frac-none (λ e. false≢true (sym t ∙ ap sticks e))

  free-exp : sticks (get_or s at 0) ≡ false → 0 ≡ exp_len (drop at s)
  free-exp t = exp-none (free-e (get_or s at 0) t)

  module _ (p : Parts) (is : p ≡ parts_of (drop at s)) where
    pub parts_in : at ≤ length s → at + parts_len p ≤ length s
    parts_in h = rw is (omega (arith, parts-le (drop at s), length-drop at s))

    pub number-sticks : sticks (get_or s (at + parts_len p) 0) ≡ true → Fault 4 ≡ number_lexeme (drop at s)
    unfolding number_lexeme
    number-sticks t = rw (← is, get_or-drop at s (parts_len p) 0, t)

    module _ (free : sticks (get_or s (at + parts_len p) 0) ≡ false) where
      pub number-long : leb (parts_len p) max_number ≡ false → Fault 6 ≡ number_lexeme (drop at s)
      unfolding number_lexeme
      number-long t = rw (← is, get_or-drop at s (parts_len p) 0, free, t)

      pub number-out : leb (parts_len p) max_number ≡ true → in_range (take (parts_len p) (drop at s)) (parts_of (take (parts_len p) (drop at s))) ≡ false
          → Fault 7 ≡ number_lexeme (drop at s)
      unfolding number_lexeme
      number-out t r = rw (← is, get_or-drop at s (parts_len p) 0, free, t, r)

      pub number-whole : leb (parts_len p) max_number ≡ true → in_range (take (parts_len p) (drop at s)) (parts_of (take (parts_len p) (drop at s))) ≡ true
          → parts_len p ≡ p.whole → Token 2 (parts_len p) ≡ number_lexeme (drop at s)
      unfolding number_lexeme
      number-whole t r e = rw (← is, get_or-drop at s (parts_len p) 0, free, t, r, eq-eqb _ _ e)

      pub number-real : leb (parts_len p) max_number ≡ true → in_range (take (parts_len p) (drop at s)) (parts_of (take (parts_len p) (drop at s))) ≡ true
          → (parts_len p ≡ p.whole → ⊥) → Token 3 (parts_len p) ≡ number_lexeme (drop at s)
      unfolding number_lexeme
      number-real t r n = rw (← is, get_or-drop at s (parts_len p) 0, free, t, r, ne_eqb _ _ n)

  pub frac-in : (f : ℕ) → f ≡ frac_len (drop at s) → at ≤ length s → at + f ≤ length s
  frac-in f e h = omega (arith, frac-le (drop at s), length-drop at s)

  pub exp_in : (x : ℕ) → x ≡ exp_len (drop at s) → at ≤ length s → at + x ≤ length s
  exp_in x e h = omega (arith, exp-le (drop at s), length-drop at s)

-- the parts of the number at the front of a text
abbrev parts-with : ℕ → ℕ → ℕ → Parts
parts-with w f x = record { whole = w; frac = f; exp = x }

pub parts-front : (s : List ℕ) (n f x : ℕ) → n ≡ 0 + span_len is_digit s → f ≡ frac_len (drop n s) → x ≡ exp_len (drop (n + f) s)
    → record { whole = n; frac = f; exp = x } ≡ parts_of s
parts-front s n f x e ef ex = ap (λ (a : ℕ). parts-with a f x) (sym (sub-zero n)) ∙ parts_are s 0 n f x e ef ex

-- ---- the shape

module _ (s : List ℕ) (at end : ℕ) (run : end ≡ at + span_len is_digit (drop at s)) where
  shape-here : (f x : ℕ) (b : Bool) → f ≡ frac_len (drop end s) → x ≡ exp_len (drop (end + f) s) → sticks (get_or s (end + f + x) 0) ≡ b
      → shape_of (drop at s) ≡ cond b None (Some (record { whole = end - at; frac = f; exp = x }))
  unfolding shape_of
  shape-here f x b ef ex t =
      let p : record { whole = end - at; frac = f; exp = x } ≡ parts_of (drop at s) = parts_are s at end f x run ef ex in
      let q : at + (end - at + f + x) ≡ end + f + x = omega arith in
      rw (← p, get_or-drop at s (end - at + f + x) 0, q, t)

  pub shape-whole : sticks (get_or s end 0) ≡ false → Some (record { whole = end - at; frac = 0; exp = 0 }) ≡ shape_of (drop at s)
  shape-whole t =
      let e : end + 0 ≡ end = omega arith in
      let g : end + 0 + 0 ≡ end = omega arith in
      sym (shape-here 0 0 false (free-frac s end t) (rw e (free-exp s end t)) (rw g t))

  pub shape-frac : (f : ℕ) → f ≡ frac_len (drop end s) → sticks (get_or s (end + f) 0) ≡ false
      → Some (record { whole = end - at; frac = f; exp = 0 }) ≡ shape_of (drop at s)
  shape-frac f ef t =
      let g : end + f + 0 ≡ end + f = omega arith in
      sym (shape-here f 0 false ef (free-exp s (end + f) t) (rw g t))

  pub shape-exp : (f x : ℕ) → f ≡ frac_len (drop end s) → x ≡ exp_len (drop (end + f) s) → sticks (get_or s (end + f + x) 0) ≡ false
      → Some (record { whole = end - at; frac = f; exp = x }) ≡ shape_of (drop at s)
  shape-exp f x ef ex t = sym (shape-here f x false ef ex t)

  pub shape-stuck : (f x : ℕ) → f ≡ frac_len (drop end s) → x ≡ exp_len (drop (end + f) s) → sticks (get_or s (end + f + x) 0) ≡ true → None ≡ shape_of (drop at s)
  shape-stuck f x ef ex t = sym (shape-here f x true ef ex t)

-- ---- what a shape says

pub is_stuck : (s : List ℕ) (at : ℕ) (r : Option Parts) → r ≡ shape_of (drop at s) → r ≡ None → Fault 4 ≡ number_lexeme (drop at s)
unfolding shape_of
is_stuck s at r e q = go (sticks (get_or (drop at s) (parts_len (parts_of (drop at s))) 0)) refl (sym q ∙ e)
  where
    go : (b : Bool) → sticks (get_or (drop at s) (parts_len (parts_of (drop at s))) 0) ≡ b → None ≡ cond b None (Some (parts_of (drop at s)))
        → Fault 4 ≡ number_lexeme (drop at s)
    go true t z = number-sticks s at (parts_of (drop at s)) refl (ap sticks (sym (get_or-drop at s (parts_len (parts_of (drop at s))) 0)) ∙ t)
    go false t z = let z' : ◌≡◌ {A = ℕ} 0 1 = cc in absurd (omega arith)

pub record Shaped (s : List ℕ) (at : ℕ) (p : Parts) : Type 0 where
  pub is : p ≡ parts_of (drop at s)
  pub free : sticks (get_or s (at + parts_len p) 0) ≡ false

pub is-good : (s : List ℕ) (at : ℕ) (r : Option Parts) (p : Parts) → r ≡ shape_of (drop at s) → r ≡ Some p → Shaped s at p
unfolding shape_of
is-good s at r p e q = go (sticks (get_or (drop at s) (parts_len (parts_of (drop at s))) 0)) refl (sym q ∙ e)
  where
    go : (b : Bool) → sticks (get_or (drop at s) (parts_len (parts_of (drop at s))) 0) ≡ b → Some p ≡ cond b None (Some (parts_of (drop at s))) → Shaped s at p
    go true t z = let z' : ◌≡◌ {A = ℕ} 0 1 = cc in absurd (omega arith)
    go false t z =
        let same : p ≡ parts_of (drop at s) = cc in
        record { is = same; free = rw (same, ← get_or-drop at s (parts_len (parts_of (drop at s))) 0) t }
