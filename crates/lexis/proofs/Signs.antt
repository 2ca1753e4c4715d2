-- Signed sums as differences of two natural numbers: every value that a signed local takes is `sub_ℕ a b`, and a law moves each
-- operation into a or b. So a bound on a signed value is two bounds on natural numbers.
use mathlib.Core.Path.{◌≡◌, refl, sym, ap, ◌∙◌, subst}
use mathlib.Core.Bool.{Bool, true, false, cond, not, ◌&&◌}
use Prim.Native.Nat.{ℕ, zero, suc, ◌+◌, ◌-◌, ◌^◌, ◌≤◌, ◌<◌, zero-le}
use native.Mathlib.Nat.{sub-zero, zero-add}
use native.Mathlib.Omega.{arith}
use native.Mathlib.Decide.{dec_lt}
use lib.Dec.{ltb, leb}
use lib.IntN.{ℤ, pos, negsuc, sub_ℕ, ◌+ℤ◌, ◌-ℤ◌}
use lib.Signed.{mag, le_z, lt_z}
use borrow.Author.Tests.{lt-ltb, le-ltb, le-leb, lt-leb}
use mir.Syntax.{w32}
use mir.Val.{SFits, to_z, of_z}
use mir.Facts.{to_z-of_z, to_z_pos}
use Rattle.lexis.specs.Sizes.{max_number, max_written, max_exponent}
use Rattle.lexis.specs.Number.{signed, is_near}

sub-lt : (a b : ℕ) → a < b → sub_ℕ a b ≡ negsuc (b - suc a)
sub-lt a b h = rw (lt-ltb a b h)

sub-ge : (a b : ℕ) → b ≤ a → sub_ℕ a b ≡ pos (a - b)
sub-ge a b h = rw (le-ltb a b h)

pos-same : {m n : ℕ} → pos m ≡ pos n → m ≡ n
pos-same e = cc

negsuc-same : {m n : ℕ} → negsuc m ≡ negsuc n → m ≡ n
negsuc-same e = cc

apart : {m n : ℕ} → pos m ≡ negsuc n → ⊥
apart e = let z : ◌≡◌ {A = ℕ} 0 1 = cc in omega arith

-- two differences are equal where the sums across are
pub sub_same : (a b c d : ℕ) → a + d ≡ c + b → sub_ℕ a b ≡ sub_ℕ c d
sub_same a b c d e = go (dec_lt a b)
  where
    go : Dec (a < b) → sub_ℕ a b ≡ sub_ℕ c d
    go (yes l) = sub-lt a b l ∙ ap negsuc (omega arith) ∙ sym (sub-lt c d (omega arith))
    go (no n) = sub-ge a b (omega arith) ∙ ap pos (omega arith) ∙ sym (sub-ge c d (omega arith))

-- and only there
pub sub-across : (a b c d : ℕ) → sub_ℕ a b ≡ sub_ℕ c d → a + d ≡ c + b
sub-across a b c d e = go (dec_lt a b) (dec_lt c d)
  where
    go : Dec (a < b) → Dec (c < d) → a + d ≡ c + b
    go (yes l) (yes m) = let z : b - suc a ≡ d - suc c = negsuc-same (sym (sub-lt a b l) ∙ e ∙ sub-lt c d m) in omega arith
    go (yes l) (no m) = let h : d ≤ c = omega arith in absurd (apart (sym (sub-ge c d h) ∙ sym e ∙ sub-lt a b l))
    go (no l) (yes m) = let h : b ≤ a = omega arith in absurd (apart (sym (sub-ge a b h) ∙ e ∙ sub-lt c d m))
    go (no l) (no m) =
        let h : b ≤ a = omega arith in
        let k : d ≤ c = omega arith in
        let z : a - b ≡ c - d = pos-same (sym (sub-ge a b h) ∙ e ∙ sub-ge c d k) in
        omega arith

pub pos-sub : (n : ℕ) → pos n ≡ sub_ℕ n 0
pos-sub n = sym (sub-ge n 0 zero-le ∙ ap pos (sub-zero n))

-- a signed number is one
pub signed_sub : (minus : Bool) (n : ℕ) → sub_ℕ (cond minus 0 n) (cond minus n 0) ≡ signed minus n
signed_sub false n = sym (pos-sub n)
signed_sub true zero = refl
signed_sub true (suc n) = sub-lt 0 (suc n) (omega arith) ∙ ap negsuc (omega arith)

pub add-sub : (a b n : ℕ) → sub_ℕ a b +ℤ pos n ≡ sub_ℕ (a + n) b
add-sub a b n = go (dec_lt a b)
  where
    go : Dec (a < b) → sub_ℕ a b +ℤ pos n ≡ sub_ℕ (a + n) b
    go (yes l) = ap (λ (z : ℤ). z +ℤ pos n) (sub-lt a b l) ∙ sub_same n (suc (b - suc a)) (a + n) b (omega arith)
    go (no l) = ap (λ (z : ℤ). z +ℤ pos n) (sub-ge a b (omega arith)) ∙ sym (sub-ge (a + n) b (omega arith) ∙ ap pos (omega arith))

sub-sub-suc : (a b n : ℕ) → sub_ℕ a b +ℤ negsuc n ≡ sub_ℕ a (b + suc n)
sub-sub-suc a b n = go (dec_lt a b)
  where
    go : Dec (a < b) → sub_ℕ a b +ℤ negsuc n ≡ sub_ℕ a (b + suc n)
    go (yes l) = ap (λ (z : ℤ). z +ℤ negsuc n) (sub-lt a b l) ∙ ap negsuc (omega arith) ∙ sym (sub-lt a (b + suc n) (omega arith))
    go (no l) = ap (λ (z : ℤ). z +ℤ negsuc n) (sub-ge a b (omega arith)) ∙ sub_same (a - b) (suc n) a (b + suc n) (omega arith)

pub sub-sub : (a b n : ℕ) → sub_ℕ a b -ℤ pos n ≡ sub_ℕ a (b + n)
sub-sub a b zero = add-sub a b 0 ∙ sub_same (a + 0) b a (b + 0) (omega arith)
sub-sub a b (suc n) = sub-sub-suc a b n

mag-sub : (a b m : ℕ) → a < m → b ≤ m → mag (sub_ℕ a b) < m
mag-sub a b m h k = go (dec_lt a b)
  where
    go : Dec (a < b) → mag (sub_ℕ a b) < m
    go (yes l) = rw (sub-lt a b l) (omega arith)
    go (no l) = rw (sub-ge a b (omega arith)) (omega arith)

-- a difference of small numbers fits an i32
pub sub-fits : (a b : ℕ) → a < 2 ^ 31 → b ≤ 2 ^ 31 → SFits w32 (sub_ℕ a b)
sub-fits a b h k = record { sfits = mag-sub a b (2 ^ 31) h k }

-- a small u32 read as an i32
pub small-sub : (n : ℕ) → n < 2 ^ 31 → to_z w32 n ≡ sub_ℕ n 0
small-sub n h = to_z_pos w32 h ∙ pos-sub n

pub back : (a b : ℕ) → a < 2 ^ 31 → b ≤ 2 ^ 31 → to_z w32 (of_z w32 (sub_ℕ a b)) ≡ sub_ℕ a b
back a b h k = to_z-of_z (sub-fits a b h k)

-- ---- the exponent's sums, as the machine computes them: a signed local holds bits

pub neg_is : (n : ℕ) → n < 2 ^ 31 → pos 0 -ℤ to_z w32 n ≡ sub_ℕ 0 n
neg_is n h =
    ap (λ (z : ℤ). pos 0 -ℤ z) (to_z_pos w32 h) ∙ ap (λ (z : ℤ). z -ℤ pos n) (pos-sub 0) ∙ sub-sub 0 0 n ∙ ap (sub_ℕ 0) (zero-add n)

module _ (a b p z : ℕ) (ha : a ≤ max_written) (hb : b ≤ max_written) (hp : p ≤ max_number) (hz : z ≤ max_number) (r : ℤ) (is : r ≡ sub_ℕ a b) where
  diff : to_z w32 (of_z w32 r) -ℤ to_z w32 p ≡ sub_ℕ a (b + p)
  diff =
      ap (λ (y : ℤ). to_z w32 (of_z w32 y) -ℤ to_z w32 p) is ∙ ap (λ (y : ℤ). y -ℤ to_z w32 p) (back a b (omega arith) (omega arith))
      ∙ ap (λ (y : ℤ). sub_ℕ a b -ℤ y) (to_z_pos w32 {n = p} (omega arith)) ∙ sub-sub a b p

  pub diff-fits : SFits w32 (to_z w32 (of_z w32 r) -ℤ to_z w32 p)
  diff-fits = subst (SFits w32) (sym diff) (sub-fits a (b + p) (omega arith) (omega arith))

  sum : to_z w32 (of_z w32 (to_z w32 (of_z w32 r) -ℤ to_z w32 p)) +ℤ to_z w32 z ≡ sub_ℕ (a + z) (b + p)
  sum =
      ap (λ (y : ℤ). to_z w32 (of_z w32 y) +ℤ to_z w32 z) diff ∙ ap (λ (y : ℤ). y +ℤ to_z w32 z) (back a (b + p) (omega arith) (omega arith))
      ∙ ap (λ (y : ℤ). sub_ℕ a (b + p) +ℤ y) (to_z_pos w32 {n = z} (omega arith)) ∙ add-sub a (b + p) z

  pub sum_fits : SFits w32 (to_z w32 (of_z w32 (to_z w32 (of_z w32 r) -ℤ to_z w32 p)) +ℤ to_z w32 z)
  sum_fits = subst (SFits w32) (sym sum) (sub-fits (a + z) (b + p) (omega arith) (omega arith))

  pub sum_is : to_z w32 (of_z w32 (to_z w32 (of_z w32 (to_z w32 (of_z w32 r) -ℤ to_z w32 p)) +ℤ to_z w32 z)) ≡ sub_ℕ (a + z) (b + p)
  sum_is = ap (λ (y : ℤ). to_z w32 (of_z w32 y)) sum ∙ back (a + z) (b + p) (omega arith) (omega arith)

pub cond_small : (b : Bool) (m n k : ℕ) → m ≤ k → n ≤ k → cond b m n ≤ k
cond_small true m n k h l = h
cond_small false m n k h l = l

-- ---- the order

not-ltb : (a b : ℕ) → leb b a ≡ not (ltb a b)
not-ltb a b = go (dec_lt a b)
  where
    go : Dec (a < b) → leb b a ≡ not (ltb a b)
    go (yes l) = rw (lt-leb b a l, lt-ltb a b l)
    go (no n) = let h : b ≤ a = omega arith in rw (le-leb b a h, le-ltb a b h)

pub not_lt_z : (a b : ℤ) → le_z b a ≡ not (lt_z a b)
not_lt_z (pos a) (pos b) = not-ltb a b
not_lt_z (pos a) (negsuc b) = refl
not_lt_z (negsuc a) (pos b) = refl
not_lt_z (negsuc a) (negsuc b) = not-ltb b a

-- a difference of numbers to 64 is near
pub near-small : (a b : ℕ) → a ≤ max_exponent → b ≤ max_exponent → is_near (sub_ℕ a b) ≡ true
unfolding is_near
near-small a b h k = go (dec_lt a b)
  where
    go : Dec (a < b) → (le_z (negsuc 998) (sub_ℕ a b) && le_z (sub_ℕ a b) (pos 999)) ≡ true
    go (yes l) = rw (sub-lt a b l, le-leb (b - suc a) 998 (omega arith))
    go (no l) = rw (sub-ge a b (omega arith), le-leb (a - b) 999 (omega arith))
