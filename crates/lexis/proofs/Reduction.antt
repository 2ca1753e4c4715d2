-- Reading digit by digit is stripping the zeros of the number that the digits spell: one induction over the digits (`held_all`), and
-- what `strip` gives is the reduced form (`strip-right`).
use mathlib.Core.Path.{◌≡◌, refl, sym, ap, ◌∙◌, subst}
use mathlib.Core.Bool.{Bool, true, false, cond}
use mathlib.Core.List.{List, [], ◌∷◌}
use mathlib.Core.Logic.{◌⊎◌, ⊎_elim}
use mathlib.Core.Logic.◌⊎◌.{inl, inr}
use Prim.Native.Nat.{ℕ, zero, suc, ◌+◌, ◌-◌, ◌*◌, ◌/◌, ◌%◌, ◌^◌, ◌≤◌, ◌<◌, min, zero-le}
use native.Mathlib.Nat.{add-zero, zero-add, zero-mul, mul-one, mul-le-mul_right, mul-le-mul_left, one-le-pow, pow-suc, mul_assoc, le_of_suc-le-suc}
use native.Mathlib.Nat.{not-suc-le-zero}
use native.Mathlib.Omega.{arith}
use native.Mathlib.Decide.{dec_lt}
use lib.Dec.{eqb}
use lib.ListN.{length}
use borrow.Author.Tests.{eq-eqb, ne_eqb, eqb-true, eqb-false}
use Rattle.lexis.specs.Sizes.{mantissa_end}
use Rattle.lexis.specs.Number.{value_from, Stripped, strip}
use Rattle.lexis.specs.Push.{no_digits, push, push_all}
use Rattle.lexis.specs.declared.mantissa.Mantissa.{Mantissa}
use Rattle.lexis.proofs.Caps.{times-ten}

-- every byte is a digit
abbrev pub Digits : List ℕ → Type 0
Digits [] = Unit {0}
Digits (d ∷ ds) = (48 ≤ d) × (d ≤ 57) × Digits ds

-- m holds the number v of k digits: v is a mantissa that does not end in a zero, times ten to m's zeros; m's value is that mantissa, capped
pub record Held (v k : ℕ) (m : Mantissa) : Type 0 where
  pub mantissa : ℕ
  pub value : m.value ≡ min mantissa mantissa_end
  pub whole : v ≡ mantissa * 10 ^ m.zeros
  pub tail : ((mantissa ≡ 0) × (m.zeros ≡ 0)) ⊎ (mantissa % 10 ≡ 0 → ⊥)
  pub few : m.zeros ≤ k

held_none : Held 0 0 no_digits
held_none = record { mantissa = 0; value = refl; whole = refl; tail = inl (refl, refl); few = zero-le }

-- a product of a capped number, capped
min-scale : (x t c : ℕ) → 1 ≤ t → min (min x c * t) c ≡ min (x * t) c
min-scale x t c h = go (dec_lt c x)
  where
    go : Dec (c < x) → min (min x c * t) c ≡ min (x * t) c
    go (yes l) =
        let e : min x c ≡ c = omega arith in
        let big : c * 1 ≤ c * t = mul-le-mul_left c h in
        let more : c * t ≤ x * t = mul-le-mul_right t (omega arith) in
        rw e (omega arith)
    go (no l) = let e : min x c ≡ x = omega arith in rw e

pub held-zero : (v k : ℕ) (m : Mantissa) → Held v k m → m.value ≡ 0 → v ≡ 0
held-zero v k m h e =
    let z : h.mantissa ≡ 0 = omega (arith, h.value) in
    h.whole ∙ ap (λ (q : ℕ). q * 10 ^ m.zeros) z ∙ zero-mul (10 ^ m.zeros)

module _ (v k d : ℕ) (m : Mantissa) (h : Held v k m) (lo : 48 ≤ d) (hi : d ≤ 57) where
  -- a zero after nothing
  push-still : d ≡ 48 → m.value ≡ 0 → Held (v * 10 + (d - 48)) (k + 1) m
  push-still e z =
      let n : v ≡ 0 = held-zero v k m h z in
      record {
        mantissa = h.mantissa;
        value = h.value;
        whole = (let w : v * 10 + (d - 48) ≡ v = omega arith in w ∙ h.whole);
        tail = h.tail;
        few = omega (arith, h.few);
      }

  -- a zero after a mantissa
  push-zero : d ≡ 48 → (m.value ≡ 0 → ⊥) → Held (v * 10 + (d - 48)) (k + 1) (record { value = m.value; zeros = m.zeros + 1 })
  push-zero e n = record {
    mantissa = h.mantissa;
    value = h.value;
    whole = omega (arith, h.whole, times-ten h.mantissa m.zeros);
    tail = ⊎_elim (λ w. absurd (n (omega (arith, h.value, w.0)))) (λ w. inr w) h.tail;
    few = omega (arith, h.few);
  }

  -- another digit
  push-digit : (d ≡ 48 → ⊥)
      → Held (v * 10 + (d - 48)) (k + 1) (record { value = min (min (m.value * 10 ^ (m.zeros + 1)) mantissa_end + (d - 48)) mantissa_end; zeros = 0 })
  push-digit n =
      let p = h.mantissa in
      let t = 10 ^ (m.zeros + 1) in
      let s : min (m.value * t) mantissa_end ≡ min (p * t) mantissa_end = ap (λ (q : ℕ). min (q * t) mantissa_end) h.value
      ∙ min-scale p t mantissa_end (one-le-pow (m.zeros + 1) 10 (omega arith)) in
      record {
        mantissa = p * t + (d - 48);
        value = omega arith;
        whole = omega (arith, h.whole, times-ten p m.zeros);
        tail = inr (λ q. omega (arith, times-ten p m.zeros));
        few = zero-le;
      }

held-push : (v k d : ℕ) (m : Mantissa) → Held v k m → 48 ≤ d → d ≤ 57 → Held (v * 10 + (d - 48)) (k + 1) (push m d)
unfolding push
held-push v k d m h lo hi = go (eqb d 48) (eqb m.value 0) refl refl
  where
    go : (a b : Bool) → eqb d 48 ≡ a → eqb m.value 0 ≡ b
        → Held (v * 10 + (d - 48)) (k + 1)
        (cond a (cond b m (record { value = m.value; zeros = m.zeros + 1 }))
        (record { value = min (min (m.value * 10 ^ (m.zeros + 1)) mantissa_end + (d - 48)) mantissa_end; zeros = 0 }))
    go true true e f = push-still v k d m h lo hi (eqb-true d 48 e) (eqb-true m.value 0 f)
    go true false e f = push-zero v k d m h lo hi (eqb-true d 48 e) (eqb-false m.value 0 f)
    go false b e f = push-digit v k d m h lo hi (eqb-false d 48 e)

pub held_all : (v k : ℕ) (m : Mantissa) (ds : List ℕ) → Held v k m → Digits ds → Held (value_from v ds) (k + length ds) (push_all m ds)
unfolding value_from push_all
held_all v k m [] h t = rw (add-zero k) h
held_all v k m (d ∷ ds) h t =
    let r = held_all (v * 10 + (d - 48)) (k + 1) (push m d) ds (held-push v k d m h t.0 t.1) t.2 in
    let e : k + suc (length ds) ≡ k + 1 + length ds = omega arith in
    rw e r

pub held : (ds : List ℕ) → Digits ds → Held (value_from 0 ds) (length ds) (push_all no_digits ds)
held ds t = rw zero-add at (held_all 0 0 no_digits ds held_none t)

-- stripping a number that is a mantissa times a power of ten
pub strip-is : (z most p : ℕ) → z ≤ most → (p % 10 ≡ 0 → ⊥) → strip most (p * 10 ^ z) ≡ record { mantissa = p; zeros = z }
unfolding strip
strip-is zero zero p h n = rw (mul-one p)
strip-is zero (suc most) p h n = rw (mul-one p, ne_eqb _ 0 n)
strip-is (suc z) zero p h n = absurd (not-suc-le-zero h)
strip-is (suc z) (suc most) p h n =
    let q = p * 10 ^ z in
    let e : p * 10 ^ suc z ≡ q * 10 = rw (pow-suc 10 z) (sym (mul_assoc p (10 ^ z) 10)) in
    let m : q * 10 % 10 ≡ 0 = omega arith in
    let d : q * 10 / 10 ≡ q = omega arith in
    rw (e, eq-eqb _ 0 m, d, strip-is z most p (le_of_suc-le-suc h) n)

-- what `strip` gives of the number that digits spell is the number's reduced form: the same value, and no zero at the end
pub strip-right : (ds : List ℕ) → Digits ds → (value_from 0 ds ≡ 0 → ⊥)
    → ((strip (length ds) (value_from 0 ds)).mantissa * 10 ^ (strip (length ds) (value_from 0 ds)).zeros ≡ value_from 0 ds)
    × ((strip (length ds) (value_from 0 ds)).mantissa % 10 ≡ 0 → ⊥)
strip-right ds t n =
    let h = held ds t in
    let p = h.mantissa in
    let z = (push_all no_digits ds).zeros in
    let odd : (p % 10 ≡ 0 → ⊥) = ⊎_elim (λ w. absurd (n (h.whole ∙ ap (λ (q : ℕ). q * 10 ^ z) w.0 ∙ zero-mul (10 ^ z)))) (λ w. w) h.tail in
    let e : strip (length ds) (value_from 0 ds) ≡ record { mantissa = p; zeros = z } =
    ap (strip (length ds)) h.whole ∙ strip-is z (length ds) p h.few odd in
    (ap (λ (r : Stripped). r.mantissa * 10 ^ r.zeros) e ∙ sym h.whole, subst (λ (r : Stripped). r.mantissa % 10 ≡ 0 → ⊥) (sym e) odd)
