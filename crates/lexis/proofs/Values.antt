-- The reduced number has the value that the number spells, and its mantissa ends in no zero: for every text, by `strip-right`.
-- A number spells its digits, times ten to `up`, over ten to `down`. No fractions are needed: both sides are brought to one denominator.
-- Relies on `Reduction` for the digits and `Signs` for differences.
use mathlib.Core.Path.{◌≡◌, refl, sym, ap, ◌∙◌}
use mathlib.Core.Bool.{Bool, true, false, cond}
use mathlib.Core.List.{List}
use Prim.Native.Nat.{ℕ, zero, suc, pred, ◌+◌, ◌*◌, ◌^◌}
use native.Mathlib.Nat.{add-zero, mul_assoc, mul-one, zero-mul, pow-zero, pow-suc}
use native.Mathlib.Omega.{arith}
use lib.Dec.{eqb}
use lib.ListN.{length}
use lib.IntN.{pos}
use borrow.Author.Tests.{eqb-true, eqb-false}
use Rattle.lexis.specs.Number.{spelt, up, down, IsReduced, parts_of, digits_of, written_of, minus_of, strip, exponent_of, reduced_of}
use Rattle.lexis.proofs.Signs.{sub-across}
use Rattle.lexis.proofs.Reduction.{strip-right}
use Rattle.lexis.proofs.Ranges.{digits_are}

pow-add : (n a b : ℕ) → n ^ (a + b) ≡ n ^ a * n ^ b
pow-add n a zero = rw (add-zero a, pow-zero n, mul-one (n ^ a))
pow-add n a (suc b) =
    let e : a + suc b ≡ suc (a + b) = omega arith in
    rw (e, pow-suc n (a + b), pow-suc n b, pow-add n a b) (mul_assoc (n ^ a) (n ^ b) n)

gather : (m a b : ℕ) → m * 10 ^ a * 10 ^ b ≡ m * 10 ^ (a + b)
gather m a b = mul_assoc m (10 ^ a) (10 ^ b) ∙ ap (λ (t : ℕ). m * t) (sym (pow-add 10 a b))

same-value : (v m z u d x y : ℕ) → m * 10 ^ z ≡ v → u + z + y ≡ x + d → m * 10 ^ x * 10 ^ d ≡ v * 10 ^ u * 10 ^ y
same-value v m z u d x y e q =
    let k : x + d ≡ z + (u + y) = omega arith in
    gather m x d ∙ ap (λ (t : ℕ). m * 10 ^ t) k ∙ sym (gather m z (u + y)) ∙ ap (λ (t : ℕ). t * 10 ^ (u + y)) e ∙ sym (gather v u y)

nothing : (a b : ℕ) → 0 * a * b ≡ 0
nothing a b = ap (λ (t : ℕ). t * b) (zero-mul a) ∙ zero-mul b

pub is-reduced : (w : List ℕ) → IsReduced w (reduced_of w (parts_of w))
unfolding reduced_of
is-reduced w = go (eqb (spelt w) 0) refl
  where
    go : (b : Bool) → eqb (spelt w) 0 ≡ b
        → IsReduced w
        (cond b (record { mantissa = 0; exponent = pos 0 })
        (record {
          mantissa = (strip (length (digits_of w (parts_of w))) (spelt w)).mantissa;
          exponent = exponent_of (minus_of w (parts_of w)) (written_of w (parts_of w)) (pred (parts_of w).frac)
              (strip (length (digits_of w (parts_of w))) (spelt w)).zeros;
        }))
    go true t =
        let z : spelt w ≡ 0 = eqb-true (spelt w) 0 t in
        record {
          zero = λ _. refl;
          ends = λ n. absurd (n z);
          value = λ x y e. nothing (10 ^ x) (10 ^ down w)
              ∙ sym (ap (λ (v : ℕ). v * 10 ^ up w * 10 ^ y) z ∙ nothing (10 ^ up w) (10 ^ y));
        }
    go false t =
        let r = strip-right (digits_of w (parts_of w)) (digits_are w) (eqb-false (spelt w) 0 t) in
        let s = strip (length (digits_of w (parts_of w))) (spelt w) in
        record {
          zero = λ z. absurd (eqb-false (spelt w) 0 t z);
          ends = λ _. r.1;
          value = λ x y e. same-value (spelt w) s.mantissa s.zeros (up w) (down w) x y r.0 (sub-across (up w + s.zeros) (down w) x y e);
        }
