-- The exponent and the digits of a number, as the code finds them in its bytes: sign, written value, mantissa.
use mathlib.Core.Path.{◌≡◌, sym, ◌∙◌}
use mathlib.Core.Bool.{false}
use mathlib.Core.List.{List, append-nil}
use Prim.Native.Nat.{ℕ, pred, ◌+◌, ◌-◌, ◌≤◌, min, zero-le}
use native.Mathlib.Omega.{arith}
use lib.Dec.{eqb}
use lib.ListN.{length, take, drop, get_or, length-drop, length-take}
use lib.Seq.{drop-drop}
use borrow.Author.Tests.{eq-eqb, ne_eqb}
use Rattle.lexis.specs.Sizes.{max_number, written_end}
use Rattle.lexis.specs.Bytes.{is_digit, span_len}
use Rattle.lexis.specs.Number.{sign_len, digits, value_from, digits_of, written_of, minus_of}
use Rattle.lexis.specs.Push.{no_digits, push_all}
use Rattle.lexis.specs.declared.number.Parts.{Parts}
use Rattle.lexis.specs.declared.mantissa.Mantissa.{Mantissa}
use Rattle.lexis.proofs.Shapes.{sign_le}
use Rattle.lexis.proofs.Caps.{push-append, Bounded, all-bounded}
use Rattle.lexis.proofs.Positions.{span-in}

module _ (s : List ℕ) (p : Parts) where
  pub minus-none : p.exp ≡ 0 → false ≡ minus_of s p
  unfolding minus_of
  minus-none e = rw (eq-eqb _ 0 e)

  pub minus-some : (b : ℕ) → (p.exp ≡ 0 → ⊥) → b ≡ get_or s (p.whole + p.frac + 1) 0 → eqb b 45 ≡ minus_of s p
  unfolding minus_of
  minus-some b n e = rw (ne_eqb _ 0 n, e)

  pub written_none : p.exp ≡ 0 → 0 ≡ min (written_of s p) written_end
  unfolding written_of
  written_none e = rw (eq-eqb _ 0 e)

  -- where the exponent's letter stands
  abbrev pub letter : ℕ
  letter = p.whole + p.frac

  module _ (g : ℕ) (n : p.exp ≡ 0 → ⊥) (sign : g ≡ sign_len (drop (letter + 1) s)) where
    pub from_in : p.whole + p.frac + p.exp ≤ length s → letter + (1 + g) ≤ length s
    from_in h = omega (arith, sign, sign_le (drop (letter + 1) s), length-drop (letter + 1) s)

    module _ (end : ℕ) (run : end ≡ letter + (1 + g) + span_len is_digit (drop (letter + (1 + g)) s)) where
      pub digits_in : p.whole + p.frac + p.exp ≤ length s → end ≤ length s
      digits_in h = omega (arith, run, span-in is_digit s (letter + (1 + g)) (from_in h))

      pub written-some : (r : ℕ) → r ≡ min (value_from 0 (take (end - (letter + (1 + g))) (drop (letter + (1 + g)) s))) written_end
          → r ≡ min (written_of s p) written_end
      unfolding written_of
      written-some r v =
          let len : digits (drop (letter + (1 + g)) s) ≡ end - (letter + (1 + g)) = omega (arith, run) in
          rw (ne_eqb _ 0 n, drop-drop 1 letter s, ← sign, drop-drop (1 + g) letter s, len) v

  -- ---- the digits

  pub whole-only : (a : Mantissa) → p.frac ≡ 0 → a ≡ push_all no_digits (take p.whole s) → a ≡ push_all no_digits (digits_of s p)
  whole-only a e q =
      let z : pred p.frac ≡ 0 = omega arith in
      q ∙ rw (z, append-nil (take p.whole s))

  pub with-fraction : (a b : Mantissa) → a ≡ push_all no_digits (take p.whole s)
      → b ≡ push_all a (take (p.whole + p.frac - (p.whole + 1)) (drop (p.whole + 1) s)) → b ≡ push_all no_digits (digits_of s p)
  with-fraction a b e q =
      let z : p.whole + p.frac - (p.whole + 1) ≡ pred p.frac = omega arith in
      q ∙ rw (e, z) (sym (push-append no_digits (take p.whole s) (take (pred p.frac) (drop (p.whole + 1) s))))

pub mantissa-bounded : (a : Mantissa) (k : ℕ) (l : List ℕ) → a ≡ push_all no_digits (take k l) → k ≤ max_number → Bounded max_number a
mantissa-bounded a k l e h =
    let r = all-bounded no_digits 0 (take k l) (record { capped = zero-le; few = zero-le }) in
    rw e (record { capped = r.capped; few = omega (arith, r.few, length-take k l) })
