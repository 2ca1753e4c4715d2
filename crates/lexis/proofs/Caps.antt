-- Values read digit by digit, kept below a cap: scaling, one digit more, bounds.
use mathlib.Core.Path.{◌≡◌, refl, sym, ap, ◌∙◌}
use mathlib.Core.Bool.{Bool, true, false, cond}
use mathlib.Core.List.{List, [], ◌∷◌, ◌++◌}
use Prim.Native.Nat.{ℕ, zero, suc, ◌+◌, ◌-◌, ◌*◌, ◌^◌, ◌≤◌, ◌<◌, min}
use native.Mathlib.Nat.{pow-suc, mul_assoc, suc-mul}
use native.Mathlib.Numerals.{add-one}
use native.Mathlib.Decide.{dec_lt}
use native.Mathlib.Omega.{arith}
use lib.Dec.{eqb}
use lib.ListN.{length, take, get_or}
use lib.Seq.{take-suc}
use borrow.Author.Tests.{ne_eqb}
use Rattle.lexis.specs.Sizes.{written_end, mantissa_end}
use Rattle.lexis.specs.Number.{value_from}
use Rattle.lexis.specs.Push.{push, push_all}
use Rattle.lexis.specs.declared.mantissa.Mantissa.{Mantissa}

pub times-ten : (x i : ℕ) → x * 10 ^ (i + 1) ≡ x * 10 ^ i * 10
times-ten x i = rw (add-one i, pow-suc 10 i) (sym (mul_assoc x (10 ^ i) 10))

-- the greatest number that a u64 holds
abbrev largest : ℕ
largest = 18446744073709551615

-- a product that saturates, capped, is the product capped
pub saturated : (x p : ℕ) → min (min (x * min p largest) largest) mantissa_end ≡ min (x * p) mantissa_end
saturated x p = go (dec_lt largest p)
  where
    big : (x : ℕ) → largest < p → min (min (x * largest) largest) mantissa_end ≡ min (x * p) mantissa_end
    big zero l = omega arith
    big (suc x) l = omega (arith, suc-mul x p)

    go : Dec (largest < p) → min (min (x * min p largest) largest) mantissa_end ≡ min (x * p) mantissa_end
    go (yes l) = let e : min p largest ≡ largest = omega arith in rw e (big x l)
    go (no l) = let e : min p largest ≡ p = omega arith in rw e (omega arith)

-- one more byte
take_more : (s : List ℕ) (j : ℕ) → j < length s → take (j + 1) s ≡ take j s ++ (get_or s j 0 ∷ [])
take_more s j h = rw (add-one j, take-suc s j 0 h)

pub value-snoc : (v : ℕ) (ds : List ℕ) (d : ℕ) → value_from v (ds ++ (d ∷ [])) ≡ value_from v ds * 10 + (d - 48)
unfolding value_from
value-snoc v [] d = refl
value-snoc v (x ∷ ds) d = value-snoc (v * 10 + (x - 48)) ds d

pub value-more : (s : List ℕ) (j v w : ℕ) → j < length s → v ≡ min (value_from 0 (take j s)) written_end
    → w ≡ min (v * 10 + (get_or s j 0 - 48)) written_end → w ≡ min (value_from 0 (take (j + 1) s)) written_end
value-more s j v w h e f = rw (take_more s j h, value-snoc 0 (take j s) (get_or s j 0)) (omega arith)

push-snoc : (m : Mantissa) (ds : List ℕ) (d : ℕ) → push_all m (ds ++ (d ∷ [])) ≡ push (push_all m ds) d
unfolding push_all
push-snoc m [] d = refl
push-snoc m (x ∷ ds) d = push-snoc (push m x) ds d

pub push-append : (m : Mantissa) (ds es : List ℕ) → push_all m (ds ++ es) ≡ push_all (push_all m ds) es
unfolding push_all
push-append m [] es = refl
push-append m (x ∷ ds) es = push-append (push m x) ds es

-- a digit after a short mantissa that ends in no zero needs no cap
pub push-fast : (m : Mantissa) (b d : ℕ) → (b ≡ 48 → ⊥) → m.zeros ≡ 0 → m.value < 10000000000000000 → d ≡ b - 48 → b < 256
    → record { value = m.value * 10 + d; zeros = 0 } ≡ push m b
unfolding push
push-fast m b d n z h e l =
    let v : m.value * 10 + d ≡ min (min (m.value * 10 ^ (m.zeros + 1)) mantissa_end + (b - 48)) mantissa_end = rw z (omega arith) in
    rw (ne_eqb b 48 n, v)

-- ---- bounds

pub record Bounded (k : ℕ) (m : Mantissa) : Type 0 where
  pub capped : m.value ≤ mantissa_end
  pub few : m.zeros ≤ k

cond-bounded : (k : ℕ) (b : Bool) (x y : Mantissa) → Bounded k x → Bounded k y → Bounded k (cond b x y)
cond-bounded k true x y p q = p
cond-bounded k false x y p q = q

pub push-bounded : (m : Mantissa) (k d : ℕ) → Bounded k m → Bounded (k + 1) (push m d)
unfolding push
push-bounded m k d h =
    cond-bounded (k + 1) (eqb d 48) _ _
    (cond-bounded (k + 1) (eqb m.value 0) _ _ (record { capped = h.capped; few = omega (arith, h.few) })
    (record { capped = h.capped; few = omega (arith, h.few) }))
    (record { capped = omega arith; few = omega arith })

pub push-more : (s : List ℕ) (j : ℕ) (m a b : Mantissa) → j < length s → a ≡ push_all m (take j s) → b ≡ push a (get_or s j 0)
    → b ≡ push_all m (take (j + 1) s)
push-more s j m a b h e f = f ∙ ap (λ (x : Mantissa). push x (get_or s j 0)) e ∙ sym (rw (take_more s j h) (push-snoc m (take j s) (get_or s j 0)))

pub all-bounded : (m : Mantissa) (k : ℕ) (ds : List ℕ) → Bounded k m → Bounded (k + length ds) (push_all m ds)
unfolding push_all
all-bounded m k [] h = record { capped = h.capped; few = omega (arith, h.few) }
all-bounded m k (d ∷ ds) h =
    let r = all-bounded (push m d) (k + 1) ds (push-bounded m k d h) in
    record { capped = r.capped; few = omega (arith, r.few) }
