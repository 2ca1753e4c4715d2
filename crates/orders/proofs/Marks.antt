-- The work areas while an order is walked. First they are prepared: the number of each call's first use, and no marks. Then the uses of a
-- call are held against the marks: the first use, the next, one whose call is not marked, the end.
use mathlib.Core.Path.{◌≡◌, refl, ap, ap₂, ◌∙◌}
use mathlib.Core.Bool.{Bool, true, false, not}
use mathlib.Core.List.{List}
use Prim.Native.Nat.{ℕ, zero, suc, ◌+◌, ◌-◌, ◌<◌, ◌≤◌}
use native.Mathlib.Omega.{arith}
use lib.Dec.{eqb}
use lib.ListN.{length, get_or, set, length-set}
use lib.Seq.{get_or-set_same, get_or-set_other}
use borrow.Author.Tests.{eq-eqb, ne_eqb, eqb-true, eqb-false}
use Rattle.orders.specs.Scratch.{uses_of, call_of, first_use, needs_from, Firsts, Unmarked, is_marked, all_marked}

-- ---- a word more

-- what holds of the words below k, and of the one that is stored at k, holds of those below k + 1
stored_more : (P : ℕ → ℕ → Type 0) (l : List ℕ) (k x : ℕ) → k < length l → ((j : ℕ) → j < k → P j (get_or l j 0)) → P k x
    → (j : ℕ) → j < k + 1 → P j (get_or (set l k x) j 0)
stored_more P l k x h f p j m = go (eqb j k) refl
  where
    go : (b : Bool) → eqb j k ≡ b → P j (get_or (set l k x) j 0)
    go true e = let z = eqb-true j k e in rw (z, get_or-set_same l k x 0 h) p
    go false e = let z = eqb-false j k e in rw (get_or-set_other l k j x 0 z) (f j (omega (arith, z, m)))

-- ---- prepared up to a call

pub record Prepared (records : List ℕ) (n : ℕ) (firsts₀ marks₀ firsts marks : List ℕ) (uses k : ℕ) : Type 0 where
  pub inside : k ≤ n
  pub sum : uses ≡ first_use records k
  pub firsts-length : length firsts ≡ length firsts₀
  pub marks-length : length marks ≡ length marks₀
  pub numbered : Firsts records k firsts
  pub blank : Unmarked k marks

-- sums grow
pub sum-grows : (records : List ℕ) (j k : ℕ) → j ≤ k → first_use records j ≤ first_use records k
unfolding first_use
sum-grows records j zero h = let z : j ≡ 0 = omega (arith, h) in rw z (omega arith)
sum-grows records j (suc k) h = go (eqb j (suc k)) refl (λ l. sum-grows records j k l)
  where
    go : (b : Bool) → eqb j (suc k) ≡ b → (j ≤ k → first_use records j ≤ first_use records k) → first_use records j ≤ first_use records k + uses_of records k
    go true e f = rw (eqb-true j (suc k) e) (omega arith)
    go false e f = let z = eqb-false j (suc k) e in let l = f (omega (arith, h, z)) in omega (arith, l)

module _ (records : List ℕ) (n : ℕ) (firsts₀ marks₀ : List ℕ) where
  pub prepared-start : Prepared records n firsts₀ marks₀ firsts₀ marks₀ 0 0
  unfolding first_use
  prepared-start = record {
    inside = omega arith;
    sum = refl;
    firsts-length = refl;
    marks-length = refl;
    numbered = λ j h. absurd (omega (arith, h));
    blank = λ j h. absurd (omega (arith, h));
  }

  pub prepared-next : (firsts marks : List ℕ) (uses k : ℕ) → k < n → n ≤ length firsts₀ → n ≤ length marks₀
      → Prepared records n firsts₀ marks₀ firsts marks uses k
      → Prepared records n firsts₀ marks₀ (set firsts k uses) (set marks k 0) (uses + uses_of records k) (k + 1)
  unfolding first_use
  prepared-next firsts marks uses k h l m p =
      let z : k + 1 ≡ suc k = omega arith in
      record {
        inside = omega (arith, h);
        sum = rw z (ap (λ (x : ℕ). x + uses_of records k) p.sum);
        firsts-length = length-set firsts k uses ∙ p.firsts-length;
        marks-length = length-set marks k 0 ∙ p.marks-length;
        numbered = stored_more (λ j x. x ≡ first_use records j) firsts k uses (omega (arith, h, l, p.firsts-length)) p.numbered p.sum;
        blank = stored_more (λ j x. x ≡ 0) marks k 0 (omega (arith, h, m, p.marks-length)) p.blank refl;
      }

-- ---- uses against marks

pub is-marked : (marks : List ℕ) (k : ℕ) → (get_or marks k 0 ≡ 0 → ⊥) → is_marked marks k ≡ true
is-marked marks k h = ap not (ne_eqb (get_or marks k 0) 0 h)

pub is-unmarked : (marks : List ℕ) (k : ℕ) → get_or marks k 0 ≡ 0 → is_marked marks k ≡ false
is-unmarked marks k h = ap not (eq-eqb (get_or marks k 0) 0 h)

module _ (records marks : List ℕ) where
  abbrev marked : ℕ → ℕ → Bool
  marked u n = all_marked marks (needs_from records u n)

  use-marked : (u n : ℕ) → is_marked marks (call_of records u) ≡ true → marked u (suc n) ≡ marked (u + 1) n
  unfolding needs_from all_marked
  use-marked u n e = rw e

  use-unmarked : (u n : ℕ) → is_marked marks (call_of records u) ≡ false → marked u (suc n) ≡ false
  unfolding needs_from all_marked
  use-unmarked u n e = rw e

  no-use : (u n : ℕ) → n ≡ 0 → marked u n ≡ true
  unfolding needs_from all_marked
  no-use u n e = rw e

  pub marked_start : (from count : ℕ) → marked from count ≡ marked from (from + count - from)
  marked_start from count = ap₂ marked refl (omega arith)

  module _ (u end : ℕ) where
    one_more : u < end → end - u ≡ suc (end - (u + 1))
    one_more l = omega (arith, l)

    pub marked_next : u < end → (get_or marks (call_of records u) 0 ≡ 0 → ⊥) → marked u (end - u) ≡ marked (u + 1) (end - (u + 1))
    marked_next l e = ap₂ marked refl (one_more l) ∙ use-marked u (end - (u + 1)) (is-marked marks (call_of records u) e)

    pub marked-not : u < end → get_or marks (call_of records u) 0 ≡ 0 → marked u (end - u) ≡ false
    marked-not l e = ap₂ marked refl (one_more l) ∙ use-unmarked u (end - (u + 1)) (is-unmarked marks (call_of records u) e)

    pub marked-end : end ≤ u → marked u (end - u) ≡ true
    marked-end l = no-use u (end - u) (omega (arith, l))
