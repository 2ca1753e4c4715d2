-- The code of a number, as the marks give it, is that of the first fault of its place.
use mathlib.Core.Path.{◌≡◌, refl, sym, ap, ap₂, ◌∙◌}
use mathlib.Core.Bool.{Bool, true, false, cond, not, ◌&&◌}
use mathlib.Core.List.{List, [], ◌∷◌, flatten, Memᴰ}
use mathlib.Core.Option.{some}
use Prim.Native.Nat.{ℕ, ◌<◌, ◌≤◌}
use native.Mathlib.Omega.{arith}
use lib.Dec.{ltb}
use lib.ListN.{length, get_or}
use borrow.Author.Tests.{lt-ltb, le-ltb, ltb-true}
use Rattle.lexis.specs.Code as Bytes
use Rattle.lists.specs.Fault.{fault, unless, earlier, first, by_code}
use Rattle.lists.proofs.First.{is-before}
use Rattle.documents.specs.Walks.{coded}
use Rattle.orders.specs.Code as Code
use Rattle.orders.specs.Order.{stands, all_stand, range_faults, repeated_call, early_use, place_faults}
use Rattle.orders.specs.Scratch.{uses_of, first_use, needs_from, rows, is_marked, all_marked, code_by}
use Rattle.orders.proofs.Marks.{is-marked, is-unmarked}
use Rattle.orders.proofs.Rows.{rows-length, row_is}

-- ---- the tests of the code

module _ (ns : List (List ℕ)) (marks : List ℕ) (k : ℕ) where
  code-range : length ns ≤ k → Code.out_of_range ≡ code_by ns marks k
  unfolding code_by
  code-range h = sym (rw (le-ltb k (length ns) h))

  module _ (h : k < length ns) where
    code-repeated : is_marked marks k ≡ true → Code.repeated_call ≡ code_by ns marks k
    unfolding code_by
    code-repeated e = sym (rw (lt-ltb k (length ns) h, e))

    code-uses : is_marked marks k ≡ false → (b : Bool) → all_marked marks (get_or ns k []) ≡ b
        → cond b Bytes.accepted Code.early_use ≡ code_by ns marks k
    unfolding code_by
    code-uses e b f = sym (rw (lt-ltb k (length ns) h, e, f))

-- a number without a code is that of a call
code-none : (ns : List (List ℕ)) (marks : List ℕ) (k : ℕ) → code_by ns marks k ≡ 0 → k < length ns
unfolding code_by
code-none ns marks k e = go (ltb k (length ns)) refl e
  where
    go : (b : Bool) → ltb k (length ns) ≡ b
        → cond b (cond (is_marked marks k) Code.repeated_call (cond (all_marked marks (get_or ns k [])) Bytes.accepted Code.early_use)) Code.out_of_range ≡ 0
        → k < length ns
    go true q e = ltb-true k (length ns) q
    go false q e = absurd (omega (arith, e))

-- the same of the needs that records have
module _ (records : List ℕ) (n : ℕ) (marks : List ℕ) (k : ℕ) where
  counted : n ≡ length (rows records n)
  counted = sym (rows-length records n)

  pub row-range : n ≤ k → Code.out_of_range ≡ code_by (rows records n) marks k
  row-range h = code-range (rows records n) marks k (rw counted at h)

  pub row-none : code_by (rows records n) marks k ≡ 0 → k < n
  row-none e = rw (rows-length records n) at (code-none (rows records n) marks k e)

  module _ (h : k < n) where
    pub row-repeated : (get_or marks k 0 ≡ 0 → ⊥) → Code.repeated_call ≡ code_by (rows records n) marks k
    row-repeated e = code-repeated (rows records n) marks k (rw counted at h) (is-marked marks k e)

    pub row-uses : get_or marks k 0 ≡ 0 → (u : ℕ) → u ≡ first_use records k → {r : Bool} → r ≡ all_marked marks (needs_from records u (uses_of records k))
        → (b : Bool) → r ≡ b → cond b Bytes.accepted Code.early_use ≡ code_by (rows records n) marks k
    row-uses e u z m b q =
        code-uses (rows records n) marks k (rw counted at h) (is-unmarked marks k e) b
        (ap (all_marked marks) (row_is records n k h ∙ ap (λ (v : ℕ). needs_from records v (uses_of records k)) (sym z)) ∙ sym m ∙ q)

-- ---- by the numbers that stand before the place

-- the code of the number k after the numbers js
abbrev code_after : List (List ℕ) → List ℕ → ℕ → ℕ
code_after ns js k =
    cond (ltb k (length ns)) (cond (stands js k) Code.repeated_call (cond (all_stand js (get_or ns k [])) Bytes.accepted Code.early_use)) Code.out_of_range

all-agree : (marks js ws : List ℕ) → ((m : ℕ) → Memᴰ m ws → is_marked marks m ≡ stands js m) → all_marked marks ws ≡ all_stand js ws
unfolding all_marked all_stand
all-agree marks js [] f = refl
all-agree marks js (w ∷ ws) f = ap₂ (λ (a b : Bool). a && b) (f w (Memᴰ.head refl)) (all-agree marks js ws (λ m q. f m (Memᴰ.tail q)))

module _ (ns : List (List ℕ)) (marks js : List ℕ) (agree : (k : ℕ) → k < length ns → is_marked marks k ≡ stands js k) (k : ℕ)
    (below : k < length ns → (m : ℕ) → Memᴰ m (get_or ns k []) → m < length ns) where
  code-after : code_by ns marks k ≡ code_after ns js k
  unfolding code_by
  code-after = go (ltb k (length ns)) refl
    where
      go : (b : Bool) → ltb k (length ns) ≡ b
          → cond b (cond (is_marked marks k) Code.repeated_call (cond (all_marked marks (get_or ns k [])) Bytes.accepted Code.early_use)) Code.out_of_range
          ≡ cond b (cond (stands js k) Code.repeated_call (cond (all_stand js (get_or ns k [])) Bytes.accepted Code.early_use)) Code.out_of_range
      go false e = refl
      go true e =
          let l = ltb-true k (length ns) e in
          ap₂ (λ (a b : Bool). cond a Code.repeated_call (cond b Bytes.accepted Code.early_use)) (agree k l)
          (all-agree marks js (get_or ns k []) (λ m q. agree m (below l m q)))

  -- ---- the first fault of a place

  -- at one place the smaller code comes first
  smaller : (c d p : ℕ) → c < d → earlier (some (fault c p)) (some (fault d p)) ≡ some (fault c p)
  smaller c d p h = ap (λ (b : Bool). some (cond b (fault c p) (fault d p))) (is-before (fault c p) (fault d p) (by_code refl h))

  pub place-first : (p : ℕ) → first (place_faults ns js p k) ≡ coded (code_by ns marks k) p
  unfolding place_faults range_faults repeated_call early_use flatten first
  place-first p = go (ltb k (length ns)) (stands js k) (all_stand js (get_or ns k [])) ∙ ap (λ (c : ℕ). coded c p) (sym code-after)
    where
      go : (a b c : Bool)
          → first (flatten (unless a (fault Code.out_of_range p) ∷ unless (not b) (fault Code.repeated_call p) ∷ unless c (fault Code.early_use p) ∷ []))
          ≡ coded (cond a (cond b Code.repeated_call (cond c Bytes.accepted Code.early_use)) Code.out_of_range) p
      go true true true = refl
      go true true false = smaller 43 44 p (omega arith)
      go true false true = refl
      go true false false = refl
      go false true true = smaller 42 43 p (omega arith)
      go false true false = ap (earlier (some (fault 42 p))) (smaller 43 44 p (omega arith)) ∙ smaller 42 43 p (omega arith)
      go false false true = refl
      go false false false = smaller 42 44 p (omega arith)
