-- Permutations of the numbers below n, by counting. In order: sums over a list of numbers and over the numbers below n, which are the same
-- where each number occurs once; a list of n numbers below n without a repeat is a permutation; places in a permutation.
use mathlib.Core.Path.{◌≡◌, refl, sym, ap, ap₂, ◌∙◌}
use mathlib.Core.Bool.{Bool, true, false, cond}
use mathlib.Core.List.{List, [], ◌∷◌}
use Prim.Native.Nat.{ℕ, zero, suc, ◌+◌, ◌*◌, ◌<◌, ◌≤◌}
use native.Mathlib.Nat.{le_of_suc-le-suc, not-suc-le-zero, one-mul, mul-one}
use native.Mathlib.Omega.{arith}
use lib.Dec.{eqb, ltb}
use lib.ListN.{length, get_or}
use borrow.Author.Tests.{eqb-true, eqb-false, eq-eqb, ne_eqb, ltb-true, ltb-false}
use Rattle.orders.specs.InOrder.{occurrences, Permutation}

-- ---- sums

-- over a list of numbers
unfoldable pub sum_of : (ℕ → ℕ) → List ℕ → ℕ
sum_of f [] = 0
sum_of f (k ∷ ks) = f k + sum_of f ks

-- over the numbers below n
unfoldable pub sum_to : (ℕ → ℕ) → ℕ → ℕ
sum_to f zero = 0
sum_to f (suc n) = sum_to f n + f n

sum_same : (f g : ℕ → ℕ) (n : ℕ) → ((k : ℕ) → k < n → f k ≡ g k) → sum_to f n ≡ sum_to g n
unfolding sum_to
sum_same f g zero h = refl
sum_same f g (suc n) h = ap₂ ◌+◌ (sum_same f g n (λ k l. h k (omega (arith, l)))) (h n (omega arith))

sum-none : (f : ℕ → ℕ) (n : ℕ) → ((k : ℕ) → f k ≡ 0) → sum_to f n ≡ 0
unfolding sum_to
sum-none f zero h = refl
sum-none f (suc n) h = omega (arith, sum-none f n h, h n)

-- one summand more
sum_more : (f g : ℕ → ℕ) (x y n : ℕ) → x < n → g x ≡ f x + y → ((k : ℕ) → (k ≡ x → ⊥) → g k ≡ f k) → sum_to g n ≡ sum_to f n + y
unfolding sum_to
sum_more f g x y zero h e o = absurd (not-suc-le-zero h)
sum_more f g x y (suc n) h e o = go (eqb n x) refl (λ l. sum_more f g x y n l e o)
  where
    go : (b : Bool) → eqb n x ≡ b → (x < n → sum_to g n ≡ sum_to f n + y) → sum_to g n + g n ≡ sum_to f n + f n + y
    go true q r =
        let z = eqb-true n x q in
        let s = sum_same g f n (λ k l. o k (λ w. let v : k ≡ n = w ∙ sym z in omega (arith, l, v))) in
        let t : g n ≡ f n + y = rw z e in
        omega (arith, s, t)
    go false q r =
        let z = eqb-false n x q in
        let s = r (omega (arith, h, z)) in
        let t = o n z in
        omega (arith, s, t)

-- ---- occurrences

occurs-here : (k : ℕ) (ks : List ℕ) → occurrences k (k ∷ ks) ≡ suc (occurrences k ks)
unfolding occurrences
occurs-here k ks = rw (eq-eqb k k refl)

occurs-there : (j k : ℕ) (ks : List ℕ) → (k ≡ j → ⊥) → occurrences k (j ∷ ks) ≡ occurrences k ks
unfolding occurrences
occurs-there j k ks h = rw (ne_eqb j k (λ e. h (sym e)))

-- a sum over a list of numbers below n, by how often each occurs
sum-counted : (f : ℕ → ℕ) (n : ℕ) (ks : List ℕ) → ((i : ℕ) → i < length ks → get_or ks i 0 < n) → sum_of f ks ≡ sum_to (λ k. occurrences k ks * f k) n
unfolding sum_of occurrences
sum-counted f n [] h = sym (sum-none (λ k. 0 * f k) n (λ k. omega arith))
sum-counted f n (k ∷ ks) h =
    let r = sum-counted f n ks (λ i l. h (suc i) (omega (arith, l))) in
    let here : occurrences k (k ∷ ks) * f k ≡ occurrences k ks * f k + f k = rw (occurs-here k ks) (omega arith) in
    let s = sum_more (λ j. occurrences j ks * f j) (λ j. occurrences j (k ∷ ks) * f j) k (f k) n (h 0 (omega arith)) here
    (λ j d. ap (λ (x : ℕ). x * f j) (occurs-there k j ks d)) in
    omega (arith, r, s)

-- ---- sums of a permutation

-- n numbers that are at most 1 and make n together are all 1
all_one : (f : ℕ → ℕ) (n : ℕ) → ((k : ℕ) → k < n → f k ≤ 1) → sum_to f n ≤ n
unfolding sum_to
all_one f zero h = omega arith
all_one f (suc n) h = omega (arith, all_one f n (λ k l. h k (omega (arith, l))), h n (omega arith))

each-one : (f : ℕ → ℕ) (n : ℕ) → ((k : ℕ) → k < n → f k ≤ 1) → sum_to f n ≡ n → (k : ℕ) → k < n → f k ≡ 1
unfolding sum_to
each-one f zero h e k l = absurd (not-suc-le-zero l)
each-one f (suc n) h e k l = go (eqb k n) refl (each-one f n (λ j m. h j (omega (arith, m))))
  where
    go : (b : Bool) → eqb k n ≡ b → (sum_to f n ≡ n → (j : ℕ) → j < n → f j ≡ 1) → f k ≡ 1
    go true q r =
        let z = eqb-true k n q in
        let a = all_one f n (λ j m. h j (omega (arith, m))) in
        rw z (omega (arith, a, h n (omega arith), e))
    go false q r =
        let z = eqb-false k n q in
        let a = all_one f n (λ j m. h j (omega (arith, m))) in
        r (omega (arith, a, h n (omega arith), e)) k (omega (arith, l, z))

sum_ones : (n : ℕ) → sum_to (λ k. 1) n ≡ n
unfolding sum_to
sum_ones zero = refl
sum_ones (suc n) = omega (arith, sum_ones n)

length-sum : (ks : List ℕ) → sum_of (λ k. 1) ks ≡ length ks
unfolding sum_of
length-sum [] = refl
length-sum (k ∷ ks) = omega (arith, length-sum ks)

-- a number is counted where it stands
occurs-at : (ks : List ℕ) (i : ℕ) → i < length ks → 0 < occurrences (get_or ks i 0) ks
unfolding occurrences
occurs-at [] i h = absurd (not-suc-le-zero h)
occurs-at (k ∷ ks) zero h = rw (eq-eqb k k refl) (omega arith)
occurs-at (k ∷ ks) (suc i) h = go (eqb k (get_or ks i 0)) (occurs-at ks i (le_of_suc-le-suc h))
  where
    go : (b : Bool) → 0 < occurrences (get_or ks i 0) ks → 0 < cond b (suc (occurrences (get_or ks i 0) ks)) (occurrences (get_or ks i 0) ks)
    go true r = omega arith
    go false r = r

-- and stands somewhere where it is counted
occurs-place : (k : ℕ) (ks : List ℕ) → 0 < occurrences k ks → (i : ℕ) × ((i < length ks) × (get_or ks i 0 ≡ k))
unfolding occurrences
occurs-place k [] h = absurd (not-suc-le-zero h)
occurs-place k (j ∷ ks) h = go (eqb j k) refl h (occurs-place k ks)
  where
    go : (b : Bool) → eqb j k ≡ b → 0 < cond b (suc (occurrences k ks)) (occurrences k ks)
        → (0 < occurrences k ks → (i : ℕ) × ((i < length ks) × (get_or ks i 0 ≡ k)))
        → (i : ℕ) × ((i < suc (length ks)) × (get_or (j ∷ ks) i 0 ≡ k))
    go true e h r = (0, (omega arith, eqb-true j k e))
    go false e h r = let s = r h in (suc s.0, (omega (arith, s.1.0), s.1.1))

-- what stands at two places is counted twice
occurs-twice : (k : ℕ) (ks : List ℕ) (i j : ℕ) → i < j → j < length ks → get_or ks i 0 ≡ k → get_or ks j 0 ≡ k → 2 ≤ occurrences k ks
unfolding occurrences
occurs-twice k [] i j l h e f = absurd (not-suc-le-zero h)
occurs-twice k (x ∷ ks) i zero l h e f = absurd (not-suc-le-zero l)
occurs-twice k (x ∷ ks) zero (suc j) l h e f =
    let o = occurs-at ks j (le_of_suc-le-suc h) in
    rw (eq-eqb x k e) (omega (arith, rw f at o))
occurs-twice k (x ∷ ks) (suc i) (suc j) l h e f =
    go (eqb x k) (occurs-twice k ks i j (le_of_suc-le-suc l) (le_of_suc-le-suc h) e f)
  where
    go : (b : Bool) → 2 ≤ occurrences k ks → 2 ≤ cond b (suc (occurrences k ks)) (occurrences k ks)
    go true r = omega (arith, r)
    go false r = r

-- ---- the numbers of a permutation are below n: those that are count as many as there are places

-- how many numbers are below n
unfoldable low_count : ℕ → List ℕ → ℕ
low_count n [] = 0
low_count n (k ∷ ks) = let r = low_count n ks in cond (ltb k n) (suc r) r

low-counted : (n : ℕ) (ks : List ℕ) → sum_to (λ k. occurrences k ks) n ≡ low_count n ks
unfolding low_count occurrences
low-counted n [] = sum-none (λ k. 0) n (λ k. refl)
low-counted n (k ∷ ks) = go (ltb k n) refl (low-counted n ks)
  where
    go : (b : Bool) → ltb k n ≡ b → sum_to (λ j. occurrences j ks) n ≡ low_count n ks
        → sum_to (λ j. occurrences j (k ∷ ks)) n ≡ cond b (suc (low_count n ks)) (low_count n ks)
    go true q r =
        let here : occurrences k (k ∷ ks) ≡ occurrences k ks + 1 = omega (arith, occurs-here k ks) in
        let s = sum_more (λ j. occurrences j ks) (λ j. occurrences j (k ∷ ks)) k 1 n (ltb-true k n q) here (λ j d. occurs-there k j ks d) in
        omega (arith, s, r)
    go false q r =
        let l = ltb-false k n q in
        sum_same (λ j. occurrences j (k ∷ ks)) (λ j. occurrences j ks) n (λ j m. occurs-there k j ks (λ e. omega (arith, e, m, l))) ∙ r

low-most : (n : ℕ) (ks : List ℕ) → low_count n ks ≤ length ks
unfolding low_count
low-most n [] = omega arith
low-most n (k ∷ ks) = go (ltb k n) (low-most n ks)
  where
    go : (b : Bool) → low_count n ks ≤ length ks → cond b (suc (low_count n ks)) (low_count n ks) ≤ suc (length ks)
    go true r = omega (arith, r)
    go false r = omega (arith, r)

low-all : (n : ℕ) (ks : List ℕ) → low_count n ks ≡ length ks → (i : ℕ) → i < length ks → get_or ks i 0 < n
unfolding low_count
low-all n [] e i h = absurd (not-suc-le-zero h)
low-all n (k ∷ ks) e i h = go (ltb k n) refl e (low-all n ks)
  where
    go : (b : Bool) → ltb k n ≡ b → cond b (suc (low_count n ks)) (low_count n ks) ≡ suc (length ks)
        → (low_count n ks ≡ length ks → (j : ℕ) → j < length ks → get_or ks j 0 < n) → get_or (k ∷ ks) i 0 < n
    go true q e r = at i h
      where
        at : (j : ℕ) → j < suc (length ks) → get_or (k ∷ ks) j 0 < n
        at zero m = ltb-true k n q
        at (suc j) m = r (omega (arith, e)) j (le_of_suc-le-suc m)
    go false q e r = absurd (omega (arith, e, low-most n ks))

module _ (n : ℕ) (ks : List ℕ) (p : Permutation n ks) where
  pub permuted-below : (i : ℕ) → i < length ks → get_or ks i 0 < n
  permuted-below =
      let s = sum_same (λ k. occurrences k ks) (λ k. 1) n p.once in
      low-all n ks (sym (low-counted n ks) ∙ s ∙ sum_ones n ∙ sym p.count)

  pub permuted-sum : (f : ℕ → ℕ) → sum_of f ks ≡ sum_to f n
  permuted-sum f =
      sum-counted f n ks permuted-below
      ∙ sum_same (λ k. occurrences k ks * f k) f n (λ k l. ap (λ (x : ℕ). x * f k) (p.once k l) ∙ one-mul (f k))

  pub permuted-once : (i j : ℕ) → i < length ks → j < length ks → get_or ks i 0 ≡ get_or ks j 0 → i ≡ j
  permuted-once i j h l e = go (ltb i j) (ltb j i) refl refl
    where
      twice : (x y : ℕ) → x < y → y < length ks → get_or ks x 0 ≡ get_or ks y 0 → ⊥
      twice x y m b q =
          let o = p.once (get_or ks y 0) (permuted-below y b) in
          omega (arith, occurs-twice (get_or ks y 0) ks x y m b q refl, o)

      go : (a b : Bool) → ltb i j ≡ a → ltb j i ≡ b → i ≡ j
      go true b q r = absurd (twice i j (ltb-true i j q) l e)
      go false true q r = absurd (twice j i (ltb-true j i r) h (sym e))
      go false false q r = omega (arith, ltb-false i j q, ltb-false j i r)

-- ---- a list of n numbers below n without a repeat

once-at-most : (k : ℕ) (ks : List ℕ) → ((i j : ℕ) → i < j → j < length ks → get_or ks i 0 ≡ get_or ks j 0 → ⊥) → occurrences k ks ≤ 1
unfolding occurrences
once-at-most k [] h = omega arith
once-at-most k (x ∷ ks) h = go (eqb x k) refl (once-at-most k ks (λ i j l m. h (suc i) (suc j) (omega (arith, l)) (omega (arith, m))))
  where
    none : (m : ℕ) → occurrences k ks ≡ m → x ≡ k → m ≡ 0
    none zero q e = refl
    none (suc m) q e =
        let s = occurs-place k ks (omega (arith, q)) in
        absurd (h 0 (suc s.0) (omega arith) (omega (arith, s.1.0)) (e ∙ sym s.1.1))

    go : (b : Bool) → eqb x k ≡ b → occurrences k ks ≤ 1 → cond b (suc (occurrences k ks)) (occurrences k ks) ≤ 1
    go true e r = let z = none (occurrences k ks) refl (eqb-true x k e) in omega (arith, z)
    go false e r = r

pub permutation : (n : ℕ) (ks : List ℕ) → length ks ≡ n → ((i : ℕ) → i < length ks → get_or ks i 0 < n)
    → ((i j : ℕ) → i < j → j < length ks → get_or ks i 0 ≡ get_or ks j 0 → ⊥) → Permutation n ks
permutation n ks e b d =
    let s : sum_to (λ k. occurrences k ks) n ≡ length ks =
    sym (sum-counted (λ k. 1) n ks b ∙ sum_same (λ k. occurrences k ks * 1) (λ k. occurrences k ks) n (λ k l. mul-one (occurrences k ks))) ∙ length-sum ks in
    record { count = e; once = each-one (λ k. occurrences k ks) n (λ k l. once-at-most k ks d) (s ∙ e) }
