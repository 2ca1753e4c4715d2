-- Lists arranged by an order, said of numbers and lists alone. In order: functions of the items; members; places; counts, which
-- every permutation keeps. Two laws of members stand first.
use mathlib.Core.Path.{◌≡◌, refl, sym, ap, ap₂, ◌∙◌}
use mathlib.Core.Logic.{◌⊎◌, inl, inr}
use mathlib.Core.List.Memᴰ
use mathlib.Core.List.{List, [], ◌∷◌, ◌++◌, map, flat_map, flatten, map-append, Memᴰ}
use Prim.Native.Nat.{ℕ, zero, suc, ◌+◌, ◌<◌}
use native.Mathlib.Nat.{le_of_suc-le-suc, not-suc-le-zero}
use native.Mathlib.Numerals.{add-one}
use native.Mathlib.Omega.{arith}
use lib.ListN.{length, take, drop, get_or, length-append, length-take, length-drop, take-append-drop}
use lib.Seq.{drop-cons, take-add, take-length}
use Rattle.documents.proofs.Sums.{flat_append}
use Rattle.orders.specs.InOrder.{Permutation}
use Rattle.orders.proofs.Permutations.{sum_of, sum_to, permuted-sum}
use Rattle.canonical.specs.Arranged.{arranged}

-- ---- members of a list

pub map_same : {A B : Type 0} (f g : A → B) (xs : List A) → ((x : A) → Memᴰ x xs → f x ≡ g x) → map f xs ≡ map g xs
map_same f g [] h = refl
map_same {B = B} f g (x ∷ xs) h = ap₂ (λ (y : B) (ys : List B). y ∷ ys) (h x (Memᴰ.head refl)) (map_same f g xs (λ y m. h y (Memᴰ.tail m)))

pub member-place : {A : Type 0} (d : A) (xs : List A) {x : A} → Memᴰ x xs → (i : ℕ) × (get_or xs i d ≡ x)
member-place d [] m = elim m [ ]
member-place {A} d (y ∷ xs) {x} m = go (Memᴰ.cases_cons m) (member-place d xs)
  where
    go : (x ≡ y) ⊎ Memᴰ x xs → (Memᴰ x xs → (i : ℕ) × (get_or xs i d ≡ x)) → (i : ℕ) × (get_or (y ∷ xs) i d ≡ x)
    go (inl e) r = (0, sym e)
    go (inr m) r = let s = r m in (suc s.0, s.1)

-- ---- functions of the items

pub flatten-map : {A B : Type 0} (f : A → List B) (xs : List A) → flatten (map f xs) ≡ flat_map f xs
unfolding flatten flat_map
flatten-map f [] = refl
flatten-map {B = B} f (x ∷ xs) = ap (λ (ys : List B). f x ++ ys) (flatten-map f xs)

one_map : {A B : Type 0} (f : A → B) (k : ℕ) (xs : List A) → map f (take 1 (drop k xs)) ≡ take 1 (drop k (map f xs))
one_map f zero [] = refl
one_map f zero (x ∷ xs) = refl
one_map f (suc k) [] = refl
one_map f (suc k) (x ∷ xs) = one_map f k xs

pub arranged-map : {A B : Type 0} (f : A → B) (ks : List ℕ) (xs : List A) → map f (arranged ks xs) ≡ arranged ks (map f xs)
unfolding arranged
arranged-map f [] xs = refl
arranged-map {B = B} f (k ∷ ks) xs =
    map-append f (take 1 (drop k xs)) (arranged ks xs) ∙ ap₂ (λ (x y : List B). x ++ y) (one_map f k xs) (arranged-map f ks xs)

-- ---- members

pub arranged-member : {A : Type 0} (ks : List ℕ) (xs : List A) {x : A} → Memᴰ x (arranged ks xs) → Memᴰ x xs
unfolding arranged
arranged-member [] xs m = elim m [ ]
arranged-member (k ∷ ks) xs {x} m = go (Memᴰ.append_cases (take 1 (drop k xs)) m) (arranged-member ks xs)
  where
    go : Memᴰ x (take 1 (drop k xs)) ⊎ Memᴰ x (arranged ks xs) → (Memᴰ x (arranged ks xs) → Memᴰ x xs) → Memᴰ x xs
    go (inl m) r =
        let n = rw (take-append-drop 1 (drop k xs)) at (Memᴰ.append_left (drop 1 (drop k xs)) m) in
        rw (take-append-drop k xs) at (Memᴰ.append_right (take k xs) n)
    go (inr m) r = r m

-- ---- places

-- every number is below n
abbrev pub Below : ℕ → List ℕ → Type 0
Below n ks = (i : ℕ) → i < length ks → get_or ks i 0 < n

below-later : (n k : ℕ) (ks : List ℕ) → Below n (k ∷ ks) → Below n ks
below-later n k ks b i l = b (suc i) (omega arith)

module _ {A : Type 0} where
  pub arranged-length : (ks : List ℕ) (xs : List A) → Below (length xs) ks → length (arranged ks xs) ≡ length ks
  unfolding arranged
  arranged-length [] xs b = refl
  arranged-length (k ∷ ks) xs b =
      let l : k < length xs = b 0 (omega arith) in
      let r = arranged-length ks xs (below-later (length xs) k ks b) in
      omega (arith, length-append (take 1 (drop k xs)) (arranged ks xs), length-take 1 (drop k xs), length-drop k xs)

  pub arranged-at : (d : A) (ks : List ℕ) (xs : List A) → Below (length xs) ks → (j : ℕ) → j < length ks → get_or (arranged ks xs) j d ≡ get_or xs (get_or ks j 0) d
  unfolding arranged
  arranged-at d [] xs b j l = absurd (not-suc-le-zero l)
  arranged-at d (k ∷ ks) xs b zero l = rw (drop-cons xs k d (b 0 l))
  arranged-at d (k ∷ ks) xs b (suc j) l =
      rw (drop-cons xs k d (b 0 (omega arith))) (arranged-at d ks xs (below-later (length xs) k ks b) j (le_of_suc-le-suc l))

-- ---- counts

-- of nothing it is 0, and of two lists in a row the sum
pub record Additive {B : Type 0} (count : List B → ℕ) : Type 0 where
  pub none : count [] ≡ 0
  pub both : (xs ys : List B) → count (xs ++ ys) ≡ count xs + count ys

module _ {A B : Type 0} (count : List B → ℕ) (a : Additive count) (f : A → List B) (xs : List A) where
  abbrev one : ℕ → ℕ
  one k = count (flat_map f (take 1 (drop k xs)))

  flat-both : (us vs : List A) → count (flat_map f (us ++ vs)) ≡ count (flat_map f us) + count (flat_map f vs)
  flat-both us vs = ap count (flat_append f us vs) ∙ a.both (flat_map f us) (flat_map f vs)

  arranged-sum : (ks : List ℕ) → count (flat_map f (arranged ks xs)) ≡ sum_of one ks
  unfolding arranged sum_of flat_map
  arranged-sum [] = a.none
  arranged-sum (k ∷ ks) = flat-both (take 1 (drop k xs)) (arranged ks xs) ∙ ap (λ (n : ℕ). one k + n) (arranged-sum ks)

  taken-sum : (n : ℕ) → count (flat_map f (take n xs)) ≡ sum_to one n
  unfolding sum_to flat_map
  taken-sum zero = a.none
  taken-sum (suc n) =
      ap (λ (m : ℕ). count (flat_map f (take m xs))) (sym (add-one n))
      ∙ ap (λ (us : List A). count (flat_map f us)) (take-add n 1 xs)
      ∙ flat-both (take n xs) (take 1 (drop n xs))
      ∙ ap (λ (m : ℕ). m + one n) (taken-sum n)

  -- as much as of the list itself
  pub arranged-count : (ks : List ℕ) → Permutation (length xs) ks → count (flat_map f (arranged ks xs)) ≡ count (flat_map f xs)
  arranged-count ks p =
      arranged-sum ks
      ∙ permuted-sum (length xs) ks p one
      ∙ sym (taken-sum (length xs))
      ∙ ap (λ (us : List A). count (flat_map f us)) (take-length xs)

pub length-additive : {B : Type 0} → Additive {B = B} length
length-additive = record { none = refl; both = length-append }

-- so the length of a list, with others before and after it
pub length-between : {A B : Type 0} (f : A → List B) (head end : List B) (ks : List ℕ) (xs : List A) → Permutation (length xs) ks
    → length (head ++ (flat_map f (arranged ks xs) ++ end)) ≡ length (head ++ (flat_map f xs ++ end))
length-between f head end ks xs p =
    let e = arranged-count length length-additive f xs ks p in
    let x = flat_map f (arranged ks xs) in
    let y = flat_map f xs in
    omega (arith, e, length-append head (x ++ end), length-append x end, length-append head (y ++ end), length-append y end)
