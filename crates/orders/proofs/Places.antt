-- The faults of a place, and of the numbers from a place on: what each of them says, and that none lies before the place.
use mathlib.Core.Path.{◌≡◌, refl, sym, ap}
use mathlib.Core.Bool.{Bool, true, false, not, ◌||◌}
use mathlib.Core.Logic.{◌⊎◌, inl, inr}
use mathlib.Core.List.Memᴰ
use mathlib.Core.List.{List, [], ◌∷◌, ◌++◌, flatten, Memᴰ}
use Prim.Native.Nat.{ℕ, suc, ◌≤◌}
use native.Mathlib.Omega.{arith}
use lib.Dec.{eqb, ltb}
use lib.ListN.{length, get_or}
use Rattle.lists.specs.Fault.{Fault, fault, unless}
use Rattle.orders.specs.Code as Code
use Rattle.orders.specs.Order.{stands, all_stand, range_faults, repeated_call, early_use, place_faults, faults_from}

-- ---- the faults of one place

-- x is a fault at place p of the number k after the numbers js
pub data PlaceFault (ns : List (List ℕ)) (js : List ℕ) (p k : ℕ) (x : Fault) : Type 0 where
  of_range : x ≡ fault Code.out_of_range p → ltb k (length ns) ≡ false → PlaceFault ns js p k x
  of-repeat : x ≡ fault Code.repeated_call p → stands js k ≡ true → PlaceFault ns js p k x
  of-use : x ≡ fault Code.early_use p → all_stand js (get_or ns k []) ≡ false → PlaceFault ns js p k x

pub unless-is : (b : Bool) (x y : Fault) → Memᴰ x (unless b y) → (x ≡ y) × (b ≡ false)
unless-is true x y m = elim m [ ]
unless-is false x y m = go (Memᴰ.cases_cons m)
  where
    go : (x ≡ y) ⊎ Memᴰ x [] → (x ≡ y) × (false ≡ false)
    go (inl e) = (e, refl)
    go (inr n) = elim n [ ]

pub is-unless : (b : Bool) {x y : Fault} → x ≡ y → b ≡ false → Memᴰ x (unless b y)
is-unless b e f = rw f (Memᴰ.head e)

not-false-is : (b : Bool) → not b ≡ false → b ≡ true
not-false-is true e = refl
not-false-is false e = sym e

module _ (ns : List (List ℕ)) (js : List ℕ) (p k : ℕ) (x : Fault) where
  pub place-fault : Memᴰ x (place_faults ns js p k) → PlaceFault ns js p k x
  unfolding place_faults range_faults repeated_call early_use flatten
  place-fault m = one (Memᴰ.append_cases (unless (ltb k (length ns)) (fault Code.out_of_range p)) m)
    where
      three : Memᴰ x (unless (all_stand js (get_or ns k [])) (fault Code.early_use p)) ⊎ Memᴰ x [] → PlaceFault ns js p k x
      three (inl m) = let e = unless-is (all_stand js (get_or ns k [])) x (fault Code.early_use p) m in of-use e.0 e.1
      three (inr m) = elim m [ ]

      two : Memᴰ x (unless (not (stands js k)) (fault Code.repeated_call p))
          ⊎ Memᴰ x (unless (all_stand js (get_or ns k [])) (fault Code.early_use p) ++ []) → PlaceFault ns js p k x
      two (inl m) = let e = unless-is (not (stands js k)) x (fault Code.repeated_call p) m in of-repeat e.0 (not-false-is (stands js k) e.1)
      two (inr m) = three (Memᴰ.append_cases (unless (all_stand js (get_or ns k [])) (fault Code.early_use p)) m)

      one : Memᴰ x (unless (ltb k (length ns)) (fault Code.out_of_range p))
          ⊎ Memᴰ x (unless (not (stands js k)) (fault Code.repeated_call p) ++ (unless (all_stand js (get_or ns k [])) (fault Code.early_use p) ++ []))
          → PlaceFault ns js p k x
      one (inl m) = let e = unless-is (ltb k (length ns)) x (fault Code.out_of_range p) m in of_range e.0 e.1
      one (inr m) = two (Memᴰ.append_cases (unless (not (stands js k)) (fault Code.repeated_call p)) m)

  pub fault-place : PlaceFault ns js p k x → Memᴰ x (place_faults ns js p k)
  unfolding place_faults range_faults repeated_call early_use flatten
  fault-place (of_range e f) = Memᴰ.append_left _ (is-unless (ltb k (length ns)) e f)
  fault-place (of-repeat e f) =
      Memᴰ.append_right (unless (ltb k (length ns)) (fault Code.out_of_range p)) (Memᴰ.append_left _ (is-unless (not (stands js k)) e (ap not f)))
  fault-place (of-use e f) =
      Memᴰ.append_right (unless (ltb k (length ns)) (fault Code.out_of_range p))
      (Memᴰ.append_right (unless (not (stands js k)) (fault Code.repeated_call p)) (Memᴰ.append_left _ (is-unless (all_stand js (get_or ns k [])) e f)))

at_place : {ns : List (List ℕ)} {js : List ℕ} {p k : ℕ} {x : Fault} → PlaceFault ns js p k x → x.at ≡ p
at_place (of_range e f) = ap (λ (x : Fault). x.at) e
at_place (of-repeat e f) = ap (λ (x : Fault). x.at) e
at_place (of-use e f) = ap (λ (x : Fault). x.at) e

-- ---- the faults from a place on

-- none lies before it
pub fault-later : (ns : List (List ℕ)) (js : List ℕ) (p : ℕ) (ks : List ℕ) (x : Fault) → Memᴰ x (faults_from ns js p ks) → p ≤ x.at
unfolding faults_from
fault-later ns js p [] x m = elim m [ ]
fault-later ns js p (k ∷ ks) x m = go (Memᴰ.append_cases (place_faults ns js p k) m) (fault-later ns (js ++ (k ∷ [])) (suc p) ks x)
  where
    go : Memᴰ x (place_faults ns js p k) ⊎ Memᴰ x (faults_from ns (js ++ (k ∷ [])) (suc p) ks)
        → (Memᴰ x (faults_from ns (js ++ (k ∷ [])) (suc p) ks) → suc p ≤ x.at) → p ≤ x.at
    go (inl m) r = let e = at_place (place-fault ns js p k x m) in omega (arith, e)
    go (inr m) r = let l = r m in omega (arith, l)

-- their codes are 42 to 44
place-codes : {ns : List (List ℕ)} {js : List ℕ} {p k : ℕ} {x : Fault} → PlaceFault ns js p k x → 42 ≤ x.code
place-codes (of_range e f) = let z = ap (λ (y : Fault). y.code) e in omega (arith, z)
place-codes (of-repeat e f) = let z = ap (λ (y : Fault). y.code) e in omega (arith, z)
place-codes (of-use e f) = let z = ap (λ (y : Fault). y.code) e in omega (arith, z)

pub fault-codes : (ns : List (List ℕ)) (js : List ℕ) (p : ℕ) (ks : List ℕ) (x : Fault) → Memᴰ x (faults_from ns js p ks) → 42 ≤ x.code
unfolding faults_from
fault-codes ns js p [] x m = elim m [ ]
fault-codes ns js p (k ∷ ks) x m = go (Memᴰ.append_cases (place_faults ns js p k) m) (fault-codes ns (js ++ (k ∷ [])) (suc p) ks x)
  where
    go : Memᴰ x (place_faults ns js p k) ⊎ Memᴰ x (faults_from ns (js ++ (k ∷ [])) (suc p) ks)
        → (Memᴰ x (faults_from ns (js ++ (k ∷ [])) (suc p) ks) → 42 ≤ x.code) → 42 ≤ x.code
    go (inl m) r = place-codes (place-fault ns js p k x m)
    go (inr m) r = r m

-- ---- one number more before a place

pub stands-more : (js : List ℕ) (k m : ℕ) → stands (js ++ (k ∷ [])) m ≡ (stands js m || eqb k m)
unfolding stands
stands-more [] k m = go (eqb k m)
  where
    go : (b : Bool) → (b || false) ≡ b
    go true = refl
    go false = refl
stands-more (j ∷ js) k m = go (eqb j m) (stands-more js k m)
  where
    go : (b : Bool) → stands (js ++ (k ∷ [])) m ≡ (stands js m || eqb k m) → (b || stands (js ++ (k ∷ [])) m) ≡ ((b || stands js m) || eqb k m)
    go true e = refl
    go false e = e
