-- `first` picks the least fault: it is one of the list and none lies before it; and it goes over `++` as `earlier`, which is
-- associative, commutative and idempotent. So a walk may meet faults in any order, and meet one twice.
-- The order first (`Before`: the test as a relation), then `earlier`, then `first`.
use mathlib.Core.Path.{◌≡◌, refl, sym, ap, ◌∙◌}
use mathlib.Core.Logic.{◌⊎◌, inl, inr}
use mathlib.Core.Bool.{Bool, true, false, cond, ◌&&◌, ◌||◌, or-false, true≢false, false≢true}
use mathlib.Core.List.Memᴰ
use mathlib.Core.List.{List, [], ◌∷◌, ◌++◌, Memᴰ}
use mathlib.Core.Option.{Option, some}
use mathlib.Core.Option.{none as nothing}
use Prim.Native.Nat.{ℕ, ◌≤◌, ◌<◌}
use native.Mathlib.Omega.{arith}
use lib.Dec.{eqb, ltb, leb}
use borrow.Author.Tests.{ltb-true, ltb-false, leb-true, leb-false, eqb-true, eqb-false, lt-ltb, le-ltb, le-leb, eq-eqb, ne_eqb}
use Rattle.lists.specs.Fault.{Fault, before, earlier_of, earlier, first, Before, by_place, by_code, by-detail, IsFirst}

-- ---- the order

pub before-is : (x y : Fault) → before x y ≡ true → Before x y
unfolding before
before-is x y h = place (ltb x.at y.at) refl h
  where
    detail : x.at ≡ y.at → (b : Bool) → eqb x.code y.code ≡ b → (b && leb x.detail y.detail) ≡ true → Before x y
    detail e true p q = by-detail e (eqb-true x.code y.code p) (leb-true x.detail y.detail q)
    detail e false p q = absurd (false≢true q)

    code : x.at ≡ y.at → (b : Bool) → ltb x.code y.code ≡ b → (b || (eqb x.code y.code && leb x.detail y.detail)) ≡ true → Before x y
    code e true p q = by_code e (ltb-true x.code y.code p)
    code e false p q = detail e (eqb x.code y.code) refl q

    same : (b : Bool) → eqb x.at y.at ≡ b → (b && (ltb x.code y.code || (eqb x.code y.code && leb x.detail y.detail))) ≡ true
        → Before x y
    same true p q = code (eqb-true x.at y.at p) (ltb x.code y.code) refl q
    same false p q = absurd (false≢true q)

    place : (b : Bool) → ltb x.at y.at ≡ b
        → (b || (eqb x.at y.at && (ltb x.code y.code || (eqb x.code y.code && leb x.detail y.detail)))) ≡ true → Before x y
    place true p q = by_place (ltb-true x.at y.at p)
    place false p q = same (eqb x.at y.at) refl q

pub is-before : (x y : Fault) → Before x y → before x y ≡ true
unfolding before
is-before x y (by_place h) = simp (lt-ltb x.at y.at h)
is-before x y (by_code e h) = simp (le-ltb x.at y.at (omega arith), eq-eqb x.at y.at e, lt-ltb x.code y.code h)
is-before x y (by-detail e k h) =
    simp (
      le-ltb x.at y.at (omega arith),
      eq-eqb x.at y.at e,
      le-ltb x.code y.code (omega arith),
      eq-eqb x.code y.code k,
      le-leb x.detail y.detail h,
    )

pub before-trans : {x y z : Fault} → Before x y → Before y z → Before x z
before-trans (by_place h) (by_place k) = by_place (omega arith)
before-trans (by_place h) (by_code e k) = by_place (omega arith)
before-trans (by_place h) (by-detail e d k) = by_place (omega arith)
before-trans (by_code e h) (by_place k) = by_place (omega arith)
before-trans (by_code e h) (by_code f k) = by_code (e ∙ f) (omega arith)
before-trans (by_code e h) (by-detail f d k) = by_code (e ∙ f) (omega arith)
before-trans (by-detail e d h) (by_place k) = by_place (omega arith)
before-trans (by-detail e d h) (by_code f k) = by_code (e ∙ f) (omega arith)
before-trans (by-detail e d h) (by-detail f c k) = by-detail (e ∙ f) (d ∙ c) (omega arith)

same-fault : (x y : Fault) → x.at ≡ y.at → x.code ≡ y.code → x.detail ≡ y.detail → x ≡ y
same-fault x y p q r = λ i. record { at = p i; code = q i; detail = r i }

pub before-antisym : (x y : Fault) → Before x y → Before y x → x ≡ y
before-antisym x y (by_place h) (by_place k) = absurd (omega arith)
before-antisym x y (by_place h) (by_code e k) = absurd (omega arith)
before-antisym x y (by_place h) (by-detail e d k) = absurd (omega arith)
before-antisym x y (by_code e h) (by_place k) = absurd (omega arith)
before-antisym x y (by_code e h) (by_code f k) = absurd (omega arith)
before-antisym x y (by_code e h) (by-detail f d k) = absurd (omega arith)
before-antisym x y (by-detail e d h) (by_place k) = absurd (omega arith)
before-antisym x y (by-detail e d h) (by_code f k) = absurd (omega arith)
before-antisym x y (by-detail e d h) (by-detail f c k) = same-fault x y e d (omega arith)

pub before-refl : (x : Fault) → Before x x
before-refl x = by-detail refl refl (omega arith)

-- Of two faults one is before the other.
pub after_is : (x y : Fault) → before x y ≡ false → Before y x
unfolding before
after_is x y h = place (ltb x.at y.at) refl h
  where
    detail : x.at ≡ y.at → y.code ≤ x.code → (b : Bool) → eqb x.code y.code ≡ b → (b && leb x.detail y.detail) ≡ false → Before y x
    detail e l true p q = let d = leb-false x.detail y.detail q in by-detail (sym e) (sym (eqb-true x.code y.code p)) (omega arith)
    detail e l false p q = let n : y.code < x.code = omega (arith, eqb-false x.code y.code p) in by_code (sym e) n

    code : x.at ≡ y.at → (b : Bool) → ltb x.code y.code ≡ b → (b || (eqb x.code y.code && leb x.detail y.detail)) ≡ false → Before y x
    code e true p q = absurd (true≢false q)
    code e false p q = detail e (ltb-false x.code y.code p) (eqb x.code y.code) refl q

    same : y.at ≤ x.at → (b : Bool) → eqb x.at y.at ≡ b
        → (b && (ltb x.code y.code || (eqb x.code y.code && leb x.detail y.detail))) ≡ false → Before y x
    same l true p q = code (eqb-true x.at y.at p) (ltb x.code y.code) refl q
    same l false p q = let n : y.at < x.at = omega (arith, eqb-false x.at y.at p) in by_place n

    place : (b : Bool) → ltb x.at y.at ≡ b
        → (b || (eqb x.at y.at && (ltb x.code y.code || (eqb x.code y.code && leb x.detail y.detail)))) ≡ false → Before y x
    place true p q = absurd (true≢false q)
    place false p q = same (ltb-false x.at y.at p) (eqb x.at y.at) refl q

-- ---- the earlier of two

-- What the earlier of two is: one of them, and before both.
pub record Least (x y z : Fault) : Type 0 where
  pub one : (z ≡ x) ⊎ (z ≡ y)
  pub left : Before z x
  pub right : Before z y

pub least : (x y : Fault) → Least x y (earlier_of x y)
least x y = go (before x y) refl
  where
    go : (b : Bool) → before x y ≡ b → Least x y (cond b x y)
    go true h = record { one = inl refl; left = before-refl x; right = before-is x y h }
    go false h = record { one = inr refl; left = after_is x y h; right = before-refl y }

-- What is one of two and before both is the earlier of them.
pub least-only : (x y z : Fault) → Least x y z → z ≡ earlier_of x y
least-only x y z l =
    let m = least x y in
    before-antisym z (earlier_of x y) (go m.one) (back l.one)
  where
    go : (earlier_of x y ≡ x) ⊎ (earlier_of x y ≡ y) → Before z (earlier_of x y)
    go (inl e) = rw e l.left
    go (inr e) = rw e l.right

    back : (z ≡ x) ⊎ (z ≡ y) → Before (earlier_of x y) z
    back (inl e) = rw e (least x y).left
    back (inr e) = rw e (least x y).right

of-comm : (x y : Fault) → earlier_of x y ≡ earlier_of y x
of-comm x y =
    let m = least x y in
    least-only y x (earlier_of x y) (record { one = flip m.one; left = m.right; right = m.left })
  where
    flip : (earlier_of x y ≡ x) ⊎ (earlier_of x y ≡ y) → (earlier_of x y ≡ y) ⊎ (earlier_of x y ≡ x)
    flip (inl e) = inr e
    flip (inr e) = inl e

of-self : (x : Fault) → earlier_of x x ≡ x
of-self x = sym (least-only x x x (record { one = inl refl; left = before-refl x; right = before-refl x }))

of-assoc : (x y z : Fault) → earlier_of (earlier_of x y) z ≡ earlier_of x (earlier_of y z)
of-assoc x y z =
    let a = least x y in
    let b = least y z in
    let c = least (earlier_of x y) z in
    let l : Before (earlier_of (earlier_of x y) z) x = before-trans c.left a.left in
    let m : Before (earlier_of (earlier_of x y) z) y = before-trans c.left a.right in
    least-only x (earlier_of y z) (earlier_of (earlier_of x y) z)
    (record { one = one c.one a.one; left = l; right = under m c.right b.one })
  where
    under : Before (earlier_of (earlier_of x y) z) y → Before (earlier_of (earlier_of x y) z) z → (earlier_of y z ≡ y) ⊎ (earlier_of y z ≡ z)
        → Before (earlier_of (earlier_of x y) z) (earlier_of y z)
    under p q (inl e) = rw e p
    under p q (inr e) = rw e q

    -- where the least of three is not x, it is the least of y and z
    is_y : earlier_of (earlier_of x y) z ≡ y → earlier_of (earlier_of x y) z ≡ earlier_of y z
    is_y e = least-only y z (earlier_of (earlier_of x y) z) (record { one = inl e; left = rw e (before-refl y); right = (least (earlier_of x y) z).right })

    is_z : earlier_of (earlier_of x y) z ≡ z → earlier_of (earlier_of x y) z ≡ earlier_of y z
    is_z e =
        least-only y z (earlier_of (earlier_of x y) z)
        (record { one = inr e; left = before-trans (least (earlier_of x y) z).left (least x y).right; right = (least (earlier_of x y) z).right })

    one : (earlier_of (earlier_of x y) z ≡ earlier_of x y) ⊎ (earlier_of (earlier_of x y) z ≡ z) → (earlier_of x y ≡ x) ⊎ (earlier_of x y ≡ y)
        → (earlier_of (earlier_of x y) z ≡ x) ⊎ (earlier_of (earlier_of x y) z ≡ earlier_of y z)
    one (inl e) (inl f) = inl (e ∙ f)
    one (inl e) (inr f) = inr (is_y (e ∙ f))
    one (inr e) f = inr (is_z e)

pub earlier-comm : (a b : Option Fault) → earlier a b ≡ earlier b a
earlier-comm nothing nothing = refl
earlier-comm nothing (some y) = refl
earlier-comm (some x) nothing = refl
earlier-comm (some x) (some y) = ap {B = Option Fault} some (of-comm x y)

pub earlier-self : (a : Option Fault) → earlier a a ≡ a
earlier-self nothing = refl
earlier-self (some x) = ap {B = Option Fault} some (of-self x)

pub earlier-none : (a : Option Fault) → earlier a nothing ≡ a
earlier-none nothing = refl
earlier-none (some x) = refl

pub earlier-assoc : (a b c : Option Fault) → earlier (earlier a b) c ≡ earlier a (earlier b c)
earlier-assoc nothing b c = refl
earlier-assoc (some x) nothing c = refl
earlier-assoc (some x) (some y) nothing = refl
earlier-assoc (some x) (some y) (some z) = ap {B = Option Fault} some (of-assoc x y z)

-- ---- the first of a list

-- The first fault of two lists in a row is the earlier of their first ones.
pub first-append : (xs ys : List Fault) → first (xs ++ ys) ≡ earlier (first xs) (first ys)
unfolding first
first-append [] ys = refl
first-append (x ∷ xs) ys = ap (earlier (some x)) (first-append xs ys) ∙ sym (earlier-assoc (some x) (first xs) (first ys))

-- A list without a first fault has none.
pub first-none : (xs : List Fault) → first xs ≡ nothing → xs ≡ []
unfolding first
first-none [] h = refl
first-none (x ∷ xs) h = go (first xs) h
  where
    go : (o : Option Fault) → earlier (some x) o ≡ nothing → x ∷ xs ≡ []
    go nothing e = let z : ◌≡◌ {A = ℕ} 0 1 = cc in absurd (omega arith)
    go (some y) e = let z : ◌≡◌ {A = ℕ} 0 1 = cc in absurd (omega arith)

-- The first fault is what its name says.
pub first-is : (xs : List Fault) (x : Fault) → first xs ≡ some x → IsFirst x xs
unfolding first
first-is [] x h = let z : ◌≡◌ {A = ℕ} 0 1 = cc in absurd (omega arith)
first-is (a ∷ xs) x h = go (first xs) refl h (first-is xs)
  where
    go : (o : Option Fault) → first xs ≡ o → earlier (some a) o ≡ some x → ((y : Fault) → first xs ≡ some y → IsFirst y xs) → IsFirst x (a ∷ xs)
    go nothing p e ih =
        let q : a ≡ x = cc in
        let n = first-none xs p in
        record { member = Memᴰ.head (sym q); lowest = λ y m. low y (Memᴰ.cases_cons m) }
      where
        none : (y : Fault) → Memᴰ y [] → Before x y
        none y m = elim m [ ]

        low : (y : Fault) → (y ≡ a) ⊎ Memᴰ y xs → Before x y
        low y (inl f) = let q : a ≡ x = cc in rw (f, q) (before-refl x)
        low y (inr m) = none y (rw (first-none xs p) at m)
    go (some b) p e ih =
        record { member = member l.one; lowest = λ y m. low y (Memᴰ.cases_cons m) }
      where
        q : earlier_of a b ≡ x
        q = cc

        l : Least a b x
        l = rw q at (least a b)

        i : IsFirst b xs
        i = ih b p

        member : (x ≡ a) ⊎ (x ≡ b) → Memᴰ x (a ∷ xs)
        member (inl f) = Memᴰ.head f
        member (inr f) = Memᴰ.tail {xs = xs} (rw f i.member)

        low : (y : Fault) → (y ≡ a) ⊎ Memᴰ y xs → Before x y
        low y (inl f) = rw f l.left
        low y (inr m) = before-trans l.right (i.lowest y m)

-- ---- the test, key by key, as the code makes it

pub test-place : (x y : Fault) → (x.at ≡ y.at → ⊥) → ltb x.at y.at ≡ before x y
unfolding before
test-place x y h = simp (ne_eqb x.at y.at h) (sym (or-false (ltb x.at y.at)))

pub test-code : (x y : Fault) → x.at ≡ y.at → (x.code ≡ y.code → ⊥) → ltb x.code y.code ≡ before x y
unfolding before
test-code x y e h =
    simp (le-ltb x.at y.at (omega arith), eq-eqb x.at y.at e, ne_eqb x.code y.code h) (sym (or-false (ltb x.code y.code)))

pub test-detail : (x y : Fault) → x.at ≡ y.at → x.code ≡ y.code → leb x.detail y.detail ≡ before x y
unfolding before
test-detail x y e k =
    simp (le-ltb x.at y.at (omega arith), eq-eqb x.at y.at e, le-ltb x.code y.code (omega arith), eq-eqb x.code y.code k)
