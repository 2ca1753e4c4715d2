-- The faults of an order are the places at fault, each with its code, and there are none exactly where the order is in order. In order:
-- numbers before a place; a fault of one place; of all places; the first one; no fault.
use mathlib.Core.Path.{◌≡◌, refl, sym, ap, ap₂, subst, ◌∙◌}
use mathlib.Core.Bool.{Bool, true, false, ◌&&◌, ◌||◌, true≢false, false≢true}
use mathlib.Core.Logic.{◌⊎◌, inl, inr, ◌↔◌}
use mathlib.Core.List.Memᴰ
use mathlib.Core.List.{List, [], ◌∷◌, ◌++◌, flatten, cons≢nil, Memᴰ}
use Prim.Native.Nat.{ℕ, zero, suc, ◌+◌, ◌<◌, ◌≤◌}
use native.Mathlib.Nat.{le_of_suc-le-suc, not-suc-le-zero}
use native.Mathlib.Omega.{arith}
use lib.Dec.{eqb, ltb}
use lib.ListN.{length, get_or, take, drop, drop_of_length-le}
use lib.Seq.{take-suc, drop-cons}
use borrow.Author.Tests.{eqb-true, eqb-false, eq-eqb, ne_eqb, ltb-true, ltb-false, le-ltb}
use Rattle.lists.specs.Fault.{Fault, fault, unless, Before, by_place, by_code, by-detail, IsFirst}
use Rattle.orders.specs.Code as Code
use Rattle.orders.specs.Order.{stands, all_stand, range_faults, repeated_call, early_use, place_faults, faults_from, wrong_length, order_faults}
use Rattle.orders.specs.InOrder.{NeededAt, Earlier, InOrder, AtFault, wrong-length, out_of_range, repeated-call, early-use, FirstAtFault}
use Rattle.orders.proofs.Places.{PlaceFault, of_range, of-repeat, of-use, unless-is, is-unless, place-fault, fault-place}
use Rattle.orders.proofs.Permutations.{permuted-below, permuted-once, permutation}

-- ---- numbers before a place

stands-earlier : (ks : List ℕ) (p m : ℕ) → stands (take p ks) m ≡ true → Earlier ks p m
unfolding stands
stands-earlier ks zero m e = absurd (false≢true e)
stands-earlier [] (suc p) m e = absurd (false≢true e)
stands-earlier (k ∷ ks) (suc p) m e = go (eqb k m) refl e (stands-earlier ks p m)
  where
    go : (b : Bool) → eqb k m ≡ b → (b || stands (take p ks) m) ≡ true → (stands (take p ks) m ≡ true → Earlier ks p m) → Earlier (k ∷ ks) (suc p) m
    go true q e r = record { place = 0; before = omega arith; stands = eqb-true k m q }
    go false q e r = let x = r e in record { place = suc x.place; before = omega (arith, x.before); stands = x.stands }

place-stands : (ks : List ℕ) (p m q : ℕ) → q < p → q < length ks → get_or ks q 0 ≡ m → stands (take p ks) m ≡ true
unfolding stands
place-stands ks zero m q l h e = absurd (not-suc-le-zero l)
place-stands [] (suc p) m q l h e = absurd (not-suc-le-zero h)
place-stands (k ∷ ks) (suc p) m zero l h e = rw (eq-eqb k m e)
place-stands (k ∷ ks) (suc p) m (suc q) l h e = go (eqb k m) (place-stands ks p m q (le_of_suc-le-suc l) (le_of_suc-le-suc h) e)
  where
    go : (b : Bool) → stands (take p ks) m ≡ true → (b || stands (take p ks) m) ≡ true
    go true r = refl
    go false r = r

earlier-stands : (ks : List ℕ) (p m : ℕ) → p < length ks → Earlier ks p m → stands (take p ks) m ≡ true
earlier-stands ks p m h y = place-stands ks p m y.place y.before (omega (arith, h, y.before)) y.stands

-- those that do not all stand before lack one
lacks : (js ws : List ℕ) → all_stand js ws ≡ false → (m : ℕ) × (Memᴰ m ws × (stands js m ≡ false))
unfolding all_stand
lacks js [] e = absurd (true≢false e)
lacks js (w ∷ ws) e = go (stands js w) refl e (lacks js ws)
  where
    go : (b : Bool) → stands js w ≡ b → (b && all_stand js ws) ≡ false → (all_stand js ws ≡ false → (m : ℕ) × (Memᴰ m ws × (stands js m ≡ false)))
        → (m : ℕ) × (Memᴰ m (w ∷ ws) × (stands js m ≡ false))
    go false q e r = (w, (Memᴰ.head refl, q))
    go true q e r = let x = r e in (x.0, (Memᴰ.tail x.1.0, x.1.1))

lacking : (js ws : List ℕ) (m : ℕ) → Memᴰ m ws → stands js m ≡ false → all_stand js ws ≡ false
unfolding all_stand
lacking js [] m d e = elim d [ ]
lacking js (w ∷ ws) m d e = go (Memᴰ.cases_cons d) (stands js w) refl (λ x. lacking js ws m x e)
  where
    go : (m ≡ w) ⊎ Memᴰ m ws → (b : Bool) → stands js w ≡ b → (Memᴰ m ws → all_stand js ws ≡ false) → (b && all_stand js ws) ≡ false
    go x false q r = refl
    go (inl z) true q r = absurd (true≢false (sym q ∙ ap (stands js) (sym z) ∙ e))
    go (inr d) true q r = r d

-- whether all stand before depends on which they are
all_same : (js ws vs : List ℕ) → ((m : ℕ) → Memᴰ m ws ↔ Memᴰ m vs) → all_stand js ws ≡ all_stand js vs
all_same js ws vs h = go (all_stand js ws) (all_stand js vs) refl refl
  where
    go : (a b : Bool) → all_stand js ws ≡ a → all_stand js vs ≡ b → all_stand js ws ≡ all_stand js vs
    go true true e f = e ∙ sym f
    go false false e f = e ∙ sym f
    go false true e f =
        let l = lacks js ws e in
        absurd (true≢false (sym f ∙ lacking js vs l.0 ((h l.0).0 l.1.0) l.1.1))
    go true false e f =
        let l = lacks js vs f in
        absurd (true≢false (sym e ∙ lacking js ws l.0 ((h l.0).1 l.1.0) l.1.1))

-- orders of as many calls that need the same calls have the same faults
module _ (ns ms : List (List ℕ)) (e : length ns ≡ length ms) (h : (k m : ℕ) → Memᴰ m (get_or ns k []) ↔ Memᴰ m (get_or ms k [])) where
  from-same : (js : List ℕ) (p : ℕ) (ks : List ℕ) → faults_from ns js p ks ≡ faults_from ms js p ks
  unfolding faults_from place_faults range_faults early_use
  from-same js p [] = refl
  from-same js p (k ∷ ks) =
      let place : (n : ℕ) (b : Bool) → List Fault = λ n b.
      flatten (unless (ltb k n) (fault Code.out_of_range p) ∷ repeated_call js p k ∷ unless b (fault Code.early_use p) ∷ []) in
      ap₂ (λ (xs ys : List Fault). xs ++ ys) (ap₂ place e (all_same js (get_or ns k []) (get_or ms k []) (h k))) (from-same (js ++ (k ∷ [])) (suc p) ks)

  length-same : (ks : List ℕ) → wrong_length ns ks ≡ wrong_length ms ks
  unfolding wrong_length
  length-same ks = rw e

  pub faults-same : (ks : List ℕ) → order_faults ns ks ≡ order_faults ms ks
  unfolding order_faults
  faults-same ks = ap₂ (λ (xs ys : List Fault). xs ++ ys) (length-same ks) (from-same [] 0 ks)

-- ---- one place

module _ (ns : List (List ℕ)) (ks : List ℕ) where
  abbrev Faulty : ℕ → Fault → Type 0
  Faulty p x = PlaceFault ns (take p ks) p (get_or ks p 0) x

  at-fault : (p : ℕ) (x : Fault) → p < length ks → Faulty p x → AtFault ns ks p x.code × (x ≡ fault x.code p)
  at-fault p x h (of_range e f) =
      let a : AtFault ns ks p Code.out_of_range = out_of_range h (ltb-false (get_or ks p 0) (length ns) f) in
      rw e (a, refl)
  at-fault p x h (of-repeat e f) =
      let a : AtFault ns ks p Code.repeated_call = repeated-call h (stands-earlier ks p (get_or ks p 0) f) in
      rw e (a, refl)
  at-fault p x h (of-use e f) =
      let l = lacks (take p ks) (get_or ns (get_or ks p 0) []) f in
      let a : AtFault ns ks p Code.early_use = early-use h l.1.0 (λ y. true≢false (sym (earlier-stands ks p l.0 h y) ∙ l.1.1)) in
      rw e (a, refl)

  -- ---- all places

  drop-some : (p k : ℕ) (js : List ℕ) → drop p ks ≡ k ∷ js → p < length ks
  drop-some p k js e = go (ltb p (length ks)) refl
    where
      go : (b : Bool) → ltb p (length ks) ≡ b → p < length ks
      go true q = ltb-true p (length ks) q
      go false q = absurd (cons≢nil (sym e ∙ drop_of_length-le ks (ltb-false p (length ks) q)))

  -- the faults from a place on are those of the places from there on
  from_place : (js : List ℕ) (p : ℕ) → drop p ks ≡ js → (x : Fault) → Memᴰ x (faults_from ns (take p ks) p js)
      → (q : ℕ) × ((q < length ks) × Faulty q x)
  unfolding faults_from
  from_place [] p e x m = elim m [ ]
  from_place (k ∷ js) p e x m =
      let h = drop-some p k js e in
      let c = sym e ∙ drop-cons ks p 0 h in
      let a : k ≡ get_or ks p 0 = cc in
      let b : drop (suc p) ks ≡ js = cc in
      let t : take p ks ++ (k ∷ []) ≡ take (suc p) ks = ap (λ (z : ℕ). take p ks ++ (z ∷ [])) a ∙ sym (take-suc ks p 0 h) in
      go h a (Memᴰ.append_cases (place_faults ns (take p ks) p k) m)
      (λ n. from_place js (suc p) b x (subst (λ (l : List ℕ). Memᴰ x (faults_from ns l (suc p) js)) t n))
    where
      go : p < length ks → k ≡ get_or ks p 0 → Memᴰ x (place_faults ns (take p ks) p k) ⊎ Memᴰ x (faults_from ns (take p ks ++ (k ∷ [])) (suc p) js)
          → (Memᴰ x (faults_from ns (take p ks ++ (k ∷ [])) (suc p) js) → (q : ℕ) × ((q < length ks) × Faulty q x))
          → (q : ℕ) × ((q < length ks) × Faulty q x)
      go h a (inl n) r = (p, (h, place-fault ns (take p ks) p (get_or ks p 0) x (subst (λ (z : ℕ). Memᴰ x (place_faults ns (take p ks) p z)) a n)))
      go h a (inr n) r = r n

  -- and each fault of a place is one of them
  place-from : (d p : ℕ) (x : Fault) → p + d < length ks → Faulty (p + d) x → Memᴰ x (faults_from ns (take p ks) p (drop p ks))
  unfolding faults_from
  place-from zero p x h f =
      let z : p + 0 ≡ p = omega arith in
      let g : Faulty p x = rw z at f in
      rw (drop-cons ks p 0 (omega (arith, h))) (Memᴰ.append_left _ (fault-place ns (take p ks) p (get_or ks p 0) x g))
  place-from (suc d) p x h f =
      let z : p + suc d ≡ suc p + d = omega arith in
      let l : p < length ks = omega (arith, h) in
      let r = place-from d (suc p) x (omega (arith, h)) (rw z at f) in
      rw (drop-cons ks p 0 l)
      (Memᴰ.append_right (place_faults ns (take p ks) p (get_or ks p 0))
      (subst (λ (js : List ℕ). Memᴰ x (faults_from ns js (suc p) (drop (suc p) ks))) (take-suc ks p 0 l) r))

  -- ---- all faults of an order

  pub fault-is : (x : Fault) → Memᴰ x (order_faults ns ks) → (x ≡ fault x.code x.at) × AtFault ns ks x.at x.code
  unfolding order_faults wrong_length
  fault-is x m = go (Memᴰ.append_cases (unless (eqb (length ks) (length ns)) (fault Code.wrong_length 0)) m)
    where
      place : (p : ℕ) → AtFault ns ks p x.code → x ≡ fault x.code p → (x ≡ fault x.code x.at) × AtFault ns ks x.at x.code
      place p a e =
          let z : x.at ≡ p = ap (λ (y : Fault). y.at) e in
          (e ∙ ap (fault x.code) (sym z), subst (λ (q : ℕ). AtFault ns ks q x.code) (sym z) a)

      go : Memᴰ x (unless (eqb (length ks) (length ns)) (fault Code.wrong_length 0)) ⊎ Memᴰ x (faults_from ns [] 0 ks)
          → (x ≡ fault x.code x.at) × AtFault ns ks x.at x.code
      go (inl n) =
          let u = unless-is (eqb (length ks) (length ns)) x (fault Code.wrong_length 0) n in
          let a : AtFault ns ks 0 Code.wrong_length = wrong-length (eqb-false (length ks) (length ns) u.1) in
          rw u.0 (refl, a)
      go (inr n) =
          let q = from_place ks 0 refl x n in
          let a = at-fault q.0 x q.1.0 q.1.1 in
          place q.0 a.0 a.1

  is-place : (p : ℕ) (x : Fault) → p < length ks → Faulty p x → Memᴰ x (order_faults ns ks)
  unfolding order_faults
  is-place p x h f =
      let z : 0 + p ≡ p = omega arith in
      Memᴰ.append_right (wrong_length ns ks) (place-from p 0 x (omega (arith, h)) (rw (sym z) at f))

  is-fault : {p c : ℕ} → AtFault ns ks p c → Memᴰ (fault c p) (order_faults ns ks)
  unfolding order_faults wrong_length
  is-fault (wrong-length h) = Memᴰ.append_left (faults_from ns [] 0 ks) (is-unless (eqb (length ks) (length ns)) refl (ne_eqb (length ks) (length ns) h))
  is-fault (out_of_range {p} h l) = is-place p (fault Code.out_of_range p) h (of_range refl (le-ltb (get_or ks p 0) (length ns) l))
  is-fault (repeated-call {p} h e) =
      is-place p (fault Code.repeated_call p) h (of-repeat refl (earlier-stands ks p (get_or ks p 0) h e))
  is-fault (early-use {p} {m} h n e) =
      is-place p (fault Code.early_use p) h (of-use refl (lacking (take p ks) (get_or ns (get_or ks p 0) []) m n (go (stands (take p ks) m) refl)))
    where
      go : (b : Bool) → stands (take p ks) m ≡ b → stands (take p ks) m ≡ false
      go true q = absurd (e (stands-earlier ks p m q))
      go false q = q

  -- ---- the first of them

  pub first-place : (p c : ℕ) → IsFirst (fault c p) (order_faults ns ks) ↔ FirstAtFault ns ks p c
  first-place p c = (to, from)
    where
      after : (q d : ℕ) → Before (fault c p) (fault d q) → (p < q) ⊎ ((p ≡ q) × (c ≤ d))
      after q d (by_place h) = inl h
      after q d (by_code e h) = inr (e, omega (arith, h))
      after q d (by-detail e f h) = inr (e, omega (arith, f))

      before : (q d : ℕ) → (p < q) ⊎ ((p ≡ q) × (c ≤ d)) → Before (fault c p) (fault d q)
      before q d (inl h) = by_place h
      before q d (inr h) = go (ltb c d) refl
        where
          go : (b : Bool) → ltb c d ≡ b → Before (fault c p) (fault d q)
          go true e = by_code h.0 (ltb-true c d e)
          go false e = by-detail h.0 (omega (arith, h.1, ltb-false c d e)) (omega arith)

      to : IsFirst (fault c p) (order_faults ns ks) → FirstAtFault ns ks p c
      to f = record { fault = (fault-is (fault c p) f.member).1; lowest = λ q d a. after q d (f.lowest (fault d q) (is-fault a)) }

      from : FirstAtFault ns ks p c → IsFirst (fault c p) (order_faults ns ks)
      from f = record {
        member = is-fault f.fault;
        lowest =
            λ y m.
            let a = fault-is y m in
            subst (λ (z : Fault). Before (fault c p) z) (sym a.0) (before y.at y.code (f.lowest y.at y.code a.1));
      }

  -- ---- no fault

  no_member : (xs : List Fault) → ((x : Fault) → Memᴰ x xs → ⊥) → xs ≡ []
  no_member [] h = refl
  no_member (x ∷ xs) h = absurd (h x (Memᴰ.head refl))

  -- where no place is at fault
  clean-order : ((p c : ℕ) → AtFault ns ks p c → ⊥) → InOrder ns ks
  clean-order h = record { every = permutation (length ns) ks right below apart; wired = wired }
    where
      right : length ks ≡ length ns
      right = go (eqb (length ks) (length ns)) refl
        where
          go : (b : Bool) → eqb (length ks) (length ns) ≡ b → length ks ≡ length ns
          go true e = eqb-true (length ks) (length ns) e
          go false e = absurd (h 0 Code.wrong_length (wrong-length (eqb-false (length ks) (length ns) e)))

      below : (i : ℕ) → i < length ks → get_or ks i 0 < length ns
      below i l = go (ltb (get_or ks i 0) (length ns)) refl
        where
          go : (b : Bool) → ltb (get_or ks i 0) (length ns) ≡ b → get_or ks i 0 < length ns
          go true e = ltb-true (get_or ks i 0) (length ns) e
          go false e = absurd (h i Code.out_of_range (out_of_range l (ltb-false (get_or ks i 0) (length ns) e)))

      apart : (i j : ℕ) → i < j → j < length ks → get_or ks i 0 ≡ get_or ks j 0 → ⊥
      apart i j l m e = h j Code.repeated_call (repeated-call m (record { place = i; before = l; stands = e }))

      wired : (p m : ℕ) → p < length ks → NeededAt ns ks p m → Earlier ks p m
      wired p m l n = go (stands (take p ks) m) refl
        where
          go : (b : Bool) → stands (take p ks) m ≡ b → Earlier ks p m
          go true e = stands-earlier ks p m e
          go false e = absurd (h p Code.early_use (early-use l n (λ y. true≢false (sym (earlier-stands ks p m l y) ∙ e))))

  order-clean : InOrder ns ks → (p c : ℕ) → AtFault ns ks p c → ⊥
  order-clean o p c (wrong-length h) = h o.every.count
  order-clean o p c (out_of_range h l) = let b = permuted-below (length ns) ks o.every p h in omega (arith, b, l)
  order-clean o p c (repeated-call h e) =
      let z = permuted-once (length ns) ks o.every e.place p (omega (arith, h, e.before)) h e.stands in
      omega (arith, z, e.before)
  order-clean o p c (early-use {m = m} h n e) = e (o.wired p m h n)

  pub no-fault : (order_faults ns ks ≡ []) ↔ InOrder ns ks
  no-fault = (
    λ (e : order_faults ns ks ≡ []). clean-order (λ p c a. Memᴰ.not-nil (rw e at (is-fault a))),
    λ (o : InOrder ns ks). no_member (order_faults ns ks) (λ x m. order-clean o x.at x.code (fault-is x m).1),
  )
