-- The walk over an order, up to a place: the numbers passed are marked, and the first fault from there on is that of the whole order.
use mathlib.Core.Path.{◌≡◌, refl, sym, ap, ◌∙◌}
use mathlib.Core.Bool.{Bool, true, false, cond, not, ◌||◌, or-false, or-true}
use mathlib.Core.List.{List, [], ◌∷◌, ◌++◌, Memᴰ}
use mathlib.Core.Option.{Option, some}
use mathlib.Core.Option.{none as nothing}
use Prim.Native.Nat.{ℕ, suc, ◌+◌, ◌<◌, ◌≤◌}
use native.Mathlib.Omega.{arith}
use lib.Dec.{eqb}
use lib.ListN.{length, get_or, set, take, drop, length-set, drop_of_length-le}
use lib.Seq.{take-suc, drop-cons, get_or-set_same, get_or-set_other}
use borrow.Author.Tests.{eqb-true, eqb-false, ne_eqb}
use Rattle.lexis.specs.Answer.{answer}
use Rattle.lists.specs.Fault.{Fault, fault, earlier, first, by_place}
use Rattle.lists.proofs.First.{first-append, first-is, is-before}
use Rattle.documents.specs.Walks.{coded}
use Rattle.orders.specs.Order.{stands, place_faults, faults_from}
use Rattle.orders.specs.Scratch.{rows, Bounded, Unmarked, is_marked, code_by, answer_of}
use Rattle.orders.proofs.Marks.{is-unmarked}
use Rattle.orders.proofs.Rows.{rows-length, row_below}
use Rattle.orders.proofs.Codes.{place-first}
use Rattle.orders.proofs.Places.{fault-later, stands-more}

-- ---- one place

-- a fault at a place comes before all from the next place on
before-later : (ns : List (List ℕ)) (js : List ℕ) (c p : ℕ) (ks : List ℕ)
    → earlier (some (fault c p)) (first (faults_from ns js (suc p) ks)) ≡ some (fault c p)
before-later ns js c p ks = go (first (faults_from ns js (suc p) ks)) refl
  where
    go : (o : Option Fault) → first (faults_from ns js (suc p) ks) ≡ o → earlier (some (fault c p)) o ≡ some (fault c p)
    go nothing e = refl
    go (some x) e =
        let l = fault-later ns js (suc p) ks x (first-is (faults_from ns js (suc p) ks) x e).member in
        ap (λ (b : Bool). some (cond b (fault c p) x)) (is-before (fault c p) x (by_place l))

-- a mark more
marks-more : (n : ℕ) (marks js : List ℕ) (k : ℕ) → k < length marks → ((j : ℕ) → j < n → is_marked marks j ≡ stands js j)
    → (j : ℕ) → j < n → is_marked (set marks k 1) j ≡ stands (js ++ (k ∷ [])) j
marks-more n marks js k h f j l = go (eqb k j) refl
  where
    go : (b : Bool) → eqb k j ≡ b → is_marked (set marks k 1) j ≡ stands (js ++ (k ∷ [])) j
    go true e =
        let z = eqb-true k j e in
        ap (λ (x : ℕ). not (eqb x 0)) (ap (λ (i : ℕ). get_or (set marks k 1) i 0) (sym z) ∙ get_or-set_same marks k 1 0 h)
        ∙ sym (stands-more js k j ∙ ap (λ (b : Bool). stands js j || b) e ∙ or-true (stands js j))
    go false e =
        let z = eqb-false k j e in
        ap (λ (x : ℕ). not (eqb x 0)) (get_or-set_other marks k j 1 0 (λ q. z (sym q)))
        ∙ f j l
        ∙ sym (stands-more js k j ∙ ap (λ (b : Bool). stands js j || b) e ∙ or-false (stands js j))

-- ---- the walk

pub record Walked (ns : List (List ℕ)) (ks marks₀ marks : List ℕ) (i : ℕ) : Type 0 where
  pub inside : i ≤ length ks
  pub same : length marks ≡ length marks₀
  pub agrees : (k : ℕ) → k < length ns → is_marked marks k ≡ stands (take i ks) k
  pub found : first (faults_from ns [] 0 ks) ≡ first (faults_from ns (take i ks) i (drop i ks))

module _ (ns : List (List ℕ)) (ks marks₀ : List ℕ) where
  pub walked_start : Unmarked (length ns) marks₀ → Walked ns ks marks₀ marks₀ 0
  unfolding stands
  walked_start u = record { inside = omega arith; same = refl; agrees = λ k h. is-unmarked marks₀ k (u k h); found = refl }

  module _ (marks : List ℕ) (i : ℕ) (w : Walked ns ks marks₀ marks i) (h : i < length ks)
      (below : (k : ℕ) → k < length ns → (m : ℕ) → Memᴰ m (get_or ns k []) → m < length ns) where
    abbrev k : ℕ
    k = get_or ks i 0

    abbrev js : List ℕ
    js = take i ks

    -- the faults from here on: those of this place, and those after it
    here : first (faults_from ns [] 0 ks) ≡ earlier (coded (code_by ns marks k) i) (first (faults_from ns (js ++ (k ∷ [])) (suc i) (drop (suc i) ks)))
    unfolding faults_from
    here =
        w.found
        ∙ ap (λ (l : List ℕ). first (faults_from ns js i l)) (drop-cons ks i 0 h)
        ∙ first-append (place_faults ns js i k) (faults_from ns (js ++ (k ∷ [])) (suc i) (drop (suc i) ks))
        ∙ ap (λ (o : Option Fault). earlier o (first (faults_from ns (js ++ (k ∷ [])) (suc i) (drop (suc i) ks))))
        (place-first ns marks js w.agrees k (below k) i)

    pub walked_next : code_by ns marks k ≡ 0 → k < length marks → Walked ns ks marks₀ (set marks k 1) (i + 1)
    walked_next e l =
        let z : i + 1 ≡ suc i = omega arith in
        let t : take (i + 1) ks ≡ js ++ (k ∷ []) = ap (λ (j : ℕ). take j ks) z ∙ take-suc ks i 0 h in
        record {
          inside = omega (arith, h);
          same = length-set marks k 1 ∙ w.same;
          agrees = λ j m. marks-more (length ns) marks js k l w.agrees j m ∙ ap (λ (xs : List ℕ). stands xs j) (sym t);
          found = rw (z, take-suc ks i 0 h) (here ∙ rw e);
        }

    pub walked_stop : (n : ℕ) → (code_by ns marks k ≡ 0 → ⊥) → answer_of n (faults_from ns [] 0 ks) ≡ answer (code_by ns marks k) 0 i 0
    walked_stop n e =
        let c = code_by ns marks k in
        let later = first (faults_from ns (js ++ (k ∷ [])) (suc i) (drop (suc i) ks)) in
        let f : first (faults_from ns [] 0 ks) ≡ some (fault c i) =
        here ∙ ap (λ (b : Bool). earlier (cond b nothing (some (fault c i))) later) (ne_eqb c 0 e) ∙ before-later ns (js ++ (k ∷ [])) c i (drop (suc i) ks) in
        rw f

  pub walked_end : (marks : List ℕ) (i n : ℕ) → Walked ns ks marks₀ marks i → length ks ≤ i → answer_of n (faults_from ns [] 0 ks) ≡ answer 0 0 0 n
  unfolding faults_from first
  walked_end marks i n w h =
      let f : first (faults_from ns [] 0 ks) ≡ nothing = w.found ∙ ap (λ (l : List ℕ). first (faults_from ns (take i ks) i l)) (drop_of_length-le ks h) in
      rw f

-- ---- by the needs that records have

module _ (records : List ℕ) (n : ℕ) (b : Bounded records n) where
  pub rows-below : (k : ℕ) → k < length (rows records n) → (m : ℕ) → Memᴰ m (get_or (rows records n) k []) → m < length (rows records n)
  rows-below k h m q =
      let e = rows-length records n in
      let l = row_below records n k b (omega (arith, h, e)) m q in
      omega (arith, l, e)

pub rows-unmarked : (records : List ℕ) (n : ℕ) (marks : List ℕ) → Unmarked n marks → Unmarked (length (rows records n)) marks
rows-unmarked records n marks u k h = u k (omega (arith, h, rows-length records n))
