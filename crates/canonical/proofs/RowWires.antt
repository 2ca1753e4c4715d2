-- Wires by names alone: for each call a row of the names that it assigns and a row of those that it uses. In order: names and members; the
-- row in which a name stands; needs; wires under an order.
use mathlib.Core.Path.{◌≡◌, refl, sym, ap, ap₂, subst, ◌∙◌}
use mathlib.Core.Bool.{Bool, true, false, cond}
use mathlib.Core.Logic.{◌⊎◌, inl, inr}
use mathlib.Core.List.Memᴰ
use mathlib.Core.List.{List, [], ◌∷◌, map, flatten, map-map, Memᴰ}
use Prim.Native.Nat.{ℕ, zero, suc, ◌≤◌, ◌<◌}
use native.Mathlib.Nat.{not-suc-le-zero}
use native.Mathlib.Omega.{arith}
use lib.ListN.{length, get_or, length-map, get_or-map}
use Rattle.spellings.specs.Comparison.{same_bytes}
use Rattle.lexis.specs.Lexer.{Token}
use Rattle.syntax.specs.Tree.{Call}
use Rattle.lists.specs.Names.{assigned, used}
use Rattle.documents.specs.Tables.{assigner}
use Rattle.documents.proofs.Sought.{same-is}
use Rattle.writing.specs.Plan.{spellings}
use Rattle.writing.specs.Lawful.{times, Among, Distinct}
use Rattle.orders.specs.Order.{needs}
use Rattle.orders.specs.InOrder.{Permutation, InOrder}
use Rattle.orders.proofs.Permutations.{permuted-below}
use Rattle.canonical.specs.Arranged.{arranged}
use Rattle.canonical.proofs.Spelt.{is_in, among_in}
use Rattle.canonical.proofs.PlanNames.{times-append, times-first, times-later, is-in, not_in}
use Rattle.canonical.proofs.Arrangement.{Below, map_same, member-place, arranged-map, arranged-length, arranged-at}

abbrev pub Rows : Type 0
Rows = List (List (List ℕ))

-- ---- names and members

pub among-member : (w : List ℕ) (ws : List (List ℕ)) → Among w ws → Memᴰ w ws
unfolding times
among-member w [] a = absurd (not-suc-le-zero a)
among-member w (v ∷ ws) a = go (same_bytes v w) refl a (among-member w ws)
  where
    go : (b : Bool) → same_bytes v w ≡ b → 0 < cond b (suc (times w ws)) (times w ws) → (Among w ws → Memᴰ w ws) → Memᴰ w (v ∷ ws)
    go true e a r = Memᴰ.head (sym (same-is v w e))
    go false e a r = Memᴰ.tail (r a)

pub member-among : (w : List ℕ) (ws : List (List ℕ)) → Memᴰ w ws → Among w ws
member-among w [] m = elim m [ ]
member-among w (v ∷ ws) m = go (Memᴰ.cases_cons m) (member-among w ws)
  where
    go : (w ≡ v) ⊎ Memᴰ w ws → (Memᴰ w ws → Among w ws) → Among w (v ∷ ws)
    go (inl e) r = rw (← e) (omega (arith, times-first w ws))
    go (inr m) r = omega (arith, times-later w v ws, r m)

-- ---- the row in which a name stands

times-row : (w : List ℕ) (rows : Rows) (i : ℕ) → times w (get_or rows i []) ≤ times w (flatten rows)
unfolding times flatten
times-row w [] i = omega arith
times-row w (vs ∷ rows) zero = omega (arith, times-append w vs (flatten rows))
times-row w (vs ∷ rows) (suc i) = omega (arith, times-append w vs (flatten rows), times-row w rows i)

pub row-among : (w : List ℕ) (rows : Rows) (i : ℕ) → Among w (get_or rows i []) → Among w (flatten rows)
row-among w rows i a = omega (arith, times-row w rows i)

-- beyond the last row stands no name
pub row_below : (w : List ℕ) (rows : Rows) (i : ℕ) → Among w (get_or rows i []) → i < length rows
unfolding times
row_below w [] i a = absurd (not-suc-le-zero a)
row_below w (vs ∷ rows) zero a = omega arith
row_below w (vs ∷ rows) (suc i) a = omega (arith, row_below w rows i a)

-- the first row in which a name stands
unfoldable pub maker : Rows → List ℕ → ℕ
maker [] w = 0
maker (vs ∷ rows) w = let r = suc (maker rows w) in cond (is_in vs w) 0 r

pub maker-has : (w : List ℕ) (rows : Rows) → Among w (flatten rows) → Among w (get_or rows (maker rows w) [])
unfolding maker flatten times
maker-has w [] a = absurd (not-suc-le-zero a)
maker-has w (vs ∷ rows) a = go (is_in vs w) refl (maker-has w rows)
  where
    go : (b : Bool) → is_in vs w ≡ b → (Among w (flatten rows) → Among w (get_or rows (maker rows w) []))
        → Among w (get_or (vs ∷ rows) (cond b 0 (suc (maker rows w))) [])
    go true e r = (is-in vs w).0 e
    go false e r = r (omega (arith, a, times-append w vs (flatten rows), not_in vs w e))

maker-only : (w : List ℕ) (rows : Rows) (i : ℕ) → Distinct (flatten rows) → Among w (get_or rows i []) → maker rows w ≡ i
unfolding maker flatten times
maker-only w [] i d a = absurd (not-suc-le-zero a)
maker-only w (vs ∷ rows) zero d a = simp ((is-in vs w).1 a)
maker-only w (vs ∷ rows) (suc i) d a =
    go (is_in vs w) refl (maker-only w rows i (λ v. omega (arith, d v, times-append v vs (flatten rows))) a)
  where
    go : (b : Bool) → is_in vs w ≡ b → maker rows w ≡ i → cond b 0 (suc (maker rows w)) ≡ suc i
    go true e r = absurd (omega (arith, d w, times-append w vs (flatten rows), (is-in vs w).0 e, row-among w rows i a))
    go false e r = ap suc r

-- ---- needs

abbrev pub assigned_rows : List Call → Rows
assigned_rows cs = map (λ (c : Call). spellings (assigned c)) cs

abbrev pub used_rows : List Call → Rows
used_rows cs = map (λ (c : Call). spellings (used c)) cs

abbrev pub row_needs : Rows → Rows → List (List ℕ)
row_needs makes uses = map (map (maker makes)) uses

assigner-maker : (cs : List Call) (t : Token) → assigner cs t ≡ maker (assigned_rows cs) t.bytes
unfolding assigner maker
assigner-maker [] t = refl
assigner-maker (c ∷ cs) t = ap₂ (λ (b : Bool) (n : ℕ). cond b 0 (suc n)) (among_in (assigned c) t) (assigner-maker cs t)

pub needs-rows : (cs : List Call) → needs cs ≡ row_needs (assigned_rows cs) (used_rows cs)
unfolding needs
needs-rows cs =
    map_same (λ (c : Call). map (assigner cs) (used c)) (λ (c : Call). map (maker (assigned_rows cs)) (spellings (used c))) cs (λ c m.
    map_same (assigner cs) (λ (t : Token). maker (assigned_rows cs) t.bytes) (used c) (λ t n. assigner-maker cs t)
    ∙ sym (map-map (maker (assigned_rows cs)) (λ (t : Token). t.bytes) (used c)))
    ∙ sym (map-map (map (maker (assigned_rows cs))) (λ (c : Call). spellings (used c)) cs)

pub needed-at : (makes uses : Rows) (k : ℕ) → get_or (row_needs makes uses) k [] ≡ map (maker makes) (get_or uses k [])
needed-at makes uses k = get_or-map (map (maker makes)) uses k []

-- ---- wires

-- each name that row j of the uses has is assigned in a row before j
abbrev pub RowsWired : Rows → Rows → Type 0
RowsWired makes uses = (j : ℕ) (w : List ℕ) → Among w (get_or uses j []) → (i : ℕ) × ((i < j) × Among w (get_or makes i []))

-- under an order
module _ (makes uses : Rows) (ks : List ℕ) (p : Permutation (length makes) ks) (e : length uses ≡ length makes) where
  abbrev makes' : Rows
  makes' = arranged ks makes

  abbrev uses' : Rows
  uses' = arranged ks uses

  makes-at : (j : ℕ) → j < length ks → get_or makes' j [] ≡ get_or makes (get_or ks j 0) []
  makes-at j l = arranged-at [] ks makes (permuted-below (length makes) ks p) j l

  uses-below : Below (length uses) ks
  uses-below = subst (λ (n : ℕ). Below n ks) (sym e) (permuted-below (length makes) ks p)

  uses-at : (j : ℕ) → j < length ks → get_or uses' j [] ≡ get_or uses (get_or ks j 0) []
  uses-at j l = arranged-at [] ks uses uses-below j l

  -- a name assigned or used at a place stands at a place of the order
  made-below : (w : List ℕ) (j : ℕ) → Among w (get_or makes' j []) → j < length ks
  made-below w j a = omega (arith, row_below w makes' j a, arranged-length ks makes (permuted-below (length makes) ks p))

  used-below : (w : List ℕ) (j : ℕ) → Among w (get_or uses' j []) → j < length ks
  used-below w j a = omega (arith, row_below w uses' j a, arranged-length ks uses uses-below)

  -- an order in which each call comes after those that it needs keeps the wires
  pub ordered-wired : RowsWired makes uses → (ns : List (List ℕ))
      → ((k : ℕ) (w : List ℕ) → Among w (get_or uses k []) → Memᴰ (maker makes w) (get_or ns k [])) → InOrder ns ks
      → RowsWired makes' uses'
  ordered-wired h ns n o j w a =
      let l = used-below w j a in
      let b = subst (Among w) (uses-at j l) a in
      let x = h (get_or ks j 0) w b in
      let m = maker-has w makes (row-among w makes x.0 x.1.1) in
      let s = o.wired j (maker makes w) l (n (get_or ks j 0) w b) in
      let q = makes-at s.place (omega (arith, s.before)) ∙ ap (λ (k : ℕ). get_or makes k []) s.stands in
      (s.place, (s.before, subst (Among w) (sym q) m))

  module _ (d : Distinct (flatten makes)) (h : RowsWired makes' uses') where
    -- and where the wires are kept it is such an order
    pub wired-ordered : InOrder (row_needs makes uses) ks
    wired-ordered = record {
      every = subst (λ (n : ℕ). Permutation n ks) (sym (length-map uses (map (maker makes)) ∙ e)) p;
      wired = λ j m l n.
          let x = Memᴰ.of_map (maker makes) (get_or uses (get_or ks j 0) []) (subst (Memᴰ m) (needed-at makes uses (get_or ks j 0)) n) in
          let w = x.0 in
          let y = h j w (subst (Among w) (sym (uses-at j l)) (member-among w (get_or uses (get_or ks j 0) []) x.1)) in
          let z = subst (Among w) (makes-at y.0 (omega (arith, y.1.0))) y.1.1 in
          record { place = y.0; before = y.1.0; stands = sym (maker-only w makes (get_or ks y.0 0) d z) ∙ x.2 };
    }

    -- each wire leads to the call of before, at its new number
    pub wires-kept : map (map (λ (m : ℕ). get_or ks m 0)) (row_needs makes' uses') ≡ arranged ks (row_needs makes uses)
    wires-kept =
        map-map (map (λ (m : ℕ). get_or ks m 0)) (map (maker makes')) uses'
        ∙ map_same (λ (ws : List (List ℕ)). map (λ (m : ℕ). get_or ks m 0) (map (maker makes') ws)) (map (maker makes)) uses' row
        ∙ arranged-map (map (maker makes)) ks uses
      where
        one : (j : ℕ) (w : List ℕ) → Among w (get_or uses' j []) → get_or ks (maker makes' w) 0 ≡ maker makes w
        one j w a =
            let y = h j w a in
            let b = maker-has w makes' (row-among w makes' y.0 y.1.1) in
            let z = subst (Among w) (makes-at (maker makes' w) (made-below w (maker makes' w) b)) b in
            sym (maker-only w makes (get_or ks (maker makes' w) 0) d z)

        row : (ws : List (List ℕ)) → Memᴰ ws uses' → map (λ (m : ℕ). get_or ks m 0) (map (maker makes') ws) ≡ map (maker makes) ws
        row ws n =
            let s = member-place [] uses' n in
            map-map (λ (m : ℕ). get_or ks m 0) (maker makes') ws
            ∙ map_same (λ (w : List ℕ). get_or ks (maker makes' w) 0) (maker makes) ws (λ w m. one s.0 w (rw s.1 (member-among w ws m)))
