-- The records of an accepted document give the needs of its calls. In order: words that stand in a slice; the needs of uses and of calls;
-- how many uses there are; that each need is the number of a call.
use mathlib.Core.Path.{◌≡◌, refl, sym, ap, ap₂, subst, ◌∙◌}
use mathlib.Core.Logic.{◌⊎◌, inl, inr}
use mathlib.Core.List.Memᴰ
use mathlib.Core.List.{List, [], ◌∷◌, ◌++◌, map, flat_map, Memᴰ}
use Prim.Native.Nat.{ℕ, zero, suc, ◌+◌, ◌*◌, ◌<◌, ◌≤◌}
use native.Mathlib.Nat.{le_of_suc-le-suc, not-suc-le-zero}
use native.Mathlib.Omega.{arith}
use lib.ListN.{length, get_or, length-append, get_or-append}
use lib.Seq.{get_or-append-add}
use Rattle.lexis.specs.Sizes.{max_text}
use Rattle.lexis.specs.Lexer.{Token}
use Rattle.syntax.specs.Tree.{Header, Call}
use Rattle.lists.specs.Fault.{first}
use Rattle.lists.specs.Names.{used, all_used}
use Rattle.documents.specs.Wiring.{unwired_after}
use Rattle.documents.specs.Tables.{call_record, call_table, assigner, wire_table}
use Rattle.documents.specs.Records.{call_size, wire_size, first_wire, records_words, Stored, wire_of}
use Rattle.documents.specs.Stages.{RecordsKept}
use Rattle.documents.specs.declared.stages.Sizes.{Sizes}
use Rattle.documents.proofs.Sums.{flat_append}
use Rattle.documents.proofs.Wired.{wired}
use Rattle.documents.proofs.DocumentFaults.{unwired-none}
use Rattle.documents.proofs.Theorems.{both-passed}
use Rattle.orders.specs.Order.{needs}
use Rattle.orders.specs.Scratch.{uses_of, call_of, first_use, needs_from, rows_from, rows, Bounded}

-- ---- words that stand in a slice

module _ (r : List ℕ) (at : ℕ) (xs ys : List ℕ) (s : Stored r at (xs ++ ys)) where
  stored-left : Stored r at xs
  stored-left j h = s j (omega (arith, h, length-append xs ys)) ∙ get_or-append xs ys 0 j h

  stored-right : Stored r (at + length xs) ys
  stored-right j h =
      let z : at + length xs + j ≡ at + (length xs + j) = omega arith in
      ap (λ (i : ℕ). get_or r i 0) z ∙ s (length xs + j) (omega (arith, h, length-append xs ys)) ∙ get_or-append-add xs ys j 0

stored_at : (r : List ℕ) {at to : ℕ} (xs : List ℕ) → at ≡ to → Stored r at xs → Stored r to xs
stored_at r xs e s = subst (λ (x : ℕ). Stored r x xs) e s

-- ---- needs

module _ (records : List ℕ) (all : List Call) where
  needs-stored : (ts : List Token) (u : ℕ) → Stored records (first_wire + u * wire_size) (flat_map (wire_of all) ts)
      → needs_from records u (length ts) ≡ map (assigner all) ts
  unfolding needs_from flat_map
  needs-stored [] u s = refl
  needs-stored (t ∷ ts) u s =
      let rest = flat_map (wire_of all) ts in
      let z : first_wire + u * wire_size + 2 ≡ first_wire + (u + 1) * wire_size = omega arith in
      ap₂ (λ (x : ℕ) (xs : List ℕ). x ∷ xs) (stored-left records _ (wire_of all t) rest s 1 (omega arith))
      (needs-stored ts (u + 1) (stored_at records rest z (stored-right records _ (wire_of all t) rest s)))

  -- the number of uses in the record of a call
  count-stored : (hs : List Header) (c : Call) (k : ℕ) (ws : List ℕ) → Stored records (k * call_size) (call_record hs c ++ ws)
      → uses_of records k ≡ length (used c)
  unfolding call_record
  count-stored hs c k ws s = s 3 (omega arith)

  call-stored : (hs : List Header) (c : Call) (k : ℕ) (ws : List ℕ) → Stored records (k * call_size) (call_record hs c ++ ws)
      → Stored records ((k + 1) * call_size) ws
  unfolding call_record
  call-stored hs c k ws s =
      let z : k * call_size + 4 ≡ (k + 1) * call_size = omega arith in
      stored_at records ws z (stored-right records (k * call_size) (call_record hs c) ws s)

  wires-length : (ts : List Token) → length (flat_map (wire_of all) ts) ≡ length ts * wire_size
  unfolding flat_map
  wires-length [] = refl
  wires-length (t ∷ ts) = let e = wires-length ts in omega (arith, e)

  rows-stored : (hs : List Header) (cs : List Call) (k u : ℕ) → Stored records (k * call_size) (flat_map (call_record hs) cs)
      → Stored records (first_wire + u * wire_size) (flat_map (wire_of all) (all_used cs))
      → rows_from records k u (length cs) ≡ map (λ (c : Call). map (assigner all) (used c)) cs
  unfolding rows_from flat_map all_used
  rows-stored hs [] k u s t = refl
  rows-stored hs (c ∷ cs) k u s t =
      let e = count-stored hs c k (flat_map (call_record hs) cs) s in
      let ws = flat_map (wire_of all) (used c) in
      let both = subst (Stored records (first_wire + u * wire_size)) (flat_append (wire_of all) (used c) (all_used cs)) t in
      let z : first_wire + u * wire_size + length ws ≡ first_wire + (u + length (used c)) * wire_size = omega (arith, wires-length (used c)) in
      let rest = flat_map (wire_of all) (all_used cs) in
      rw e
      (ap₂ (λ (x : List ℕ) (xs : List (List ℕ)). x ∷ xs) (needs-stored (used c) u (stored-left records _ ws rest both))
      (rows-stored hs cs (k + 1) (u + length (used c)) (call-stored hs c k (flat_map (call_record hs) cs) s)
      (stored_at records rest z (stored-right records _ ws rest both))))

  -- ---- how many uses

  uses-stored : (hs : List Header) (cs : List Call) (k : ℕ) → Stored records (k * call_size) (flat_map (call_record hs) cs)
      → first_use records (k + length cs) ≡ first_use records k + length (all_used cs)
  unfolding first_use flat_map all_used
  uses-stored hs [] k s = let z : k + 0 ≡ k = omega arith in rw z (omega arith)
  uses-stored hs (c ∷ cs) k s =
      let e = count-stored hs c k (flat_map (call_record hs) cs) s in
      let y : k + 1 ≡ suc k = omega arith in
      let z : k + suc (length cs) ≡ suc k + length cs = omega arith in
      let r = uses-stored hs cs (suc k) (rw y at (call-stored hs c k (flat_map (call_record hs) cs) s)) in
      rw z (omega (arith, r, e, length-append (used c) (all_used cs)))

-- ---- needs are calls

-- a member of a list stands between two parts
split : {A : Type 0} {x : A} (xs : List A) → Memᴰ x xs → (ys : List A) × ((zs : List A) × (xs ≡ ys ++ (x ∷ zs)))
split [] m = elim m [ ]
split {A} {x} (y ∷ xs) m = go (Memᴰ.cases_cons m) (split xs)
  where
    go : (x ≡ y) ⊎ Memᴰ x xs → (Memᴰ x xs → (ys : List A) × ((zs : List A) × (xs ≡ ys ++ (x ∷ zs))))
        → (ys : List A) × ((zs : List A) × (y ∷ xs ≡ ys ++ (x ∷ zs)))
    go (inl e) r = ([], (xs, ap (λ (z : A). z ∷ xs) (sym e)))
    go (inr m) r = let s = r m in (y ∷ s.0, (s.1.0, ap (λ (l : List A). y ∷ l) s.1.1))

-- a member of lists in a row is one of a single list
one_of : {A B : Type 0} (f : A → List B) (xs : List A) {b : B} → Memᴰ b (flat_map f xs) → (a : A) × (Memᴰ a xs × Memᴰ b (f a))
unfolding flat_map
one_of f [] m = elim m [ ]
one_of {A} {B} f (x ∷ xs) {b} m = go (Memᴰ.append_cases (f x) m) (one_of f xs)
  where
    go : Memᴰ b (f x) ⊎ Memᴰ b (flat_map f xs) → (Memᴰ b (flat_map f xs) → (a : A) × (Memᴰ a xs × Memᴰ b (f a)))
        → (a : A) × (Memᴰ a (x ∷ xs) × Memᴰ b (f a))
    go (inl m) r = (x, (Memᴰ.head refl, m))
    go (inr m) r = let s = r m in (s.0, (Memᴰ.tail s.1.0, s.1.1))

-- an identifier that is used is assigned by one of the calls
need-below : (cs : List Call) → unwired_after [] cs ≡ [] → (t : Token) → Memᴰ t (all_used cs) → assigner cs t < length cs
unfolding all_used
need-below cs e t m =
    let o = one_of used cs m in
    let s = split cs o.1.0 in
    let u = split (used o.0) o.1.1 in
    let w = wired s.0 o.0 s.1.0 u.0 t u.1.0 (rw s.1.1 at e) u.1.1 in
    let l = length-append s.0 (o.0 ∷ s.1.0) in
    rw s.1.1 (omega (arith, w.before, l))

map_below : {A : Type 0} (f : A → ℕ) (n : ℕ) (xs : List A) → ((x : A) → Memᴰ x xs → f x < n) → (j : ℕ) → j < length xs → get_or (map f xs) j 0 < n
map_below f n [] h j l = absurd (not-suc-le-zero l)
map_below f n (x ∷ xs) h zero l = h x (Memᴰ.head refl)
map_below f n (x ∷ xs) h (suc j) l = map_below f n xs (λ y m. h y (Memᴰ.tail m)) j (le_of_suc-le-suc l)

needs-at : (records : List ℕ) (n u j : ℕ) → j < n → get_or (needs_from records u n) j 0 ≡ call_of records (u + j)
unfolding needs_from
needs-at records zero u j l = absurd (not-suc-le-zero l)
needs-at records (suc n) u zero l = let z : u + 0 ≡ u = omega arith in rw z
needs-at records (suc n) u (suc j) l = let z : u + suc j ≡ u + 1 + j = omega arith in rw z (needs-at records n (u + 1) j (le_of_suc-le-suc l))

-- ---- the records of an accepted document

module _ (records : List ℕ) {list doc : List ℕ} {s : Sizes} (k : RecordsKept list doc records s) where
  abbrev cs : List Call
  cs = k.trees.document.calls

  pub rows-needs : rows records s.calls ≡ needs cs
  unfolding needs call_table wire_table
  rows-needs = ap (rows records) k.kept.counted ∙ rows-stored records cs k.trees.headers cs 0 0 k.kept.called k.kept.wires

  uses-counted : first_use records s.calls ≡ length (all_used cs)
  unfolding first_use call_table
  uses-counted =
      let z : 0 + length cs ≡ length cs = omega arith in
      let y : 0 + length (all_used cs) ≡ length (all_used cs) = omega arith in
      ap (first_use records) (k.kept.counted ∙ sym z) ∙ uses-stored records cs k.trees.headers cs 0 k.kept.called ∙ y

  pub records-bounded : length list ≤ max_text → length doc ≤ max_text → records_words ≤ length records → Bounded records s.calls
  unfolding wire_table first
  records-bounded l d room =
      let a = (both-passed list doc k.trees l d k.stages).1 in
      let e = unwired-none k.trees.headers k.trees.document (ap first a.lawful) in
      let n = needs-stored records cs (all_used cs) 0 k.kept.wires in
      record {
        room = room;
        few = k.kept.few;
        uses = omega (arith, uses-counted, k.kept.counted_uses, k.kept.few_uses);
        below =
            λ u h.
            let j : u < length (all_used cs) = omega (arith, h, uses-counted) in
            let z : 0 + u ≡ u = omega arith in
            let c : get_or (map (assigner cs) (all_used cs)) u 0 ≡ call_of records u =
            ap (λ (xs : List ℕ). get_or xs u 0) (sym n) ∙ needs-at records (length (all_used cs)) 0 u j ∙ ap (call_of records) z in
            let m = map_below (assigner cs) (length cs) (all_used cs) (need-below cs e) u j in
            omega (arith, m, c, k.kept.counted);
      }
