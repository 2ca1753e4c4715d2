-- The records of calls and wires in one slice: what a store leaves, the records of one call more, and a copy of a run of words. Relies on `Entries` for
-- the call that a wire names.
use Prim.Native.Nat.{ℕ, zero, suc, ◌+◌, ◌-◌, ◌*◌, ◌<◌, ◌≤◌}
use mathlib.Core.Path.{◌≡◌, refl, sym, ap, ap₂, subst, ◌∙◌}
use mathlib.Core.Bool.{Bool, true, false, cond, not}
use mathlib.Core.List.{List, [], ◌∷◌, ◌++◌, flat_map, append_assoc, append-nil}
use native.Mathlib.Omega.{arith}
use lib.Dec.{eqb, ltb}
use lib.ListN.{length, get_or, set, length-append, length-set, get_or-append}
use lib.Seq.{sets, length-sets, ext_get_or, get_or-set_same, get_or-set_other, get_or-append-add}
use borrow.Author.Tests.{ltb-true, ltb-false, lt-ltb, le-ltb, eqb-true, eqb-false}
use Rattle.lexis.specs.Sizes.{max_calls, max_uses}
use Rattle.lexis.specs.Lexer.{Token}
use Rattle.syntax.specs.Tree.{Header, Call, Document}
use Rattle.lists.specs.Fault.{Fault, fault}
use Rattle.lists.specs.Names.{is_among, assigned, used, all_assigned, all_used}
use Rattle.lists.specs.Walks.{when, scan}
use Rattle.documents.specs.Tables.{call_record, call_table, wire_table}
use Rattle.documents.specs.Walks.{consuming}
use Rattle.documents.specs.Naming.{Entry, numbered, assigners}
use Rattle.documents.specs.Records.{call_size, wire_size, first_wire, records_words, Stored, call_stored, wire_stored, use_words, wires_stored, wire_of, TablesRecorded}
use Rattle.documents.specs.Records.{Kept}
use Rattle.documents.proofs.Entries.{assigner-kept, wired-is}
use Rattle.documents.proofs.Sums.{used-last, flat_append, flat-one}

-- ---- a run of stores

sets_below : (vs l : List ℕ) (i j : ℕ) → j < i → get_or (sets l i vs) j 0 ≡ get_or l j 0
sets_below [] l i j h = refl
sets_below (v ∷ vs) l i j h = sets_below vs (set l i v) (suc i) j (omega arith) ∙ get_or-set_other l i j v 0 (λ e. omega arith)

sets-above : (vs l : List ℕ) (i j : ℕ) → i + length vs ≤ j → get_or (sets l i vs) j 0 ≡ get_or l j 0
sets-above [] l i j h = refl
sets-above (v ∷ vs) l i j h = sets-above vs (set l i v) (suc i) j (omega arith) ∙ get_or-set_other l i j v 0 (λ e. omega arith)

sets-in : (vs l : List ℕ) (i : ℕ) → i + length vs ≤ length l → Stored (sets l i vs) i vs
sets-in [] l i h j k = absurd (omega arith)
sets-in (v ∷ vs) l i h zero k =
    let z : i + 0 ≡ i = omega arith in
    ap (λ (x : ℕ). get_or (sets (set l i v) (suc i) vs) x 0) z ∙ sets_below vs (set l i v) (suc i) i (omega arith) ∙ get_or-set_same l i v 0 (omega arith)
sets-in (v ∷ vs) l i h (suc j) k =
    let z : i + suc j ≡ suc i + j = omega arith in
    let m = length-set l i v in
    ap (λ (x : ℕ). get_or (sets (set l i v) (suc i) vs) x 0) z ∙ sets-in vs (set l i v) (suc i) (omega arith) j (omega arith)

-- as straight code stores two words, or four
pub two-sets : (l : List ℕ) (i a b : ℕ) → set (set l i a) (i + 1) b ≡ sets l i (a ∷ b ∷ [])
two-sets l i a b = let z : i + 1 ≡ suc i = omega arith in ap (λ (j : ℕ). set (set l i a) j b) z

pub four-sets : (l : List ℕ) (i a b c d : ℕ) → set (set (set (set l i a) (i + 1) b) (i + 2) c) (i + 3) d ≡ sets l i (a ∷ b ∷ c ∷ d ∷ [])
four-sets l i a b c d =
    let x : i + 1 ≡ suc i = omega arith in
    let y : i + 2 ≡ suc (suc i) = omega arith in
    let z : i + 3 ≡ suc (suc (suc i)) = omega arith in
    ap₂ (λ (j k : ℕ). set (set (set (set l i a) j b) k c) (i + 3) d) x y ∙ ap (λ (j : ℕ). set (set (set (set l i a) (suc i) b) (suc (suc i)) c) j d) z

-- ---- words that stand somewhere

stored-as : (r r' : List ℕ) (at : ℕ) (xs : List ℕ) → ((x : ℕ) → at ≤ x → x < at + length xs → get_or r' x 0 ≡ get_or r x 0) → Stored r at xs → Stored r' at xs
stored-as r r' at xs e s j h = e (at + j) (omega arith) (omega arith) ∙ s j h

stored-append : (r : List ℕ) (at : ℕ) (xs ys : List ℕ) → Stored r at xs → Stored r (at + length xs) ys → Stored r at (xs ++ ys)
stored-append r at xs ys p q j h = by (ltb j (length xs)) refl
  where
    by : (b : Bool) → ltb j (length xs) ≡ b → get_or r (at + j) 0 ≡ get_or (xs ++ ys) j 0
    by true e = let l = ltb-true j (length xs) e in p j l ∙ sym (get_or-append xs ys 0 j l)
    by false e =
        let l = ltb-false j (length xs) e in
        let m = length-append xs ys in
        let z : at + j ≡ at + length xs + (j - length xs) = omega arith in
        let y : length xs + (j - length xs) ≡ j = omega arith in
        ap (λ (x : ℕ). get_or r x 0) z ∙ q (j - length xs) (omega arith) ∙ sym (get_or-append-add xs ys (j - length xs) 0) ∙ ap (λ (x : ℕ). get_or (xs ++ ys) x 0) y

stored_at : (r : List ℕ) {at to : ℕ} (xs : List ℕ) → at ≡ to → Stored r at xs → Stored r to xs
stored_at r xs e s = subst (λ (x : ℕ). Stored r x xs) e s

stored-words : (r : List ℕ) (at : ℕ) {xs ys : List ℕ} → xs ≡ ys → Stored r at xs → Stored r at ys
stored-words r at e s = subst (Stored r at) e s

-- ---- the record of a call

module _ (r : List ℕ) (k : ℕ) (xs : List ℕ) (four : length xs ≡ call_size) where
  either : (Q : List ℕ → Type 0) → (k < max_calls → Q (sets r (k * call_size) xs)) → Q r → Q (call_stored r k xs)
  unfolding call_stored
  either Q p q = by (ltb k max_calls) refl
    where
      by : (b : Bool) → ltb k max_calls ≡ b → Q (cond b (sets r (k * call_size) xs) r)
      by true e = p (ltb-true k max_calls e)
      by false e = q

  pub call_length : length (call_stored r k xs) ≡ length r
  call_length = either (λ l. length l ≡ length r) (λ h. length-sets r (k * call_size) xs) refl

  call_below : (x : ℕ) → x < k * call_size → get_or (call_stored r k xs) x 0 ≡ get_or r x 0
  call_below x l = either (λ s. get_or s x 0 ≡ get_or r x 0) (λ h. sets_below xs r (k * call_size) x l) refl

  call-above : (x : ℕ) → first_wire ≤ x → get_or (call_stored r k xs) x 0 ≡ get_or r x 0
  call-above x l = either (λ s. get_or s x 0 ≡ get_or r x 0) (λ h. sets-above xs r (k * call_size) x (omega arith)) refl

  call-in : k < max_calls → records_words ≤ length r → Stored (call_stored r k xs) (k * call_size) xs
  unfolding call_stored
  call-in h room =
      subst (λ (b : Bool). Stored (cond b (sets r (k * call_size) xs) r) (k * call_size) xs) (sym (lt-ltb k max_calls h))
      (sets-in xs r (k * call_size) (omega arith))

  pub call-stored : k < max_calls → sets r (k * call_size) xs ≡ call_stored r k xs
  unfolding call_stored
  call-stored h = sym (ap (λ (b : Bool). cond b (sets r (k * call_size) xs) r) (lt-ltb k max_calls h))

  pub call-beyond : max_calls ≤ k → r ≡ call_stored r k xs
  unfolding call_stored
  call-beyond h = sym (ap (λ (b : Bool). cond b (sets r (k * call_size) xs) r) (le-ltb k max_calls h))

-- ---- wires

module _ (r : List ℕ) (u : ℕ) (xs : List ℕ) where
  other : (Q : List ℕ → Type 0) → (u < max_uses → Q (sets r (first_wire + u * wire_size) xs)) → Q r → Q (wire_stored r u xs)
  unfolding wire_stored
  other Q p q = by (ltb u max_uses) refl
    where
      by : (b : Bool) → ltb u max_uses ≡ b → Q (cond b (sets r (first_wire + u * wire_size) xs) r)
      by true e = p (ltb-true u max_uses e)
      by false e = q

  pub wire-length : length (wire_stored r u xs) ≡ length r
  wire-length = other (λ l. length l ≡ length r) (λ h. length-sets r (first_wire + u * wire_size) xs) refl

  wire-below : (x : ℕ) → x < first_wire + u * wire_size → get_or (wire_stored r u xs) x 0 ≡ get_or r x 0
  wire-below x l = other (λ s. get_or s x 0 ≡ get_or r x 0) (λ h. sets_below xs r (first_wire + u * wire_size) x l) refl

  wire-in : u < max_uses → length xs ≡ wire_size → records_words ≤ length r → Stored (wire_stored r u xs) (first_wire + u * wire_size) xs
  unfolding wire_stored
  wire-in h two room =
      subst (λ (b : Bool). Stored (cond b (sets r (first_wire + u * wire_size) xs) r) (first_wire + u * wire_size) xs) (sym (lt-ltb u max_uses h))
      (sets-in xs r (first_wire + u * wire_size) (omega arith))

  pub wire-stored : u < max_uses → sets r (first_wire + u * wire_size) xs ≡ wire_stored r u xs
  unfolding wire_stored
  wire-stored h = sym (ap (λ (b : Bool). cond b (sets r (first_wire + u * wire_size) xs) r) (lt-ltb u max_uses h))

  pub wire-beyond : max_uses ≤ u → r ≡ wire_stored r u xs
  unfolding wire_stored
  wire-beyond h = sym (ap (λ (b : Bool). cond b (sets r (first_wire + u * wire_size) xs) r) (le-ltb u max_uses h))

module _ (made : List Entry) (k : ℕ) where
  pub wires-length : (r : List ℕ) (u : ℕ) (ts : List Token) → length (wires_stored made k r u ts) ≡ length r
  unfolding wires_stored
  wires-length r u [] = refl
  wires-length r u (t ∷ ts) = wires-length (wire_stored r u (use_words made k t)) (u + 1) ts ∙ wire-length r u (use_words made k t)

  wires-below : (r : List ℕ) (u : ℕ) (ts : List Token) (x : ℕ) → x < first_wire + u * wire_size → get_or (wires_stored made k r u ts) x 0 ≡ get_or r x 0
  unfolding wires_stored
  wires-below r u [] x l = refl
  wires-below r u (t ∷ ts) x l =
      wires-below (wire_stored r u (use_words made k t)) (u + 1) ts x (omega arith) ∙ wire-below r u (use_words made k t) x l

  wires-in : (r : List ℕ) (u : ℕ) (ts : List Token) → u + length ts ≤ max_uses → records_words ≤ length r
      → Stored (wires_stored made k r u ts) (first_wire + u * wire_size) (flat_map (use_words made k) ts)
  unfolding wires_stored flat_map
  wires-in r u [] h room = λ j l. absurd (omega arith)
  wires-in r u (t ∷ ts) h room =
      let w = wire_stored r u (use_words made k t) in
      let m = wire-length r u (use_words made k t) in
      let z : first_wire + (u + 1) * wire_size ≡ first_wire + u * wire_size + 2 = omega arith in
      stored-append (wires_stored made k w (u + 1) ts) (first_wire + u * wire_size) (use_words made k t) (flat_map (use_words made k) ts)
      (stored-as w (wires_stored made k w (u + 1) ts) (first_wire + u * wire_size) (use_words made k t) (λ x a b. wires-below w (u + 1) ts x (omega arith))
      (wire-in r u (use_words made k t) (omega arith) refl room))
      (stored_at (wires_stored made k w (u + 1) ts) (flat_map (use_words made k) ts) z (wires-in w (u + 1) ts (omega arith) (omega arith)))

-- ---- lengths of the tables

pub calls-words : (hs : List Header) (ds : List Call) → length (flat_map (call_record hs) ds) ≡ length ds * call_size
unfolding flat_map call_record
calls-words hs [] = refl
calls-words hs (d ∷ ds) = let h = calls-words hs ds in omega arith

pub wires-words : (cs : List Call) (ts : List Token) → length (flat_map (wire_of cs) ts) ≡ length ts * wire_size
unfolding flat_map
wires-words cs [] = refl
wires-words cs (t ∷ ts) = let h = wires-words cs ts in omega arith

-- ---- uses without a fault

clash : {X : Type 0} {x : Fault} {xs : List Fault} → x ∷ xs ≡ [] → X
clash e = let z : ◌≡◌ {A = ℕ} 0 1 = cc in absurd (omega arith)

-- they are few, and each is known
module _ (known : List Token) where
  pub record Clean (ss ts : List Token) : Type 0 where
    pub few : length (ss ++ ts) ≤ max_uses
    pub same : (g h : Token → List ℕ) → ((t : Token) → is_among known t ≡ true → g t ≡ h t) → flat_map g ts ≡ flat_map h ts

  pub clean-uses : (ss ts : List Token) → length ss ≤ max_uses → scan (consuming known) ss ts ≡ [] → Clean ss ts
  unfolding scan flat_map
  clean-uses ss [] l e = record { few = let z = length-append ss [] in omega arith; same = λ g h f. refl }
  clean-uses ss (t ∷ ts) l e =
      by (eqb (length ss) max_uses) refl (is_among known t) refl (clean-uses (ss ++ (t ∷ [])) ts) e
    where
      by : (a : Bool) → eqb (length ss) max_uses ≡ a → (b : Bool) → is_among known t ≡ b
          → (length (ss ++ (t ∷ [])) ≤ max_uses → scan (consuming known) (ss ++ (t ∷ [])) ts ≡ [] → Clean (ss ++ (t ∷ [])) ts)
          → (when a (fault 12 t.start) ++ when (not b) (fault 22 t.start)) ++ scan (consuming known) (ss ++ (t ∷ [])) ts ≡ []
          → Clean ss (t ∷ ts)
      by true p b q ih h = clash h
      by false p false q ih h = clash h
      by false p true q ih h =
          let n = eqb-false (length ss) max_uses p in
          let m = length-append ss (t ∷ []) in
          let r = ih (omega arith) h in
          let z = ap (λ (x : List Token). length x) (append_assoc ss (t ∷ []) ts) in
          record { few = let y = r.few in omega arith; same = λ g h f. ap₂ (λ (x y : List ℕ). x ++ y) (f t q) (r.same g h f) }

-- ---- one call more

module _ (hs : List Header) (ds : List Call) (c : Call) (records : List ℕ) (k u : ℕ) (xs : List ℕ) (room : records_words ≤ length records)
    (number : k ≡ length ds) (uses : u ≡ length (all_used ds)) (words : xs ≡ call_record hs c) (below : k < max_calls)
    (clean : Clean (all_assigned ds) (all_used ds) (used c)) (r : TablesRecorded records hs ds) where
  abbrev made : List Entry
  made = assigners ds ++ numbered (suc k) (assigned c)

  abbrev wired : List ℕ
  wired = wires_stored made k records u (used c)

  abbrev after : List ℕ
  after = call_stored wired k xs

  four : length xs ≡ call_size
  unfolding call_record
  four = ap (λ (l : List ℕ). length l) words

  wide : records_words ≤ length wired
  wide = let z = wires-length made k records u (used c) in omega arith

  few-uses : u + length (used c) ≤ max_uses
  few-uses = let z = length-append (all_used ds) (used c) in let y = clean.few in omega arith

  -- words of the calls before, and of the uses before
  call_kept : (x : ℕ) → x < k * call_size → get_or after x 0 ≡ get_or records x 0
  call_kept x h = call_below wired k xs four x h ∙ wires-below made k records u (used c) x (omega arith)

  wire-kept : (x : ℕ) → first_wire ≤ x → x < first_wire + u * wire_size → get_or after x 0 ≡ get_or records x 0
  wire-kept x h l = call-above wired k xs four x h ∙ wires-below made k records u (used c) x l

  called_more : Stored after 0 (flat_map (call_record hs) (ds ++ (c ∷ [])))
  called_more =
      let old = flat_map (call_record hs) ds in
      let len = calls-words hs ds in
      let z : k * call_size ≡ 0 + length old = omega arith in
      stored-words after 0 (sym (flat_append (call_record hs) ds (c ∷ []) ∙ ap (λ (l : List ℕ). old ++ l) (flat-one (call_record hs) c)))
      (stored-append after 0 old (call_record hs c) (stored-as records after 0 old (λ x a b. call_kept x (omega arith)) r.called)
      (stored-words after (0 + length old) words (stored_at after xs z (call-in wired k xs four below wide))))

  wires-more : (rest : List Call) → Stored after first_wire (flat_map (wire_of ((ds ++ (c ∷ [])) ++ rest)) (all_used (ds ++ (c ∷ []))))
  wires-more rest =
      let cs = ds ++ (c ∷ rest) in
      let old = flat_map (wire_of cs) (all_used ds) in
      let len = wires-words cs (all_used ds) in
      let z : first_wire + u * wire_size ≡ first_wire + length old = omega arith in
      let new = clean.same (use_words made k) (wire_of cs)
      (λ t h. ap (λ (x : ℕ). t.start ∷ x ∷ []) (wired-is ds (assigned c) k number t h ∙ sym (assigner-kept ds (c ∷ rest) t h))) in
      stored-words after first_wire
      (sym (ap₂ (λ (l : List Call) (ts : List Token). flat_map (wire_of l) ts) (append_assoc ds (c ∷ []) rest) (used-last ds c)
      ∙ flat_append (wire_of cs) (all_used ds) (used c)))
      (stored-append after first_wire old (flat_map (wire_of cs) (used c))
      (stored-as records after first_wire old (λ x a b. wire-kept x a (omega arith)) (r.wires (c ∷ rest)))
      (stored-words after (first_wire + length old) new (stored_at after (flat_map (use_words made k) (used c)) z
      (stored-as wired after (first_wire + u * wire_size) (flat_map (use_words made k) (used c)) (λ x a b. call-above wired k xs four x (omega arith))
      (wires-in made k records u (used c) few-uses room)))))

  pub recorded_more : TablesRecorded after hs (ds ++ (c ∷ []))
  recorded_more =
      record {
        few = let z = length-append ds (c ∷ []) in omega arith;
        uses = let z = ap (λ (l : List Token). length l) (used-last ds c) in let y = clean.few in omega arith;
        called = called_more;
        wires = wires-more;
      }

-- none yet
pub recorded-none : (records : List ℕ) (hs : List Header) → TablesRecorded records hs []
unfolding all_used flat_map
recorded-none records hs = record { few = omega arith; uses = omega arith; called = λ j h. absurd (omega arith); wires = λ rest j h. absurd (omega arith) }

-- those of all calls are both tables
pub recorded-all : (records : List ℕ) (hs : List Header) (d : Document) (calls uses : ℕ) → calls ≡ length d.calls → uses ≡ length (all_used d.calls)
    → TablesRecorded records hs d.calls → Kept records hs d calls uses
unfolding call_table wire_table
recorded-all records hs d calls uses e f r =
    record {
      counted = e;
      counted_uses = f;
      few = let z = r.few in omega arith;
      few_uses = let z = r.uses in omega arith;
      called = r.called;
      wires = stored-words records first_wire (ap (λ (l : List Call). flat_map (wire_of l) (all_used d.calls)) (append-nil d.calls)) (r.wires []);
    }

-- ---- a copy

-- i words of a run are copied
pub record Copied (records : List ℕ) (from count : ℕ) (before now : List ℕ) (i : ℕ) : Type 0 where
  pub same : length now ≡ length before
  pub copied : (j : ℕ) → j < i → get_or now j 0 ≡ get_or records (from + j) 0
  pub beyond : (j : ℕ) → i ≤ j → get_or now j 0 ≡ get_or before j 0

pub copied-start : (records before : List ℕ) (from count : ℕ) → Copied records from count before before 0
copied-start records before from count = record { same = refl; copied = λ j h. absurd (omega arith); beyond = λ j h. refl }

pub copied_next : (records before now : List ℕ) (from count i v : ℕ) → v ≡ get_or records (from + i) 0 → i < length now → Copied records from count before now i
    → Copied records from count before (set now i v) (i + 1)
copied_next records before now from count i v e h c =
    record {
      same = length-set now i v ∙ c.same;
      copied = λ j l. by j l (eqb j i) refl;
      beyond = λ j l. get_or-set_other now i j v 0 (λ z. omega arith) ∙ c.beyond j (omega arith);
    }
  where
    by : (j : ℕ) → j < i + 1 → (b : Bool) → eqb j i ≡ b → get_or (set now i v) j 0 ≡ get_or records (from + j) 0
    by j l true q =
        let z = eqb-true j i q in
        ap (λ (x : ℕ). get_or (set now i v) x 0) z ∙ get_or-set_same now i v 0 h ∙ e ∙ ap (λ (x : ℕ). get_or records (from + x) 0) (sym z)
    by j l false q = let n = eqb-false j i q in get_or-set_other now i j v 0 n ∙ c.copied j (omega arith)

pub copied-end : (records before now : List ℕ) (from count i : ℕ) → i ≡ count → count ≤ length before → Copied records from count before now i
    → (xs : List ℕ) → count ≡ length xs → Stored records from xs → now ≡ sets before 0 xs
copied-end records before now from count i z h c xs e s =
    ext_get_or 0 now (sets before 0 xs) (c.same ∙ sym (length-sets before 0 xs)) (λ j l. by j (ltb j count) refl)
  where
    by : (j : ℕ) (b : Bool) → ltb j count ≡ b → get_or now j 0 ≡ get_or (sets before 0 xs) j 0
    by j true q =
        let l = ltb-true j count q in
        let y : 0 + j ≡ j = omega arith in
        c.copied j (omega arith) ∙ s j (omega arith) ∙ sym (sets-in xs before 0 (omega arith) j (omega arith)) ∙ ap (λ (x : ℕ). get_or (sets before 0 xs) x 0) y
    by j false q = let l = ltb-false j count q in c.beyond j (omega arith) ∙ sym (sets-above xs before 0 j (omega arith))
