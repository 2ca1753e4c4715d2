-- One name of a walk that keeps the earliest fault of a rule and counts: a token that is no name, and one that is. Then the index of names with one
-- name more. Relies on `Entries` for the numbers of names.
use Prim.Native.Nat.{ℕ, zero, suc, ◌+◌, ◌-◌, ◌<◌, ◌≤◌}
use mathlib.Core.Path.{◌≡◌, refl, sym, ap, ap₂, subst, ◌∙◌}
use mathlib.Core.Bool.{Bool, true, false, cond, not, beq}
use mathlib.Core.List.{List, [], ◌∷◌, ◌++◌, append_assoc, append-nil}
use mathlib.Core.Option.{Option, some}
use mathlib.Core.Option.{none as nothing}
use Rattle.std.specs.Prelude.{Option as Maybe, Some, None, IfSome, is_some, unwrap_or}
use native.Mathlib.Omega.{arith}
use lib.Dec.{eqb, ltb}
use lib.ListN.{length, length-append}
use borrow.Author.Tests.{ne_eqb, eqb-false}
use Rattle.lexis.specs.Sizes.{max_assigned, max_uses}
use Rattle.lexis.specs.Lexer.{Token}
use Rattle.syntax.specs.Tree.{Call}
use Rattle.syntax.specs.Table.{token_at}
use Rattle.index.specs.Layout.{name_words, word_place, word_at}
use Rattle.index.specs.Mapped.{EnteredAt, both, keeping, kept_in, Enters, LooksUp}
use Rattle.index.proofs.Theorems.{mapped-wider, mapped-as, word-placed, first-kept, second-kept}
use Rattle.lists.specs.Code as Lists
use Rattle.lists.specs.Fault.{Fault, fault, faults, starts, before, earlier, first}
use Rattle.lists.specs.Fault.Before.{by_code}
use Rattle.lists.specs.Best.{meant}
use Rattle.lists.specs.Names.{those, is_among, all_assigned}
use Rattle.lists.specs.Walks.{when, Rule, scan}
use Rattle.lists.proofs.First.{is-before, earlier-none, first-append}
use Rattle.lists.proofs.Rules.{scan-one}
use Rattle.documents.specs.Code as Code
use Rattle.documents.specs.Wiring.{strangers}
use Rattle.documents.specs.Walks.{listing, misfeeds, assigning, consuming, coded, Turn}
use Rattle.documents.specs.Naming.{Entry, numbered, entry_number, input_word, headed, assigners, Naming}
use Rattle.documents.specs.Records.{wired, earlier_call, wire_stored, wires_stored}
use Rattle.documents.specs.declared.wiring.Tally.{Tally}
use Rattle.documents.proofs.Entries.{number-last, numbered-append, header-listed, header-input, assigned-before, unwired-is, unassigned-is}

-- ---- the fault of a code

-- of two faults at one place the one of the smaller code
smaller : (x y p : ℕ) → x < y → earlier (some (fault x p)) (some (fault y p)) ≡ some (fault x p)
smaller x y p h = ap (λ (b : Bool). some (cond b (fault x p) (fault y p))) (is-before (fault x p) (fault y p) (by_code refl h))

coded-some : (x p : ℕ) → 0 < x → coded x p ≡ some (fault x p)
coded-some x p h = ap (λ (b : Bool). cond b nothing (some (fault x p))) (ne_eqb x 0 (λ e. omega arith))

module _ (p x y : ℕ) (h : 0 < x) (low : (y ≡ 0 → ⊥) → x < y) where
  coded-if : (a : Bool) → coded (cond a x y) p ≡ earlier (first (when a (fault x p))) (coded y p)
  unfolding first
  coded-if false = refl
  coded-if true = coded-some x p h ∙ by (eqb y 0) refl
    where
      by : (b : Bool) → eqb y 0 ≡ b → some (fault x p) ≡ earlier (some (fault x p)) (cond b nothing (some (fault y p)))
      by true e = refl
      by false e = sym (smaller x y p (low (eqb-false y 0 e)))

above : (x y z : ℕ) (b : Bool) → x < y → ((z ≡ 0 → ⊥) → x < z) → (cond b y z ≡ 0 → ⊥) → x < cond b y z
above x y z true h k n = h
above x y z false h k n = k n

none_above : (x : ℕ) → (◌≡◌ {A = ℕ} 0 0 → ⊥) → x < 0
none_above x n = absurd (n refl)

-- of one test, of two, of three
pub coded-one : (p x : ℕ) (a : Bool) {r : ℕ} → 0 < x → r ≡ cond a x 0 → coded r p ≡ first (when a (fault x p))
coded-one p x a h e = ap (λ (c : ℕ). coded c p) e ∙ coded-if p x 0 h (none_above x) a ∙ earlier-none (first (when a (fault x p)))

pub coded-two : (p x y : ℕ) (a b : Bool) {c r : ℕ} → 0 < x → x < y → c ≡ cond b y 0 → r ≡ cond a x c
    → coded r p ≡ first (when a (fault x p) ++ when b (fault y p))
coded-two p x y a b {c} h l e f =
    ap (λ (k : ℕ). coded k p) f
    ∙ coded-if p x c h (λ n. subst (λ (k : ℕ). x < k) (sym e) (above x y 0 b l (none_above x) (λ z. n (e ∙ z)))) a
    ∙ ap (earlier (first (when a (fault x p)))) (coded-one p y b (omega arith) e)
    ∙ sym (first-append (when a (fault x p)) (when b (fault y p)))

pub coded-three : (p x y z : ℕ) (a b c : Bool) {i j r : ℕ} → 0 < x → x < y → y < z → i ≡ cond c z 0 → j ≡ cond b y i → r ≡ cond a x j
    → coded r p ≡ first (when a (fault x p) ++ (when b (fault y p) ++ when c (fault z p)))
coded-three p x y z a b c {i} {j} h l m e f g =
    let low : (i ≡ 0 → ⊥) → x < i = λ n. subst (λ (k : ℕ). x < k) (sym e) (above x z 0 c (omega arith) (none_above x) (λ q. n (e ∙ q))) in
    ap (λ (k : ℕ). coded k p) g
    ∙ coded-if p x j h (λ n. subst (λ (k : ℕ). x < k) (sym f) (above x y i b l low (λ q. n (f ∙ q)))) a
    ∙ ap (earlier (first (when a (fault x p)))) (coded-two p y z b c (omega arith) m e f)
    ∙ sym (first-append (when a (fault x p)) (when b (fault y p) ++ when c (fault z p)))

-- ---- a token

module _ (f : Rule) (ss : List Token) (tally : Tally) {xs : List Token} (k : tally.count ≡ length ss) where
  -- no name
  pub turn-none : {P : Type 0} → xs ≡ [] → P → Turn f ss xs tally tally P
  unfolding scan first
  turn-none h p =
      record {
        found = sym (ap (λ (l : List Token). earlier (meant tally.best) (first (scan f ss l))) h ∙ earlier-none (meant tally.best));
        count = k ∙ sym (ap (λ (l : List Token). length (ss ++ l)) h ∙ ap (λ (l : List Token). length l) (append-nil ss));
        state = p;
      }

  -- a name
  pub turn_one : {P : Type 0} (r : Tally) (t : Token) (o : Option Fault) → xs ≡ t ∷ []
      → (meant r.best ≡ earlier (meant tally.best) o) × (r.count ≡ tally.count + 1) → o ≡ first (f ss t) → P → Turn f ss xs tally r P
  turn_one r t o h e q p =
      record {
        found =
            e.0
            ∙ ap (earlier (meant tally.best)) (q ∙ sym (ap (λ (l : List Token). first (scan f ss l)) h ∙ ap first (scan-one f ss t)));
        count =
            let l = length-append ss (t ∷ []) in
            let z : r.count ≡ length (ss ++ (t ∷ [])) = omega (arith, e.1) in
            z ∙ sym (ap (λ (l : List Token). length (ss ++ l)) h);
        state = p;
      }

-- ---- the index with one name more

module _ (text table index entered : List ℕ) (i p : ℕ) (enters : Enters text table index entered i p) where
  abbrev t : Token
  t = token_at text table i

  module _ (es made : List Entry) (named : Naming text table index i es made) where
    placed : EnteredAt text table entered (i + 1) (both (entry_number es) (entry_number made)) t.bytes p
    placed = enters i (both (entry_number es) (entry_number made)) (omega arith) named

    -- its number in the header, and the call that assigns it
    pub header-number : {h : ℕ} → h ≡ word_at entered p 0 → h ≡ entry_number es t.bytes
    header-number e = e ∙ word-placed placed 0 (omega arith)

    pub call-number : {h : ℕ} → h ≡ word_at entered p 1 → h ≡ entry_number made t.bytes
    call-number e = e ∙ word-placed placed 1 (omega arith)

    module _ (x : ℕ) (after : List ℕ) where
      -- it is listed
      pub listed_more : word_place p 0 < length entered → after ≡ kept_in entered p 0 x → Naming text table after (i + 1) (es ++ numbered x (t ∷ [])) made
      listed_more room e =
          subst (λ (l : List ℕ). Naming text table l (i + 1) (es ++ numbered x (t ∷ [])) made) (sym e)
          (mapped-as (both (entry_number (es ++ numbered x (t ∷ []))) (entry_number made)) by (first-kept placed x room).mapped)
        where
          by : (j : ℕ) (w : List ℕ) → j < name_words
              → both (entry_number (es ++ numbered x (t ∷ []))) (entry_number made) j w ≡ both (keeping (entry_number es) t.bytes x) (entry_number made) j w
          by zero w l = number-last es x t w
          by (suc j) w l = refl

      -- it is assigned
      pub assigned-more : word_place p 1 < length entered → after ≡ kept_in entered p 1 x → Naming text table after (i + 1) es (made ++ numbered x (t ∷ []))
      assigned-more room e =
          subst (λ (l : List ℕ). Naming text table l (i + 1) es (made ++ numbered x (t ∷ []))) (sym e)
          (mapped-as (both (entry_number es) (entry_number (made ++ numbered x (t ∷ [])))) by (second-kept placed x room).mapped)
        where
          by : (j : ℕ) (w : List ℕ) → j < name_words
              → both (entry_number es) (entry_number (made ++ numbered x (t ∷ []))) j w ≡ both (entry_number es) (keeping (entry_number made) t.bytes x) j w
          by zero w l = refl
          by (suc j) w l = number-last made x t w

-- entries after entries, said as one row of names
numbered_more : (es : List Entry) (x : ℕ) (ss xs : List Token) → (es ++ numbered x ss) ++ numbered x xs ≡ es ++ numbered x (ss ++ xs)
numbered_more es x ss xs = append_assoc es (numbered x ss) (numbered x xs) ∙ ap (λ (l : List Entry). es ++ l) (sym (numbered-append x ss xs))

-- no name more
module _ (text table index : List ℕ) (i : ℕ) (ss xs : List Token) (h : xs ≡ []) where
  same_names : ss ≡ ss ++ xs
  same_names = sym (ap (λ (l : List Token). ss ++ l) h ∙ append-nil ss)

  pub listed_same : (es made : List Entry) (x : ℕ) → Naming text table index i (es ++ numbered x ss) made
      → Naming text table index (i + 1) (es ++ numbered x (ss ++ xs)) made
  listed_same es made x m =
      subst (λ (l : List Token). Naming text table index (i + 1) (es ++ numbered x l) made) same_names (mapped-wider (omega arith) m)

  pub assigned-same : (es made : List Entry) (x : ℕ) → Naming text table index i es (made ++ numbered x ss)
      → Naming text table index (i + 1) es (made ++ numbered x (ss ++ xs))
  assigned-same es made x m =
      subst (λ (l : List Token). Naming text table index (i + 1) es (made ++ numbered x l)) same_names (mapped-wider (omega arith) m)

-- ---- what a name of a header, of a left side, of arguments comes to

module _ (text table index entered after : List ℕ) (i p : ℕ) (tally r : Tally) (code place : ℕ) {xs : List Token} (here : xs ≡ token_at text table i ∷ [])
    (enters : Enters text table index entered i p) (starts : place ≡ (token_at text table i).start)
    (next : (meant r.best ≡ earlier (meant tally.best) (coded code place)) × (r.count ≡ tally.count + 1)) where
  abbrev u : Token
  u = token_at text table i

  -- a name of a header
  module _ (size which had again : ℕ) (positive : 0 < which) (room : word_place p 0 < length entered) (had-is : had ≡ word_at entered p 0)
      (kept : after ≡ kept_in entered p 0 which) (again-is : again ≡ cond (not (eqb had 0)) Lists.repeated_name 0)
      (code_is : code ≡ cond (eqb tally.count size) Lists.over_size again) where
    pub listed-name : (before ss : List Token) (made : List Entry) → Naming text table index i (numbered input_word before ++ numbered which ss) made
        → tally.count ≡ length ss
        → Turn (listing size before) ss xs tally r (Naming text table after (i + 1) (numbered input_word before ++ numbered which (ss ++ xs)) made)
    listed-name before ss made named k =
        let es = numbered input_word before ++ numbered which ss in
        let twice : not (eqb had 0) ≡ is_among (before ++ ss) u =
        ap (λ (h : ℕ). not (eqb h 0)) (header-number text table index entered i p enters es made named had-is) ∙ header-listed before ss which positive u in
        turn_one (listing size before) ss tally k r u (coded code place) here next
        (coded-two place Lists.over_size Lists.repeated_name (eqb tally.count size) (not (eqb had 0)) (omega arith) (omega arith) again-is code_is
        ∙ ap₂ (λ (a b : Bool). first (when a (fault Lists.over_size place) ++ when b (fault Lists.repeated_name place))) (ap (λ (j : ℕ). eqb j size) k) twice
        ∙ ap (λ (q : ℕ). first (when (eqb (length ss) size) (fault Lists.over_size q) ++ when (is_among (before ++ ss) u) (fault Lists.repeated_name q))) starts)
        (subst (λ (l : List Entry). Naming text table after (i + 1) l made)
        (numbered_more (numbered input_word before) which ss (u ∷ []) ∙ ap (λ (l : List Token). numbered input_word before ++ numbered which (ss ++ l)) (sym here))
        (listed_more text table index entered i p enters es made named which after room kept))

  -- an identifier of a left side
  module _ (k x had listing fed again : ℕ) (external feeds : Bool) (room : word_place p 1 < length entered) (had-is : had ≡ word_at entered p 1)
      (listing-is : listing ≡ word_at entered p 0) (number : x ≡ suc k) (kept : after ≡ kept_in entered p 1 x)
      (feeds-is : feeds ≡ misfeeds external (eqb listing input_word))
      (fed-is : fed ≡ cond feeds Code.misfed 0) (again-is : again ≡ cond (not (eqb had 0)) Code.assigned_again fed)
      (code_is : code ≡ cond (eqb tally.count max_assigned) Lists.over_size again) where
    pub assigned-name : (ins outs : List Token) (ds : List Call) (ss : List Token) → k ≡ length ds
        → Naming text table index i (headed ins outs) (assigners ds ++ numbered (suc k) ss) → tally.count ≡ length (all_assigned ds ++ ss)
        → Turn (assigning ins external) (all_assigned ds ++ ss) xs tally r
        (Naming text table after (i + 1) (headed ins outs) (assigners ds ++ numbered (suc k) (ss ++ xs)))
    assigned-name ins outs ds ss e named c =
        let es = headed ins outs in
        let made = assigners ds ++ numbered (suc k) ss in
        let all = all_assigned ds ++ ss in
        let twice : not (eqb had 0) ≡ is_among all u =
        ap (λ (h : ℕ). not (eqb h 0)) (call-number text table index entered i p enters es made named had-is) ∙ assigned-before ds ss k e u in
        let wrong : feeds ≡ misfeeds external (is_among ins u) =
        feeds-is
        ∙ ap (misfeeds external)
        (ap (λ (h : ℕ). eqb h input_word) (header-number text table index entered i p enters es made named listing-is) ∙ header-input ins outs u) in
        turn_one (assigning ins external) all tally c r u (coded code place) here next
        (coded-three place Lists.over_size Code.assigned_again Code.misfed (eqb tally.count max_assigned) (not (eqb had 0)) feeds
        (omega arith) (omega arith) (omega arith) fed-is again-is code_is
        ∙ ap₂ (λ (a b : Bool). first (when a (fault Lists.over_size place) ++ (when b (fault Code.assigned_again place) ++ when feeds (fault Code.misfed place))))
        (ap (λ (j : ℕ). eqb j max_assigned) c) twice
        ∙ ap₂ (λ (b : Bool) (q : ℕ).
        first
        (when (eqb (length all) max_assigned) (fault Lists.over_size q) ++ (when (is_among all u) (fault Code.assigned_again q) ++ when b (fault Code.misfed q))))
        wrong starts)
        (subst (Naming text table after (i + 1) es)
        (numbered_more (assigners ds) (suc k) ss (u ∷ []) ∙ ap (λ (l : List Token). assigners ds ++ numbered (suc k) (ss ++ l)) (sym here))
        (subst (λ (y : ℕ). Naming text table after (i + 1) es (made ++ numbered y (u ∷ []))) number
        (assigned-more text table index entered i p enters es made named x after room kept)))

-- an identifier is assigned by the wrong operation where the two tests differ
pub feeds-differ : (external input : Bool) → misfeeds external input ≡ not (beq external input)
feeds-differ true true = refl
feeds-differ true false = refl
feeds-differ false true = refl
feeds-differ false false = refl

-- the call of a use, and whether there is none
pub wired-or : (a k : ℕ) → unwrap_or (earlier_call a k) 0 ≡ wired a k
wired-or a k = go (eqb a 0) (ltb k a)
  where
    go : (b c : Bool) → unwrap_or (cond b None (cond c None (Some (a - 1)))) 0 ≡ cond b 0 (cond c 0 (a - 1))
    go true c = refl
    go false true = refl
    go false false = refl

pub call-below : (o : Maybe ℕ) {k : ℕ} → IfSome o (λ c. c < k) → unwrap_or o 0 ≤ k
call-below None h = omega arith
call-below (Some c) h = omega (arith, h)

pub unwired-none : (a k : ℕ) {o : Maybe ℕ} (r : Bool) → o ≡ earlier_call a k → is_some o ≡ not r → r ≡ cond (eqb a 0) (eqb a 0) (ltb k a)
unwired-none a k r e h = go (eqb a 0) (ltb k a) r (sym (ap is_some e) ∙ h)
  where
    go : (b c r : Bool) → is_some (cond b None (cond c None (Some (a - 1)))) ≡ not r → r ≡ cond b b c
    go true c true h = refl
    go true c false h = h
    go false true true h = refl
    go false true false h = h
    go false false true h = h
    go false false false h = refl

-- no use, no wire
pub no-wires : (made : List Entry) (k : ℕ) (records : List ℕ) (u : ℕ) {xs : List Token} → xs ≡ [] → records ≡ wires_stored made k records u xs
unfolding wires_stored
no-wires made k records u h = sym (ap (wires_stored made k records u) h)

-- a use
module _ (text table index records after : List ℕ) (i k : ℕ) (tally r : Tally) (code place a call unwired : ℕ) {xs : List Token}
    (here : xs ≡ token_at text table i ∷ []) (looks : LooksUp text table index (token_at text table i).bytes 1 a) (starts : place ≡ (token_at text table i).start)
    (call-is : call ≡ wired a k) (stored : after ≡ wire_stored records tally.count (place ∷ call ∷ []))
    (unwired-code : unwired ≡ cond (cond (eqb a 0) (eqb a 0) (ltb k a)) Code.unassigned_use 0)
    (code_is : code ≡ cond (eqb tally.count max_uses) Lists.over_size unwired)
    (next : (meant r.best ≡ earlier (meant tally.best) (coded code place)) × (r.count ≡ tally.count + 1)) where
  abbrev v : Token
  v = token_at text table i

  pub used-name : (j : ℕ) (es : List Entry) (ds : List Call) (ls ss : List Token) → k ≡ length ds
      → Naming text table index j es (assigners ds ++ numbered (suc k) ls) → tally.count ≡ length ss
      → Turn (consuming (all_assigned ds)) ss xs tally r (after ≡ wires_stored (assigners ds ++ numbered (suc k) ls) k records tally.count xs)
  unfolding wires_stored
  used-name j es ds ls ss e named c =
      let made = assigners ds ++ numbered (suc k) ls in
      let number : a ≡ entry_number made v.bytes = looks j (both (entry_number es) (entry_number made)) named in
      let away : cond (eqb a 0) (eqb a 0) (ltb k a) ≡ not (is_among (all_assigned ds) v) =
      ap (λ (x : ℕ). cond (eqb x 0) (eqb x 0) (ltb k x)) number ∙ unwired-is ds ls k e v in
      turn_one (consuming (all_assigned ds)) ss tally c r v (coded code place) here next
      (coded-two place Lists.over_size Code.unassigned_use (eqb tally.count max_uses) (cond (eqb a 0) (eqb a 0) (ltb k a)) (omega arith) (omega arith)
      unwired-code code_is
      ∙ ap₂ (λ (b d : Bool). first (when b (fault Lists.over_size place) ++ when d (fault Code.unassigned_use place))) (ap (λ (x : ℕ). eqb x max_uses) c) away
      ∙ ap (λ (q : ℕ). first (when (eqb (length ss) max_uses) (fault Lists.over_size q) ++ when (not (is_among (all_assigned ds) v)) (fault Code.unassigned_use q)))
      starts)
      (stored
      ∙ ap₂ (λ (q d : ℕ). wire_stored records tally.count (q ∷ d ∷ [])) starts (call-is ∙ ap (λ (x : ℕ). wired x k) number)
      ∙ sym (ap (wires_stored made k records tally.count) here))

-- ---- names that no call assigns

module _ (known : List Token) (code : ℕ) (m : Option Fault) where
  pub missing-none : {xs : List Token} → xs ≡ [] → m ≡ earlier m (first (faults code (starts (strangers known xs))))
  unfolding those first
  missing-none h = sym (ap (λ (l : List Token). earlier m (first (faults code (starts (strangers known l))))) h ∙ earlier-none m)

module _ (text table index : List ℕ) (i code a place : ℕ) {xs : List Token} (here : xs ≡ token_at text table i ∷ [])
    (looks : LooksUp text table index (token_at text table i).bytes 1 a) (begins : place ≡ (token_at text table i).start) where
  pub missing-one : (j : ℕ) (es : List Entry) (cs : List Call) → Naming text table index j es (assigners cs)
      → first (when (eqb a 0) (fault code place)) ≡ first (faults code (starts (strangers (all_assigned cs) xs)))
  unfolding those
  missing-one j es cs named =
      ap₂ (λ (b : Bool) (q : ℕ). first (when b (fault code q)))
      (ap (λ (x : ℕ). eqb x 0) (looks j (both (entry_number es) (entry_number (assigners cs))) named) ∙ unassigned-is cs (token_at text table i)) begins
      ∙ by (not (is_among (all_assigned cs) (token_at text table i)))
      ∙ sym (ap (λ (l : List Token). first (faults code (starts (strangers (all_assigned cs) l)))) here)
    where
      by : (b : Bool) → first (when b (fault code (token_at text table i).start)) ≡ first (faults code (starts (cond b (token_at text table i ∷ []) [])))
      by true = refl
      by false = refl
