-- A walk over places that keeps the earliest fault of a rule, counts names and brings on a state: what is passed, what is left, and the first fault of
-- all. Then the names and the uses of a part. Assumes nothing.
use mathlib.Core.Path.{◌≡◌, refl, sym, ap, ap₂, subst, ◌∙◌}
use mathlib.Core.Bool.{Bool, true, false, cond, not, ◌&&◌}
use mathlib.Core.List.{List, [], ◌∷◌, ◌++◌, append_assoc, append-nil}
use mathlib.Core.Option.{Option}
use Prim.Native.Nat.{ℕ, suc, ◌+◌, ◌≤◌, ◌<◌}
use native.Mathlib.Omega.{arith}
use lib.Dec.{eqb}
use lib.ListN.{length, length-append}
use Rattle.lexis.specs.Lexer.{Token}
use Rattle.lexis.specs.Symbol.{a_name, equal}
use Rattle.syntax.specs.Tree.{Call}
use Rattle.syntax.specs.Parser.{begins}
use Rattle.syntax.specs.Table.{token_at, toks}
use Rattle.syntax.specs.Inner.{lookahead}
use Rattle.syntax.proofs.Table.{toks-none, toks_more}
use Rattle.syntax.proofs.Symbols.{begins-look}
use Rattle.lists.specs.Fault.{Fault, fault, faults, starts, earlier, first}
use Rattle.lists.specs.Best.{meant}
use Rattle.lists.specs.declared.best.Best.{Best}
use Rattle.lists.specs.Names.{those, is_among, all_assigned}
use Rattle.lists.specs.Scans.{is_name_token, names_among, is_use, uses_among, uses_here}
use Rattle.lists.specs.Walks.{Rule, scan}
use Rattle.lists.proofs.First.{earlier-assoc, earlier-none, first-append}
use Rattle.lists.proofs.Rules.{first-scan}
use Rattle.lists.proofs.Parts.{those-append}
use Rattle.lists.proofs.NameScans.{is_name, no_name}
use Rattle.documents.specs.Wiring.{strangers}
use Rattle.documents.specs.Walks.{listing, assigning, consuming, Turn}
use Rattle.documents.specs.Naming.{Entry, numbered, input_word, headed, assigners, Naming}
use Rattle.documents.specs.Records.{use_words, wire_stored, wires_stored}
use Rattle.documents.specs.NameWalks.{ListsNames, Assigns, Uses, Unassigned}
use Rattle.documents.specs.declared.wiring.Tally.{Tally}

-- ---- any walk

-- All names ss, after the names ks; `rest` of them are left. P speaks of those passed.
pub record Walking (f : Rule) (ks ss rest : List Token) (tally now : Tally) (P : List Token → Type 0) : Type 0 where
  pub passed : List Token
  pub whole : ss ≡ passed ++ rest
  pub counted : now.count ≡ length (ks ++ passed)
  pub found : earlier (meant tally.best) (first (scan f ks ss)) ≡ earlier (meant now.best) (first (scan f (ks ++ passed) rest))
  pub state : P passed

module _ (f : Rule) (ks ss : List Token) (tally : Tally) where
  pub walking_start : {P : List Token → Type 0} → tally.count ≡ length ks → P [] → Walking f ks ss ss tally tally P
  walking_start e p =
      let z = sym (append-nil ks) in
      record {
        passed = [];
        whole = refl;
        counted = e ∙ ap (λ (l : List Token). length l) z;
        found = ap (λ (l : List Token). earlier (meant tally.best) (first (scan f l ss))) z;
        state = p;
      }

  -- xs pass
  pub walking-next : {P Q : List Token → Type 0} (xs behind : List Token) {rest : List Token} {now next : Tally} → rest ≡ xs ++ behind
      → (w : Walking f ks ss rest tally now P) → Turn f (ks ++ w.passed) xs now next (Q (w.passed ++ xs)) → Walking f ks ss behind tally next Q
  walking-next xs behind {rest} {now} {next} e w t =
      let z = append_assoc ks w.passed xs in
      record {
        passed = w.passed ++ xs;
        whole = w.whole ∙ ap (λ (l : List Token). w.passed ++ l) e ∙ sym (append_assoc w.passed xs behind);
        counted = t.count ∙ ap (λ (l : List Token). length l) z;
        found =
            w.found
            ∙ ap (earlier (meant now.best)) (ap (λ (l : List Token). first (scan f (ks ++ w.passed) l)) e ∙ first-scan f (ks ++ w.passed) xs behind)
            ∙ sym (earlier-assoc (meant now.best) (first (scan f (ks ++ w.passed) xs)) (first (scan f ((ks ++ w.passed) ++ xs) behind)))
            ∙ ap₂ (λ (o : Option Fault) (l : List Token). earlier o (first (scan f l behind))) (sym t.found) z;
        state = t.state;
      }

  pub walking-end : {P : List Token → Type 0} {rest : List Token} {now : Tally} → rest ≡ [] → Walking f ks ss rest tally now P → Turn f ks ss tally now (P ss)
  unfolding scan first
  walking-end {P} {rest} {now} e w =
      let z : w.passed ≡ ss = sym (w.whole ∙ ap (λ (l : List Token). w.passed ++ l) e ∙ append-nil w.passed) in
      record {
        found =
            sym (w.found ∙ ap (λ (l : List Token). earlier (meant now.best) (first (scan f (ks ++ w.passed) l))) e ∙ earlier-none (meant now.best));
        count = w.counted ∙ ap (λ (l : List Token). length (ks ++ l)) z;
        state = subst P z w.state;
      }

turn-as : {f : Rule} {ss us xs : List Token} {a b : Tally} {P Q : Type 0} → ss ≡ us → (P → Q) → Turn f ss xs a b P → Turn f us xs a b Q
turn-as {f} {ss} {us} {xs} {a} {b} e g t =
    record {
      found = t.found ∙ ap (λ (l : List Token). earlier (meant a.best) (first (scan f l xs))) e;
      count = t.count ∙ ap (λ (l : List Token). length (l ++ xs)) e;
      state = g t.state;
    }

-- ---- names and uses of a part

module _ (text table : List ℕ) (to : ℕ) where
  pub names-step : (i : ℕ) → i < to → names_among (toks text table to i) ≡ names_among (token_at text table i ∷ []) ++ names_among (toks text table to (i + 1))
  names-step i h = ap names_among (toks_more text table to i h) ∙ those-append is_name_token (token_at text table i ∷ []) (toks text table to (i + 1))

  pub names-end : (i : ℕ) → to ≤ i → names_among (toks text table to i) ≡ []
  unfolding those
  names-end i h = ap names_among (toks-none text table to i h)

  pub uses-step : (i : ℕ) → i < to
      → uses_among (toks text table to i) ≡ uses_here (token_at text table i) (toks text table to (i + 1)) ++ uses_among (toks text table to (i + 1))
  unfolding uses_among
  uses-step i h = ap uses_among (toks_more text table to i h) ∙ go (is_use (token_at text table i) (toks text table to (i + 1)))
    where
      go : (b : Bool) → cond b (token_at text table i ∷ uses_among (toks text table to (i + 1))) (uses_among (toks text table to (i + 1)))
          ≡ cond b (token_at text table i ∷ []) [] ++ uses_among (toks text table to (i + 1))
      go true = refl
      go false = refl

  pub uses-end : (i : ℕ) → to ≤ i → uses_among (toks text table to i) ≡ []
  unfolding uses_among
  uses-end i h = ap uses_among (toks-none text table to i h)

  -- ---- a use

  module _ (i : ℕ) (h : i < to) {x : ℕ} (e : x ≡ lookahead (toks text table to i)) where
    pub no-use : (x ≡ a_name → ⊥) → false ≡ is_use (token_at text table i) (toks text table to (i + 1))
    no-use q = sym (ap (λ (b : Bool). b && not (begins equal (toks text table to (i + 1)))) (no_name text table to i h e q))

    pub use-if : {y : ℕ} → x ≡ a_name → y ≡ lookahead (toks text table to (i + 1))
        → not (eqb y equal) ≡ is_use (token_at text table i) (toks text table to (i + 1))
    use-if {y} q u =
        sym (ap₂ (λ (a b : Bool). a && not b) (is_name text table to i h e q)
        (begins-look equal (toks text table to (i + 1)) (omega arith) ∙ ap (λ (z : ℕ). eqb z equal) (sym u)))

pub here-some : (t : Token) (ts : List Token) → is_use t ts ≡ true → uses_here t ts ≡ t ∷ []
here-some t ts h = ap (λ (b : Bool). cond b (t ∷ []) []) h

pub here-none : (t : Token) (ts : List Token) → is_use t ts ≡ false → uses_here t ts ≡ []
here-none t ts h = ap (λ (b : Bool). cond b (t ∷ []) []) h

-- ---- the walks over names, left sides and arguments

-- what `listed`, `assigned` and `used` have come to at place i, for whatever names the index had before
module _ (text table before now : List ℕ) (from to i : ℕ) (tally sum : Tally) where
  abbrev names : ℕ → List Token
  names j = names_among (toks text table to j)

  abbrev pub Listing : ℕ → ℕ → Type 0
  Listing size which =
      (earlier ss : List Token) (made : List Entry) → Naming text table before from (numbered input_word earlier ++ numbered which ss) made
      → tally.count ≡ length ss
      → Walking (listing size earlier) ss (names from) (names i) tally sum
      (λ ps. Naming text table now i (numbered input_word earlier ++ numbered which (ss ++ ps)) made)

  abbrev pub Assigning : ℕ → Bool → Type 0
  Assigning k external =
      (ins outs : List Token) (ds : List Call) (ss : List Token) → k ≡ length ds
      → Naming text table before from (headed ins outs) (assigners ds ++ numbered (suc k) ss) → tally.count ≡ length (all_assigned ds ++ ss)
      → Walking (assigning ins external) (all_assigned ds ++ ss) (names from) (names i) tally sum
      (λ ps. Naming text table now i (headed ins outs) (assigners ds ++ numbered (suc k) (ss ++ ps)))

  -- here `before` and `now` are records
  abbrev pub Using : List ℕ → ℕ → Type 0
  Using index k =
      (j : ℕ) (es : List Entry) (ds : List Call) (ls ss : List Token) → k ≡ length ds
      → Naming text table index j es (assigners ds ++ numbered (suc k) ls) → tally.count ≡ length ss
      → Walking (consuming (all_assigned ds)) ss (uses_among (toks text table to from)) (uses_among (toks text table to i)) tally sum
      (λ ps. now ≡ wires_stored (assigners ds ++ numbered (suc k) ls) k before tally.count ps)

-- more names of a row
more-names : (es : List Entry) (x : ℕ) (P : List Entry → Type 0) (ss ps xs : List Token) → P (es ++ numbered x ((ss ++ ps) ++ xs))
    → P (es ++ numbered x (ss ++ (ps ++ xs)))
more-names es x P ss ps xs p = subst (λ (l : List Token). P (es ++ numbered x l)) (append_assoc ss ps xs) p

wires-append : (made : List Entry) (k : ℕ) (records : List ℕ) (u : ℕ) (xs ys : List Token)
    → wires_stored made k records u (xs ++ ys) ≡ wires_stored made k (wires_stored made k records u xs) (u + length xs) ys
unfolding wires_stored
wires-append made k records u [] ys = let z : u ≡ u + 0 = omega arith in ap (λ (j : ℕ). wires_stored made k records j ys) z
wires-append made k records u (x ∷ xs) ys =
    let z : u + 1 + length xs ≡ u + length (x ∷ xs) = omega arith in
    let r = wire_stored records u (use_words made k x) in
    wires-append made k r (u + 1) xs ys ∙ ap (λ (j : ℕ). wires_stored made k (wires_stored made k r (u + 1) xs) j ys) z

module _ (text table before : List ℕ) (from to : ℕ) (tally : Tally) where
  -- at the start
  pub listing_start : (size which : ℕ) → Listing text table before before from to from tally tally size which
  listing_start size which earlier ss made m e =
      walking_start (listing size earlier) ss (names_among (toks text table to from)) tally e
      (subst (λ (l : List Token). Naming text table before from (numbered input_word earlier ++ numbered which l) made) (sym (append-nil ss)) m)

  pub assigning-start : (k : ℕ) (external : Bool) → Assigning text table before before from to from tally tally k external
  assigning-start k external ins outs ds ss c m e =
      walking_start (assigning ins external) (all_assigned ds ++ ss) (names_among (toks text table to from)) tally e
      (subst (λ (l : List Token). Naming text table before from (headed ins outs) (assigners ds ++ numbered (suc k) l)) (sym (append-nil ss)) m)

  pub using-start : (index : List ℕ) (k : ℕ) → Using text table before before from to from tally tally index k
  unfolding wires_stored
  using-start index k j es ds ls ss c m e = walking_start (consuming (all_assigned ds)) ss (uses_among (toks text table to from)) tally e refl

  module _ (now next : List ℕ) (i : ℕ) (sum r : Tally) (h : i < to) where
    -- one place more
    pub listing-next : (size which : ℕ) → Listing text table before now from to i tally sum size which
        → ListsNames text table now next i (i + 1) size which (names_among (token_at text table i ∷ [])) sum r
        → Listing text table before next from to (i + 1) tally r size which
    listing-next size which w step earlier ss made m e =
        let v = w earlier ss made m e in
        let xs = names_among (token_at text table i ∷ []) in
        walking-next (listing size earlier) ss (names_among (toks text table to from)) tally xs (names_among (toks text table to (i + 1)))
        (names-step text table to i h) v
        (turn-as refl (more-names (numbered input_word earlier) which (λ l. Naming text table next (i + 1) l made) ss v.passed xs)
        (step earlier (ss ++ v.passed) made v.state v.counted))

    pub assigning-next : (k : ℕ) (external : Bool) → Assigning text table before now from to i tally sum k external
        → Assigns text table now next i (i + 1) k external (names_among (token_at text table i ∷ [])) sum r
        → Assigning text table before next from to (i + 1) tally r k external
    assigning-next k external w step ins outs ds ss c m e =
        let v = w ins outs ds ss c m e in
        let xs = names_among (token_at text table i ∷ []) in
        let z = append_assoc (all_assigned ds) ss v.passed in
        walking-next (assigning ins external) (all_assigned ds ++ ss) (names_among (toks text table to from)) tally xs (names_among (toks text table to (i + 1)))
        (names-step text table to i h) v
        (turn-as (sym z) (more-names (assigners ds) (suc k) (Naming text table next (i + 1) (headed ins outs)) ss v.passed xs)
        (step ins outs ds (ss ++ v.passed) c v.state (v.counted ∙ ap (λ (l : List Token). length l) z)))

    pub using-next : (index : List ℕ) (k : ℕ) → Using text table before now from to i tally sum index k
        → Uses text table index now next k (uses_here (token_at text table i) (toks text table to (i + 1))) sum r
        → Using text table before next from to (i + 1) tally r index k
    using-next index k w step j es ds ls ss c m e =
        let v = w j es ds ls ss c m e in
        let made = assigners ds ++ numbered (suc k) ls in
        let xs = uses_here (token_at text table i) (toks text table to (i + 1)) in
        let n : sum.count ≡ tally.count + length v.passed = omega (arith, v.counted, length-append ss v.passed, e) in
        walking-next (consuming (all_assigned ds)) ss (uses_among (toks text table to from)) tally xs (uses_among (toks text table to (i + 1)))
        (uses-step text table to i h) v
        (turn-as refl
        (λ q. q ∙ ap₂ (λ (l : List ℕ) (u : ℕ). wires_stored made k l u xs) v.state n ∙ sym (wires-append made k before tally.count v.passed xs))
        (step j es ds ls (ss ++ v.passed) c m v.counted))

  module _ (now : List ℕ) (i : ℕ) (sum : Tally) where
    -- at the end
    pub listing-end : (size which : ℕ) → i ≡ to → Listing text table before now from to i tally sum size which
        → ListsNames text table before now from to size which (names_among (toks text table to from)) tally sum
    listing-end size which z w earlier ss made m e =
        turn-as refl
        (λ p. subst (λ (j : ℕ). Naming text table now j (numbered input_word earlier ++ numbered which (ss ++ names_among (toks text table to from))) made) z p)
        (walking-end (listing size earlier) ss (names_among (toks text table to from)) tally (names-end text table to i (omega arith)) (w earlier ss made m e))

    pub assigning-end : (k : ℕ) (external : Bool) → i ≡ to → Assigning text table before now from to i tally sum k external
        → Assigns text table before now from to k external (names_among (toks text table to from)) tally sum
    assigning-end k external z w ins outs ds ss c m e =
        turn-as refl
        (λ p. subst (λ (j : ℕ). Naming text table now j (headed ins outs) (assigners ds ++ numbered (suc k) (ss ++ names_among (toks text table to from)))) z p)
        (walking-end (assigning ins external) (all_assigned ds ++ ss) (names_among (toks text table to from)) tally (names-end text table to i (omega arith))
        (w ins outs ds ss c m e))

    pub using-end : (index : List ℕ) (k : ℕ) → to ≤ i → Using text table before now from to i tally sum index k
        → Uses text table index before now k (uses_among (toks text table to from)) tally sum
    using-end index k l w j es ds ls ss c m e =
        walking-end (consuming (all_assigned ds)) ss (uses_among (toks text table to from)) tally (uses-end text table to i l) (w j es ds ls ss c m e)

-- ---- names that no call assigns

module _ (text table index : List ℕ) (from to i code : ℕ) (best sum : Best) where
  abbrev pub Missing : Type 0
  Missing =
      (j : ℕ) (es : List Entry) (cs : List Call) → Naming text table index j es (assigners cs)
      → earlier (meant best) (first (faults code (starts (strangers (all_assigned cs) (names_among (toks text table to from))))))
      ≡ earlier (meant sum) (first (faults code (starts (strangers (all_assigned cs) (names_among (toks text table to i))))))

starts-append : (code : ℕ) (xs ys : List Token) → faults code (starts (xs ++ ys)) ≡ faults code (starts xs) ++ faults code (starts ys)
starts-append code [] ys = refl
starts-append code (x ∷ xs) ys = ap (λ (l : List Fault). fault code x.start ∷ l) (starts-append code xs ys)

missing-append : (code : ℕ) (known xs ys : List Token)
    → first (faults code (starts (strangers known (xs ++ ys)))) ≡ earlier (first (faults code (starts (strangers known xs))))
    (first (faults code (starts (strangers known ys))))
missing-append code known xs ys =
    ap (λ (l : List Token). first (faults code (starts l))) (those-append (λ t. not (is_among known t)) xs ys)
    ∙ ap first (starts-append code (strangers known xs) (strangers known ys))
    ∙ first-append (faults code (starts (strangers known xs))) (faults code (starts (strangers known ys)))

module _ (text table index : List ℕ) (from to i code : ℕ) (best sum : Best) where
  pub missing-next : (r : Best) → i < to → Missing text table index from to i code best sum
      → Unassigned text table index code (names_among (token_at text table i ∷ [])) sum r → Missing text table index from to (i + 1) code best r
  missing-next r h w step j es cs m =
      let xs = names_among (token_at text table i ∷ []) in
      let ys = names_among (toks text table to (i + 1)) in
      let F : List Token → Option Fault = λ ts. first (faults code (starts (strangers (all_assigned cs) ts))) in
      w j es cs m
      ∙ ap (earlier (meant sum)) (ap F (names-step text table to i h) ∙ missing-append code (all_assigned cs) xs ys)
      ∙ sym (earlier-assoc (meant sum) (F xs) (F ys))
      ∙ ap (λ (o : Option Fault). earlier o (F ys)) (sym (step j es cs m))

  pub missing-end : to ≤ i → Missing text table index from to i code best sum
      → Unassigned text table index code (names_among (toks text table to from)) best sum
  unfolding those first
  missing-end h w j es cs m =
      sym (w j es cs m
      ∙ ap (λ (ts : List Token). earlier (meant sum) (first (faults code (starts (strangers (all_assigned cs) ts))))) (names-end text table to i h)
      ∙ earlier-none (meant sum))
