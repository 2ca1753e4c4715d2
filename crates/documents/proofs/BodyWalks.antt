-- The walk over a body: what the left side of a call and one call more come to, and what is left after it. Relies on `Recording` for the records, on
-- `CallPlaces` for where a call's parts stand.
use mathlib.Core.Path.{◌≡◌, refl, sym, ap, ap₂, subst, ◌∙◌}
use mathlib.Core.Bool.{Bool, true, false}
use mathlib.Core.List.{List, [], ◌∷◌, ◌++◌, flat_map, append_assoc, append-nil}
use Rattle.std.specs.Prelude.{Option as Maybe, Some, None, IfSome, unwrap_or}
use mathlib.Core.Option.{Option, some}
use mathlib.Core.Option.{none as nothing}
use Prim.Native.Nat.{ℕ, suc, ◌+◌, ◌-◌, ◌≤◌, ◌<◌}
use native.Mathlib.Omega.{arith}
use lib.Dec.{eqb, ltb}
use lib.ListN.{length, length-append}
use borrow.Author.Tests.{eqb-false, ltb-true, ltb-false}
use Rattle.lexis.specs.Sizes.{max_calls, max_brackets}
use Rattle.lexis.specs.Lexer.{Token}
use Rattle.syntax.specs.Tree.{Header, Call}
use Rattle.syntax.specs.Parser.{call}
use Rattle.syntax.specs.Parser.Parse.{ok}
use Rattle.syntax.specs.Table.{token_at, toks}
use Rattle.index.proofs.Theorems.{mapped-wider}
use Rattle.lists.specs.Code as Lists
use Rattle.lists.specs.Fault.{Fault, fault, earlier, first}
use Rattle.lists.specs.Best.{meant}
use Rattle.lists.specs.Names.{first_token, assigned, used, all_assigned, all_used}
use Rattle.lists.specs.Found.{find, index_of}
use Rattle.lists.specs.Scans.{names_among, uses_among}
use Rattle.lists.specs.Walks.{when, scan}
use Rattle.lists.proofs.First.{earlier-assoc, earlier-comm, earlier-none, first-append, first-none}
use Rattle.lists.proofs.Faultless.{neither}
use Rattle.lists.proofs.Rules.{interchange}
use Rattle.documents.specs.Wiring.{is_external}
use Rattle.documents.specs.Tables.{call_record}
use Rattle.documents.specs.Calls.{Calls, CallFrom}
use Rattle.documents.specs.Walks.{assigning, consuming, Turn, call_faults, body_faults}
use Rattle.documents.specs.Naming.{Entry, numbered, headed, assigners_from, assigners, Naming}
use Rattle.documents.specs.Operations.{operation_faults}
use Rattle.documents.specs.Judged.{Judges}
use Rattle.documents.specs.Records.{records_words, call_stored, wires_stored, TablesRecorded}
use Rattle.documents.specs.NameWalks.{Assigns, Uses}
use Rattle.documents.specs.Graphs.{LeftSide, Walked, Stepped, Body}
use Rattle.documents.specs.declared.body.Walk.{Walk}
use Rattle.documents.specs.declared.wiring.Tally.{Tally}
use Rattle.documents.specs.declared.judging.Judged.{Judged}
use Rattle.documents.proofs.Lookups.{calls-more, calls-none}
use Rattle.documents.proofs.Entries.{assigners-last}
use Rattle.documents.proofs.CallPlaces.{CallEnds}
use Rattle.documents.proofs.CallUsage.{unknown}
use Rattle.documents.proofs.Sums.{assigned-last, used-last}
use Rattle.documents.proofs.Recording.{clean-uses, recorded_more, recorded-none}

-- ---- a left side

module _ (text table index after : List ℕ) (n at equal k : ℕ) (external : Bool) (tally start r : Tally)
    (step : Assigns text table index after at equal k external (names_among (toks text table equal at)) start r)
    (counts : start.count ≡ tally.count) where
  pub left-done : (ins outs : List Token) (ds : List Call) (c : Call) → CallFrom text table n at equal c → k ≡ length ds
      → Naming text table index at (headed ins outs) (assigners ds) → tally.count ≡ length (all_assigned ds) → external ≡ is_external c
      → meant start.best ≡ earlier (meant tally.best) (first (when (eqb k max_calls) (fault Lists.over_size (token_at text table at).start)))
      → LeftSide text table after equal ins outs ds c tally r
  left-done ins outs ds c w e named count x begun =
      let ts = names_among (toks text table equal at) in
      let none = append-nil (all_assigned ds) in
      let t = step ins outs ds [] e (subst (Naming text table index at (headed ins outs)) (sym (append-nil (assigners ds))) named)
      (counts ∙ count ∙ ap (λ (l : List Token). length l) (sym none)) in
      record {
        found =
            t.found
            ∙ ap₂ (λ (a : Option Fault) (l : List Token). earlier a (first (scan (assigning ins external) l ts)))
            (begun ∙ ap₂ (λ (j : ℕ) (u : Token). earlier (meant tally.best) (first (when (eqb j max_calls) (fault Lists.over_size u.start)))) e w.first)
            none
            ∙ ap₂ (λ (y : Bool) (l : List Token).
            earlier (earlier (meant tally.best) (first (when (eqb (length ds) max_calls) (fault Lists.over_size (first_token c.left).start))))
            (first (scan (assigning ins y) (all_assigned ds) l))) x w.assigns;
        count = t.count ∙ ap₂ (λ (l m : List Token). length (l ++ m)) none w.assigns;
        named =
            let z : suc k ≡ suc (0 + length ds) = omega arith in
            subst (Naming text table after equal (headed ins outs))
            (ap₂ (λ (j : ℕ) (l : List Token). assigners ds ++ numbered j l) z w.assigns ∙ sym (assigners-last 0 ds c)) t.state;
      }

-- ---- one call

strictly : {k : ℕ} (m : ℕ) → m ≤ max_calls → (m ≡ max_calls → ⊥) → k ≡ m → k < max_calls
strictly {k} m f n e = by (ltb m max_calls) refl
  where
    by : (b : Bool) → ltb m max_calls ≡ b → k < max_calls
    by true q = let z = ltb-true m max_calls q in omega arith
    by false q = let z = ltb-false m max_calls q in absurd (n (omega arith))

five : (w a b j u : Option Fault) → earlier (earlier (earlier (earlier w a) b) j) u ≡ earlier w (earlier (earlier a (earlier b u)) j)
five w a b j u = simp earlier-assoc (ap (λ (x : Option Fault). earlier w (earlier a (earlier b x))) (earlier-comm j u))

-- its number is that of a word
pub op-below : (o : Maybe ℕ) {m : ℕ} → IfSome o (λ k. k < suc m) → unwrap_or o 0 < suc m
op-below None h = omega arith
op-below (Some k) h = h

module _ (text table index after records wired stored : List ℕ) (n equal : ℕ) (hs : List Header) (ins outs : List Token) (ds : List Call) (c : Call)
    (us : List Token) (w r : Walk) (room : records_words ≤ length records) (state : Walked text table index records hs ins outs ds w)
    (from : CallFrom text table n w.at equal c) where
  module _ (left middle right : Tally) (j : Judged) (ends : CallEnds text table n w.at equal j.close r.at c us)
      (leftside : LeftSide text table after equal ins outs ds c (record { best = w.best; count = w.assigned }) left)
      (judged : Judges hs c text table n equal j) (joined : meant middle.best ≡ earlier (meant left.best) (meant j.best))
      (begins : middle.count ≡ w.uses)
      (uses : Uses text table after records wired w.calls (uses_among (toks text table j.close (equal + 3))) middle right)
      (op place assigns used' : ℕ) (op_is : op ≡ unwrap_or j.op 0) (place_is : place ≡ c.op.start) (assigns-is : assigns ≡ left.count - w.assigned) (used-is : used' ≡ right.count - w.uses)
      (store : stored ≡ call_stored wired w.calls (op ∷ place ∷ assigns ∷ used' ∷ []))
      (best-is : r.best ≡ right.best) (calls_is : r.calls ≡ w.calls + 1) (assigned-is : r.assigned ≡ left.count) (uses-is : r.uses ≡ right.count)
      (on : equal ≤ r.at) where
    abbrev k : ℕ
    k = w.calls

    abbrev made : List Entry
    made = assigners ds ++ numbered (suc k) (assigned c)

    made-is : assigners (ds ++ (c ∷ [])) ≡ made
    made-is =
        let z : suc (0 + length ds) ≡ suc k = omega (arith, state.counted.calls) in
        assigners-last 0 ds c ∙ ap (λ (x : ℕ). assigners ds ++ numbered x (assigned c)) z

    turn : Turn (consuming (all_assigned ds)) (all_used ds) (uses_among (toks text table j.close (equal + 3))) middle right
        (wired ≡ wires_stored made k records middle.count (uses_among (toks text table j.close (equal + 3))))
    turn =
        uses equal (headed ins outs) ds (assigned c) (all_used ds) state.counted.calls
        (subst (Naming text table after equal (headed ins outs)) made-is leftside.named)
        (begins ∙ state.counted.uses)

    abbrev U : Option Fault
    U = first (scan (consuming (all_assigned ds)) (all_used ds) (used c))

    abbrev W : Option Fault
    W = first (when (eqb (length ds) max_calls) (fault Lists.over_size (first_token c.left).start))

    abbrev A : Option Fault
    A = first (scan (assigning ins (is_external c)) (all_assigned ds) (assigned c))

    faults-are : first (call_faults ins ds c) ≡ earlier W (earlier A U)
    unfolding call_faults
    faults-are =
        let a = scan (assigning ins (is_external c)) (all_assigned ds) (assigned c) in
        let b = scan (consuming (all_assigned ds)) (all_used ds) (used c) in
        let d = when (eqb (length ds) max_calls) (fault Lists.over_size (first_token c.left).start) in
        first-append d (a ++ b) ∙ ap (earlier W) (first-append a b)

    found-is : meant r.best ≡ earlier (meant w.best) (earlier (first (call_faults ins ds c)) (first (operation_faults hs c)))
    found-is =
        ap meant best-is
        ∙ turn.found
        ∙ ap₂ earlier (joined ∙ ap₂ earlier leftside.found judged.found)
        (ap (λ (l : List Token). first (scan (consuming (all_assigned ds)) (all_used ds) l)) ends.uses)
        ∙ five (meant w.best) W A (first (operation_faults hs c)) U
        ∙ ap (λ (x : Option Fault). earlier (meant w.best) (earlier x (first (operation_faults hs c)))) (sym faults-are)

    assigned-count : left.count ≡ length (all_assigned (ds ++ (c ∷ [])))
    assigned-count = leftside.count ∙ ap (λ (l : List Token). length l) (sym (assigned-last ds c))

    uses-count : right.count ≡ length (all_used (ds ++ (c ∷ [])))
    uses-count = turn.count ∙ ap (λ (l : List Token). length l) (ap (λ (l : List Token). all_used ds ++ l) ends.uses ∙ sym (used-last ds c))

    -- the words of the call, where there is no fault
    op-is : first (operation_faults hs c) ≡ nothing → op ≡ index_of hs c.op
    op-is e = by (find hs c.op) refl
      where
        by : (o : Option Header) → find hs c.op ≡ o → op ≡ index_of hs c.op
        by nothing q = let z = sym (unknown hs c q) ∙ e in let y : ◌≡◌ {A = ℕ} 0 1 = cc in absurd (omega arith)
        by (some h) q = op_is ∙ ap (λ (o : Maybe ℕ). unwrap_or o 0) (judged.op h q)

    words_are : first (operation_faults hs c) ≡ nothing → op ∷ place ∷ assigns ∷ used' ∷ [] ≡ call_record hs c
    unfolding call_record
    words_are e =
        let a : assigns ≡ length (assigned c) =
        omega (arith, assigns-is, leftside.count, state.counted.assigned, length-append (all_assigned ds) (assigned c)) in
        let b : used' ≡ length (used c) =
        omega (arith, used-is, uses-count, state.counted.uses, ap (λ (l : List Token). length l) (used-last ds c), length-append (all_used ds) (used c)) in
        ap₂ (λ (x y : ℕ). x ∷ y ∷ assigns ∷ used' ∷ []) (op-is e) place_is ∙ ap₂ (λ (x y : ℕ). index_of hs c.op ∷ c.op.start ∷ x ∷ y ∷ []) a b

    not_full : (b : Bool) (x : Fault) → first (when b x) ≡ nothing → b ≡ false
    unfolding first
    not_full true x e = let y : ◌≡◌ {A = ℕ} 0 1 = cc in absurd (omega arith)
    not_full false x e = refl

    recorded-is : meant r.best ≡ nothing → TablesRecorded stored hs (ds ++ (c ∷ []))
    recorded-is none =
        let p = neither (meant w.best) (earlier (first (call_faults ins ds c)) (first (operation_faults hs c))) (sym found-is ∙ none) in
        let q = neither (first (call_faults ins ds c)) (first (operation_faults hs c)) p.1 in
        let s = neither W (earlier A U) (sym faults-are ∙ q.0) in
        let v = neither A U s.1 in
        let old = state.recorded p.0 in
        let n = eqb-false (length ds) max_calls (not_full (eqb (length ds) max_calls) (fault Lists.over_size (first_token c.left).start) s.0) in
        let low : k < max_calls = strictly (length ds) old.few n state.counted.calls in
        let clean = clean-uses (all_assigned ds) (all_used ds) (used c) old.uses (first-none _ v.1) in
        let e = turn.state ∙ ap₂ (λ (u : ℕ) (l : List Token). wires_stored made k records u l) begins ends.uses in
        subst (λ (l : List ℕ). TablesRecorded l hs (ds ++ (c ∷ [])))
        (sym (store ∙ ap (λ (l : List ℕ). call_stored l k (op ∷ place ∷ assigns ∷ used' ∷ [])) e))
        (recorded_more hs ds c records k w.uses (op ∷ place ∷ assigns ∷ used' ∷ []) room state.counted.calls state.counted.uses (words_are q.1)
        low clean old)

    pub stepped : Stepped text table n after stored hs ins outs ds c us w r
    stepped =
        record {
          after = ends.after;
          state =
              record {
                counted =
                    record {
                      calls = let z = length-append ds (c ∷ []) in let y = state.counted.calls in omega (arith, calls_is);
                      assigned = assigned-is ∙ assigned-count;
                      uses = uses-is ∙ uses-count;
                    };
                named = mapped-wider on leftside.named;
                recorded = recorded-is;
              };
          found = found-is;
        }

-- ---- the walk

module _ (text table : List ℕ) (n body end : ℕ) (hs : List Header) (ins outs : List Token) (cs : List Call) where
  abbrev Left : List Call → List Call → Option Fault
  Left done left = earlier (first (body_faults ins done left)) (first (flat_map (operation_faults hs) left))

  pub record Going (index records : List ℕ) (w : Walk) : Type 0 where
    pub done : List Call
    pub left : List Call
    pub whole : cs ≡ done ++ left
    pub behind : Calls max_brackets (toks text table n w.at) left (toks text table n end)
    pub state : Walked text table index records hs ins outs done w
    pub found : Left [] cs ≡ earlier (meant w.best) (Left done left)

  pub going_start : (index records : List ℕ) (w : Walk) → w.at ≡ body → w.calls ≡ 0 → w.assigned ≡ 0 → w.uses ≡ 0 → meant w.best ≡ nothing
      → Calls max_brackets (toks text table n body) cs (toks text table n end) → Naming text table index body (headed ins outs) [] → Going index records w
  unfolding all_assigned all_used flat_map assigners_from
  going_start index records w e k a u m h named =
      record {
        done = [];
        left = cs;
        whole = refl;
        behind = rw e h;
        state =
            record {
              counted = record { calls = k; assigned = a; uses = u };
              named = subst (λ (j : ℕ). Naming text table index j (headed ins outs) []) (sym e) named;
              recorded = λ z. recorded-none records hs;
            };
        found = sym (ap (λ (o : Option Fault). earlier o (Left [] cs)) m);
      }

  pub going_next : (index records index' records' : List ℕ) (w r : Walk) → w.at < end → end ≤ n → Going index records w
      →
      ((ds : List Call) (c : Call) (us : List Token) → call max_brackets (toks text table n w.at) ≡ ok c us → Walked text table index records hs ins outs ds w
      → Stepped text table n index' records' hs ins outs ds c us w r)
      → Going index' records' r
  unfolding body_faults flat_map
  going_next index records index' records' w r h l g s =
      let m = calls-more text table n end max_brackets w.at g.left h l g.behind in
      let t = s g.done m.one m.after m.is g.state in
      let F = call_faults ins g.done m.one in
      let B = body_faults ins (g.done ++ (m.one ∷ [])) m.others in
      let O = operation_faults hs m.one in
      let R = flat_map (operation_faults hs) m.others in
      record {
        done = g.done ++ (m.one ∷ []);
        left = m.others;
        whole = g.whole ∙ ap (λ (x : List Call). g.done ++ x) m.whole ∙ sym (append_assoc g.done (m.one ∷ []) m.others);
        behind = rw t.after at m.on;
        state = t.state;
        found =
            g.found
            ∙ ap (λ (x : List Call). earlier (meant w.best) (Left g.done x)) m.whole
            ∙ ap (earlier (meant w.best)) (ap₂ earlier (first-append F B) (first-append O R) ∙ interchange (first F) (first B) (first O) (first R))
            ∙ sym (earlier-assoc (meant w.best) (earlier (first F) (first O)) (earlier (first B) (first R)))
            ∙ ap (λ (o : Option Fault). earlier o (earlier (first B) (first R))) (sym t.found);
      }

  pub going_end : (index records : List ℕ) (w : Walk) → end ≤ w.at → Going index records w → Body text table index records hs ins outs cs w
  unfolding body_faults flat_map first
  going_end index records w h g =
      let z = calls-none text table n end max_brackets w.at g.left h g.behind in
      let y : g.done ≡ cs = sym (g.whole ∙ ap (λ (x : List Call). g.done ++ x) z ∙ append-nil g.done) in
      record {
        state = subst (λ (x : List Call). Walked text table index records hs ins outs x w) y g.state;
        found = sym (g.found ∙ ap (λ (x : List Call). earlier (meant w.best) (Left g.done x)) z ∙ earlier-none (meant w.best));
      }
