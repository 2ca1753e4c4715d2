-- The walk along a row: one item after another comes to the whole row. First what the items of any row come to, then one parameter, rows of parameters and of
-- results. Relies on `RowFaults`, `NameMarks`, `Records` and `RowParses`.
use mathlib.Core.Path.{◌≡◌, refl, sym, ap, ap₂, ◌∙◌}
use mathlib.Core.Bool.{Bool, true, false, not}
use mathlib.Core.List.{List, [], ◌∷◌, ◌++◌, map, append_assoc}
use mathlib.Core.Option.{Option}
use Prim.Native.Nat.{ℕ, suc, ◌+◌, ◌*◌, ◌<◌, ◌≤◌}
use native.Mathlib.Omega.{arith}
use lib.Dec.{eqb}
use lib.ListN.{length, length-append, get_or}
use lib.Seq.{sets}
use Rattle.std.specs.Prelude.{is_some as is_there, unwrap_or}
use Rattle.lexis.specs.Sizes.{max_brackets, max_parameters, max_results}
use Rattle.lexis.specs.Lexer.{Token}
use Rattle.lexis.specs.Symbol.{comma}
use Rattle.syntax.specs.Tree.{Ty, Param}
use Rattle.syntax.specs.Parser.{type, param, typed_name, rest}
use Rattle.syntax.specs.Parser.Parse.{ok}
use Rattle.syntax.specs.Table.{start_at, token_at, toks}
use Rattle.syntax.specs.Inner.{lookahead}
use Rattle.syntax.proofs.Shrinks.{param-shrinks, result-shrinks}
use Rattle.syntax.proofs.Table.{toks-length, toks-rest}
use Rattle.index.specs.Indexed.{Walkable}
use Rattle.index.proofs.Theorems.{walks-wider}
use Rattle.lists.specs.Fault.{Fault, fault, earlier, first}
use Rattle.lists.specs.Best.{meant}
use Rattle.lists.specs.Names.{is_among}
use Rattle.lists.specs.Reading.{is_some, all_tensor}
use Rattle.lists.specs.Masks.{mask_of, is_required}
use Rattle.lists.specs.Types.{kinds_of, pairs_of, type_code, OfType}
use Rattle.lists.specs.Directory.{first_parameter, parameter_words, ParametersAt, no-parameter, a-parameter}
use Rattle.lists.specs.Walks.{when}
use Rattle.lists.specs.Headers.{Reads, param_row, result_row, Roomy, Ready, onward_row, Judge, row_faults, of_params, of_results, Marks, Judged, ParamsStored}
use Rattle.lists.specs.Headers.{OfDefault, OfParameter, OfParameters, OfResult, OfResults, Carried}
use Rattle.lists.specs.declared.best.Best.{Best}
use Rattle.lists.specs.declared.headers.Row.{Row}
use Rattle.lists.specs.declared.headers.Default.{Default}
use Rattle.lists.specs.declared.types.TypeAt.{TypeAt}
use Rattle.lists.proofs.First.{earlier-assoc, earlier-none}
use Rattle.lists.proofs.Parts.{first_of}
use Rattle.lists.proofs.HeaderParses.{param-ok, result_ok}
use Rattle.lists.proofs.RowFaults.{row_one, row_more, item-parts}
use Rattle.lists.proofs.NameMarks.{names-later}
use Rattle.lists.proofs.Records.{sets_below, parameter-stored, parameter-same}
use Rattle.lists.proofs.RowParses.{param-takes, result-takes, begins, goes_on, closed, still-reads}

-- ---- any row

module _ {A : Type 0} (j : Judge A) (text table : List ℕ) (k : ℕ) where
  -- nothing changes where the row goes on one place later
  pub judged-onward : {index index' : List ℕ} {r r₁ : Row} {xs : List A} → Judged j text table index index' k r r₁ xs
      → Judged j text table index index' k r (onward_row r₁) xs
  judged-onward g = record {
    count = g.count;
    names = λ ops qs ss m l. names-later (omega arith) (g.names ops qs ss m l);
    faulted = g.faulted;
  }

  -- an item, and the row behind it
  pub judged-more : {index index₁ index' : List ℕ} {r r₁ r' : Row} {x : A} {xs : List A} → Judged j text table index index₁ k r r₁ (x ∷ [])
      → Judged j text table index₁ index' k (onward_row r₁) r' xs → Judged j text table index index' k r r' (x ∷ xs)
  judged-more {index} {index₁} {index'} {r} {r₁} {r'} {x} {xs} g h = record {
    count = let a = g.count in let b = h.count in omega arith;
    names = λ ops qs ss m l.
        let t = j.name_of x in
        let e = h.names ops qs (ss ++ (t ∷ [])) (names-later (omega arith) (g.names ops qs ss m l)) (counted ss t l) in
        rw (append_assoc ss (t ∷ []) (map j.name_of xs)) at e;
    faulted = λ ops qs ss m l.
        let t = j.name_of x in
        h.faulted ops qs (ss ++ (t ∷ [])) (names-later (omega arith) (g.names ops qs ss m l)) (counted ss t l)
        ∙ ap (λ (o : Option Fault). earlier o (first (row_faults j qs (ss ++ (t ∷ [])) xs))) (g.faulted ops qs ss m l)
        ∙ earlier-assoc (meant r.best) (first (row_faults j qs ss (x ∷ []))) (first (row_faults j qs (ss ++ (t ∷ [])) xs))
        ∙ ap (earlier (meant r.best)) (sym (row_more j qs ss x xs));
  }
    where
      counted : (ss : List Token) (t : Token) → length ss ≡ r.index → length (ss ++ (t ∷ [])) ≡ r₁.index
      counted ss t l = let a = length-append ss (t ∷ []) in let b = g.count in omega arith

-- one item, by the code: the test of the size, that of the name, its own fault
module _ {A : Type 0} (j : Judge A) (text table : List ℕ) (k : ℕ) (index index₁ : List ℕ) (r : Row) (x : A) {again : Bool}
    (marks : Marks text table index index₁ r.at k again) (named : token_at text table r.at ≡ j.name_of x)
  where
    pub judged-one : {r₁ : Row} → r₁.index ≡ r.index + 1 → r.at + 1 ≤ r₁.at
        → meant r₁.best
        ≡ earlier (earlier (earlier (meant r.best) (first (when (eqb r.index j.size) (fault 12 (j.place x)))))
        (first (when again (fault 13 (start_at table r.at)))))
        (first (j.own x))
        → Judged j text table index index₁ k r r₁ (x ∷ [])
    unfolding token_at
    judged-one {r₁} count later found = record {
      count = count;
      names = λ ops qs ss m l.
          let e = marks.names ops (qs ++ ss) m in
          names-later later (rw (named, append_assoc qs ss (j.name_of x ∷ [])) at e);
      faulted = λ ops qs ss m l.
          found
          ∙ ap₂ (λ (i : ℕ) (b : Bool). earlier (earlier (earlier (meant r.best) (first (when (eqb i j.size) (fault 12 (j.place x)))))
          (first (when b (fault 13 (start_at table r.at))))) (first (j.own x)))
          (sym l) (marks.again ops (qs ++ ss) m)
          ∙ ap (λ (t : Token). earlier (earlier (earlier (meant r.best) (first (when (eqb (length ss) j.size) (fault 12 (j.place x)))))
          (first (when (is_among (qs ++ ss) t) (fault 13 t.start)))) (first (j.own x)))
          named
          ∙ item-parts j qs ss x (meant r.best)
          ∙ ap (earlier (meant r.best)) (sym (row_one j qs ss x));
    }

-- the two tests of a name, by the code
pub two-tests : (b b₁ b₂ : Best) (v w : Bool) {p p' q q' : ℕ} → meant b₁ ≡ earlier (meant b) (first (when v (fault 12 p)))
    → meant b₂ ≡ earlier (meant b₁) (first (when w (fault 13 q))) → p ≡ p' → q ≡ q'
    → meant b₂ ≡ earlier (earlier (meant b) (first (when v (fault 12 p')))) (first (when w (fault 13 q')))
two-tests b b₁ b₂ v w {p} {p'} {q} {q'} e f g h =
    f ∙ ap₂ (λ (o : Option Fault) (l : ℕ). earlier o (first (when w (fault 13 l)))) (e ∙ ap (λ (l : ℕ). earlier (meant b) (first (when v (fault 12 l)))) g) h

-- the walk may go on behind an item that has taken three tokens
pub ready-onward : {text index index₁ : List ℕ} {n k : ℕ} {r r₁ : Row} → Ready text index n k r → Walkable index₁ (r.at + 1) n
    → r.at + 3 ≤ r₁.at → r₁.at < n → r₁.index ≡ r.index + 1 → r₁.params ≤ r.params + 1 → Ready text index₁ n k (onward_row r₁)
ready-onward ready walk far behind counted few = record {
  inside = omega arith;
  short = ready.short;
  small = ready.small;
  few = let f = ready.few in omega arith;
  counted = let f = ready.counted in omega arith;
  numbered = let f = ready.numbered in omega arith;
  names = walks-wider (omega arith) walk;
}

-- ---- a place behind an item

module _ (text table : List ℕ) (n i : ℕ) {j : ℕ} {us : List Token} (left : us ≡ toks text table n j)
    (taken : length us + 3 ≤ length (toks text table n i)) where
  -- it lies three places on
  pub far-on : i + 3 ≤ j
  far-on =
      let a = toks-length text table n i in
      let b = ap (λ (x : List Token). length x) left ∙ toks-length text table n j in
      omega arith

-- ---- one parameter

not-back : (a b : Bool) → a ≡ not b → b ≡ not a
not-back a true e = ap not (sym e)
not-back a false e = ap not (sym e)

module _ {text table index index₁ words words₁ : List ℕ} {n k : ℕ} {r : Row} {again : Bool} {ty : TypeAt} {d : Default} {code required : ℕ} {best : Best}
    (marks : Marks text table index index₁ r.at k again) (typed : OfType text table n (r.at + 2) ty) (given : OfDefault text table n (r.at + 2) ty d)
    (coded : (u : Ty) → ty.kinds ≡ kinds_of u → ty.pairs ≡ pairs_of u
    → ty.tensor ≡ all_tensor u → code ≡ type_code u)
    (stored : words₁ ≡ sets words (first_parameter + r.params * parameter_words) (r.at ∷ code ∷ unwrap_or d.at 0 ∷ [])) (roomy : Roomy words n)
    (few : 4 * r.params ≤ r.at) (inside : r.at + 4 ≤ n)
    (lacks : Bool) (lacking : is_there d.at ≡ not lacks)
    (flags : (bs : List Bool) → r.required ≡ mask_of bs → length bs ≡ r.index → r.index < max_parameters → required ≡ mask_of (bs ++ (lacks ∷ [])))
    (found : meant best
    ≡ earlier (earlier (earlier (meant r.best) (first (when (eqb r.index max_parameters) (fault 12 (start_at table r.at)))))
    (first (when again (fault 13 (start_at table r.at)))))
    (meant d.best))
  where
    pub parameter-read : OfParameter text table index index₁ words words₁ n k r
        (record { best = best; at = d.end; index = r.index + 1; params = r.params + 1; required = required })
    unfolding token_at
    parameter-read p us h =
        let i = param-ok max_brackets (toks text table n r.at) h in
        let f = first_of text table n r.at p.name (i.colon ∷ i.typed) i.is in
        let two : r.at + 2 ≡ r.at + 1 + 1 = omega arith in
        let there : toks text table n (r.at + 2) ≡ i.typed =
        ap (λ (m : ℕ). toks text table n m) two ∙ sym (toks-rest text table n (r.at + 1)) ∙ ap rest f.rest in
        let t = ap (type max_brackets) there ∙ i.a-type in
        let is = typed max_brackets p.ty i.valued t in
        let g = given p.ty i.valued p.default us t is i.a-default in
        let far = far-on text table n r.at g.left (param-takes max_brackets (toks text table n r.at) h) in
        let room : first_parameter + r.params * parameter_words + 3 ≤ length words = let m = roomy.room in omega arith in
        record {
          left = g.left;
          judged = judged-one of_params text table k index index₁ r p marks f.here refl (omega arith)
              (found ∙ ap₂ (λ (l : ℕ) (o : Option Fault). earlier (earlier
              (earlier (meant r.best) (first (when (eqb r.index max_parameters) (fault 12 l))))
              (first (when again (fault 13 (start_at table r.at))))) o)
              (ap (λ (x : Token). x.start) f.here) g.faulted);
          stored = record {
            count = refl;
            records = a-parameter (parameter-stored text table n words words₁ r.params r.at code (unwrap_or d.at 0) stored room (omega arith) f.here t
                (coded p.ty is.kinds is.pairs is.tensor) g.place) no-parameter;
            kept = λ x l. ap (λ (w : List ℕ). get_or w x 0) stored ∙ sets_below (r.at ∷ code ∷ unwrap_or d.at 0 ∷ []) words
                (first_parameter + r.params * parameter_words) x l;
            flags = λ bs m l s. flags bs m l (omega arith) ∙ ap (λ (b : Bool). mask_of (bs ++ (b ∷ []))) (not-back (is_some p.default) lacks (sym g.given ∙ lacking));
          };
        }

-- ---- rows of parameters

module _ {text table words words' : List ℕ} {n : ℕ} {r r₁ : Row} where
  stored-onward : {ps : List Param} → ParamsStored text table words words' n r r₁ ps → ParamsStored text table words words' n r (onward_row r₁) ps
  stored-onward s = record { count = s.count; records = s.records; kept = s.kept; flags = s.flags }

stored_more : {text table words words₁ words' : List ℕ} {n : ℕ} {r r₁ r' : Row} {p : Param} {ps : List Param}
    → ParamsStored text table words words₁ n r r₁ (p ∷ []) → r₁.index ≡ r.index + 1 → ParamsStored text table words₁ words' n (onward_row r₁) r' ps
    → ParamsStored text table words words' n r r' (p ∷ ps)
stored_more {text} {table} {words} {words₁} {words'} {n} {r} {r₁} {r'} {p} {ps} s c m = record {
  count = let a = s.count in let b = m.count in omega arith;
  records = go s.records;
  kept = λ i l. m.kept i (let a = s.count in omega arith) ∙ s.kept i l;
  flags = λ bs q l h.
      let e = m.flags (bs ++ (is_required p ∷ [])) (s.flags bs q l (omega arith)) (let a = length-append bs (is_required p ∷ []) in omega arith)
      (omega arith) in
      e ∙ ap mask_of (append_assoc bs (is_required p ∷ []) (map is_required ps));
}
  where
    go : ParametersAt text table words₁ n r.params (p ∷ []) → ParametersAt text table words' n r.params (p ∷ ps)
    go (a-parameter a no-parameter) =
        let z : r₁.params ≡ suc r.params = let b = s.count in omega arith in
        a-parameter (parameter-same text table n (λ f l. m.kept _ (let b = s.count in omega arith)) a) (rw z at m.records)

module _ {text table index index₁ words words₁ : List ℕ} {n k : ℕ} {r r₁ : Row} (one : OfParameter text table index index₁ words words₁ n k r r₁) where
  ends : (p : Param) (us : List Token) → param max_brackets (toks text table n r.at) ≡ ok p us → us ≡ toks text table n r₁.at
  ends p us h = (one p us h).left

  pub parameters-last : (lookahead (toks text table n r₁.at) ≡ comma → ⊥) → OfParameters text table index index₁ words words₁ n k r (onward_row r₁)
  parameters-last q ps us h =
      let c = closed (param max_brackets) (param-shrinks max_brackets) text table n r.at r₁.at ends q h in
      let o = one c.one c.behind c.read in
      record {
        left = c.left;
        judged = rw c.is (judged-onward of_params text table k o.judged);
        stored = rw c.is (stored-onward o.stored);
      }

  pub parameters-more : {index' words' : List ℕ} {r' : Row} → lookahead (toks text table n r₁.at) ≡ comma
      → OfParameters text table index₁ index' words₁ words' n k (onward_row r₁) r' → OfParameters text table index index' words words' n k r r'
  parameters-more q all ps us h =
      let g = goes_on (param max_brackets) (param-shrinks max_brackets) text table n r.at r₁.at ends q h in
      let o = one g.one g.behind g.read in
      let m = all g.others us g.more in
      record {
        left = m.left;
        judged = rw g.is (judged-more of_params text table k o.judged m.judged);
        stored = rw g.is (stored_more o.stored o.judged.count m.stored);
      }

-- the walk over parameters goes on
module _ {text table index : List ℕ} {n k : ℕ} {r : Row} (ready : Ready text index n k r) (reads : Reads param_row text table n r.at) where
  -- four tokens are left
  pub parameter-inside : r.at + 4 ≤ n
  parameter-inside =
      let b = begins (param max_brackets) (param-shrinks max_brackets) text table n r.at reads.is in
      let t = param-takes max_brackets (toks text table n r.at) b.read in
      let l = toks-length text table n r.at in
      omega arith

  module _ {index₁ words words₁ : List ℕ} {r₁ : Row} (one : OfParameter text table index index₁ words words₁ n k r r₁)
      (walk : Walkable index₁ (r.at + 1) n) where
    pub parameter-behind : (r.at + 3 ≤ r₁.at) × (r₁.at < n)
    parameter-behind =
        let b = begins (param max_brackets) (param-shrinks max_brackets) text table n r.at reads.is in
        let o = one b.one (b.mark ∷ b.behind) b.read in (
          far-on text table n r.at o.left (param-takes max_brackets (toks text table n r.at) b.read),
          (first_of text table n r₁.at b.mark b.behind (sym o.left)).inside,
        )

    pub parameter-ready : Ready text index₁ n k (onward_row r₁)
    parameter-ready =
        let b = begins (param max_brackets) (param-shrinks max_brackets) text table n r.at reads.is in
        let o = one b.one (b.mark ∷ b.behind) b.read in
        ready-onward ready walk parameter-behind.0 parameter-behind.1 o.judged.count (let z = o.stored.count in omega arith)

    pub parameter-reads : lookahead (toks text table n r₁.at) ≡ comma → Reads param_row text table n (r₁.at + 1)
    parameter-reads q = still-reads (param max_brackets) (param-shrinks max_brackets) text table n r.at r₁.at (λ p us h. (one p us h).left) q reads

-- ---- rows of results

module _ {text table index index₁ : List ℕ} {n k : ℕ} {r r₁ : Row} (one : OfResult text table index index₁ n k r r₁) where
  pub results-last : (lookahead (toks text table n r₁.at) ≡ comma → ⊥) → OfResults text table index index₁ n k r (onward_row r₁)
  results-last q xs us h =
      let c = closed (typed_name max_brackets) (result-shrinks max_brackets) text table n r.at r₁.at (λ x us h. (one x us h).left) q h in
      let o = one c.one c.behind c.read in
      record { left = c.left; judged = rw c.is (judged-onward of_results text table k o.judged) }

  pub results-more : {index' : List ℕ} {r' : Row} → lookahead (toks text table n r₁.at) ≡ comma
      → OfResults text table index₁ index' n k (onward_row r₁) r' → OfResults text table index index' n k r r'
  results-more q all xs us h =
      let g = goes_on (typed_name max_brackets) (result-shrinks max_brackets) text table n r.at r₁.at (λ x us h. (one x us h).left) q h in
      let o = one g.one g.behind g.read in
      let m = all g.others us g.more in
      record { left = m.left; judged = rw g.is (judged-more of_results text table k o.judged m.judged) }

module _ {text table index : List ℕ} {n k : ℕ} {r : Row} (ready : Ready text index n k r) (reads : Reads result_row text table n r.at) where
  pub result-inside : r.at < n
  result-inside =
      let b = begins (typed_name max_brackets) (result-shrinks max_brackets) text table n r.at reads.is in
      let t = result-takes max_brackets (toks text table n r.at) b.read in
      let l = toks-length text table n r.at in
      omega arith

  module _ {index₁ : List ℕ} {r₁ : Row} (one : OfResult text table index index₁ n k r r₁) (walk : Walkable index₁ (r.at + 1) n) (same : Carried r r₁) where
    pub result-behind : (r.at + 3 ≤ r₁.at) × (r₁.at < n)
    result-behind =
        let b = begins (typed_name max_brackets) (result-shrinks max_brackets) text table n r.at reads.is in
        let o = one b.one (b.mark ∷ b.behind) b.read in (
          far-on text table n r.at o.left (result-takes max_brackets (toks text table n r.at) b.read),
          (first_of text table n r₁.at b.mark b.behind (sym o.left)).inside,
        )

    pub result-ready : Ready text index₁ n k (onward_row r₁)
    result-ready =
        let b = begins (typed_name max_brackets) (result-shrinks max_brackets) text table n r.at reads.is in
        let o = one b.one (b.mark ∷ b.behind) b.read in
        ready-onward ready walk result-behind.0 result-behind.1 o.judged.count (let z = same.params in omega arith)

    pub result-reads : lookahead (toks text table n r₁.at) ≡ comma → Reads result_row text table n (r₁.at + 1)
    result-reads q = still-reads (typed_name max_brackets) (result-shrinks max_brackets) text table n r.at r₁.at (λ x us h. (one x us h).left) q reads

-- one result
module _ {text table index index₁ : List ℕ} {n k : ℕ} {r : Row} {again : Bool} {ty : TypeAt} {best : Best}
    (marks : Marks text table index index₁ r.at k again) (typed : OfType text table n (r.at + 2) ty)
    (found : meant best
    ≡ earlier (earlier (meant r.best) (first (when (eqb r.index max_results) (fault 12 (start_at table r.at)))))
    (first (when again (fault 13 (start_at table r.at)))))
  where
    pub result-read : OfResult text table index index₁ n k r
        (record { best = best; at = ty.end; index = r.index + 1; params = r.params; required = r.required })
    unfolding token_at first
    result-read x us h =
        let i = result_ok max_brackets (toks text table n r.at) h in
        let f = first_of text table n r.at x.name (i.colon ∷ i.typed) i.is in
        let two : r.at + 2 ≡ r.at + 1 + 1 = omega arith in
        let there : toks text table n (r.at + 2) ≡ i.typed =
        ap (λ (m : ℕ). toks text table n m) two ∙ sym (toks-rest text table n (r.at + 1)) ∙ ap rest f.rest in
        let is = typed max_brackets x.ty us (ap (type max_brackets) there ∙ i.a-type) in
        let far = far-on text table n r.at is.end (result-takes max_brackets (toks text table n r.at) h) in
        record {
          left = is.end;
          judged = judged-one of_results text table k index index₁ r x marks f.here refl (omega arith)
              (found
              ∙ ap (λ (l : ℕ). earlier (earlier (meant r.best) (first (when (eqb r.index max_results) (fault 12 l))))
              (first (when again (fault 13 (start_at table r.at)))))
              (ap (λ (x : Token). x.start) f.here)
              ∙ sym (earlier-none _));
        }

-- ---- the loops

-- what the loop over parameters knows: from here it may go on, and what the rest comes to gives what the whole row comes to
pub record ParametersFrom (text table : List ℕ) (n k : ℕ) (index₀ words₀ : List ℕ) (r₀ : Row) (index words : List ℕ) (r : Row) : Type 0 where
  pub ready : Ready text index n k r
  pub roomy : Roomy words n
  pub index-size : length index ≡ length index₀
  pub words_size : length words ≡ length words₀
  pub reads : Reads param_row text table n r.at
  pub back : (index' words' : List ℕ) (r' : Row) → OfParameters text table index index' words words' n k r r'
      → OfParameters text table index₀ index' words₀ words' n k r₀ r'

pub params-start : {text table index words : List ℕ} {n k : ℕ} {r : Row} → Ready text index n k r → Roomy words n → Reads param_row text table n r.at
    → ParametersFrom text table n k index words r index words r
params-start a b c = record { ready = a; roomy = b; index-size = refl; words_size = refl; reads = c; back = λ i w x h. h }

pub roomy-kept : {words words₁ : List ℕ} {n : ℕ} → length words₁ ≡ length words → Roomy words n → Roomy words₁ n
roomy-kept e h = record { room = let m = h.room in omega arith }

module _ {text table : List ℕ} {n k : ℕ} {index₀ words₀ : List ℕ} {r₀ : Row} {index words : List ℕ} {r : Row}
    (inv : ParametersFrom text table n k index₀ words₀ r₀ index words r) {index₁ words₁ : List ℕ} {r₁ : Row}
    (one : OfParameter text table index index₁ words words₁ n k r r₁) (walk : Walkable index₁ (r.at + 1) n)
  where
    pub params-again : {x : ℕ} → length index₁ ≡ length index → length words₁ ≡ length words → x ≡ lookahead (toks text table n r₁.at) → x ≡ comma
        → ParametersFrom text table n k index₀ words₀ r₀ index₁ words₁ (onward_row r₁)
    params-again m l e q = record {
      index-size = m ∙ inv.index-size;
      words_size = l ∙ inv.words_size;
      ready = parameter-ready inv.ready inv.reads one walk;
      roomy = roomy-kept l inv.roomy;
      reads = parameter-reads inv.ready inv.reads one walk (sym e ∙ q);
      back = λ i w x h. inv.back i w x (parameters-more one (sym e ∙ q) h);
    }

    pub params-done : {x : ℕ} → x ≡ lookahead (toks text table n r₁.at) → (x ≡ comma → ⊥)
        → Ready text index₁ n k (onward_row r₁) × OfParameters text table index₀ index₁ words₀ words₁ n k r₀ (onward_row r₁)
    params-done e q =
        (parameter-ready inv.ready inv.reads one walk, inv.back index₁ words₁ (onward_row r₁) (parameters-last one (λ z. q (e ∙ z))))

    pub params-behind : (r.at + 3 ≤ r₁.at) × (r₁.at < n)
    params-behind = parameter-behind inv.ready inv.reads one walk

-- and the loop over results
pub record ResultsFrom (text table : List ℕ) (n k : ℕ) (index₀ : List ℕ) (r₀ : Row) (index : List ℕ) (r : Row) : Type 0 where
  pub ready : Ready text index n k r
  pub reads : Reads result_row text table n r.at
  pub size : length index ≡ length index₀
  pub same : Carried r₀ r
  pub back : (index' : List ℕ) (r' : Row) → OfResults text table index index' n k r r' → OfResults text table index₀ index' n k r₀ r'

pub results-start : {text table index : List ℕ} {n k : ℕ} {r : Row} → Ready text index n k r → Reads result_row text table n r.at
    → ResultsFrom text table n k index r index r
results-start a c = record { ready = a; reads = c; size = refl; same = record { params = refl; required = refl }; back = λ i x h. h }

module _ {text table : List ℕ} {n k : ℕ} {index₀ : List ℕ} {r₀ : Row} {index : List ℕ} {r : Row} (inv : ResultsFrom text table n k index₀ r₀ index r)
    {index₁ : List ℕ} {r₁ : Row} (one : OfResult text table index index₁ n k r r₁) (walk : Walkable index₁ (r.at + 1) n) (same : Carried r r₁)
  where
    carried : Carried r₀ (onward_row r₁)
    carried = record { params = same.params ∙ inv.same.params; required = same.required ∙ inv.same.required }

    pub results-again : {x : ℕ} → length index₁ ≡ length index → x ≡ lookahead (toks text table n r₁.at) → x ≡ comma
        → ResultsFrom text table n k index₀ r₀ index₁ (onward_row r₁)
    results-again l e q = record {
      size = l ∙ inv.size;
      ready = result-ready inv.ready inv.reads one walk same;
      reads = result-reads inv.ready inv.reads one walk same (sym e ∙ q);
      same = carried;
      back = λ i x h. inv.back i x (results-more one (sym e ∙ q) h);
    }

    pub results-done : {x : ℕ} → x ≡ lookahead (toks text table n r₁.at) → (x ≡ comma → ⊥)
        → Ready text index₁ n k (onward_row r₁) × (Carried r₀ (onward_row r₁) × OfResults text table index₀ index₁ n k r₀ (onward_row r₁))
    results-done e q =
        (result-ready inv.ready inv.reads one walk same, (carried, inv.back index₁ (onward_row r₁) (results-last one (λ z. q (e ∙ z)))))

    pub results-behind : (r.at + 3 ≤ r₁.at) × (r₁.at < n)
    results-behind = result-behind inv.ready inv.reads one walk same
