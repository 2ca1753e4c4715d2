-- The walk over headers: one header, and one after another up to the end. Relies on `RowWalks` for the rows of a header, on `Records` for its record.
use mathlib.Core.Path.{◌≡◌, refl, sym, ap, ap₂, ◌∙◌}
use mathlib.Core.Bool.{Bool, true, false, cond}
use mathlib.Core.List.{List, [], ◌∷◌, ◌++◌, map, flat_map, append_assoc, append-nil}
use mathlib.Core.Option.{Option}
use Prim.Native.Nat.{ℕ, ◌+◌, ◌*◌, ◌<◌, ◌≤◌}
use native.Mathlib.Nat.{add-zero}
use native.Mathlib.Numerals.{add-one}
use native.Mathlib.Omega.{arith}
use lib.Dec.{eqb, ltb}
use lib.ListN.{length, length-append, get_or}
use lib.Seq.{sets}
use borrow.Author.Tests.{ltb-true, lt-ltb}
use Rattle.lexis.specs.Sizes.{max_brackets, max_operations}
use Rattle.lexis.specs.Lexer.{Token}
use Rattle.syntax.specs.Tree.{Param, Result, Header}
use Rattle.syntax.specs.Parser.{header, operations}
use Rattle.syntax.specs.Parser.Parse.{ok}
use Rattle.syntax.specs.Table.{start_at, token_at, toks}
use Rattle.syntax.proofs.Row.{left-ok}
use Rattle.syntax.proofs.Shrinks.{header-shrinks}
use Rattle.syntax.proofs.Table.{toks-none, toks_more, toks-length}
use Rattle.syntax.proofs.Theorems.{list-all-read}
use Rattle.index.specs.Indexed.{Walkable}
use Rattle.index.proofs.Theorems.{walks-wider}
use Rattle.lists.specs.Fault.{Fault, fault, earlier, first}
use Rattle.lists.specs.Best.{meant}
use Rattle.lists.specs.Names.{is_among}
use Rattle.lists.specs.ListRules.{param_names}
use Rattle.lists.specs.Lists.{header_faults}
use Rattle.lists.specs.Masks.{mask_of}
use Rattle.lists.specs.Types.{result_code}
use Rattle.lists.specs.Directory.{first_parameter, operation_words, operation_word, no-operation, an-operation}
use Rattle.lists.specs.Walks.{when}
use Rattle.lists.specs.Headers.{Reads, param_row, result_row, Roomy, Ready, empty_row, item_faults, row_faults, of_params, of_results, of_headers, Numbered}
use Rattle.lists.specs.Headers.{Names, Numbers, ParametersRead, OfParameters, OfResults, Carried, OfHeader, OfHeaders}
use Rattle.lists.specs.declared.best.Best.{Best}
use Rattle.lists.specs.declared.headers.Row.{Row}
use Rattle.lists.specs.declared.headers.Ruled.{Ruled}
use Rattle.lists.proofs.First.{first-append, earlier-assoc, earlier-none}
use Rattle.lists.proofs.Faultless.{neither, few-params}
use Rattle.lists.proofs.Parts.{First, first_of}
use Rattle.lists.proofs.HeaderParses.{IsHeader, header_ok, Begun, begun}
use Rattle.lists.proofs.RowFaults.{header-faults, item-parts}
use Rattle.lists.proofs.NameMarks.{later, names-later}
use Rattle.lists.proofs.Records.{sets_below, sets-above, sets-at, parameters-kept, operation-stored, operation-kept}
use Rattle.lists.proofs.RowWalks.{roomy-kept}

-- ---- one header: its places

module _ (text table : List ℕ) (n at : ℕ) {h : Header} {us : List Token} (read : header max_brackets (toks text table n at) ≡ ok h us) where
  pub parts : IsHeader max_brackets (toks text table n at) h us
  parts = header_ok max_brackets (toks text table n at) read

  pub word_at : First text table n at h.keyword (h.name ∷ parts.opening ∷ parts.listed)
  word_at = first_of text table n at h.keyword (h.name ∷ parts.opening ∷ parts.listed) parts.is

  pub name-at : First text table n (at + 1) h.name (parts.opening ∷ parts.listed)
  name-at = first_of text table n (at + 1) h.name (parts.opening ∷ parts.listed) word_at.rest

  bracket-at : First text table n (at + 1 + 1) parts.opening parts.listed
  bracket-at = first_of text table n (at + 1 + 1) parts.opening parts.listed name-at.rest

  pub three-inside : at + 1 + 2 ≤ n
  three-inside = let i = bracket-at.inside in omega arith

  pub params-there : param_row (toks text table n (at + 1 + 2)) ≡ ok h.params (parts.sign ∷ parts.second ∷ parts.given)
  params-there =
      let e : at + 1 + 2 ≡ at + 1 + 1 + 1 = omega arith in
      ap (λ (m : ℕ). param_row (toks text table n m)) e ∙ ap param_row bracket-at.rest ∙ parts.the-params

  module _ (j : ℕ) (left : parts.sign ∷ parts.second ∷ parts.given ≡ toks text table n j) where
    arrow-at : First text table n j parts.sign (parts.second ∷ parts.given)
    arrow-at = first_of text table n j parts.sign (parts.second ∷ parts.given) (sym left)

    second_at : First text table n (j + 1) parts.second parts.given
    second_at = first_of text table n (j + 1) parts.second parts.given arrow-at.rest

    pub two-inside : j + 2 ≤ n
    two-inside = let i = second_at.inside in omega arith

    pub results-there : result_row (toks text table n (j + 2)) ≡ ok h.results us
    results-there =
        let e : j + 2 ≡ j + 1 + 1 = omega arith in
        ap (λ (m : ℕ). result_row (toks text table n m)) e ∙ ap result_row second_at.rest ∙ parts.the-results

-- ---- what the parts of the walk rely on

module _ {text table index : List ℕ} {n k : ℕ} {r : Row} (ready : Ready text index n k r) (reads : Reads (header max_brackets) text table n r.at) where
  pub header-inside : r.at + 1 + 2 ≤ n
  header-inside = three-inside text table n r.at reads.is

  pub params-ready : {index₁ : List ℕ} (best : Best) → Walkable index₁ (r.at + 1 + 1) n
      → Ready text index₁ n (k + 1) (empty_row best (r.at + 1 + 2) r.params 0)
  params-ready best walk = record {
    short = ready.short;
    small = ready.small;
    inside = header-inside;
    few = let f = ready.few in omega arith;
    counted = omega arith;
    numbered = let f = ready.numbered in omega arith;
    names = walks-wider (omega arith) walk;
  }

  pub params-reads : Reads param_row text table n (r.at + 1 + 2)
  params-reads = record { tree = reads.tree.params; left = _; is = params-there text table n r.at reads.is }

  module _ {index₁ index₂ words words₂ : List ℕ} {best : Best} {ps : Row} (after : Ready text index₂ n (k + 1) ps)
      (params : OfParameters text table index₁ index₂ words words₂ n (k + 1) (empty_row best (r.at + 1 + 2) r.params 0) ps)
    where
      behind : (parts text table n r.at reads.is).sign ∷ (parts text table n r.at reads.is).second ∷ (parts text table n r.at
          reads.is).given ≡ toks text table n ps.at
      behind = (params reads.tree.params _ (params-there text table n r.at reads.is)).left

      pub results-inside : ps.at + 2 ≤ n
      results-inside = two-inside text table n r.at reads.is ps.at behind

      pub results-ready : Ready text index₂ n (k + 1) (empty_row ps.best (ps.at + 2) ps.params ps.required)
      results-ready = record {
        short = ready.short;
        small = ready.small;
        inside = results-inside;
        few = let f = after.few in omega arith;
        counted = omega arith;
        numbered = let f = after.numbered in omega arith;
        names = walks-wider (omega arith) after.names;
      }

      pub results-reads : Reads result_row text table n (ps.at + 2)
      results-reads = record { tree = reads.tree.results; left = reads.left; is = results-there text table n r.at reads.is ps.at behind }

pub header-ready : {text index : List ℕ} {n k : ℕ} {r : Row} (best : Best) → Ready text index n k r
    → Ready text index n k (empty_row best r.at r.params 0)
header-ready best a = record {
  short = a.short;
  small = a.small;
  inside = a.inside;
  few = a.few;
  counted = omega arith;
  numbered = a.numbered;
  names = a.names;
}

-- ---- what a header comes to

module _ (text table index index₁ index₂ index₃ words words₂ words₃ : List ℕ) (n k : ℕ) (r ps rs : Row) (again : Bool) (best : Best) (code : ℕ)
    (numbers : Numbers text table index index₁ (r.at + 1) k again)
    (params : OfParameters text table index₁ index₂ words words₂ n (k + 1) (empty_row best (r.at + 1 + 2) r.params 0) ps)
    (results : OfResults text table index₂ index₃ n (k + 1) (empty_row ps.best (ps.at + 2) ps.params ps.required) rs)
    (carried : Carried (empty_row ps.best (ps.at + 2) ps.params ps.required) rs)
    (coded : (xs : List Result) (us : List Token) → result_row (toks text table n (ps.at + 2)) ≡ ok xs us → rs.index ≡ length xs → code ≡ result_code xs)
    (stored : words₃ ≡ cond (ltb k max_operations) (sets words₂ (k * operation_words)
    ((r.at + 1) ∷ r.params ∷ rs.params ∷ rs.required ∷ (ps.at + 2) ∷ code ∷ [])) words₂)
    (roomy : first_parameter ≤ length words₂)
    (tokens : 4 * rs.params ≤ n)
    (found : meant best
    ≡ earlier (earlier (meant r.best) (first (when (eqb k max_operations) (fault 12 (start_at table r.at)))))
    (first (when again (fault 13 (start_at table (r.at + 1))))))
  where
    abbrev record_of : List ℕ
    record_of = (r.at + 1) ∷ r.params ∷ rs.params ∷ rs.required ∷ (ps.at + 2) ∷ code ∷ []

    stored-small : k < max_operations → words₃ ≡ sets words₂ (k * operation_words) record_of
    stored-small l = stored ∙ ap (λ (b : Bool). cond b (sets words₂ (k * operation_words) record_of) words₂) (lt-ltb k max_operations l)

    -- words that the record does not take
    others : (i : ℕ) → (k < max_operations → get_or (sets words₂ (k * operation_words) record_of) i 0 ≡ get_or words₂ i 0) → get_or words₃ i 0 ≡ get_or words₂ i 0
    others i f = ap (λ (w : List ℕ). get_or w i 0) stored ∙ go (ltb k max_operations) refl
      where
        go : (b : Bool) → ltb k max_operations ≡ b → get_or (cond b (sets words₂ (k * operation_words) record_of) words₂) i 0 ≡ get_or words₂ i 0
        go true e = f (ltb-true k max_operations e)
        go false e = refl

    parameters-stay : (i : ℕ) → first_parameter ≤ i → get_or words₃ i 0 ≡ get_or words₂ i 0
    parameters-stay i l = others i (λ m. sets-above record_of words₂ (k * operation_words) i (omega arith))

    abbrev operations_after : List Token → List Token
    operations_after ops = ops ++ (token_at text table (r.at + 1) ∷ [])

    first-names : (ops : List Token) → Numbered text table index r.at k ops → length ops ≡ k
        → Names text table index₁ (r.at + 1 + 2) (k + 1) (operations_after ops) []
    first-names ops m l = names-later (omega arith) (numbers.names ops (later (omega arith) m) l)

    second-names : {xs : List Param} {ws : List Token} (P : ParametersRead text table index₁ index₂ words words₂ n (k + 1)
        (empty_row best (r.at + 1 + 2) r.params 0) ps xs ws)
        (ops : List Token) → Numbered text table index r.at k ops → length ops ≡ k
        → Names text table index₂ (ps.at + 2) (k + 1) (operations_after ops) (param_names xs ++ [])
    second-names {xs} P ops m l =
        rw (append-nil (param_names xs)) (names-later (omega arith) (P.judged.names (operations_after ops) [] [] (first-names ops m l) refl))

    pub header_read : OfHeader text table index index₃ words words₃ n k r (empty_row rs.best rs.at rs.params 0)
    unfolding token_at mask_of
    header_read h us e =
        let w = word_at text table n r.at e in
        let q = name-at text table n r.at e in
        let P = params h.params _ (params-there text table n r.at e) in
        let R = results h.results us (results-there text table n r.at e ps.at P.left) in
        record {
          left = R.left;
          count = carried.params ∙ P.stored.count;
          names = λ ops m l. rw q.here at (R.judged.names (operations_after ops) (param_names h.params) [] (second-names P ops m l) refl).all;
          faulted = λ ops m l.
              let A = first (row_faults of_params [] [] h.params) in
              let B = first (row_faults of_results (param_names h.params) [] h.results) in
              R.judged.faulted (operations_after ops) (param_names h.params) [] (second-names P ops m l) refl
              ∙ ap (λ (o : Option Fault). earlier o B) (P.judged.faulted (operations_after ops) [] [] (first-names ops m l) refl)
              ∙ earlier-assoc (meant best) A B
              ∙ ap₂ earlier
              (found
              ∙ ap₂ (λ (i : ℕ) (b : Bool). earlier (earlier (meant r.best) (first (when (eqb i max_operations) (fault 12 (start_at table r.at)))))
              (first (when b (fault 13 (start_at table (r.at + 1))))))
              (sym l) (numbers.again ops (later (omega arith) m))
              ∙ ap₂ (λ (s t : Token). earlier (earlier (meant r.best) (first (when (eqb (length ops) max_operations) (fault 12 s.start))))
              (first (when (is_among ops t) (fault 13 t.start))))
              w.here q.here)
              (sym (header-faults h))
              ∙ item-parts of_headers [] ops h (meant r.best);
          kept = record {
            operations = λ i a b. others i (λ m. sets_below record_of words₂ (k * operation_words) i a) ∙ P.stored.kept i (omega arith);
            parameters = λ i a b. parameters-stay i a ∙ P.stored.kept i b;
          };
          stored = λ l m.
              operation-stored text table n words₂ words₃ k (r.at + 1) r.params rs.params rs.required (ps.at + 2) code (stored-small l)
              (omega arith) q.inside q.here
              (parameters-kept text table n (λ i a b. parameters-stay i (omega arith)) P.stored.records) (carried.params ∙ P.stored.count) tokens
              (carried.required ∙ P.stored.flags [] refl refl (omega arith)) (results-there text table n r.at e ps.at P.left)
              (coded h.results us (results-there text table n r.at e ps.at P.left) (let z = R.judged.count in omega arith));
          last = λ l. ap (λ (x : List ℕ). operation_word x k 2) (stored-small l) ∙ sets-at record_of words₂ (k * operation_words) 2 (omega arith) (omega arith);
        }

-- ---- one header after another

header-takes : (ts : List Token) {h : Header} {us : List Token} → header max_brackets ts ≡ ok h us → length us < length ts
header-takes ts e = left-ok (rw e at (header-shrinks max_brackets ts))

module _ (text table : List ℕ) (n at : ℕ) (inside : at < n) where
  -- the first header of the list that is left, and the list behind it
  behind-header : (hs : List Header) → operations max_brackets (toks text table n at) ≡ ok hs [] → Begun max_brackets (toks text table n at) hs
  behind-header hs e =
      let m = toks_more text table n at inside in
      rw m (begun max_brackets (token_at text table at) (toks text table n (at + 1)) hs (rw m at e))

  first-header : (list : Reads (operations max_brackets) text table n at) → Begun max_brackets (toks text table n at) list.tree
  first-header list =
      behind-header list.tree (list.is ∙ ap (ok list.tree) (list-all-read max_brackets (toks text table n at) list.tree list.left list.is))

  pub header-reads : Reads (operations max_brackets) text table n at → Reads (header max_brackets) text table n at
  header-reads list = let b = first-header list in record { tree = b.head; left = b.left; is = b.read }

module _ {text table index index₁ words words₁ : List ℕ} {n k : ℕ} {r r₁ : Row} (one : OfHeader text table index index₁ words words₁ n k r r₁)
    (inside : r.at < n) where
  pub headers-more : {index' words' : List ℕ} {r' : Ruled} → OfHeaders text table index₁ index' words₁ words' n (k + 1) r₁ r'
      → OfHeaders text table index index' words words' n k r r'
  unfolding row_faults flat_map
  headers-more {index'} {words'} {r'} all hs e =
      let b = behind-header text table n r.at inside hs e in
      let o = one b.head b.left b.read in
      let m = all b.others (ap (operations max_brackets) (sym o.left) ∙ b.more) in
      rw b.is (record {
        count = let z = m.count in omega arith;
        names = λ ops w l.
            rw (append_assoc ops (b.head.name ∷ []) (map (λ (h : Header). h.name) b.others))
            at (m.names (ops ++ (b.head.name ∷ [])) (o.names ops w l) (counted ops b.head.name l));
        faulted = λ ops w l.
            m.faulted (ops ++ (b.head.name ∷ [])) (o.names ops w l) (counted ops b.head.name l)
            ∙ ap (λ (x : Option Fault). earlier x (first (row_faults of_headers [] (ops ++ (b.head.name ∷ [])) b.others))) (o.faulted ops w l)
            ∙ earlier-assoc (meant r.best) (first (item_faults of_headers [] ops b.head))
            (first (row_faults of_headers [] (ops ++ (b.head.name ∷ [])) b.others))
            ∙ ap (earlier (meant r.best)) (sym (first-append (item_faults of_headers [] ops b.head)
            (row_faults of_headers [] (ops ++ (b.head.name ∷ [])) b.others)));
        kept = record {
          operations = λ i x y. m.kept.operations i (omega arith) y ∙ o.kept.operations i x y;
          parameters = λ i x y. m.kept.parameters i x (let z = o.count in omega arith) ∙ o.kept.parameters i x y;
        };
        stored = λ l f.
            let p = neither (first (header_faults b.head)) (first (flat_map header_faults b.others))
            (sym (first-append (header_faults b.head) (flat_map header_faults b.others)) ∙ f) in
            let s = add-one k in
            let small : k < max_operations = omega arith in
            an-operation (operation-kept text table n small (o.last small) (rw s at m.kept) (o.stored small (few-params b.head p.0)))
            (rw s at (m.stored (omega arith) p.1));
      })
    where
      counted : (ops : List Token) (t : Token) → length ops ≡ k → length (ops ++ (t ∷ [])) ≡ k + 1
      counted ops t l = let z = length-append ops (t ∷ []) in omega arith

  pub headers-left : Reads (operations max_brackets) text table n r.at → Reads (operations max_brackets) text table n r₁.at
  headers-left list =
      let b = first-header text table n r.at inside list in
      record { tree = b.others; left = []; is = ap (operations max_brackets) (sym (one b.head b.left b.read).left) ∙ b.more }

  -- and it has taken a token
  pub header-taken : Reads (operations max_brackets) text table n r.at → r₁.at ≤ n → r.at < r₁.at
  header-taken list l =
      let b = first-header text table n r.at inside list in
      let e = ap (λ (x : List Token). length x) (one b.head b.left b.read).left ∙ toks-length text table n r₁.at in
      omega (arith, header-takes (toks text table n r.at) b.read, toks-length text table n r.at)

pub headers-end : {text table index words : List ℕ} {n k : ℕ} {r : Row} → n ≤ r.at → Ready text index n k r
    → OfHeaders text table index index words words n k r (record { best = r.best; count = k })
unfolding operations row_faults flat_map first
headers-end {text} {table} {index} {words} {n} {k} {r} out ready hs e =
    let z = toks-none text table n r.at out in
    let y = rw z at e in
    let none : hs ≡ [] = cc in
    let i = ready.inside in
    let same : r.at ≡ n = omega arith in
    rw none (record {
      count = sym (add-zero k);
      names = λ ops m l. rw (append-nil ops) (rw same at m);
      faulted = λ ops m l. sym (earlier-none (meant r.best));
      kept = record { operations = λ i x y. refl; parameters = λ i x y. refl };
      stored = λ l f. no-operation;
    })

-- what the loop over headers knows
pub record HeadersFrom (text table : List ℕ) (n : ℕ) (index₀ words₀ : List ℕ) (r₀ : Row) (index words : List ℕ) (k : ℕ) (r : Row) : Type 0 where
  pub ready : Ready text index n k r
  pub roomy : Roomy words n
  pub index-size : length index ≡ length index₀
  pub words_size : length words ≡ length words₀
  pub list : Reads (operations max_brackets) text table n r.at
  pub back : (index' words' : List ℕ) (r' : Ruled) → OfHeaders text table index index' words words' n k r r'
      → OfHeaders text table index₀ index' words₀ words' n 0 r₀ r'

pub headers-start : {text table index words : List ℕ} {n : ℕ} {r : Row} → Ready text index n 0 r → Roomy words n
    → Reads (operations max_brackets) text table n r.at
    → HeadersFrom text table n index words r index words 0 r
headers-start a b c = record { ready = a; roomy = b; index-size = refl; words_size = refl; list = c; back = λ i w x h. h }

module _ {text table : List ℕ} {n : ℕ} {index₀ words₀ : List ℕ} {r₀ : Row} {index words : List ℕ} {k : ℕ} {r : Row}
    (inv : HeadersFrom text table n index₀ words₀ r₀ index words k r)
  where
    pub headers-again : {index₁ words₁ : List ℕ} {r₁ : Row} → r.at < n → OfHeader text table index index₁ words words₁ n k r r₁
        → Ready text index₁ n (k + 1) r₁
        → length index₁ ≡ length index → length words₁ ≡ length words → HeadersFrom text table n index₀ words₀ r₀ index₁ words₁ (k + 1) r₁
    headers-again l one ready m e = record {
      index-size = m ∙ inv.index-size;
      words_size = e ∙ inv.words_size;
      ready = ready;
      roomy = roomy-kept e inv.roomy;
      list = headers-left one l inv.list;
      back = λ i w x h. inv.back i w x (headers-more one l h);
    }

    pub headers-done : n ≤ r.at → OfHeaders text table index₀ index words₀ words n 0 r₀ (record { best = r.best; count = k })
    headers-done l = inv.back index words _ (headers-end l inv.ready)
