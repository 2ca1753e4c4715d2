-- What the writing of calls and of a document comes to. In order: no faults; a call under the header that is found for it; calls
-- one at a time; the document.
use mathlib.Core.Path.{◌≡◌, refl, sym, ap, subst, ◌∙◌}
use mathlib.Core.List.{List, [], ◌∷◌, ◌++◌, flat_map, append-eq-nil_iff}
use mathlib.Core.Bool.{Bool, true, false, cond}
use mathlib.Core.Option.{Option, some}
use mathlib.Core.Option.{none as nothing}
use Prim.Native.Nat.{ℕ, zero, suc, ◌+◌, ◌*◌, ◌<◌, ◌≤◌, min}
use native.Mathlib.Omega.{arith}
use native.Mathlib.Nat.{zero-add}
use lib.ListN.{length, get_or, length-append, get_or-append}
use lib.Seq.{get_or-append-add}
use Rattle.lexis.specs.Ascii.{ascii}
use Rattle.lexis.specs.Sizes.{max_brackets}
use Rattle.lexis.specs.Kind as Kind
use Rattle.lexis.specs.Lexer.{Token}
use Rattle.lexis.specs.Symbol.{equal, semicolon, right_round}
use Rattle.syntax.specs.Tree.{Header, Arg, Call, Document}
use Rattle.syntax.specs.Parser.{begins, plain, commas, row, argument, call}
use Rattle.syntax.specs.Parser.Parse.{ok}
use Rattle.syntax.specs.Tokens.{from}
use Rattle.syntax.specs.declared.tokens.Tokens.{Tokens}
use Rattle.syntax.specs.Table.{toks}
use Rattle.std.specs.Prelude.{Some, None}
use Rattle.lists.specs.Fault.{first}
use Rattle.lists.specs.Reading.{is_some, read_at, result_type}
use Rattle.lists.specs.Scans.{from_symbol}
use Rattle.lists.specs.Found.{find, index_of, found}
use Rattle.lists.specs.ListRules.{list_faults}
use Rattle.lists.specs.Directory.{OperationAt, OperationsAt}
use Rattle.lists.proofs.Faultless.{own-clean}
use Rattle.documents.specs.Binding.{slots, misplaced}
use Rattle.documents.specs.DocumentRules.{by_operation, argument_faults, document_faults, bound_at}
use Rattle.documents.specs.Calls.{Calls}
use Rattle.documents.specs.Calls.Calls.{a_call}
use Rattle.documents.specs.Judged.{Directed, Readable, CallWith}
use Rattle.documents.specs.Records.{call_size, Stored}
use Rattle.documents.specs.Tables.{call_record}
use Rattle.documents.proofs.DirectoryEntries.{operation-of}
use Rattle.documents.proofs.Items.{token-there}
use Rattle.documents.proofs.Flat.{left-starts}
use Rattle.documents.proofs.CallPlaces.{FoundEqual, call-parts, call_from, call_ends}
use Rattle.documents.proofs.Judgements.{parts, arguments-are, arguments-inside, found-readable}
use Rattle.writing.specs.declared.writer.Writer.{Writer}
use Rattle.writing.specs.Plan.{PlanCall, Plan, values_for, plan_call, plan_calls, spellings, plan_of}
use Rattle.writing.specs.Pieces.{Piece}
use Rattle.writing.specs.Pieces.{text as piece_text}
use Rattle.writing.specs.Layout.{spaced, lined, name_piece, mark, names_pieces, left_pieces, arguments_pieces, params_of, call_pieces, calls_pieces}
use Rattle.writing.specs.Layout.{document_pieces}
use Rattle.writing.specs.Writing.{stored, place_after, keeps_limits, start, Puts, PutsWithin, put, over, PutsAll, all-put, left_over, PutsCall}
use Rattle.writing.proofs.Found.{params-found}
use Rattle.writing.proofs.Planned.{bound, both, planned}
use Rattle.writing.proofs.PlanExists.{row-none}
use Rattle.writing.proofs.Putting.{puts_then, puts-stored, puts-onward}
use Rattle.writing.proofs.Measures.{stays-over}

-- ---- no faults

-- the calls of a document without faults have none in their arguments
pub arguments-clean : (hs : List Header) (d : Document) → document_faults hs d ≡ [] → flat_map (argument_faults hs) d.calls ≡ []
unfolding document_faults
arguments-clean hs d h = (row-none _ h).1.1.1.1.0

-- ---- one call

-- a call that is read from a place, by the place of its `=`
module _ (text table : List ℕ) (n at e : ℕ) (lower : min at n ≤ e) (upper : e ≤ n) (is : toks text table n e ≡ from_symbol equal (toks text table n at))
    {c : Call} {us : List Token} (h : call max_brackets (toks text table n at) ≡ ok c us) where
  begins-inside : at < n
  begins-inside = token-there text table n at (left-starts (call-parts max_brackets (toks text table n at) c us h).is-left).whole

  found-equal : FoundEqual text table n at e
  found-equal = record { from = omega (arith, begins-inside, lower); left = upper; is = is }

  pub call-with : CallWith text table n at e c
  call-with = record { after = us; read = h; leads = (call_from text table n at e found-equal max_brackets c us h).leads max_brackets us h }

  pub call-inside : e + 3 < n
  call-inside = arguments-inside text table n (e + 3) (arguments-are call-with)

  -- what comes after it
  pub call-after : (close next : ℕ) → (parts call-with).behind ≡ toks text table n (close + 1) → close < n
      → next ≡ cond (begins semicolon (toks text table n (close + 1))) (close + 2) (close + 1) → us ≡ toks text table n next
  call-after close next behind inside q = (call_ends text table n at e close next found-equal max_brackets closes q c us h).after
    where
      closes : (xs : List Arg) (ws : List Token) → row plain (commas right_round) (argument max_brackets) (toks text table n (e + 3)) ≡ ok xs ws
          → (ws ≡ toks text table n (close + 1)) × (close < n)
      closes xs ws r = let z : ws ≡ (parts call-with).behind = cc (r, arguments-are call-with) in (z ∙ behind, inside)

-- the call c, planned as p, under its header h
pub record Under (hs : List Header) (h : Header) (c : Call) (p : PlanCall) : Type 0 where
  pub op : c.op.bytes ≡ p.op
  pub left : read_at c.left (result_type h.results) ≡ some p.left
  pub placed : misplaced h.params c.args ≡ []
  pub values : values_for (slots h.params c.args) ≡ some p.values
  pub params : params_of hs p.op ≡ h.params

placed-none : (hs : List Header) (c : Call) {h : Header} → find hs c.op ≡ some h → argument_faults hs c ≡ [] → misplaced h.params c.args ≡ []
unfolding argument_faults
placed-none hs c e f = (row-none _ (ap (λ (o : Option Header). by_operation o (λ h. bound_at c.op.start h c) []) (sym e) ∙ f)).0

pub under : (hs : List Header) (c : Call) {h : Header} {p : PlanCall} → find hs c.op ≡ some h → argument_faults hs c ≡ [] → plan_call hs c ≡ some p
    → Under hs h c p
under hs c {h} {p} e f g =
    let w = planned hs c g in
    let same : w.header ≡ h = cc (w.found, e) in
    record {
      op = w.op;
      left = rw same at w.left;
      placed = placed-none hs c e f;
      values = rw same at w.values;
      params = ap (params_of hs) (sym w.op) ∙ params-found hs c.op e;
    }

-- its parts were put one after the other
module _ {hs : List Header} {h : Header} {c : Call} {p : PlanCall} (u : Under hs h c p) where
  pub puts-call : {t : Token} {o₀ o₁ o₂ o₃ o₄ o₅ : Writer} → t ≡ c.op
      → Puts (left_pieces p.left) o₀ o₁
      → Puts (λ q. mark (ascii "=") ∷ name_piece t.bytes ∷ mark (ascii "(") ∷ q) o₁ o₂
      → Puts (arguments_pieces h.params p.values) o₂ o₃
      → Puts (λ q. mark (ascii ")") ∷ q) o₃ o₄
      → Puts (λ q. lined Kind.syntactic (ascii ";") ∷ q) o₄ o₅
      → Puts (call_pieces hs p) o₀ o₅
  unfolding call_pieces
  puts-call {t} e l o a k z =
      let name : t.bytes ≡ p.op = ap (λ (x : Token). x.bytes) e ∙ u.op in
      puts_then l (puts_then (rw name at o) (puts_then (rw (← u.params) at a) (puts_then k z)))

-- ---- calls

-- a table that begins with one part and goes on with another
stored-first : (records : List ℕ) (at : ℕ) (xs ys : List ℕ) → Stored records at (xs ++ ys) → (j : ℕ) → j < length xs → get_or records (at + j) 0 ≡ get_or xs j 0
stored-first records at xs ys h j l = h j (omega (arith, length-append xs ys)) ∙ get_or-append xs ys 0 j l

stored-rest : (records : List ℕ) (at : ℕ) (xs ys : List ℕ) → Stored records at (xs ++ ys) → Stored records (at + length xs) ys
stored-rest records at xs ys h j l =
    let e : at + length xs + j ≡ at + (length xs + j) = omega arith in
    ap (λ (k : ℕ). get_or records k 0) e ∙ h (length xs + j) (omega (arith, length-append xs ys)) ∙ get_or-append-add xs ys j 0

-- the operation of the first of these calls, by its record
module _ (hs : List Header) (records : List ℕ) (i : ℕ) (c : Call) (cs : List Call)
    (r : Stored records (i * call_size) (flat_map (call_record hs) (c ∷ cs))) where
  pub record-names : get_or records (i * call_size) 0 ≡ index_of hs c.op
  unfolding flat_map call_record
  record-names =
      let e : i * call_size + 0 ≡ i * call_size = omega arith in
      ap (λ (k : ℕ). get_or records k 0) (sym e) ∙ stored-first records (i * call_size) (call_record hs c) (flat_map (call_record hs) cs) r 0 (omega arith)

  pub record-next : Stored records ((i + 1) * call_size) (flat_map (call_record hs) cs)
  unfolding flat_map call_record
  record-next =
      let e : i * call_size + 4 ≡ (i + 1) * call_size = omega arith in
      subst (λ (k : ℕ). Stored records k (flat_map (call_record hs) cs)) e (stored-rest records (i * call_size) (call_record hs c) (flat_map (call_record hs) cs) r)

-- the operations of all of them can be read
pub readable-calls : {text table index words : List ℕ} {n : ℕ} (d : Directed text table index words n) (records : List ℕ) (cs : List Call) (j : ℕ)
    {ps : List PlanCall} → plan_calls d.headers cs ≡ some ps → Stored records (j * call_size) (flat_map (call_record d.headers) cs)
    → (i : ℕ) → i < length cs → Readable words n (get_or records ((j + i) * call_size) 0)
unfolding plan_calls found
readable-calls d records [] j e r i l = absurd (omega arith)
readable-calls d records (c ∷ cs) j e r zero l =
    let hs = d.headers in
    let x = both (plan_call hs c) (plan_calls hs cs) (λ q qs. q ∷ qs) e in
    let w = planned hs c x.one-there in
    let there : is_some (find hs c.op) ≡ true = ap is_some w.found in
    let k = found-readable d c.op {o = found hs c.op} {k = index_of hs c.op} refl (ap (λ (b : Bool). cond b (Some (index_of hs c.op)) None) there) in
    let z : j + 0 ≡ j = omega arith in
    subst (Readable _ _) (sym (ap (λ (m : ℕ). get_or records (m * call_size) 0) z ∙ record-names hs records j c cs r)) k
readable-calls {words = words} {n = n} d records (c ∷ cs) j e r (suc i) l =
    let hs = d.headers in
    let x = both (plan_call hs c) (plan_calls hs cs) (λ q qs. q ∷ qs) e in
    let z : j + 1 + i ≡ j + suc i = omega arith in
    subst (λ (m : ℕ). Readable words n (get_or records (m * call_size) 0)) z
    (readable-calls d records cs (j + 1) x.two-there (record-next hs records j c cs r) i (omega arith))

module _ (list : Tokens) (words records : List ℕ) (doc : Tokens) (count : ℕ) (hs : List Header) (us : List Token) (all : List Piece → List Piece) (out₀ : Writer) where
  -- at place at, after i calls: the calls that are left, and their plans; all goes on with theirs from here
  pub record Ahead (i at : ℕ) (out : Writer) : Type 0 where
    pub calls : List Call
    pub plans : List PlanCall
    pub are : Calls max_brackets (from doc at) calls us
    pub counted : count ≡ i + length calls
    pub called : Stored records (i * call_size) (flat_map (call_record hs) calls)
    pub clean : flat_map (argument_faults hs) calls ≡ []
    pub planned : plan_calls hs calls ≡ some plans
    pub same : out.out.ghost_name ≡ out₀.out.ghost_name
    pub bytes : (r : List Piece) → stored out₀.out.now out₀.place.bytes (piece_text (all r)) ≡ stored out.out.now out.place.bytes (piece_text (calls_pieces hs plans r))
    pub place : (r : List Piece) → place_after out₀.place (all r) ≡ place_after out.place (calls_pieces hs plans r)

  module _ (ops : OperationsAt list.text.now list.table.now words list.count 0 hs) (faultless : first (list_faults hs) ≡ nothing) where
    pub ahead-next : (i at : ℕ) {out out' : Writer} {next : ℕ} → i < count
        → PutsCall list words (get_or records (i * call_size) 0) doc at out out' next
        → Ahead i at out → Ahead (i + 1) next out'
    unfolding flat_map plan_calls calls_pieces
    ahead-next i at {out} {out'} {next} l puts w = go w.calls refl w.are refl
      where
        go : (cs : List Call) {ts : List Token} → w.calls ≡ cs → Calls max_brackets ts cs us → ts ≡ from doc at → Ahead (i + 1) next out'
        go [] e k q = absurd (omega (arith, w.counted, l, ap length e))
        go (c ∷ cs) e (a_call {us = vs} h on) q =
            let f = (append-eq-nil_iff {p = argument_faults hs c} {q = flat_map (argument_faults hs) cs}).0 (ap (flat_map (argument_faults hs)) (sym e) ∙ w.clean) in
            let x = both (plan_call hs c) (plan_calls hs cs) (λ q qs. q ∷ qs) (ap (plan_calls hs) (sym e) ∙ w.planned) in
            let p = planned hs c x.one-there in
            let stands = operation-of c.op ops (ap is_some p.found) in
            let rec = subst (λ (ds : List Call). Stored records (i * call_size) (flat_map (call_record hs) ds)) e w.called in
            let k : 0 + index_of hs c.op ≡ get_or records (i * call_size) 0 = zero-add (index_of hs c.op) ∙ sym (record-names hs records i c cs rec) in
            let here = puts hs stands.head c vs x.one (subst (λ (m : ℕ). OperationAt list.text.now list.table.now words list.count m stands.head) k stands.stands)
            (stands.own (own-clean hs faultless)) stands.is (rw q at h) f.0 x.one-there in
            record {
              calls = cs;
              plans = x.two;
              are = rw here.1 at on;
              counted = omega (arith, w.counted, ap length e);
              called = record-next hs records i c cs rec;
              clean = f.1;
              planned = x.two-there;
              same = here.0.same ∙ w.same;
              bytes = λ y. w.bytes y ∙ ap (λ (ps : List PlanCall). stored out.out.now out.place.bytes (piece_text (calls_pieces hs ps y))) (sym x.made) ∙ here.0.bytes
                  (calls_pieces hs x.two y);
              place = λ y. w.place y ∙ ap (λ (ps : List PlanCall). place_after out.place (calls_pieces hs ps y)) (sym x.made) ∙ here.0.place (calls_pieces hs x.two y);
            }

  pub ahead-end : (i at : ℕ) {out : Writer} → count ≤ i → Ahead i at out → PutsWithin all out₀ out
  unfolding plan_calls calls_pieces
  ahead-end i at {out} l w = go w.calls refl
    where
      go : (cs : List Call) → w.calls ≡ cs → PutsWithin all out₀ out
      go [] e =
          let q : [] ≡ w.plans = cc (ap (plan_calls hs) (sym e) ∙ w.planned) in
          put (record {
            same = w.same;
            bytes = λ r. w.bytes r ∙ ap (λ (ps : List PlanCall). stored out.out.now out.place.bytes (piece_text (calls_pieces hs ps r))) (sym q);
            place = λ r. w.place r ∙ ap (λ (ps : List PlanCall). place_after out.place (calls_pieces hs ps r)) (sym q);
          })
      go (c ∷ cs) e = let n : length w.calls ≡ suc (length cs) = ap length e in absurd (omega (arith, w.counted, l, n))

  -- beyond the limits no further call matters
  pub ahead-over : (i at : ℕ) {out : Writer} → keeps_limits out.place ≡ false → Ahead i at out → PutsWithin all out₀ out
  ahead-over i at {out} f w = over f (λ r. ap keeps_limits (w.place r) ∙ stays-over out.place (calls_pieces hs w.plans r) f)

-- ---- the document

pub puts-document : (hs : List Header) (d : Document) {p : Plan} {out out' : List ℕ} {o₀ o₁ o₂ o₃ : Writer} → plan_of hs d ≡ some p
    → o₀.out.now ≡ out → o₀.place ≡ start
    → Puts (λ q.
    spaced Kind.keyword (ascii "version") ∷ lined Kind.real (ascii "1.0") ∷ spaced Kind.keyword (ascii "graph") ∷ name_piece d.graph.bytes ∷ mark
    (ascii "(")
    ∷ names_pieces (spellings d.inputs) (mark (ascii ")") ∷ mark (ascii "->") ∷ mark (ascii "(")
    ∷ names_pieces (spellings d.outputs) (lined Kind.syntactic (ascii ")") ∷ lined Kind.syntactic (ascii "{") ∷ q))) o₀ o₁
    → ((cs : List PlanCall) → plan_calls hs d.calls ≡ some cs → PutsWithin (calls_pieces hs cs) o₁ o₂)
    → Puts (λ q. lined Kind.syntactic (ascii "}") ∷ q) o₂ o₃
    → (o₃.out.ghost_name ≡ o₀.out.ghost_name → out' ≡ o₃.out.now)
    → PutsAll (document_pieces hs p) out out' o₃.place
unfolding plan_of document_pieces
puts-document hs d {p} {out} {out'} {o₀} {o₁} {o₂} {o₃} e y z h c k ends =
    let made : List PlanCall → Plan = λ cs. record {
      graph = d.graph.bytes;
      inputs = spellings d.inputs;
      outputs = spellings
          d.outputs;
      calls = cs;
    } in
    let x = bound (plan_calls hs d.calls) (λ cs. some (made cs)) e in
    let is : made x.it ≡ p = cc x.gives in
    subst (λ (y : Plan). PutsAll (document_pieces hs y) out out' o₃.place) is (go x.it (c x.it x.there))
  where
    close : List Piece
    close = lined Kind.syntactic (ascii "}") ∷ []

    go : (cs : List PlanCall) → PutsWithin (calls_pieces hs cs) o₁ o₂
        → PutsAll (document_pieces hs (record {
          graph = d.graph.bytes;
          inputs = spellings d.inputs;
          outputs = spellings
              d.outputs;
          calls = cs;
        })) out out' o₃.place
    go cs (put q) = let all = puts_then h (puts_then q k) in all-put (ends all.same ∙ rw (y, z) at (puts-stored all)) (rw z at (puts-onward all))
    go cs (over f g) = left_over (ap keeps_limits (puts-onward k) ∙ stays-over o₂.place close f)
        (rw z at (ap keeps_limits (h.place (calls_pieces hs cs close)) ∙ g close))
