-- Every answer of every operation is on a line of the table of codes. In order: refusals of bytes, syntax and rules; guards and stages; the
-- operations.
use mathlib.Core.Path.{◌≡◌, refl, ap, ◌∙◌}
use mathlib.Core.Bool.{Bool, true, false, cond, ◌&&◌}
use mathlib.Core.List.{List, [], ◌∷◌, ◌++◌}
use mathlib.Core.Logic.{◌⊎◌, inl, inr}
use mathlib.Core.Option.{Option, some}
use mathlib.Core.Option.{none as nothing}
use Prim.Native.Nat.{ℕ, zero, suc, ◌+◌, ◌-◌, ◌≤◌, ◌<◌}
use native.Mathlib.Nat.{zero-add}
use native.Mathlib.Omega.{arith}
use lib.Dec.{leb}
use lib.ListN.{length}
use borrow.Author.Tests.{leb-true, leb-false}
use Rattle.lexis.specs.Sizes.{max_text, max_tokens, max_brackets, table_words, work_words}
use Rattle.lexis.specs.Code as Bytes
use Rattle.lexis.specs.Answer.{answer, counted, answer_of, tokens_answer}
use Rattle.lexis.specs.declared.Answer.{Answer}
use Rattle.lexis.specs.Lexer.{Token, Lexed, refused, lex}
use Rattle.lexis.specs.Lexer.{accepted as lexed}
use Rattle.lexis.proofs.Theorems.{coded, positioned}
use Rattle.syntax.specs.Code as Syntax
use Rattle.syntax.specs.Grammar.{IsList, IsDocument}
use Rattle.syntax.specs.Fault.{FirstFault}
use Rattle.syntax.specs.Table.{place_of}
use Rattle.lists.specs.Accepted.{StartsToken}
use Rattle.lists.specs.Fault.{Fault, first}
use Rattle.lists.specs.Answer.{Stage, pass, stop, and_then, guard, guarded, rules_stage, stage_answer, list_stages, declared, declarations_answer}
use Rattle.lists.proofs.First.{first-is}
use Rattle.lists.proofs.Acceptance.{list-passed}
use Rattle.lists.proofs.Lines.{ListCode}
use Rattle.lists.proofs.Refusals.{Refusal, of-bytes, of-syntax, of-rules, list-refusal}
use Rattle.lists.proofs.Lines as Lists
use Rattle.documents.specs.Answer.{both_stages, Checked, CheckRoom, check_serves, checked, call_count, check_answer}
use Rattle.documents.proofs.Lines.{DocumentCode}
use Rattle.documents.proofs.Lines as Documents
use Rattle.documents.proofs.Refusals.{both-refusal}
use Rattle.documents.proofs.Theorems.{both-passed}
use Rattle.orders.specs.Order.{needs, order_faults}
use Rattle.orders.specs.Answer.{order_stage, order_stages, OrderRoom, order_serves, judged, order_answer}
use Rattle.orders.specs.InOrder.{AtFault}
use Rattle.orders.specs.InOrder as At
use Rattle.orders.proofs.InOrder.{fault-is}
use Rattle.writing.specs.Pieces.{Piece, text}
use Rattle.writing.specs.Layout.{document_pieces, canonical}
use Rattle.canonical.specs.Answer.{layout_of, writing_stages, text_stages, canon_serves, written, canon_answer}
use Rattle.canonical.specs.Demand.{HasPlan, Lent, room_of, numbers}
use Rattle.canonical.specs.CodeTable as T
use Rattle.canonical.specs.CodeTable.{TextOf, first-text, second-text, InTable, TokenCount, OperationCount, CallCount, CanonicalLength, NoText}
use Rattle.canonical.specs.CodeTable.{NoOrder, TheOrder}
use Rattle.writing.proofs.PlanExists.{plan-exists}
use Rattle.canonical.proofs.Theorems.{layout_is}

-- ---- the codes of bytes

data ByteCode : ℕ → Type 0 where
  is-no-token : ByteCode Bytes.no_token
  is-misspelt : ByteCode Bytes.misspelt
  is-bad-string : ByteCode Bytes.bad_string
  is-too-long : ByteCode Bytes.too_long
  is-out-of-range : ByteCode Bytes.out_of_range
  is-too-many : ByteCode Bytes.too_many

six : (k : ℕ) → k ≤ 5 → ByteCode (3 + k)
six zero h = is-no-token
six (suc zero) h = is-misspelt
six (suc (suc zero)) h = is-bad-string
six (suc (suc (suc zero))) h = is-too-long
six (suc (suc (suc (suc zero)))) h = is-out-of-range
six (suc (suc (suc (suc (suc zero))))) h = is-too-many
six (suc (suc (suc (suc (suc (suc k)))))) h = absurd (omega (arith, h))

byte-code : (c : ℕ) → 3 ≤ c → c ≤ 8 → ByteCode c
byte-code c l m = let e : 3 + (c - 3) ≡ c = omega (arith, l, m) in rw e at (six (c - 3) (omega (arith, l, m)))

-- ---- refusals of one text

-- the place of a syntax fault is where a token starts, or the end
place-line : (text : List ℕ) (ts us before : List Token) → lex text ≡ lexed ts → ts ≡ before ++ us
    → StartsToken text (place_of (length text) us) ⊎ (place_of (length text) us ≡ length text)
place-line text ts [] before e s = inr refl
place-line text ts (t ∷ us) before e s = inl (record { before = before; token = t; after = us; among = e ∙ ap (λ (xs : List Token). lexed xs) s; start = refl })

module _ {texts : List (List ℕ)} (Count Length : ℕ → Type 0) (Order : List ℕ → Type 0) where
  bytes-line : {n c p : ℕ} {text : List ℕ} → TextOf texts n text → lex text ≡ refused c p → InTable texts Count Length Order (answer c n p 0)
  bytes-line {n} {c} {p} {text} t e = let k = coded text c p e in go (byte-code c k.0 k.1) (positioned text c p e)
    where
      go : {x : ℕ} → ByteCode x → p < length text → InTable texts Count Length Order (answer x n p 0)
      go is-no-token b = T.no-token t b
      go is-misspelt b = T.misspelt t b
      go is-bad-string b = T.bad-string t b
      go is-too-long b = T.too_long t b
      go is-out-of-range b = T.out_of_range t b
      go is-too-many b = T.too_many t b

  syntax-line : {A : Type 0} {Spells : ℕ → List Token → A → Type 0} {n c : ℕ} {text : List ℕ} {ts us : List Token} → TextOf texts n text → lex text ≡ lexed ts
      → FirstFault (λ b xs. (a : A) × Spells b xs a) max_brackets c ts us → (c ≡ Syntax.bracket → (x : Token) × ((ws : List Token) × (us ≡ x ∷ ws)))
      → InTable texts Count Length Order (answer c n (place_of (length text) us) 0)
  syntax-line {n = n} {c} {text} {ts} {us} t e f o = go f.code
    where
      place : StartsToken text (place_of (length text) us) ⊎ (place_of (length text) us ≡ length text)
      place = place-line text ts us f.before e f.split

      begun : (x : Token) × ((ws : List Token) × (us ≡ x ∷ ws)) → StartsToken text (place_of (length text) us)
      begun b =
          rw b.1.1
          (record {
            before = f.before;
            token = b.0;
            after = b.1.0;
            among = e
                ∙ ap (λ (xs : List Token). lexed xs) (f.split ∙ ap (λ (xs : List Token). f.before ++ xs) b.1.1);
            start = refl;
          })

      go : (c ≡ Syntax.syntax) ⊎ (c ≡ Syntax.bracket) → InTable texts Count Length Order (answer c n (place_of (length text) us) 0)
      go (inl q) = rw q (T.syntax t place)
      go (inr q) = rw q (T.bracket t (begun (o q)))

  list-line : {c k p : ℕ} {text : List ℕ} → TextOf texts 1 text → ListCode c k → StartsToken text p → InTable texts Count Length Order (answer c 1 p k)
  list-line t Lists.list-over-size s = T.over-size t s
  list-line t Lists.list-repeated-name s = T.repeated-name t s
  list-line t Lists.bad-default s = T.bad-default t s

  document-line : {c k p : ℕ} {text : List ℕ} → TextOf texts 2 text → DocumentCode c k → StartsToken text p → InTable texts Count Length Order (answer c 2 p k)
  document-line t Documents.wrong-version s = T.wrong-version t s
  document-line t Documents.over-size s = T.over-size t s
  document-line t Documents.repeated-name s = T.repeated-name t s
  document-line t Documents.is-undeclared s = T.undeclared t s
  document-line t Documents.is-misplaced s = T.misplaced t s
  document-line t Documents.is-misnamed s = T.misnamed t s
  document-line t Documents.is-misfit s = T.misfit t s
  document-line t (Documents.is-unbound l) s = T.unbound t s l
  document-line t Documents.is-unmatched s = T.unmatched t s
  document-line t Documents.assigned-again s = T.assigned-again t s
  document-line t Documents.unassigned-use s = T.unassigned-use t s
  document-line t Documents.is-misfed s = T.misfed t s
  document-line t Documents.unassigned-output s = T.unassigned-output t s

  list-refused : {list : List ℕ} {r : Answer} → TextOf texts 1 list → Refusal IsList ListCode 1 list r → InTable texts Count Length Order r
  list-refused t (of-bytes e) = bytes-line t e
  list-refused t (of-syntax e f o) = syntax-line {Spells = IsList} t e f o
  list-refused t (of-rules c s) = list-line t c s

  document-refused : {doc : List ℕ} {r : Answer} → TextOf texts 2 doc → Refusal IsDocument DocumentCode 2 doc r → InTable texts Count Length Order r
  document-refused t (of-bytes e) = bytes-line t e
  document-refused t (of-syntax e f o) = syntax-line {Spells = IsDocument} t e f o
  document-refused t (of-rules c s) = document-line t c s

-- ---- guards and stages

-- the answer of a text by itself, after its guard of code 2
alone : {A : Type 0} (Count : ℕ → Type 0) (text : List ℕ) (s : Stage A) (n : A → ℕ) → (length text ≤ max_text → (a : A) → s ≡ pass a → Count (n a))
    → ((r : Answer) → s ≡ stop r → InTable (text ∷ []) Count NoText NoOrder r) → (serves : Bool)
    → InTable (text ∷ []) Count NoText NoOrder
    (stage_answer (guard serves (answer Bytes.short_room 0 0 0) (guard (leb (length text) max_text) (answer Bytes.long_text 1 max_text 0) s)) n)
alone {A} Count text s n h k serves = go serves (leb (length text) max_text) refl
  where
    by : length text ≤ max_text → (x : Stage A) → s ≡ x → InTable (text ∷ []) Count NoText NoOrder (stage_answer x n)
    by l (pass a) e = T.accepted (h l a e)
    by l (stop r) e = k r e

    go : (a b : Bool) → leb (length text) max_text ≡ b
        → InTable (text ∷ []) Count NoText NoOrder (stage_answer (guard a (answer Bytes.short_room 0 0 0) (guard b (answer Bytes.long_text 1 max_text 0) s)) n)
    go false b e = T.short-room
    go true false e = T.long-text first-text (leb-false (length text) max_text e)
    go true true e = by (leb-true (length text) max_text e) s refl

-- the answer of an operation on a list and a document
under : {A : Type 0} (Count Length : ℕ → Type 0) (Order : List ℕ → Type 0) (list doc : List ℕ) (s : Stage A) (n : A → ℕ)
    → (length list ≤ max_text → length doc ≤ max_text → InTable (list ∷ doc ∷ []) Count Length Order (stage_answer s n))
    → (serves : Bool) → InTable (list ∷ doc ∷ []) Count Length Order (stage_answer (guarded serves list doc s) n)
under Count Length Order list doc s n h serves = go serves (leb (length list) max_text) (leb (length doc) max_text) refl refl
  where
    go : (a b c : Bool) → leb (length list) max_text ≡ b → leb (length doc) max_text ≡ c
        → InTable (list ∷ doc ∷ []) Count Length Order
        (stage_answer (guard a (answer Bytes.short_room 0 0 0) (guard b (answer Bytes.long_text 1 max_text 0) (guard c (answer Bytes.long_text 2 max_text 0) s))) n)
    go false b c e f = T.short-room
    go true false c e f = T.long-text first-text (leb-false (length list) max_text e)
    go true true false e f = T.long-text second-text (leb-false (length doc) max_text f)
    go true true true e f = h (leb-true (length list) max_text e) (leb-true (length doc) max_text f)

-- a refusal by the stages of both texts
both-refused : (Count Length : ℕ → Type 0) (Order : List ℕ → Type 0) (list doc : List ℕ) (r : Answer) → both_stages list doc ≡ stop r
    → InTable (list ∷ doc ∷ []) Count Length Order r
both-refused Count Length Order list doc r e = go (both-refusal list doc r e)
  where
    go : Refusal IsList ListCode 1 list r ⊎ Refusal IsDocument DocumentCode 2 doc r → InTable (list ∷ doc ∷ []) Count Length Order r
    go (inl x) = list-refused Count Length Order first-text x
    go (inr x) = document-refused Count Length Order second-text x

-- ---- the operations

pub tokens-in : (text table : List ℕ) → InTable (text ∷ []) (TokenCount text) NoText NoOrder (tokens_answer text table)
unfolding tokens_answer
tokens-in text table = go (leb table_words (length table)) (leb (length text) max_text) refl
  where
    by : (l : Lexed) → lex text ≡ l → InTable (text ∷ []) (TokenCount text) NoText NoOrder (answer_of (counted l))
    by (lexed ts) e = T.accepted (ts, (e, zero-add (length ts)))
    by (refused c p) e = bytes-line (TokenCount text) NoText NoOrder first-text e

    go : (a b : Bool) → leb (length text) max_text ≡ b
        → InTable (text ∷ []) (TokenCount text) NoText NoOrder
        (cond a (cond b (answer_of (counted (lex text))) (answer Bytes.long_text 1 max_text 0)) (answer Bytes.short_room 0 0 0))
    go false b e = T.short-room
    go true false e = T.long-text first-text (leb-false (length text) max_text e)
    go true true e = by (lex text) refl

pub declarations-in : (list : List ℕ) (work : ℕ) → InTable (list ∷ []) (OperationCount list) NoText NoOrder (declarations_answer list work)
unfolding declarations_answer declared
declarations-in list work =
    alone (OperationCount list) list (list_stages list) length (λ l hs e. (hs, (list-passed list hs l e, refl)))
    (λ r e. list-refused (OperationCount list) NoText NoOrder first-text (list-refusal list r e)) (leb work_words work)

pub check-in : (list doc : List ℕ) (l : CheckRoom) → InTable (list ∷ doc ∷ []) (CallCount list doc) NoText NoOrder (check_answer list doc l)
unfolding check_answer checked
check-in list doc l =
    under (CallCount list doc) NoText NoOrder list doc (both_stages list doc) call_count (λ a b. by a b (both_stages list doc) refl) (check_serves l)
  where
    by : length list ≤ max_text → length doc ≤ max_text → (s : Stage Checked) → both_stages list doc ≡ s
        → InTable (list ∷ doc ∷ []) (CallCount list doc) NoText NoOrder (stage_answer s call_count)
    by a b (pass k) e = let v = both-passed list doc k a b e in T.accepted (k.headers, (k.document, (v.0, (v.1, refl))))
    by a b (stop r) e = both-refused (CallCount list doc) NoText NoOrder list doc r e

pub order-in : (list doc : List ℕ) (l : OrderRoom) (ks : List ℕ)
    → InTable (list ∷ doc ∷ []) (CallCount list doc) NoText (TheOrder ks) (order_answer list doc l ks)
unfolding order_answer judged order_stages order_stage
order-in list doc l ks =
    under (CallCount list doc) NoText (TheOrder ks) list doc (order_stages list doc ks) call_count (λ a b. by a b (both_stages list doc) refl) (order_serves l)
  where
    -- a fault of the order
    place : {p c : ℕ} {ns : List (List ℕ)} → AtFault ns ks p c → InTable (list ∷ doc ∷ []) (CallCount list doc) NoText (TheOrder ks) (answer c 0 p 0)
    place (At.wrong-length h) = T.wrong-length refl
    place (At.out_of_range h n) = T.no_call refl h
    place (At.repeated-call h e) = T.repeated-call refl h
    place (At.early-use h n e) = T.early-use refl h

    judge : (k : Checked) → CallCount list doc (call_count k) → (o : Option Fault) → first (order_faults (needs k.document.calls) ks) ≡ o
        → InTable (list ∷ doc ∷ []) (CallCount list doc) NoText (TheOrder ks) (stage_answer (rules_stage 0 k o) call_count)
    judge k h nothing e = T.accepted h
    judge k h (some x) e =
        let ns = needs k.document.calls in
        let f = fault-is ns ks x (first-is (order_faults ns ks) x e).member in
        let z = ap (λ (y : Fault). y.detail) f.0 in
        rw z (place f.1)

    by : length list ≤ max_text → length doc ≤ max_text → (s : Stage Checked) → both_stages list doc ≡ s
        → InTable (list ∷ doc ∷ []) (CallCount list doc) NoText (TheOrder ks) (stage_answer (and_then s (λ k. order_stage k ks)) call_count)
    by a b (stop r) e = both-refused (CallCount list doc) NoText (TheOrder ks) list doc r e
    by a b (pass k) e =
        let v = both-passed list doc k a b e in
        judge k (k.headers, (k.document, (v.0, (v.1, refl)))) (first (order_faults (needs k.document.calls) ks)) refl

pub canon-in : (list doc : List ℕ) (l : Lent) → InTable (list ∷ doc ∷ []) (CanonicalLength list doc) (CanonicalLength list doc) NoOrder (numbers list doc l)
unfolding numbers canon_answer written text_stages canonical writing_stages
canon-in list doc l =
    under (CanonicalLength list doc) (CanonicalLength list doc) NoOrder list doc (text_stages list doc (length l.out)) length
    (λ a b. by a b (both_stages list doc) refl) (canon_serves (room_of l))
  where
    C : ℕ → Type 0
    C n = CanonicalLength list doc n

    lined : (ps : List Piece) → C (length (text ps)) → (a b c : Bool) → leb (length (text ps)) max_text ≡ a
        → InTable (list ∷ doc ∷ []) (CanonicalLength list doc) (CanonicalLength list doc) NoOrder
        (stage_answer (guard (a && b) (answer 25 0 0 0) (guard c (answer 26 0 0 (length (text ps))) (pass (text ps)))) length)
    lined ps h false b c e = T.over-limits h
    lined ps h true false c e = T.over-limits h
    lined ps h true true false e = T.short-output h (leb-true (length (text ps)) max_text e)
    lined ps h true true true e = T.accepted h

    by : length list ≤ max_text → length doc ≤ max_text → (s : Stage Checked) → both_stages list doc ≡ s
        → InTable (list ∷ doc ∷ []) (CanonicalLength list doc) (CanonicalLength list doc) NoOrder
        (stage_answer (and_then s (λ k. writing_stages (layout_of k.headers k.document) (length l.out))) length)
    by a b (stop r) e = both-refused (CanonicalLength list doc) (CanonicalLength list doc) NoOrder list doc r e
    by a b (pass k) e =
        let v = both-passed list doc k a b e in
        let w = plan-exists k.headers k.document v.0.lawful v.1.lawful in
        let h : HasPlan k.headers doc w.0 = record { tree = k.document; accepted = v.1; planned = w.1 } in
        let ps = document_pieces k.headers w.0 in
        rw (layout_is k.headers k.document w.0 w.1)
        (lined ps (k.headers, (w.0, (v.0, (h, refl)))) (leb (length (text ps)) max_text) (leb (length ps) max_tokens)
        (leb (length (text ps)) (length l.out)) refl)
