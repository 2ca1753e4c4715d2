-- What holds of documents under a list, for every text and every lent length: acceptance in both directions, the first fault, the tables.
-- The page of the demands cites these. Assumes nothing.
use mathlib.Core.Path.{◌≡◌, refl, ◌∙◌}
use mathlib.Core.Bool.{Bool, true, false}
use mathlib.Core.List.{List, [], ◌∷◌, ◌++◌}
use mathlib.Core.Option.{none as nothing}
use Prim.Native.Nat.{ℕ, ◌≤◌, ◌<◌}
use native.Mathlib.Omega.{arith}
use lib.Dec.{leb}
use lib.ListN.{length}
use lib.Seq.{sets}
use borrow.Author.Tests.{le-leb, lt-leb, leb-true}
use Rattle.lexis.specs.Sizes.{max_text, max_brackets}
use Rattle.lexis.specs.Code as Code
use Rattle.lexis.specs.Answer.{answer}
use Rattle.lexis.specs.declared.Answer.{Answer}
use Rattle.lexis.specs.Lexer.{Token, accepted, refused, lex}
use Rattle.syntax.specs.Tree.{Header, Call, Document}
use Rattle.syntax.specs.Grammar.{IsDocument}
use Rattle.syntax.specs.Fault.{FirstFault}
use Rattle.syntax.specs.Table.{place_of}
use Rattle.syntax.proofs.Theorems.{document-parsed, document-fault-given}
use Rattle.lists.specs.Fault.{Fault, first, IsFirst}
use Rattle.lists.specs.Names.{used}
use Rattle.lists.specs.Answer.{Stage, pass, stop, and_then, guard, guarded, stage_answer, list_stages}
use Rattle.lists.specs.Accepted.{AcceptedList}
use Rattle.lists.proofs.Guards.{guard_none}
use Rattle.lists.proofs.Acceptance.{list-passed, list-passes}
use Rattle.lists.proofs.Theorems.{first-fault}
use Rattle.documents.specs.DocumentRules.{document_faults}
use Rattle.documents.specs.Tables.{call_table, wire_table, assigner}
use Rattle.documents.specs.Wired.{AssignedBy}
use Rattle.documents.specs.Answer.{document_stages, Checked, both_stages, CheckRoom, check_serves, checked, call_count, check_answer, calls_after, wires_after}
use Rattle.documents.specs.Accepted.{AcceptedDocument}
use Rattle.documents.proofs.Refusals.{both-codes}
use Rattle.documents.proofs.Wired.{wired}
use Rattle.documents.proofs.DocumentFaults.{unwired-none}
use Rattle.documents.proofs.Acceptance.{document-passed, document-passes}

-- ---- wires

no-first : (xs : List Fault) → xs ≡ [] → first xs ≡ nothing
unfolding first
no-first xs e = rw e

-- In an accepted document the call that a wire names comes before the call that uses the identifier, and assigns it.
pub wire-below : (hs : List Header) (doc : List ℕ) (d : Document) → AcceptedDocument hs doc d
    → (before : List Call) (c : Call) (after : List Call) (xs : List Token) (t : Token) (ys : List Token)
    → d.calls ≡ before ++ (c ∷ after) → used c ≡ xs ++ (t ∷ ys) → AssignedBy d.calls (assigner d.calls t) (length before) t
wire-below hs doc d a before c after xs t ys e u =
    rw e (wired before c after xs t ys (rw e at (unwired-none hs d (no-first (document_faults hs d) a.lawful))) u)

-- ---- the first fault of a document under an accepted list: of the bytes; of the syntax, whose place the grammar gives; of the rules

module _ (list doc : List ℕ) (hs : List Header) (a : AcceptedList list hs) where
  pub document-bytes : (c p : ℕ) → lex doc ≡ refused c p → both_stages list doc ≡ stop (answer c 2 p 0)
  unfolding both_stages document_stages
  document-bytes c p e = rw (list-passes list hs a, e)

  pub document-syntax : (c : ℕ) (ts us : List Token) → lex doc ≡ accepted ts → FirstFault (λ b xs. (d : Document) × IsDocument b xs d) max_brackets c ts us
      → both_stages list doc ≡ stop (answer c 2 (place_of (length doc) us) 0)
  unfolding both_stages document_stages
  document-syntax c ts us e f = rw (list-passes list hs a, e, document-fault-given max_brackets c ts us f)

  pub document-rules : (ts : List Token) (d : Document) (x : Fault) → lex doc ≡ accepted ts → IsDocument max_brackets ts d → IsFirst x (document_faults hs d)
      → both_stages list doc ≡ stop (answer x.code 2 x.at x.detail)
  unfolding both_stages document_stages
  document-rules ts d x e s f = rw (list-passes list hs a, e, (document-parsed max_brackets ts d).1 s, (first-fault (document_faults hs d) x).1 f)

  -- an accepted document passes
  pub both-pass : (d : Document) → AcceptedDocument hs doc d → both_stages list doc ≡ pass (record { headers = hs; document = d })
  unfolding both_stages
  both-pass d b = rw (list-passes list hs a, document-passes hs doc d b)

-- what passes is accepted
pub both-passed : (list doc : List ℕ) (k : Checked) → length list ≤ max_text → length doc ≤ max_text → both_stages list doc ≡ pass k
    → AcceptedList list k.headers × AcceptedDocument k.headers doc k.document
unfolding both_stages
both-passed list doc k l m h = outer (list_stages list) refl h
  where
    inner : (hs : List Header) → AcceptedList list hs → (s : Stage Document) → document_stages hs doc ≡ s
        → and_then {B = Checked} s (λ d. pass (record { headers = hs; document = d })) ≡ pass k
        → AcceptedList list k.headers × AcceptedDocument k.headers doc k.document
    inner hs a (pass d) q e = let z : record { headers = hs; document = d } ≡ k = cc in rw (← z) (a, document-passed hs doc d m q)
    inner hs a (stop r) q e = let z : ◌≡◌ {A = ℕ} 0 1 = cc in absurd (omega arith)

    outer : (s : Stage (List Header)) → list_stages list ≡ s
        → and_then s (λ hs. and_then {B = Checked} (document_stages hs doc) (λ d. pass (record { headers = hs; document = d }))) ≡ pass k
        → AcceptedList list k.headers × AcceptedDocument k.headers doc k.document
    outer (pass hs) q e = inner hs (list-passed list hs l q) (document_stages hs doc) refl e
    outer (stop r) q e = let z : ◌≡◌ {A = ℕ} 0 1 = cc in absurd (omega arith)

-- a list that is refused is refused before the document
pub list-first : (list doc : List ℕ) (r : Answer) → list_stages list ≡ stop r → both_stages list doc ≡ stop r
unfolding both_stages
list-first list doc r e = rw e

-- ---- operations on a list and a document, by their guards: check and canon

module _ {A : Type 0} (serves : Bool) (list doc : List ℕ) (s : Stage A) where
  pub guarded-long : serves ≡ true → max_text < length list → guarded serves list doc s ≡ stop (answer Code.long_text 1 max_text 0)
  guarded-long r l = rw (r, lt-leb (length list) max_text l)

  pub guarded-long-document : serves ≡ true → length list ≤ max_text → max_text < length doc → guarded serves list doc s ≡ stop (answer Code.long_text 2 max_text 0)
  guarded-long-document r l m = rw (r, le-leb (length list) max_text l, lt-leb (length doc) max_text m)

  pub guarded-good : serves ≡ true → length list ≤ max_text → length doc ≤ max_text → guarded serves list doc s ≡ s
  guarded-good r l m = guard_none list doc s r (le-leb (length list) max_text l) (le-leb (length doc) max_text m)

  -- what passes was lent the room asked, and both texts are not too long
  pub guarded-passed : (a : A) → guarded serves list doc s ≡ pass a → (serves ≡ true) × ((length list ≤ max_text) × ((length doc ≤ max_text) × (s ≡ pass a)))
  guarded-passed a h = go serves (leb (length list) max_text) (leb (length doc) max_text) refl refl refl h
    where
      go : (x y z : Bool) → serves ≡ x → leb (length list) max_text ≡ y → leb (length doc) max_text ≡ z
          → guard x (answer 1 0 0 0) (guard y (answer 2 1 max_text 0) (guard z (answer 2 2 max_text 0) s)) ≡ pass a
          → (serves ≡ true) × ((length list ≤ max_text) × ((length doc ≤ max_text) × (s ≡ pass a)))
      go false y z e f g h = let c : ◌≡◌ {A = ℕ} 0 1 = cc in absurd (omega arith)
      go true false z e f g h = let c : ◌≡◌ {A = ℕ} 0 1 = cc in absurd (omega arith)
      go true true false e f g h = let c : ◌≡◌ {A = ℕ} 0 1 = cc in absurd (omega arith)
      go true true true e f g h = (e, (leb-true (length list) max_text f, (leb-true (length doc) max_text g, h)))

-- an answer of code 0 is one of stages that pass, if their refusals have another code
pub answer-passed : {A : Type 0} (s : Stage A) (n : A → ℕ) → ((r : Answer) → s ≡ stop r → 1 ≤ r.code) → (stage_answer s n).code ≡ Code.accepted
    → (a : A) × (s ≡ pass a)
answer-passed (pass a) n h e = (a, refl)
answer-passed (stop r) n h e = let c = h r refl in absurd (omega (arith, c, e))

-- a refusal by guards or by stages whose codes are not 0
pub guarded-codes : {A : Type 0} (serves : Bool) (list doc : List ℕ) (s : Stage A) → ((r : Answer) → s ≡ stop r → 3 ≤ r.code) → (r : Answer)
    → guarded serves list doc s ≡ stop r → 1 ≤ r.code
guarded-codes {A} serves list doc s h r = go serves (leb (length list) max_text) (leb (length doc) max_text)
  where
    code : {q : Answer} → ◌≡◌ {A = Stage A} (stop q) (stop r) → 1 ≤ q.code → 1 ≤ r.code
    code {q} e l = let z : q ≡ r = cc in rw z at l

    go : (x y z : Bool) → guard x (answer 1 0 0 0) (guard y (answer 2 1 max_text 0) (guard z (answer 2 2 max_text 0) s)) ≡ stop r → 1 ≤ r.code
    go false y z e = code e (omega arith)
    go true false z e = code e (omega arith)
    go true true false e = code e (omega arith)
    go true true true e = let l = h r e in omega (arith, l)

-- ---- check

module _ (list doc : List ℕ) (l : CheckRoom) where
  pub check-room : check_serves l ≡ false → check_answer list doc l ≡ answer Code.short_room 0 0 0
  unfolding check_answer checked
  check-room e = rw e

  pub check-long : check_serves l ≡ true → max_text < length list → check_answer list doc l ≡ answer Code.long_text 1 max_text 0
  unfolding check_answer checked
  check-long r k = rw (guarded-long (check_serves l) list doc (both_stages list doc) r k)

  pub check-long-document : check_serves l ≡ true → length list ≤ max_text → max_text < length doc → check_answer list doc l ≡ answer Code.long_text 2 max_text 0
  unfolding check_answer checked
  check-long-document r k m = rw (guarded-long-document (check_serves l) list doc (both_stages list doc) r k m)

  -- lent the room asked, and with texts that are not too long, the stages are those of both texts
  pub check-stages : check_serves l ≡ true → length list ≤ max_text → length doc ≤ max_text → checked list doc l ≡ both_stages list doc
  unfolding checked
  check-stages r k m = guarded-good (check_serves l) list doc (both_stages list doc) r k m

  pub check-refuses : (r : Answer) → check_serves l ≡ true → length list ≤ max_text → length doc ≤ max_text → both_stages list doc ≡ stop r
      → check_answer list doc l ≡ r
  unfolding check_answer
  check-refuses r s k m e = rw (check-stages s k m, e)

  -- an accepted document under an accepted list is answered 0, 0, 0 and the number of its calls; the tables hold its calls and wires
  module _ (hs : List Header) (d : Document) (r : check_serves l ≡ true) (a : AcceptedList list hs) (b : AcceptedDocument hs doc d) where
    checked-is : checked list doc l ≡ pass (record { headers = hs; document = d })
    checked-is = check-stages r a.short b.short ∙ both-pass list doc hs a d b

    pub check-accepts : check_answer list doc l ≡ answer Code.accepted 0 0 (length d.calls)
    unfolding check_answer
    check-accepts = rw checked-is

    pub check-writes : (calls wires : List ℕ)
        → (calls_after (checked list doc l) calls ≡ sets calls 0 (call_table hs d)) × (wires_after (checked list doc l) wires ≡ sets wires 0 (wire_table d))
    unfolding calls_after wires_after
    check-writes calls wires = (rw checked-is, rw checked-is)

  -- and code 0 is answered to no other
  pub check-accepted : (check_answer list doc l).code ≡ Code.accepted → (hs : List Header) × ((d : Document) × (AcceptedList list hs × AcceptedDocument hs doc d))
  unfolding check_answer checked
  check-accepted e =
      let x = answer-passed (checked list doc l) call_count (guarded-codes (check_serves l) list doc (both_stages list doc) (both-codes list doc)) e in
      let y = guarded-passed (check_serves l) list doc (both_stages list doc) x.0 x.1 in
      let z = both-passed list doc x.0 y.1.0 y.1.1.0 y.1.1.1 in
      (x.0.headers, (x.0.document, z))

  -- ---- lent words

  -- a refusal leaves both tables as they were
  pub check-keeps : (calls wires : List ℕ) → ((check_answer list doc l).code ≡ Code.accepted → ⊥)
      → (calls_after (checked list doc l) calls ≡ calls) × (wires_after (checked list doc l) wires ≡ wires)
  unfolding check_answer calls_after wires_after
  check-keeps calls wires n = go (checked list doc l) n
    where
      go : (s : Stage Checked) → ((stage_answer s call_count).code ≡ 0 → ⊥) → (calls_after s calls ≡ calls) × (wires_after s wires ≡ wires)
      go (pass k) n = absurd (n refl)
      go (stop r) n = (refl, refl)
