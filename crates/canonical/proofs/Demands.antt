-- The three demands, clause by clause and in their order, for the five operations, and the comparison of names: statements, each proved in a
-- file that is named at its `use`. What the words mean stands in specs/: answers and lent words afterwards in `Answer` of each crate,
-- acceptance in `Accepted` of `lists` and `documents`, the first fault in `Fault` of `lists`, the table of codes in `CodeTable`, plans and
-- canonical texts in `Plan` and `Layout`, lawful plans in `Lawful`, orders in `Order` and `InOrder`, the comparison in `Comparison` of
-- `spellings`. `docs/DEMANDS.md` reads this page aloud.
use mathlib.Core.Path.{◌≡◌}
use mathlib.Core.Bool.{Bool, true, false, cond}
use mathlib.Core.List.{List, [], ◌∷◌, ◌++◌, map, flatten}
use mathlib.Core.Logic.{◌↔◌, ◌⊎◌}
use Prim.Native.Nat.{ℕ, suc, ◌+◌, ◌*◌, ◌≤◌, ◌<◌}
use lib.ListN.{length, get_or, replicate}
use lib.Seq.{sets}
use Rattle.spellings.specs.Comparison.{same_bytes, last_byte, pairs, comparison, max_count, words_of, Agree}
use Rattle.spellings.proofs.Theorems as Spellings
use Rattle.lexis.specs.Sizes.{max_text, max_tokens, max_brackets, token_words, table_words, work_words, max_extent}
use Rattle.lexis.specs.Code as Code
use Rattle.lexis.specs.Ascii.{ascii}
use Rattle.lexis.specs.Kind as Kind
use Rattle.lexis.specs.Number.{value_from, signed}
use Rattle.lexis.specs.Lexer.{Token, accepted, refused, lex, Placed, Longest, Kinded}
use Rattle.lexis.specs.Line.{line_of, NoFeed}
use Rattle.lexis.specs.Answer.{answer, token_records, tokens_answer, tokens_table, start_in, line_in}
use Rattle.lexis.proofs.Theorems as Lexis
use Rattle.syntax.specs.Tree.{Literal, Header, Call, Document}
use Rattle.syntax.specs.Tree.Value.{literal}
use Rattle.syntax.specs.Tree.Ty.{extent}
use Rattle.syntax.specs.Grammar.{IsList, IsDocument}
use Rattle.syntax.specs.Fault.{FirstFault}
use Rattle.syntax.specs.Table.{place_of}
use Rattle.lists.specs.Fault.{Fault, IsFirst}
use Rattle.lists.specs.Names.{used}
use Rattle.lists.specs.Reading.{fits}
use Rattle.lists.specs.ListRules.{list_faults}
use Rattle.lists.specs.Answer.{declarations_answer, work_after}
use Rattle.lists.specs.Accepted.{AcceptedList}
use Rattle.lists.proofs.Theorems as Lists
use Rattle.documents.specs.Code as Rules
use Rattle.documents.specs.DocumentRules.{document_faults}
use Rattle.documents.specs.Tables.{call_table, wire_table, assigner}
use Rattle.documents.specs.Wired.{AssignedBy}
use Rattle.documents.specs.Answer.{CheckRoom, check_room, check_serves, checked, check_answer, calls_after, wires_after}
use Rattle.documents.specs.Accepted.{AcceptedDocument}
use Rattle.documents.proofs.Theorems as Documents
use Rattle.orders.specs.Order.{needs}
use Rattle.orders.specs.Answer.{OrderRoom, order_room, order_serves, order_answer}
use Rattle.orders.specs.InOrder.{Permutation, InOrder, FirstAtFault}
use Rattle.orders.proofs.Theorems as Orders
use Rattle.canonical.specs.Code as Writing
use Rattle.writing.specs.Plan.{Plan}
use Rattle.writing.specs.Layout.{document_pieces, canonical}
use Rattle.writing.specs.Lawful.{Lawful}
use Rattle.canonical.specs.Answer.{canon_serves}
use Rattle.canonical.specs.Demand.{HasPlan, ReadsAs, Keeps, Lent, room_of, Serves, numbers, output, bytes_written, IsGuard}
use Rattle.canonical.specs.Arranged.{arranged, arranged_plan, call_text, Rewired}
use Rattle.canonical.specs.CodeTable.{InTable, TokenCount, OperationCount, CallCount, CanonicalLength, NoText, NoOrder, TheOrder}
use Rattle.canonical.proofs.InTables as InTables
use Rattle.canonical.proofs.Theorems as Canonical
use Rattle.canonical.proofs.Answers as Answers
use Rattle.canonical.proofs.Lawful as Laws
use Rattle.canonical.proofs.OnePlan as OnePlan
use Rattle.canonical.proofs.Arranged as Arranged

-- ==== Demand 1. Whatever bytes and buffers are lent, every entry point ends, touches nothing beyond them, and answers with four numbers
-- from the table. That it ends and stays inside what is lent is what a proved contract says: those of `tokens`, `declarations`,
-- `check`, `canon` and `order` have no `requires`.

-- ---- the four numbers are on a line of the table

pub tokens-in-table : (text table : List ℕ) → InTable (text ∷ []) (TokenCount text) NoText NoOrder (tokens_answer text table)
tokens-in-table = InTables.tokens-in

pub declarations-in-table : (list : List ℕ) (work : ℕ) → InTable (list ∷ []) (OperationCount list) NoText NoOrder (declarations_answer list work)
declarations-in-table = InTables.declarations-in

pub check-in-table : (list doc : List ℕ) (l : CheckRoom) → InTable (list ∷ doc ∷ []) (CallCount list doc) NoText NoOrder (check_answer list doc l)
check-in-table = InTables.check-in

pub canon-in-table : (list doc : List ℕ) (l : Lent)
    → InTable (list ∷ doc ∷ []) (CanonicalLength list doc) (CanonicalLength list doc) NoOrder (numbers list doc l)
canon-in-table = InTables.canon-in

pub order-in-table : (list doc : List ℕ) (l : OrderRoom) (ks : List ℕ)
    → InTable (list ∷ doc ∷ []) (CallCount list doc) NoText (TheOrder ks) (order_answer list doc l ks)
order-in-table = InTables.order-in

-- ---- a refusal changes no output buffer; `declarations` and `order` have none

pub tokens-refusal-keeps : (text table : List ℕ) → ((tokens_answer text table).code ≡ Code.accepted → ⊥) → tokens_table text table ≡ table
tokens-refusal-keeps = Lexis.untouched

pub check-refusal-keeps : (list doc : List ℕ) (l : CheckRoom) (calls wires : List ℕ) → ((check_answer list doc l).code ≡ Code.accepted → ⊥)
    → (calls_after (checked list doc l) calls ≡ calls) × (wires_after (checked list doc l) wires ≡ wires)
check-refusal-keeps = Documents.check-keeps

pub canon-refusal-keeps : (list doc : List ℕ) (l : Lent) → ((numbers list doc l).code ≡ Code.accepted → ⊥) → output list doc l ≡ l.out
canon-refusal-keeps = Canonical.refusal-keeps

-- ---- work areas end as zeros, save that refusals 1 and 2 write nothing (`work_after` of its answer is what each operation leaves in one)

pub declarations-work : (list work : List ℕ) → let r = declarations_answer list (length work) in
    ((IsGuard r → ⊥) → work_after r work ≡ replicate (length work) 0) × (IsGuard r → work_after r work ≡ work)
declarations-work list work = Answers.work-after (declarations_answer list (length work)) work

pub check-work : (list doc work₁ work₂ calls wires : List ℕ) → let r = check_answer list doc (check_room work₁ work₂ calls wires) in
    ((IsGuard r → ⊥) → (work_after r work₁ ≡ replicate (length work₁) 0) × (work_after r work₂ ≡ replicate (length work₂) 0))
    × (IsGuard r → (work_after r work₁ ≡ work₁) × (work_after r work₂ ≡ work₂))
check-work list doc work₁ work₂ calls wires = Answers.works-after (check_answer list doc (check_room work₁ work₂ calls wires)) work₁ work₂

pub canon-work : (list doc work₁ work₂ out : List ℕ) → let r = numbers list doc (record { work₁ = length work₁; work₂ = length work₂; out = out }) in
    ((IsGuard r → ⊥) → (work_after r work₁ ≡ replicate (length work₁) 0) × (work_after r work₂ ≡ replicate (length work₂) 0))
    × (IsGuard r → (work_after r work₁ ≡ work₁) × (work_after r work₂ ≡ work₂))
canon-work list doc work₁ work₂ out = Answers.works-after (numbers list doc (record { work₁ = length work₁; work₂ = length work₂; out = out })) work₁ work₂

pub order-work : (list doc work₁ work₂ ks : List ℕ) → let r = order_answer list doc (order_room work₁ work₂) ks in
    ((IsGuard r → ⊥) → (work_after r work₁ ≡ replicate (length work₁) 0) × (work_after r work₂ ≡ replicate (length work₂) 0))
    × (IsGuard r → (work_after r work₁ ≡ work₁) × (work_after r work₂ ≡ work₂))
order-work list doc work₁ work₂ ks = Answers.works-after (order_answer list doc (order_room work₁ work₂) ks) work₁ work₂

-- ==== Demand 2. A graph is accepted exactly when it and its operation list obey the grammar and the rules, given the lent room it asks. The
-- tables and the counts are the ones defined. Otherwise the answer is the first fault, with its place. The writer's bytes are the
-- spelling that is laid down, and nothing else.

-- ---- tokens

pub tokens-room : (text table : List ℕ) → length table < table_words → tokens_answer text table ≡ answer Code.short_room 0 0 0
tokens-room = Answers.tokens-room

pub tokens-long : (text table : List ℕ) → table_words ≤ length table → max_text < length text → tokens_answer text table ≡ answer Code.long_text 1 max_text 0
tokens-long = Answers.tokens-long

-- the tokens that the text has are counted, and their records are the table's first words
pub tokens-accepts : (text table : List ℕ) (ts : List Token) → table_words ≤ length table → length text ≤ max_text → lex text ≡ accepted ts
    → (tokens_answer text table ≡ answer Code.accepted 0 0 (length ts)) × (tokens_table text table ≡ sets table 0 (token_records text ts))
tokens-accepts = Answers.tokens-accepts

-- code 0 is answered to no other text
pub tokens-accepted : (text table : List ℕ) → (tokens_answer text table).code ≡ Code.accepted
    → (table_words ≤ length table) × ((length text ≤ max_text) × ((ts : List Token) × (lex text ≡ accepted ts)))
tokens-accepted = Answers.tokens-accepted

-- otherwise the first fault of the bytes
pub tokens-fault : (text table : List ℕ) (c p : ℕ) → table_words ≤ length table → length text ≤ max_text → lex text ≡ refused c p
    → tokens_answer text table ≡ answer c 1 p 0
tokens-fault = Answers.tokens-fault

-- words beyond those written keep their contents
pub tokens-keeps-beyond : (text table : List ℕ) (i : ℕ) → (tokens_answer text table).detail * token_words ≤ i → get_or (tokens_table text table) i 0 ≡ get_or table i 0
tokens-keeps-beyond = Lexis.kept-beyond

-- tokens stand in the text one after the other, with only white space and comments between them; each is the longest; they are of the eight kinds
pub tokens-placed : (text : List ℕ) (ts : List Token) → lex text ≡ accepted ts → Placed text 0 ts × (Longest text ts × Kinded ts)
tokens-placed text ts e = (Lexis.placed text ts e, (Lexis.longest-match text ts e, Lexis.kinded text ts e))

-- the line of each is one more than the number of bytes 10 before its start
pub tokens-line : (text table : List ℕ) → (tokens_answer text table).code ≡ Code.accepted → (i : ℕ) → i < (tokens_answer text table).detail
    → line_in (tokens_table text table) i ≡ line_of text (start_in (tokens_table text table) i)
tokens-line = Lexis.line

-- lines never fall
pub tokens-lines-rise : (text table : List ℕ) → (tokens_answer text table).code ≡ Code.accepted → (i j : ℕ) → i ≤ j → j < (tokens_answer text table).detail
    → line_in (tokens_table text table) i ≤ line_in (tokens_table text table) j
tokens-lines-rise = Lexis.lines-rise

-- two tokens have the same line exactly when no byte 10 stands between their starts
pub tokens-same-line : (text table : List ℕ) → (tokens_answer text table).code ≡ Code.accepted → (i j : ℕ) → i ≤ j → j < (tokens_answer text table).detail
    → let after = tokens_table text table in
    (line_in after i ≡ line_in after j) ↔ NoFeed text (start_in after i) (start_in after j)
tokens-same-line = Lexis.same_line

-- ---- declarations

pub declarations-room : (list : List ℕ) (work : ℕ) → work < work_words → declarations_answer list work ≡ answer Code.short_room 0 0 0
declarations-room = Lists.declarations-room

pub declarations-long : (list : List ℕ) (work : ℕ) → work_words ≤ work → max_text < length list → declarations_answer list work ≡ answer Code.long_text 1 max_text 0
declarations-long = Lists.declarations-long

-- an accepted list is answered 0, 0, 0 and the number of its operations, and code 0 is answered to no other
pub declarations-accepts : (list : List ℕ) (work : ℕ) (hs : List Header) → work_words ≤ work → AcceptedList list hs
    → declarations_answer list work ≡ answer Code.accepted 0 0 (length hs)
declarations-accepts = Lists.declarations-accepts

pub declarations-accepted : (list : List ℕ) (work : ℕ) → (declarations_answer list work).code ≡ Code.accepted → (hs : List Header) × AcceptedList list hs
declarations-accepted = Lists.declarations-accepted

-- otherwise the first fault: of the bytes; of the syntax, where the grammar says; of the rules
module _ (list : List ℕ) (work : ℕ) (r : work_words ≤ work) (l : length list ≤ max_text) where
  pub declarations-bytes : (c p : ℕ) → lex list ≡ refused c p → declarations_answer list work ≡ answer c 1 p 0
  declarations-bytes c p e = Answers.declarations-refuses list work _ r l (Lists.list-bytes list c p e)

  pub declarations-syntax : (c : ℕ) (ts us : List Token) → lex list ≡ accepted ts → FirstFault (λ b xs. (hs : List Header) × IsList b xs hs) max_brackets c ts us
      → declarations_answer list work ≡ answer c 1 (place_of (length list) us) 0
  declarations-syntax c ts us e f = Answers.declarations-refuses list work _ r l (Lists.list-syntax list c ts us e f)

  pub declarations-rules : (ts : List Token) (hs : List Header) (x : Fault) → lex list ≡ accepted ts → IsList max_brackets ts hs → IsFirst x (list_faults hs)
      → declarations_answer list work ≡ answer x.code 1 x.at x.detail
  declarations-rules ts hs x e s f = Answers.declarations-refuses list work _ r l (Lists.list-rules list ts hs x e s f)

-- ---- numbers with a sign

-- a whole number fits extent exactly when it is at most 2,147,483,647, and with a sign exactly when it is at most one more
pub extent-ends : (l : Literal) → l.token.kind ≡ Kind.whole
    → (fits (literal l) extent ≡ true) ↔ (value_from 0 l.token.bytes ≤ cond l.negative (suc max_extent) max_extent)
extent-ends = Lists.extent-ends

-- two signed numbers are equal exactly when the numbers are, and the signs too unless the numbers are zero
pub signed_same : (a b : Bool) (m n : ℕ) → (signed a m ≡ signed b n) ↔ ((m ≡ n) × (0 < m → a ≡ b))
signed_same = Lists.signed_same

-- ---- check

pub check-room : (list doc : List ℕ) (l : CheckRoom) → check_serves l ≡ false → check_answer list doc l ≡ answer Code.short_room 0 0 0
check-room = Documents.check-room

pub check-long : (list doc : List ℕ) (l : CheckRoom) → check_serves l ≡ true → max_text < length list → check_answer list doc l ≡ answer Code.long_text 1 max_text 0
check-long = Documents.check-long

pub check-long-document : (list doc : List ℕ) (l : CheckRoom) → check_serves l ≡ true → length list ≤ max_text → max_text < length doc
    → check_answer list doc l ≡ answer Code.long_text 2 max_text 0
check-long-document = Documents.check-long-document

-- a list that declarations refuses, check refuses with the same four numbers
pub check-list : (list doc : List ℕ) (l : CheckRoom) (work : ℕ) → check_serves l ≡ true → work_words ≤ work → length list ≤ max_text → length doc ≤ max_text
    → ((declarations_answer list work).code ≡ Code.accepted → ⊥) → check_answer list doc l ≡ declarations_answer list work
check-list = Answers.check-list

module _ (list doc : List ℕ) (l : CheckRoom) (hs : List Header) (r : check_serves l ≡ true) (a : AcceptedList list hs) where
  -- an accepted document is answered 0, 0, 0 and the number of its calls
  pub check-accepts : (d : Document) → AcceptedDocument hs doc d → check_answer list doc l ≡ answer Code.accepted 0 0 (length d.calls)
  check-accepts d b = Documents.check-accepts list doc l hs d r a b

  -- its calls and wires are the first words of the tables, and words beyond them keep their contents
  pub check-writes : (d : Document) → AcceptedDocument hs doc d → (calls wires : List ℕ)
      → (calls_after (checked list doc l) calls ≡ sets calls 0 (call_table hs d)) × (wires_after (checked list doc l) wires ≡ sets wires 0 (wire_table d))
  check-writes d b calls wires = Documents.check-writes list doc l hs d r a b calls wires

  -- otherwise the first fault of the document: of the bytes; of the syntax; of the rules
  pub check-bytes : (c p : ℕ) → length doc ≤ max_text → lex doc ≡ refused c p → check_answer list doc l ≡ answer c 2 p 0
  check-bytes c p m e = Documents.check-refuses list doc l _ r a.short m (Documents.document-bytes list doc hs a c p e)

  pub check-syntax : (c : ℕ) (ts us : List Token) → length doc ≤ max_text → lex doc ≡ accepted ts
      → FirstFault (λ b xs. (d : Document) × IsDocument b xs d) max_brackets c ts us
      → check_answer list doc l ≡ answer c 2 (place_of (length doc) us) 0
  check-syntax c ts us m e f = Documents.check-refuses list doc l _ r a.short m (Documents.document-syntax list doc hs a c ts us e f)

  pub check-rules : (ts : List Token) (d : Document) (x : Fault) → length doc ≤ max_text → lex doc ≡ accepted ts → IsDocument max_brackets ts d
      → IsFirst x (document_faults hs d)
      → check_answer list doc l ≡ answer x.code 2 x.at x.detail
  check-rules ts d x m e s f = Documents.check-refuses list doc l _ r a.short m (Documents.document-rules list doc hs a ts d x e s f)

-- code 0 is answered to no other
pub check-accepted : (list doc : List ℕ) (l : CheckRoom) → (check_answer list doc l).code ≡ Code.accepted
    → (hs : List Header) × ((d : Document) × (AcceptedList list hs × AcceptedDocument hs doc d))
check-accepted = Documents.check-accepted

-- the call that a wire names comes before the call that uses the identifier, and assigns it
pub wire-below : (hs : List Header) (doc : List ℕ) (d : Document) → AcceptedDocument hs doc d
    → (before : List Call) (c : Call) (after : List Call) (xs : List Token) (t : Token) (ys : List Token)
    → d.calls ≡ before ++ (c ∷ after) → used c ≡ xs ++ (t ∷ ys) → AssignedBy d.calls (assigner d.calls t) (length before) t
wire-below = Documents.wire-below

-- ---- canon

pub canon-room : (list doc : List ℕ) (l : Lent) → canon_serves (room_of l) ≡ false → numbers list doc l ≡ answer Code.short_room 0 0 0
canon-room = Answers.canon-room

pub canon-long : (list doc : List ℕ) (l : Lent) → canon_serves (room_of l) ≡ true → max_text < length list → numbers list doc l ≡ answer Code.long_text 1 max_text 0
canon-long = Answers.canon-long

pub canon-long-document : (list doc : List ℕ) (l : Lent) → canon_serves (room_of l) ≡ true → length list ≤ max_text → max_text < length doc
    → numbers list doc l ≡ answer Code.long_text 2 max_text 0
canon-long-document = Answers.canon-long-document

-- a list that declarations refuses, and what check refuses, canon refuses with the same four numbers
pub canon-list : (list doc : List ℕ) (l : Lent) (work : ℕ) → canon_serves (room_of l) ≡ true → work_words ≤ work → length list ≤ max_text → length doc ≤ max_text
    → ((declarations_answer list work).code ≡ Code.accepted → ⊥) → numbers list doc l ≡ declarations_answer list work
canon-list = Answers.canon-list

pub canon-refuses-as-check : (list doc : List ℕ) (l : Lent) (k : CheckRoom) → canon_serves (room_of l) ≡ true → check_serves k ≡ true
    → ((check_answer list doc k).code ≡ Code.accepted → ⊥) → numbers list doc l ≡ check_answer list doc k
canon-refuses-as-check = Canonical.refuses-as-check

module _ (list doc : List ℕ) (hs : List Header) (p : Plan) (a : AcceptedList list hs) (h : HasPlan hs doc p) where
  -- what check accepts, canon refuses only with 25, where the canonical text does not keep the limits,
  pub canon-over-limits : (l : Lent) → work_words ≤ l.work₁ → work_words ≤ l.work₂ → (Keeps hs p → ⊥) → numbers list doc l ≡ answer Writing.over_limits 0 0 0
  canon-over-limits l w₁ w₂ n = Canonical.over-the-limits list doc hs p a h l w₁ w₂ n

  -- and with 26 and its length, where it keeps them and the output is shorter than it
  pub canon-over-output : (l : Lent) → work_words ≤ l.work₁ → work_words ≤ l.work₂ → Keeps hs p → length l.out < length (canonical hs p)
      → numbers list doc l ≡ answer Writing.short_output 0 0 (length (canonical hs p))
  canon-over-output l w₁ w₂ k o = Canonical.over-the-output list doc hs p a h l w₁ w₂ k o

  -- the pieces that 25 counts are the tokens of the canonical text: as many, if they are no more than a text may have, else it has too many
  pub canonical-tokens :
      (length (document_pieces hs p) ≤ max_tokens → (ts : List Token) × ((lex (canonical hs p) ≡ accepted ts) × (length ts ≡ length (document_pieces hs p))))
      × (max_tokens < length (document_pieces hs p) → (q : ℕ) × (lex (canonical hs p) ≡ refused Code.too_many q))
  canonical-tokens = Answers.canonical-tokens list doc hs p a h

-- code 0 is answered only to an accepted document under an accepted list whose canonical text keeps the limits and fits the output
pub canon-accepted : (list doc : List ℕ) (l : Lent) → (numbers list doc l).code ≡ Code.accepted
    → (hs : List Header) × ((p : Plan) × (AcceptedList list hs × (HasPlan hs doc p × (Keeps hs p × (length (canonical hs p) ≤ length l.out)))))
canon-accepted = Canonical.canon-accepted

-- ---- order: whether a list of call numbers has every call of an accepted graph once, and each use after its assigning call

pub order-room : (list doc : List ℕ) (l : OrderRoom) (ks : List ℕ) → order_serves l ≡ false → order_answer list doc l ks ≡ answer Code.short_room 0 0 0
order-room = Orders.order-room

pub order-long : (list doc : List ℕ) (l : OrderRoom) (ks : List ℕ) → order_serves l ≡ true → max_text < length list
    → order_answer list doc l ks ≡ answer Code.long_text 1 max_text 0
order-long = Orders.order-long

pub order-long-document : (list doc : List ℕ) (l : OrderRoom) (ks : List ℕ) → order_serves l ≡ true → length list ≤ max_text → max_text < length doc
    → order_answer list doc l ks ≡ answer Code.long_text 2 max_text 0
order-long-document = Orders.order-long-document

-- what check refuses, order refuses with the same four numbers
pub order-refuses-as-check : (list doc : List ℕ) (l : OrderRoom) (ks : List ℕ) (k : CheckRoom) → order_serves l ≡ true → check_serves k ≡ true
    → ((check_answer list doc k).code ≡ Code.accepted → ⊥) → order_answer list doc l ks ≡ check_answer list doc k
order-refuses-as-check = Orders.order-refuses-as-check

module _ (list doc : List ℕ) (l : OrderRoom) (ks : List ℕ) (hs : List Header) (d : Document) (r : order_serves l ≡ true) (a : AcceptedList list hs)
    (b : AcceptedDocument hs doc d) where
  -- it is answered 0, 0, 0 and the number of calls exactly when every call stands once in it, and each use after its assigning call
  pub order-exactly : (order_answer list doc l ks ≡ answer Code.accepted 0 0 (length d.calls)) ↔ InOrder (needs d.calls) ks
  order-exactly = Orders.order-exactly list doc l ks hs d r a b

  -- any other is answered the first place at fault, with the smallest code there; and what is so answered is that place
  pub order-fault : (p c : ℕ) → 0 < c → (order_answer list doc l ks ≡ answer c 0 p 0) ↔ FirstAtFault (needs d.calls) ks p c
  order-fault = Orders.order-fault list doc l ks hs d r a b

-- code 0 is answered to no other order, and to no other texts
pub order-accepted : (list doc : List ℕ) (l : OrderRoom) (ks : List ℕ) → (order_answer list doc l ks).code ≡ Code.accepted
    → (hs : List Header) × ((d : Document) × (AcceptedList list hs × (AcceptedDocument hs doc d × InOrder (needs d.calls) ks)))
order-accepted = Orders.order-accepted

-- ==== Demand 3. Fix any accepted operation list, and take documents accepted under it whose canonical texts keep the limits, and output
-- buffers that hold them.

-- an accepted document has exactly one plan
pub has-plan : (list doc : List ℕ) (hs : List Header) (d : Document) → AcceptedList list hs → AcceptedDocument hs doc d → (p : Plan) × HasPlan hs doc p
has-plan = Canonical.has-plan

pub one-plan : (hs : List Header) (doc : List ℕ) (p q : Plan) → HasPlan hs doc p → HasPlan hs doc q → p ≡ q
one-plan = Canonical.one-plan

module _ (list : List ℕ) (hs : List Header) (fixed : AcceptedList list hs) where
  module _ (doc : List ℕ) (p : Plan) (h : HasPlan hs doc p) (k : Keeps hs p) where
    -- The writer, lent the room it asks and called on each, writes its canonical text and answers 0, 0, 0 and that text's length.
    pub canon-answers : (l : Lent) → Serves l (canonical hs p) → numbers list doc l ≡ answer Code.accepted 0 0 (length (canonical hs p))
    canon-answers = Canonical.canon-answers list hs fixed doc p h k

    pub canon-writes : (l : Lent) → Serves l (canonical hs p) → output list doc l ≡ sets l.out 0 (canonical hs p)
    canon-writes = Canonical.canon-writes list hs fixed doc p h k

    pub canon-bytes : (l : Lent) → Serves l (canonical hs p) → bytes_written list doc l ≡ canonical hs p
    canon-bytes = Canonical.canon-bytes list hs fixed doc p h k

  -- The two plans are equal exactly when the two lengths and all the bytes written are equal.
  pub equal-plans : (doc₁ doc₂ : List ℕ) (p q : Plan) (h : HasPlan hs doc₁ p) (g : HasPlan hs doc₂ q) → Keeps hs p → Keeps hs q → (l m : Lent)
      → Serves l (canonical hs p) → Serves m (canonical hs q)
      → (p ≡ q) ↔ (((numbers list doc₁ l).detail ≡ (numbers list doc₂ m).detail) × (bytes_written list doc₁ l ≡ bytes_written list doc₂ m))
  equal-plans = Canonical.equal-plans list hs fixed

  -- Now take either canonical text as a document under the same list. It is accepted. Its plan equals the plan of the document that it came from.
  pub again-accepted : (doc : List ℕ) (p : Plan) → HasPlan hs doc p → Keeps hs p → HasPlan hs (canonical hs p) p
  again-accepted = Canonical.again-accepted list hs fixed

  -- The writer, called on it in the same way, writes the same bytes and answers the same four numbers.
  pub again-written : (doc : List ℕ) (p : Plan) (h : HasPlan hs doc p) (k : Keeps hs p) (l m : Lent) → Serves l (canonical hs p) → Serves m (canonical hs p)
      → (numbers list (canonical hs p) m ≡ numbers list doc l) × (bytes_written list (canonical hs p) m ≡ bytes_written list doc l)
  again-written = Canonical.again-written list hs fixed

  -- ==== The order of calls. For an accepted order, and a canonical text within the limits: the canonical text with its calls so arranged is
  -- accepted under the same list, its plan is the document's plan with its calls so arranged, and each use still names the same identifier.

  -- which plans are lawful, said of plans alone: exactly those whose canonical text, limits aside, is accepted and has that plan
  pub lawful-exactly : (p : Plan) → Lawful hs p ↔ ReadsAs hs (canonical hs p) p
  lawful-exactly p = Laws.lawful-exactly list hs p fixed

  -- the plan of an accepted document is lawful, and within the limits the canonical text of a lawful plan is accepted
  pub lawful-plan : (doc : List ℕ) (p : Plan) → HasPlan hs doc p → Lawful hs p
  lawful-plan doc p = Laws.lawful-plan list doc hs p fixed

  pub lawful-accepted : (p : Plan) → Keeps hs p → Lawful hs p → HasPlan hs (canonical hs p) p
  lawful-accepted p = Laws.lawful-accepted list hs p fixed

  -- documents of one plan get the same four numbers for every order
  pub order_alike : (doc₁ doc₂ : List ℕ) (p : Plan) → HasPlan hs doc₁ p → HasPlan hs doc₂ p → (ks : List ℕ) (r s : OrderRoom)
      → order_serves r ≡ true → order_serves s ≡ true → order_answer list doc₁ r ks ≡ order_answer list doc₂ s ks
  order_alike doc₁ doc₂ p h g ks = OnePlan.order_alike list doc₁ doc₂ hs p fixed h g ks

  -- the canonical text is a head, a line for each call, and a closing brace; that of the arranged plan has the same head and the same lines, arranged
  pub text-arranged : (p : Plan)
      → (head : List ℕ)
      × ((canonical hs p ≡ head ++ (flatten (map (call_text hs) p.calls) ++ ascii "}\n"))
      × ((ks : List ℕ) → canonical hs (arranged_plan ks p) ≡ head ++ (flatten (arranged ks (map (call_text hs) p.calls)) ++ ascii "}\n")))
  text-arranged p = Arranged.text-arranged hs p

  module _ (doc : List ℕ) (p : Plan) (h : HasPlan hs doc p) (k : Keeps hs p) (ks : List ℕ) where
    -- an order is in order exactly when it has every call once and the text so arranged is accepted, with the plan so arranged
    pub arranged-exactly : InOrder (needs h.tree.calls) ks
        ↔ (Permutation (length p.calls) ks × HasPlan hs (canonical hs (arranged_plan ks p)) (arranged_plan ks p))
    arranged-exactly = Arranged.arranged-exactly list doc hs p ks fixed h k

    -- and otherwise, if it has every call once, the text so arranged is refused for a use before its assignment
    pub arranged-refused : Permutation (length p.calls) ks → (InOrder (needs h.tree.calls) ks → ⊥) → (r : CheckRoom) → check_serves r ≡ true
        → (place : ℕ) × (check_answer list (canonical hs (arranged_plan ks p)) r ≡ answer Rules.unassigned_use 2 place 0)
    arranged-refused = Arranged.arranged-refused list doc hs p ks fixed h k

  -- each use still names the same assigned identifier: its wire leads to the call that assigns it, at its new number
  pub arranged-wires : (p : Plan) (ks : List ℕ) → Permutation (length p.calls) ks → (g : HasPlan hs (canonical hs p) p)
      (g' : HasPlan hs (canonical hs (arranged_plan ks p)) (arranged_plan ks p)) → Rewired ks g.tree.calls g'.tree.calls
  arranged-wires p ks o g g' = Arranged.arranged-wires list hs p ks fixed o g g'

-- ==== The comparison of two names, by which every name is looked up: lengths before bytes, and the last byte before the others. It takes names of
-- any lengths, refuses nothing and writes nothing, so no four numbers are answered; its contract fixes the verdict and the count of pairs
-- (`comparison`). `last_byte` is the last byte of a name, and `Agree a b d` says that the bytes before place d are the same.

module _ (a b : List ℕ) where
  -- the verdict: two names are the same exactly when they are equal
  pub compare-exactly : (same_bytes a b ≡ true) ↔ (a ≡ b)
  compare-exactly = Spellings.same-exactly a b

  -- the count: no pair for unequal lengths,
  pub compare-lengths : (length a ≡ length b → ⊥) → pairs a b ≡ 0
  compare-lengths = Spellings.pairs-lengths a b

  -- one for unequal last bytes,
  pub compare-last : length a ≡ length b → (last_byte a ≡ last_byte b → ⊥) → pairs a b ≡ 1
  compare-last = Spellings.pairs-last a b

  -- else, with the first difference at place d, the pair of the last bytes and d + 1 from the front,
  pub compare-front : length a ≡ length b → last_byte a ≡ last_byte b → (d : ℕ) → d < length a → Agree a b d → (get_or a d 0 ≡ get_or b d 0 → ⊥)
      → pairs a b ≡ d + 2
  compare-front = Spellings.pairs-front a b

  -- and the length for equal names
  pub compare-equal : a ≡ b → pairs a b ≡ length a
  compare-equal = Spellings.pairs-same a b

  -- it is at most the length
  pub compare-most : (pairs a b ≤ length a) × (pairs a b ≤ length b)
  compare-most = Spellings.pairs-most a b

  -- it is 0 exactly where the lengths differ or both names are empty
  pub compare-none : (pairs a b ≡ 0) ↔ ((length a ≡ length b → ⊥) ⊎ ((a ≡ []) × (b ≡ [])))
  compare-none = Spellings.pairs-none a b

  -- the exported word has the whole count for names of at most 4,294,967,295 bytes
  pub compare-word : length a ≤ max_count → (words_of (comparison a b)).pairs ≡ pairs a b
  compare-word = Spellings.pairs-word a b

  -- the order of the two does not matter
  pub compare-swapped : comparison a b ≡ comparison b a
  compare-swapped = Spellings.swapped a b
