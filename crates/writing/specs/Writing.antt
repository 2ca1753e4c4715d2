-- What only the contracts of the writing code cite: what storing bytes from a place of the output on leaves there, how far the place
-- goes on, and that the pieces of a part were put. A byte beyond the output is counted and not stored.
use Rattle.std.specs.Prelude.{ℕ, suc, ◌+◌, ◌-◌, ◌*◌, ◌<◌, ◌≤◌, ◌≡◌, Bool, true, false, cond, not, ◌&&◌, eqb, leb, ltb, length, set, drop, get_or}
use mathlib.Core.List.{List, [], ◌∷◌, flat_map}
use Rattle.std.proofs.Math.Option.{Option, some, none as nothing}
use Rattle.spellings.specs.Comparison.{same_bytes}
use Rattle.lexis.specs.Ascii.{ascii, byte}
use Rattle.lexis.specs.Bytes.{among, is_digit, span_len}
use Rattle.lexis.specs.Sizes.{max_text, max_tokens, max_number, max_brackets}
use Rattle.lexis.specs.Kind as Kind
use Rattle.lexis.specs.Number.{parts_of, value_from, in_range}
use Rattle.lexis.specs.Lexer.{Token}
use Rattle.lexis.specs.Symbol.{sym_of, left_round, right_round, left_square, minus}
use Rattle.syntax.specs.Tree.{Value, Values, Ty, Tys, Param, Header, Arg, Call, Document}
use Rattle.syntax.specs.Tree.Arg.{positional, named}
use Rattle.syntax.specs.Grammar.{Leaves, names, both, Spells, Items, IsTypeName}
use Rattle.syntax.specs.Parser.{Parse, plain, commas, row, value, argument, call, parse_document}
use Rattle.syntax.specs.Parser.Parse.{ok, bad}
use Rattle.syntax.specs.Inner.{lookahead}
use Rattle.syntax.specs.Table.{kind_at, token_at, toks}
use Rattle.syntax.specs.Tokens.{from}
use Rattle.syntax.specs.declared.tokens.Tokens.{Tokens}
use Rattle.lists.specs.Fault.{first}
use Rattle.lists.specs.Reading.{Val, Vals, is_number, name_at, literal_at, read_at, read_all, read_each}
use Rattle.lists.specs.ListRules.{list_faults}
use Rattle.lists.specs.Lists.{header_faults}
use Rattle.lists.specs.Found.{find}
use Rattle.lists.specs.Fitting.{stacked, IsBase, Columns, InArray}
use Rattle.lists.specs.Directory.{ParameterAt, OperationAt, OperationsAt}
use Rattle.documents.specs.Binding as Binding
use Rattle.documents.specs.Binding.{misplaced}
use Rattle.documents.specs.Calls.{Calls}
use Rattle.documents.specs.DocumentRules.{argument_faults, document_faults}
use Rattle.documents.specs.Judged.{Readable}
use Rattle.documents.specs.Records.{call_size, Stored}
use Rattle.documents.specs.Tables.{call_record}
use Rattle.documents.specs.Tallies.{Declares, Nth}
use Rattle.documents.specs.Callees.{Takes}
use Rattle.documents.specs.declared.callee.Callee.{Callee}
use Rattle.documents.specs.declared.operation.Operation.{Operation}
use Rattle.writing.specs.declared.place.Place.{Place}
use Rattle.writing.specs.declared.writer.Writer.{Writer}
use Rattle.writing.specs.declared.argument.Walk.{Walk}
use Rattle.writing.specs.declared.argument.Aim.{Aim}
use Rattle.writing.specs.Plan.{PlanCall, Plan, value_for, values_for, plan_call, plan_calls, plan_of}
use Rattle.writing.specs.Pieces.{Piece, text}
use Rattle.writing.specs.Layout.{mark, piece, name_piece, pieces, items, argument_pieces, arguments_pieces, call_pieces, calls_pieces, document_pieces}

-- ---- bytes and tokens

-- the last number of a word: what is counted stops there
abbrev pub max_count : ℕ
max_count = 18446744073709551615

-- one more
unfoldable pub one_more : ℕ → ℕ
one_more n = cond (ltb n max_count) (suc n) n

-- one byte in its place
unfoldable pub store_byte : List ℕ → ℕ → ℕ → List ℕ
store_byte out at b = cond (ltb at (length out)) (set out at b) out

-- all bytes of a list
unfoldable pub passed : ℕ → List ℕ → ℕ
passed at [] = at
passed at (b ∷ bs) = passed (one_more at) bs

unfoldable pub stored : List ℕ → ℕ → List ℕ → List ℕ
stored out at [] = out
stored out at (b ∷ bs) = stored (store_byte out at b) (one_more at) bs

-- a token for each piece
unfoldable pub tallied : ℕ → List Piece → ℕ
tallied n [] = n
tallied n (p ∷ ps) = tallied (one_more n) ps

-- where pieces end that begin at a place
unfoldable pub place_after : Place → List Piece → Place
place_after s ps = record { bytes = passed s.bytes (text ps); tokens = tallied s.tokens ps }

-- a text that ends at this place keeps the byte and token limits
abbrev pub keeps_limits : Place → Bool
keeps_limits s = leb s.bytes max_text && leb s.tokens max_tokens

-- These bytes were stored from the writer's position on, in the output that it lends, and no token was counted.
pub record Wrote (bs : List ℕ) (out out' : Writer) : Type 0 where
  pub same : out'.out.ghost_name ≡ out.out.ghost_name
  pub bytes : out'.out.now ≡ stored out.out.now out.place.bytes bs
  pub end : out'.place.bytes ≡ passed out.place.bytes bs
  pub tokens : out'.place.tokens ≡ out.place.tokens

-- one token more is counted
abbrev pub one_token : Writer → Writer
one_token out = record { out = out.out; place = record { bytes = out.place.bytes; tokens = one_more out.place.tokens } }

-- The pieces of a part were put into the output that the writer lends, from its place on: whatever follows them goes on from there.
pub record Puts (part : List Piece → List Piece) (out out' : Writer) : Type 0 where
  pub same : out'.out.ghost_name ≡ out.out.ghost_name
  pub bytes : (r : List Piece) → stored out.out.now out.place.bytes (text (part r)) ≡ stored out'.out.now out'.place.bytes (text r)
  pub place : (r : List Piece) → place_after out.place (part r) ≡ place_after out'.place r

-- one piece of these bytes, whatever its kind
abbrev pub PutsWord : List ℕ → Writer → Writer → Type 0
PutsWord w out out' = (k : ℕ) → Puts (λ r. piece k w ∷ r) out out'

-- The pieces of a part were put, or the writing was left at a place beyond the limits, where whatever text has these pieces is beyond them.
pub data PutsWithin (part : List Piece → List Piece) (out out' : Writer) : Type 0 where
  put : Puts part out out' → PutsWithin part out out'
  over : keeps_limits out'.place ≡ false → ((r : List Piece) → keeps_limits (place_after out.place (part r)) ≡ false) → PutsWithin part out out'

-- where the first byte is put
abbrev pub start : Place
start = record { bytes = 0; tokens = 0 }

-- all of these pieces were put from the first byte on, or the writing was left beyond the limits, where they are
pub data PutsAll (ps : List Piece) (out out' : List ℕ) (s : Place) : Type 0 where
  all-put : out' ≡ stored out 0 (text ps) → s ≡ place_after start ps → PutsAll ps out out' s
  left_over : keeps_limits s ≡ false → keeps_limits (place_after start ps) ≡ false → PutsAll ps out out' s

-- ---- digits

-- the digits w from place i on spell the number that all of them spell, and no zero leads them but a last digit
pub record Unpadded (w : List ℕ) (i : ℕ) : Type 0 where
  pub within : i ≤ length w
  pub inside : 0 < length w → i < length w
  pub same : value_from 0 (drop i w) ≡ value_from 0 w
  pub leading : i + 1 < length w → get_or w i 0 ≡ byte "0" → ⊥

-- one digit or more, and nothing else
pub record AreDigits (w : List ℕ) : Type 0 where
  pub begun : 0 < length w
  pub digits : span_len is_digit w ≡ length w

-- ---- values

-- a sign, where there is one and the number is not zero
abbrev pub sign_if : Bool → Bool → List Piece → List Piece
sign_if negative zero r = cond (negative && not zero) (piece Kind.operator (ascii "-") ∷ r) r

-- a token of kind k and bytes w is as the lexer has it: a number is in range and not too long, and a whole one has digits alone
pub record AsLexed (k : ℕ) (w : List ℕ) : Type 0 where
  pub number : is_number k ≡ true → (in_range w (parts_of w) ≡ true) × (length w ≤ max_number)
  pub whole : k ≡ Kind.whole → AreDigits w

-- every token of a table is as the lexer has it
pub record Ranged (text table : List ℕ) (n : ℕ) : Type 0 where
  pub within : (i : ℕ) → i < n → AsLexed (kind_at table i) (token_at text table i).bytes

-- the value of a leaf at a type, with a sign before it or without one
abbrev pub leaf_at : Ty → Bool → Token → Option Val
leaf_at u negative t = cond (eqb t.kind Kind.name) (name_at u t.bytes) (literal_at u negative t.kind t.bytes)

-- the leaf at place i was put at the type word `at`, and ends before place `next`
abbrev pub PutsLeaf : List ℕ → List ℕ → ℕ → ℕ → Bool → ℕ → Writer → Writer → ℕ → Type 0
PutsLeaf text table n i negative at out out' next =
    (u : Ty) (w : Val) → i < n → IsTypeName at u → leaf_at u negative (token_at text table i) ≡ some w
    → Puts (pieces w) out out' × (next ≡ i + 1)

-- how many tokens stand before that of a leaf that begins with the terminal c: a sign, or none
abbrev pub signs_of : ℕ → ℕ
signs_of c = cond (eqb c minus) 1 0

-- these tokens begin with an opening bracket, square or round, of terminal c
pub record Opens (ts : List Token) (c : ℕ) : Type 0 where
  pub seen : c ≡ lookahead ts
  pub bracket : (c ≡ left_square → ⊥) → c ≡ left_round

-- the value at place i, read at the base that begins ts under k pairs, was put; it ends before place `next`
abbrev pub PutsValue : List ℕ → List ℕ → ℕ → ℕ → List Token → ℕ → Writer → Writer → ℕ → Type 0
PutsValue text table n i ts k out out' next =
    (m : Leaves) (b : ℕ) (v : Value) (us : List Token) (c : ℕ) (u : Ty) (ws : List Token) (w : Val) → Spells m b (toks text table n i) v us → IsBase c ts u ws
    → read_at v (stacked k u) ≡ some w
    → Puts (pieces w) out out' × (us ≡ toks text table n next)

-- the items of an array from place i on, and its closing bracket
abbrev pub PutsArray : List ℕ → List ℕ → ℕ → ℕ → List Token → ℕ → Writer → Writer → ℕ → Type 0
PutsArray text table n i ts k out out' next =
    (m : Leaves) (b : ℕ) (vs : Values) (us : List Token) (c : ℕ) (u : Ty) (xs : List Token) (ws : Vals) → InArray m b (toks text table n i) vs us
    → IsBase c ts u xs → read_all vs (stacked k u) ≡ some ws
    → Puts (λ r. items ws (mark (ascii "]") ∷ r)) out out' × (us ≡ toks text table n next)

-- the items of a tuple from place i on, and its closing bracket
abbrev pub PutsTuple : List ℕ → List ℕ → ℕ → ℕ → List Token → Writer → Writer → ℕ → Type 0
PutsTuple text table n i ts out out' next =
    (m : Leaves) (b : ℕ) (vs : Values) (us : List Token) (c : ℕ) (cs : Tys) (xs : List Token) (ws : Vals) → Items m right_round b (toks text table n i) vs us
    → Columns 0 c ts cs xs → read_each vs cs ≡ some ws
    → Puts (λ r. items ws (mark (ascii ")") ∷ r)) out out' × (us ≡ toks text table n next)

-- ---- patterns

-- the tokens of a left side: a bracket or a comma by its one byte, a name by its spelling
unfoldable pub pattern_piece : Token → Piece
pattern_piece t = cond (among (ascii ",[]()") (sym_of t)) (mark (sym_of t ∷ [])) (name_piece t.bytes)

unfoldable pub pattern_pieces : List Token → List Piece → List Piece
pattern_pieces [] r = r
pattern_pieces (t ∷ ts) r = pattern_piece t ∷ pattern_pieces ts r

-- one value that begins with a round bracket stands from place i up to place `equal`
abbrev pub ends_at : ℕ → ℕ → Parse Value → Bool
ends_at n j (ok v us) = eqb (n - length us) j
ends_at n j (bad c us) = false

unfoldable pub is_bracketed : List ℕ → List ℕ → ℕ → ℕ → ℕ → Bool
is_bracketed text table n i equal = eqb (lookahead (toks text table n i)) left_round && ends_at n equal (value names max_brackets (toks text table n i))

-- ---- arguments

-- the value for the parameter p, number k, of these arguments, the first of them being number j: the positional one of its number, or
-- the first one of its name
unfoldable pub argument_for : ℕ → ℕ → Param → List Arg → Option Value
argument_for j k p [] = nothing
argument_for j k p (positional v ∷ xs) = let r = argument_for (suc j) k p xs in cond (eqb j k) (some v) r
argument_for j k p (named t v ∷ xs) = let r = argument_for (suc j) k p xs in cond (same_bytes p.name.bytes t.bytes) (some v) r

-- the value that stands at a place, 0 for none
pub data ValueAt (text table : List ℕ) (n : ℕ) : ℕ → Option Value → Type 0 where
  no_value : ValueAt text table n 0 nothing
  a-value : {i : ℕ} {v : Value} {us : List Token} → 0 < i → value both max_brackets (toks text table n i) ≡ ok v us → ValueAt text table n i (some v)

-- the slots hold the place of the value that these arguments have for each parameter
abbrev pub Slotted : List ℕ → List ℕ → ℕ → List Param → List Arg → List ℕ → Type 0
Slotted text table n ps xs slots = (k : ℕ) (p : Param) → Nth k p ps → ValueAt text table n (get_or slots k 0) (argument_for 0 k p xs)

-- the place v for parameter p, if it is one of so many and has none
unfoldable pub slot_set : List ℕ → ℕ → ℕ → ℕ → List ℕ
slot_set slots count p v = cond (ltb p count && eqb (get_or slots p 0) 0) (set slots p v) slots

-- a is what the argument x, number j, is for: its value is for the parameter of that number and for no other
pub record AimsAt (text table : List ℕ) (n : ℕ) (ps : List Param) (j : ℕ) (x : Arg) (us : List Token) (a : Aim) : Type 0 where
  pub tree : Value
  pub reads : value both max_brackets (toks text table n a.value) ≡ ok tree us
  pub binds : (k : ℕ) (p : Param) → Nth k p ps → argument_for j k p (x ∷ []) ≡ cond (eqb a.number k) (some tree) nothing

-- whatever argument stands at the walk's place, and whatever parameters the operation declares
abbrev pub Aims : Tokens → Callee → Walk → Aim → Type 0
Aims doc c w r =
    (ps : List Param) (x : Arg) (us : List Token) → Takes c ps
    → argument max_brackets (from doc w.at) ≡ ok x us → AimsAt doc.text.now doc.table.now doc.count ps w.index x us r

-- the arguments from place i on were bound in slots that were empty; the bracket at place r closes them
abbrev pub BindsAll : Tokens → ℕ → Callee → List ℕ → List ℕ → ℕ → Type 0
BindsAll doc i c slots slots' r =
    (ps : List Param) (xs : List Arg) (us : List Token) → Takes c ps
    → row plain (commas right_round) (argument max_brackets) (from doc i) ≡ ok xs us → ((k : ℕ) → get_or slots k 0 ≡ 0)
    → Slotted doc.text.now doc.table.now doc.count ps xs slots' × (us ≡ from doc (r + 1)) × (r < doc.count)

-- the record of the callee's parameter i is that of p
abbrev pub Has : Callee → ℕ → Param → Type 0
Has c i p = ParameterAt c.list.text.now c.list.table.now c.words.now c.list.count (c.operation.first + i) p

-- the value of the callee's parameter i was put: the one at place v, or the default where v is 0
abbrev pub PutsBound : Tokens → ℕ → Callee → ℕ → Writer → Writer → Type 0
PutsBound doc v c i out out' =
    (p : Param) (o : Option Value) (w : Val) → Has c i p
    → ValueAt doc.text.now doc.table.now doc.count v o → value_for (record { param = p; value = o }) ≡ some w → Puts (pieces w) out out'

-- and its name before it
abbrev pub PutsArgument : Tokens → ℕ → Callee → ℕ → Writer → Writer → Type 0
PutsArgument doc v c i out out' =
    (p : Param) (o : Option Value) (w : Val) → Has c i p
    → ValueAt doc.text.now doc.table.now doc.count v o → value_for (record { param = p; value = o }) ≡ some w → Puts (argument_pieces p w) out out'

-- the arguments of all parameters of an operation were put, whose values stand at these places
abbrev pub PutsSlots : Tokens → List ℕ → Callee → Writer → Writer → Type 0
PutsSlots doc slots c out out' =
    (ps : List Param) (xs : List Arg) (vs : List Val) → Takes c ps
    → Slotted doc.text.now doc.table.now doc.count ps xs slots → misplaced ps xs ≡ []
    → values_for (Binding.slots ps xs) ≡ some vs → Puts (arguments_pieces ps vs) out out'

-- those of the arguments from place i on, which the bracket at place `close` closes
abbrev pub PutsArguments : Tokens → ℕ → Callee → Writer → Writer → ℕ → Type 0
PutsArguments doc i c out out' close =
    (ps : List Param) (xs : List Arg) (us : List Token) (vs : List Val) → Takes c ps
    → row plain (commas right_round) (argument max_brackets) (from doc i) ≡ ok xs us → misplaced ps xs ≡ []
    → values_for (Binding.slots ps xs) ≡ some vs
    → Puts (arguments_pieces ps vs) out out' × (us ≡ from doc (close + 1)) × (close < doc.count)

-- ---- calls

-- the operations that the records of so many calls name can be read
pub record ReadableOps (words records : List ℕ) (n calls : ℕ) : Type 0 where
  pub named : (i : ℕ) → i < calls → Readable words n (get_or records (i * call_size) 0)

-- the call at place i, whose operation is number k of the directory, was put, and another may stand at place `next`
abbrev pub PutsCall : Tokens → List ℕ → ℕ → Tokens → ℕ → Writer → Writer → ℕ → Type 0
PutsCall list words k doc i out out' next =
    (hs : List Header) (h : Header) (c : Call) (us : List Token) (p : PlanCall) → OperationAt list.text.now list.table.now words list.count k h
    → first (header_faults h) ≡ nothing → find hs c.op ≡ some h → call max_brackets (from doc i) ≡ ok c us → argument_faults hs c ≡ []
    → plan_call hs c ≡ some p → Puts (call_pieces hs p) out out' × (us ≡ from doc next)

-- the headers hs stand in the directory without faults, and the records of the calls cs name their operations
pub record CallsRecorded (list : Tokens) (words records : List ℕ) (calls : ℕ) (hs : List Header) (cs : List Call) : Type 0 where
  pub operations : OperationsAt list.text.now list.table.now words list.count 0 hs
  pub clean : first (list_faults hs) ≡ nothing
  pub counted : calls ≡ length cs
  pub called : Stored records 0 (flat_map (call_record hs) cs)

-- the calls from place i on were put, up to the limits
abbrev pub PutsCalls : Tokens → List ℕ → List ℕ → Tokens → ℕ → ℕ → Writer → Writer → Type 0
PutsCalls list words records doc calls i out out' =
    (hs : List Header) (cs : List Call) (us : List Token) (ps : List PlanCall) → CallsRecorded list words records calls hs cs
    → Calls max_brackets (from doc i) cs us → flat_map (argument_faults hs) cs ≡ [] → plan_calls hs cs ≡ some ps
    → PutsWithin (calls_pieces hs ps) out out'

-- the whole document was put, up to the limits
abbrev pub PutsDocument : Tokens → List ℕ → List ℕ → Tokens → ℕ → List ℕ → List ℕ → Place → Type 0
PutsDocument list words records doc calls out out' r =
    (hs : List Header) (d : Document) (p : Plan) → CallsRecorded list words records calls hs d.calls
    → parse_document (from doc 0) ≡ ok d [] → document_faults hs d ≡ [] → plan_of hs d ≡ some p
    → PutsAll (document_pieces hs p) out out' r
