-- The records of calls and wires as the walk over the calls keeps them, in one slice: those of calls in front, those of wires behind.
use Rattle.std.specs.Prelude.{ℕ, ◌+◌, ◌-◌, ◌*◌, ◌<◌, ◌≤◌, ◌≡◌, cond, eqb, ltb, length, get_or, Option, Some, None}
use mathlib.Core.List.{List, [], ◌∷◌, ◌++◌, flat_map}
use Rattle.std.proofs.lemmas.List.Edits.{sets}
use Rattle.lexis.specs.Sizes.{max_calls, max_uses, call_words, wire_words}
use Rattle.lexis.specs.Lexer.{Token}
use Rattle.syntax.specs.Tree.{Header, Call, Document}
use Rattle.lists.specs.Names.{all_used}
use Rattle.documents.specs.Tables.{call_record, call_table, assigner, wire_table}
use Rattle.documents.specs.Naming.{Entry, entry_number}

-- ---- layout

-- the words of a call's record, and of a wire's
abbrev pub call_size : ℕ
call_size = 4

abbrev pub wire_size : ℕ
wire_size = 2

-- the first wire stands behind the records of all calls
abbrev pub first_wire : ℕ
first_wire = call_words

abbrev pub records_words : ℕ
records_words = call_words + wire_words

-- the words xs stand from word `at` on
abbrev pub Stored : List ℕ → ℕ → List ℕ → Type 0
Stored records at xs = (j : ℕ) → j < length xs → get_or records (at + j) 0 ≡ get_or xs j 0

-- ---- stores

-- the record of call k, if it is not beyond the size
unfoldable pub call_stored : List ℕ → ℕ → List ℕ → List ℕ
call_stored records k xs = cond (ltb k max_calls) (sets records (k * call_size) xs) records

-- the wire of use u, if it is not beyond the size
unfoldable pub wire_stored : List ℕ → ℕ → List ℕ → List ℕ
wire_stored records u xs = cond (ltb u max_uses) (sets records (first_wire + u * wire_size) xs) records

-- the index of the call that assigns an identifier and is counted a from 1; 0 where it is none of k calls
abbrev pub wired : ℕ → ℕ → ℕ
wired a k = cond (eqb a 0) 0 (cond (ltb k a) 0 (a - 1))

-- the same where there may be none
abbrev pub earlier_call : ℕ → ℕ → Option ℕ
earlier_call a k = cond (eqb a 0) None (cond (ltb k a) None (Some (a - 1)))

-- the words of a use in a call that k calls come before
abbrev pub use_words : List Entry → ℕ → Token → List ℕ
use_words made k t = t.start ∷ wired (entry_number made t.bytes) k ∷ []

-- the wires of these uses, the first of which is number u
unfoldable pub wires_stored : List Entry → ℕ → List ℕ → ℕ → List Token → List ℕ
wires_stored made k records u [] = records
wires_stored made k records u (t ∷ ts) = wires_stored made k (wire_stored records u (use_words made k t)) (u + 1) ts

-- ---- what is kept

-- the words of a wire
abbrev pub wire_of : List Call → Token → List ℕ
wire_of cs t = t.start ∷ assigner cs t ∷ []

-- the records of the calls ds and of their wires stand there, whatever calls follow
pub record TablesRecorded (records : List ℕ) (hs : List Header) (ds : List Call) : Type 0 where
  pub few : length ds ≤ max_calls
  pub uses : length (all_used ds) ≤ max_uses
  pub called : Stored records 0 (flat_map (call_record hs) ds)
  pub wires : (rest : List Call) → Stored records first_wire (flat_map (wire_of (ds ++ rest)) (all_used ds))

-- both tables of a document of so many calls and uses stand there
pub record Kept (records : List ℕ) (hs : List Header) (d : Document) (calls uses : ℕ) : Type 0 where
  pub counted : calls ≡ length d.calls
  pub counted_uses : uses ≡ length (all_used d.calls)
  pub few : calls ≤ max_calls
  pub few_uses : uses ≤ max_uses
  pub called : Stored records 0 (call_table hs d)
  pub wires : Stored records first_wire (wire_table d)
