-- What only the contracts of the code cite: the needs of calls as their records have them, and what the work areas hold while an order
-- is walked: for each call the number of its first use, and a mark if it stands before the place.
use Rattle.std.specs.Prelude.{ℕ, zero, suc, ◌+◌, ◌*◌, ◌<◌, ◌≤◌, ◌≡◌, Bool, true, not, ◌&&◌, cond, List, [], ◌∷◌, eqb, ltb, length, get_or}
use Rattle.lexis.specs.Sizes.{max_calls, max_uses}
use Rattle.lexis.specs.Code as Bytes
use Rattle.lexis.specs.declared.Answer.{Answer}
use Rattle.lists.specs.Fault.{Fault, first}
use Rattle.lists.specs.Answer.{rules_stage, stage_answer}
use Rattle.documents.specs.Records.{call_size, wire_size, first_wire, records_words}
use Rattle.orders.specs.Code as Code
use Rattle.orders.specs.Order.{order_faults}

-- ---- records

-- how many identifiers call k uses; which call assigns that of use u
abbrev pub count_at : ℕ → ℕ
count_at k = k * call_size + 3

abbrev pub uses_of : List ℕ → ℕ → ℕ
uses_of records k = get_or records (count_at k) 0

abbrev pub wire_at : ℕ → ℕ
wire_at u = first_wire + u * wire_size + 1

abbrev pub call_of : List ℕ → ℕ → ℕ
call_of records u = get_or records (wire_at u) 0

-- the number of the first use of call k
unfoldable pub first_use : List ℕ → ℕ → ℕ
first_use records zero = 0
first_use records (suc k) = first_use records k + uses_of records k

-- the calls that so many uses need, from use u on
unfoldable pub needs_from : List ℕ → ℕ → ℕ → List ℕ
needs_from records u zero = []
needs_from records u (suc n) = call_of records u ∷ needs_from records (u + 1) n

-- the needs of so many calls, from call k on, whose first use is number u
unfoldable pub rows_from : List ℕ → ℕ → ℕ → ℕ → List (List ℕ)
rows_from records k u zero = []
rows_from records k u (suc n) = needs_from records u (uses_of records k) ∷ rows_from records (k + 1) (u + uses_of records k) n

abbrev pub rows : List ℕ → ℕ → List (List ℕ)
rows records n = rows_from records 0 0 n

-- the records of n calls: uses are no more than there may be, and each is of a call's identifier
pub record Bounded (records : List ℕ) (n : ℕ) : Type 0 where
  pub room : records_words ≤ length records
  pub few : n ≤ max_calls
  pub uses : first_use records n ≤ max_uses
  pub below : (u : ℕ) → u < first_use records n → call_of records u < n

-- ---- work areas

-- the number of the first use of each call
abbrev pub Firsts : List ℕ → ℕ → List ℕ → Type 0
Firsts records n firsts = (k : ℕ) → k < n → get_or firsts k 0 ≡ first_use records k

-- no call is marked
abbrev pub Unmarked : ℕ → List ℕ → Type 0
Unmarked n marks = (k : ℕ) → k < n → get_or marks k 0 ≡ 0

abbrev pub is_marked : List ℕ → ℕ → Bool
is_marked marks k = not (eqb (get_or marks k 0) 0)

unfoldable pub all_marked : List ℕ → List ℕ → Bool
all_marked marks [] = true
all_marked marks (k ∷ ks) = is_marked marks k && all_marked marks ks

-- the code of the number k, 0 for none, where the calls that stand before it are marked
unfoldable pub code_by : List (List ℕ) → List ℕ → ℕ → ℕ
code_by ns marks k =
    cond (ltb k (length ns))
    (cond (is_marked marks k) Code.repeated_call (cond (all_marked marks (get_or ns k [])) Bytes.accepted Code.early_use))
    Code.out_of_range

-- ---- answers

-- the answer of these faults of an order of n calls
abbrev pub answer_of : ℕ → List Fault → Answer
answer_of n xs = stage_answer (rules_stage 0 n (first xs)) (λ (m : ℕ). m)

-- that of an order
unfoldable pub ordered_by : List (List ℕ) → List ℕ → Answer
ordered_by ns ks = answer_of (length ns) (order_faults ns ks)
