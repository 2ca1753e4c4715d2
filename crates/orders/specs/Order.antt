-- The rules of an order: a list of call numbers, in which every call is to stand once and each use after its assigning call. Calls and
-- places count from 0. One definition for each code.
use Rattle.std.specs.Prelude.{ℕ, suc, Bool, true, false, not, ◌&&◌, ◌||◌, eqb, ltb, length, get_or}
use mathlib.Core.List.{List, [], ◌∷◌, ◌++◌, map, flatten}
use Rattle.syntax.specs.Tree.{Call}
use Rattle.lists.specs.Fault.{Fault, fault, unless}
use Rattle.lists.specs.Names.{used}
use Rattle.documents.specs.Tables.{assigner}
use Rattle.orders.specs.Code as Code

-- for each call, the calls that assign the identifiers which it uses: all that an order must know of calls
unfoldable pub needs : List Call → List (List ℕ)
needs cs = map (λ (c : Call). map (assigner cs) (used c)) cs

-- ---- numbers that stand before a place

-- this number is among them
unfoldable pub stands : List ℕ → ℕ → Bool
stands [] k = false
stands (j ∷ js) k = eqb j k || stands js k

-- all of these are among them
unfoldable pub all_stand : List ℕ → List ℕ → Bool
all_stand js [] = true
all_stand js (k ∷ ks) = stands js k && all_stand js ks

-- ---- the rules; `ns` are the needs of all calls, `js` the numbers before the place, k the number there

-- 42: it is the number of no call
unfoldable pub range_faults : List (List ℕ) → ℕ → ℕ → List Fault
range_faults ns place k = unless (ltb k (length ns)) (fault Code.out_of_range place)

-- 43: it stands before the place too
unfoldable pub repeated_call : List ℕ → ℕ → ℕ → List Fault
repeated_call js place k = unless (not (stands js k)) (fault Code.repeated_call place)

-- 44: it uses an identifier whose assigning call does not stand before the place; a number of no call uses none
unfoldable pub early_use : List (List ℕ) → List ℕ → ℕ → ℕ → List Fault
early_use ns js place k = unless (all_stand js (get_or ns k [])) (fault Code.early_use place)

-- the faults of one place
unfoldable pub place_faults : List (List ℕ) → List ℕ → ℕ → ℕ → List Fault
place_faults ns js place k = flatten (range_faults ns place k ∷ repeated_call js place k ∷ early_use ns js place k ∷ [])

-- those of the places from one on, which the numbers js stand before
unfoldable pub faults_from : List (List ℕ) → List ℕ → ℕ → List ℕ → List Fault
faults_from ns js place [] = []
faults_from ns js place (k ∷ ks) = place_faults ns js place k ++ faults_from ns (js ++ (k ∷ [])) (suc place) ks

-- 41: there are not as many numbers as calls, at place 0
unfoldable pub wrong_length : List (List ℕ) → List ℕ → List Fault
wrong_length ns ks = unless (eqb (length ks) (length ns)) (fault Code.wrong_length 0)

-- all faults of an order
unfoldable pub order_faults : List (List ℕ) → List ℕ → List Fault
order_faults ns ks = wrong_length ns ks ++ faults_from ns [] 0 ks
