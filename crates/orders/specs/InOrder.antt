-- What the theorems claim of an order, said of numbers and places alone: when it is in order, and at which place it is at fault.
use Rattle.std.specs.Prelude.{ℕ, suc, ◌<◌, ◌≤◌, ◌≡◌, cond, ◌⊎◌, eqb, length, get_or}
use mathlib.Core.List.{List, [], ◌∷◌, Memᴰ}
use Rattle.orders.specs.Code as Code

-- how often a number stands in a list
unfoldable pub occurrences : ℕ → List ℕ → ℕ
occurrences k [] = 0
occurrences k (j ∷ js) = let n = occurrences k js in cond (eqb j k) (suc n) n

-- the numbers of n calls, each of them once
pub record Permutation (n : ℕ) (ks : List ℕ) : Type 0 where
  pub count : length ks ≡ n
  pub once : (k : ℕ) → k < n → occurrences k ks ≡ 1

-- m is a call that the call at place p needs: it assigns an identifier which that call uses
abbrev pub NeededAt : List (List ℕ) → List ℕ → ℕ → ℕ → Type 0
NeededAt ns ks p m = Memᴰ m (get_or ns (get_or ks p 0) [])

-- m stands at a place before p
pub record Earlier (ks : List ℕ) (p m : ℕ) : Type 0 where
  pub place : ℕ
  pub before : place < p
  pub stands : get_or ks place 0 ≡ m

-- every call stands once, and each call that another needs at an earlier place than that one
pub record InOrder (ns : List (List ℕ)) (ks : List ℕ) : Type 0 where
  pub every : Permutation (length ns) ks
  pub wired : (p m : ℕ) → p < length ks → NeededAt ns ks p m → Earlier ks p m

-- a place at fault, and a code that it has there
pub data AtFault (ns : List (List ℕ)) (ks : List ℕ) : ℕ → ℕ → Type 0 where
  -- 41, at place 0: there are not as many numbers as calls
  wrong-length : (length ks ≡ length ns → ⊥) → AtFault ns ks 0 Code.wrong_length
  -- 42: the number there is that of no call
  out_of_range : {p : ℕ} → p < length ks → length ns ≤ get_or ks p 0 → AtFault ns ks p Code.out_of_range
  -- 43: it stands at an earlier place too
  repeated-call : {p : ℕ} → p < length ks → Earlier ks p (get_or ks p 0) → AtFault ns ks p Code.repeated_call
  -- 44: the call there needs one that stands at no earlier place
  early-use : {p m : ℕ} → p < length ks → NeededAt ns ks p m → (Earlier ks p m → ⊥) → AtFault ns ks p Code.early_use

-- the first of them: the smallest place, and there the smallest code
pub record FirstAtFault (ns : List (List ℕ)) (ks : List ℕ) (p c : ℕ) : Type 0 where
  pub fault : AtFault ns ks p c
  pub lowest : (q d : ℕ) → AtFault ns ks q d → (p < q) ⊎ ((p ≡ q) × (c ≤ d))
