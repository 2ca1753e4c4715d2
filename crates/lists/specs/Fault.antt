-- Faults of a rule stage, and the one that the stage answers. Relies on nothing.
use Rattle.std.specs.Prelude.{ℕ, ◌≤◌, ◌<◌, ◌≡◌, Bool, true, false, cond, ◌&&◌, ◌||◌, eqb, ltb, leb}
use mathlib.Core.List.{List, [], ◌∷◌, map, Memᴰ}
use Rattle.std.proofs.Math.Option.{Option, some, none as nothing}
use Rattle.lexis.specs.Lexer.{Token}

-- A fault: its place, its code, and its detail, which is 0 but for code 19.
pub record Fault : Type 0 where
  pub at : ℕ
  pub code : ℕ
  pub detail : ℕ

abbrev pub fault : ℕ → ℕ → Fault
fault c p = record { at = p; code = c; detail = 0 }

-- faults of one code at each of these places
abbrev pub faults : ℕ → List ℕ → List Fault
faults c ps = map (fault c) ps

-- the places of tokens
abbrev pub starts : List Token → List ℕ
starts ts = map (λ (t : Token). t.start) ts

-- a fault where the test fails
abbrev pub unless : Bool → Fault → List Fault
unless true x = []
unless false x = x ∷ []

-- The order of faults: the smallest place first, at one place the smallest code. The detail makes the order total; it never decides,
-- since a call has one fault of code 19.
unfoldable pub before : Fault → Fault → Bool
before x y = ltb x.at y.at || (eqb x.at y.at && (ltb x.code y.code || (eqb x.code y.code && leb x.detail y.detail)))

-- the earlier of two
abbrev pub earlier_of : Fault → Fault → Fault
earlier_of x y = cond (before x y) x y

-- and where there are any
abbrev pub earlier : Option Fault → Option Fault → Option Fault
earlier nothing y = y
earlier (some x) nothing = some x
earlier (some x) (some y) = some (earlier_of x y)

-- the fault that a stage answers: the first of all
unfoldable pub first : List Fault → Option Fault
first [] = nothing
first (x ∷ xs) = earlier (some x) (first xs)

-- ---- what the theorems claim of that fault

-- x is not after y: it lies at a smaller place, or at the same place with a smaller code, or it is y but for the detail
pub data Before (x y : Fault) : Type 0 where
  by_place : x.at < y.at → Before x y
  by_code : x.at ≡ y.at → x.code < y.code → Before x y
  by-detail : x.at ≡ y.at → x.code ≡ y.code → x.detail ≤ y.detail → Before x y

-- x is the first of the faults xs: one of them, and after none of them
pub record IsFirst (x : Fault) (xs : List Fault) : Type 0 where
  pub member : Memᴰ x xs
  pub lowest : (y : Fault) → Memᴰ y xs → Before x y
