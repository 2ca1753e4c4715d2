-- Which plans are lawful under an operation list, said of plans alone: operations are declared, values fit, left sides match, identifiers are
-- wired in order, inputs and outputs are assigned as they must be, and the sizes are kept.
use Rattle.std.specs.Prelude.{ℕ, suc, ◌≤◌, ◌<◌, ◌≡◌, cond, ◌↔◌, length}
use mathlib.Core.List.{List, [], ◌∷◌, ◌++◌, flat_map, Memᴰ}
use Rattle.std.proofs.Math.Option.{some}
use Rattle.spellings.specs.Comparison.{same_bytes}
use Rattle.lexis.specs.Ascii.{ascii}
use Rattle.lexis.specs.Sizes.{max_brackets, max_inputs, max_outputs, max_calls, max_assigned, max_uses}
use Rattle.syntax.specs.Tree.{Ty, Tys, Param, Header}
use Rattle.syntax.specs.Tree.Ty.{tuple_of}
use Rattle.syntax.specs.Tree.Tys.{a-type}
use Rattle.syntax.specs.Grammar.{names, both}
use Rattle.lists.specs.Found.{operation_of}
use Rattle.lists.specs.Reading.{Val, Vals, v_name, v_number, v_extent, v_string, v_logical, v_array, v_tuple, no-val, a-val, result_type}
use Rattle.writing.specs.Plan.{PlanCall, Plan}
use Rattle.writing.specs.Fit.{IsName, Fits, FitsEach}

-- ---- names

-- how often a name stands in a row of names
unfoldable pub times : List ℕ → List (List ℕ) → ℕ
times w [] = 0
times w (v ∷ vs) = let n = times w vs in cond (same_bytes v w) (suc n) n

-- a name stands among these
abbrev pub Among : List ℕ → List (List ℕ) → Type 0
Among w ws = 0 < times w ws

-- each name that stands among the first stands among the second
abbrev pub AllAmong : List (List ℕ) → List (List ℕ) → Type 0
AllAmong ws vs = (w : List ℕ) → Among w ws → Among w vs

-- no name stands twice
abbrev pub Distinct : List (List ℕ) → Type 0
Distinct ws = (w : List ℕ) → times w ws ≤ 1

-- one name or more, each of which is a name token
pub record Names (ws : List (List ℕ)) : Type 0 where
  pub some : 0 < length ws
  pub each : (w : List ℕ) → Memᴰ w ws → IsName w

-- the names in a value, in reading order
unfoldable mutual
  pub val_names : Val → List (List ℕ)
  val_names (v_name w) = w ∷ []
  val_names (v_number n) = []
  val_names (v_extent n) = []
  val_names (v_string s) = []
  val_names (v_logical b) = []
  val_names (v_array vs) = vals_names vs
  val_names (v_tuple vs) = vals_names vs

  pub vals_names : Vals → List (List ℕ)
  vals_names no-val = []
  vals_names (a-val v vs) = val_names v ++ vals_names vs

-- the identifiers that a call assigns, and those that it uses; and those of calls in a row
abbrev pub assigns : PlanCall → List (List ℕ)
assigns c = val_names c.left

unfoldable pub uses : PlanCall → List (List ℕ)
uses c = flat_map val_names c.values

unfoldable pub all_assigns : List PlanCall → List (List ℕ)
all_assigns cs = flat_map assigns cs

unfoldable pub all_uses : List PlanCall → List (List ℕ)
all_uses cs = flat_map uses cs

-- ---- calls

-- a left side matches the type of the results, with at most eight brackets open at once; a top tuple may stand bare, and then opens none
pub data Matches : Ty → Val → Type 0 where
  one : {u : Ty} {v : Val} → Fits names max_brackets u v → Matches u v
  several : {u t : Ty} {us : Tys} {v w : Val} {vs : Vals}
      → Fits names max_brackets u v → Fits names max_brackets t w → FitsEach names max_brackets us vs
      → Matches (tuple_of (a-type u (a-type t us))) (v_tuple (a-val v (a-val w vs)))

-- a value for each parameter, which fits its type
pub data Valued : List Param → List Val → Type 0 where
  no_value : Valued [] []
  a-value : {p : Param} {ps : List Param} {v : Val} {vs : List Val} → Fits both max_brackets p.ty v → Valued ps vs → Valued (p ∷ ps) (v ∷ vs)

-- a call of a declared operation
pub record LawfulCall (hs : List Header) (c : PlanCall) : Type 0 where
  pub header : Header
  pub declared : operation_of hs c.op ≡ some header
  pub left : Matches (result_type header.results) c.left
  pub values : Valued header.params c.values

-- ---- plans

-- what does not depend on the order of the calls
pub record LawfulParts (hs : List Header) (p : Plan) : Type 0 where
  pub graph : IsName p.graph
  pub inputs : Names p.inputs
  pub outputs : Names p.outputs
  pub some-call : 0 < length p.calls
  pub calls : (c : PlanCall) → Memᴰ c p.calls → LawfulCall hs c
  -- sizes; identifiers assigned and used are counted by their places
  pub few-inputs : length p.inputs ≤ max_inputs
  pub few-outputs : length p.outputs ≤ max_outputs
  pub few-calls : length p.calls ≤ max_calls
  pub few-assigned : length (all_assigns p.calls) ≤ max_assigned
  pub few-used : length (all_uses p.calls) ≤ max_uses
  -- inputs and outputs have different names; no identifier is assigned twice
  pub header-distinct : Distinct (p.inputs ++ p.outputs)
  pub assigned-once : Distinct (all_assigns p.calls)
  -- each input is assigned, and an identifier that a call assigns is an input exactly when the call's operation is `external`
  pub fed : AllAmong p.inputs (all_assigns p.calls)
  pub external : (c : PlanCall) → Memᴰ c p.calls → (w : List ℕ) → Among w (assigns c) → Among w p.inputs ↔ (c.op ≡ ascii "external")
  -- each output is assigned
  pub made : AllAmong p.outputs (all_assigns p.calls)

-- each identifier that a call uses is assigned by a call before it
abbrev pub WiredInOrder : List PlanCall → Type 0
WiredInOrder cs = (before : List PlanCall) (c : PlanCall) (after : List PlanCall) → cs ≡ before ++ (c ∷ after) → AllAmong (uses c) (all_assigns before)

pub record Lawful (hs : List Header) (p : Plan) : Type 0 where
  pub parts : LawfulParts hs p
  pub wired : WiredInOrder p.calls
