-- Plans that canonical text can be written of and read back, with what of the operation list that takes: left sides; arguments; calls;
-- plans. What the plan of an accepted document has, and all that lexing and reading a canonical text need.
use mathlib.Core.Path.{◌≡◌}
use mathlib.Core.List.{List, [], ◌∷◌}
use mathlib.Core.Option.{some}
use Prim.Native.Nat.{ℕ, ◌<◌}
use lib.ListN.{length}
use Rattle.lexis.specs.Sizes.{max_brackets}
use Rattle.lexis.specs.Lexer.{Token}
use Rattle.syntax.specs.Tree.{Ty, Tys, Param, Header}
use Rattle.syntax.specs.Tree.Ty.{tuple_of}
use Rattle.syntax.specs.Tree.Tys.{a-type}
use Rattle.syntax.specs.Grammar.{names, both}
use Rattle.lists.specs.Names.{repeats}
use Rattle.lists.specs.ListRules.{param_names}
use Rattle.lists.specs.Found.{find}
use Rattle.lists.specs.Reading.{Val, Vals, v_tuple, a-val, result_type}
use Rattle.writing.specs.Plan.{Plan, PlanCall}
use Rattle.writing.specs.Pieces.{Piece}
use Rattle.writing.specs.Layout.{pieces, left_pieces}
use Rattle.writing.specs.Fit.{IsName, Fits, FitsEach}

-- a left side: a pattern that is no tuple, or the items of a tuple, which stand bare
pub data LeftFits (b : ℕ) : Ty → Val → Type 0 where
  alone : {u : Ty} {v : Val} → Fits names b u v → ((r : List Piece) → left_pieces v r ≡ pieces v r) → LeftFits b u v
  several : {u t : Ty} {us : Tys} {v w : Val} {vs : Vals}
      → Fits names b u v → Fits names b t w → FitsEach names b us vs → LeftFits b (tuple_of (a-type u (a-type t us))) (v_tuple (a-val v (a-val w vs)))

-- ---- calls and plans

-- a value for each parameter
pub data FitsParams (b : ℕ) : List Param → List Val → Type 0 where
  no-param : FitsParams b [] []
  a-param : {p : Param} {ps : List Param} {v : Val} {vs : List Val} → IsName p.name.bytes → Fits both b p.ty v → FitsParams b ps vs
      → FitsParams b (p ∷ ps) (v ∷ vs)

-- a call of a declared operation, which has parameters, of different names
pub record CallFits (hs : List Header) (c : PlanCall) : Type 0 where
  pub header : Header
  pub found : (t : Token) → t.bytes ≡ c.op → find hs t ≡ some header
  pub name : IsName c.op
  pub left : LeftFits max_brackets (result_type header.results) c.left
  pub values : FitsParams max_brackets header.params c.values
  pub some-param : 0 < length header.params
  pub distinct : repeats (param_names header.params) ≡ []

-- one call or more; one name or more
pub data CallsFit (hs : List Header) : List PlanCall → Type 0 where
  one-call : {c : PlanCall} → CallFits hs c → CallsFit hs (c ∷ [])
  more-calls : {c : PlanCall} {cs : List PlanCall} → CallFits hs c → CallsFit hs cs → CallsFit hs (c ∷ cs)

pub data NamesFit : List (List ℕ) → Type 0 where
  one_name : {w : List ℕ} → IsName w → NamesFit (w ∷ [])
  more-names : {w : List ℕ} {ws : List (List ℕ)} → IsName w → NamesFit ws → NamesFit (w ∷ ws)

pub record PlanFits (hs : List Header) (p : Plan) : Type 0 where
  pub graph : IsName p.graph
  pub inputs : NamesFit p.inputs
  pub outputs : NamesFit p.outputs
  pub calls : CallsFit hs p.calls
