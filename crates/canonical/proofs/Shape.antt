-- The trees that canonical text is read as: every argument has its parameter's name, in declared order, and reads as the plan's value;
-- left sides read as the plan's patterns; names are the plan's.
use mathlib.Core.Path.{◌≡◌}
use mathlib.Core.List.{List, [], ◌∷◌}
use mathlib.Core.Option.{some}
use Rattle.lexis.specs.Ascii.{ascii}
use Rattle.lexis.specs.Lexer.{Token}
use Rattle.syntax.specs.Tree.{Value, Param, Header, Arg, Call, Document}
use Rattle.syntax.specs.Tree.Arg.{named}
use Rattle.lists.specs.Names.{repeats}
use Rattle.lists.specs.ListRules.{param_names}
use Rattle.lists.specs.Found.{find}
use Rattle.lists.specs.Reading.{Val, read_at, result_type}
use Rattle.writing.specs.Plan.{Plan, PlanCall, spellings}

pub data Named : List Param → List Val → List Arg → Type 0 where
  no-arg : Named [] [] []
  an-arg : {p : Param} {ps : List Param} {v : Val} {vs : List Val} {t : Token} {w : Value} {xs : List Arg}
      → t.bytes ≡ p.name.bytes → read_at w p.ty ≡ some v → Named ps vs xs → Named (p ∷ ps) (v ∷ vs) (named t w ∷ xs)

pub record CanonCall (hs : List Header) (c : PlanCall) (t : Call) : Type 0 where
  pub header : Header
  pub op : t.op.bytes ≡ c.op
  pub found : find hs t.op ≡ some header
  pub left : read_at t.left (result_type header.results) ≡ some c.left
  pub args : Named header.params c.values t.args
  pub distinct : repeats (param_names header.params) ≡ []

pub data CanonCalls (hs : List Header) : List PlanCall → List Call → Type 0 where
  no-calls : CanonCalls hs [] []
  a_call : {c : PlanCall} {t : Call} {cs : List PlanCall} {ts : List Call} → CanonCall hs c t → CanonCalls hs cs ts → CanonCalls hs (c ∷ cs) (t ∷ ts)

pub record CanonDocument (hs : List Header) (p : Plan) (d : Document) : Type 0 where
  pub version : d.version.bytes ≡ ascii "1.0"
  pub graph : d.graph.bytes ≡ p.graph
  pub inputs : spellings d.inputs ≡ p.inputs
  pub outputs : spellings d.outputs ≡ p.outputs
  pub calls : CanonCalls hs p.calls d.calls
