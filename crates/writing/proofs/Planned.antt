-- What a call and a document with a plan have. First the parts of an option that is there.
use mathlib.Core.Path.{◌≡◌, refl}
use mathlib.Core.List.{List, [], ◌∷◌}
use mathlib.Core.Option.{Option, some}
use mathlib.Core.Option.{none as nothing}
use Prim.Native.Nat.{ℕ}
use native.Mathlib.Omega.{arith}
use Rattle.syntax.specs.Tree.{Header, Call, Document}
use Rattle.lists.specs.Reading.{Val, bind, read_at, result_type}
use Rattle.lists.specs.Found.{find}
use Rattle.documents.specs.Binding.{slots}
use Rattle.writing.specs.Plan.{PlanCall, Plan, values_for, plan_call, plan_calls, spellings, plan_of}

-- ---- options

pub nothing-some : {A C : Type 0} {a : A} → ◌≡◌ {A = Option A} nothing (some a) → C
nothing-some h = let z : ◌≡◌ {A = ℕ} 0 1 = cc in absurd (omega arith)

-- what is bound, and what it gives
pub record Bound {A B : Type 0} (o : Option A) (k : A → Option B) (b : B) : Type 0 where
  pub it : A
  pub there : o ≡ some it
  pub gives : k it ≡ some b

pub bound : {A B : Type 0} (o : Option A) (k : A → Option B) {b : B} → bind o k ≡ some b → Bound o k b
bound nothing k h = nothing-some h
bound (some a) k h = record { it = a; there = refl; gives = h }

-- two that are there, and what is made of them
pub record Both {A B C : Type 0} (o : Option A) (q : Option B) (f : A → B → C) (c : C) : Type 0 where
  pub one : A
  pub two : B
  pub one-there : o ≡ some one
  pub two-there : q ≡ some two
  pub made : f one two ≡ c

pub both : {A B C : Type 0} (o : Option A) (q : Option B) (f : A → B → C) {c : C} → bind o (λ a. bind q (λ b. some (f a b))) ≡ some c → Both o q f c
both nothing q f h = nothing-some h
both (some a) nothing f h = nothing-some h
both (some a) (some b) f h = record { one = a; two = b; one-there = refl; two-there = refl; made = cc }

-- ---- calls

pub record Planned (hs : List Header) (c : Call) (p : PlanCall) : Type 0 where
  pub header : Header
  pub found : find hs c.op ≡ some header
  pub op : c.op.bytes ≡ p.op
  pub left : read_at c.left (result_type header.results) ≡ some p.left
  pub values : values_for (slots header.params c.args) ≡ some p.values

pub planned : (hs : List Header) (c : Call) {p : PlanCall} → plan_call hs c ≡ some p → Planned hs c p
unfolding plan_call
planned hs c h =
    let made : Val → List Val → PlanCall = λ l vs. record { op = c.op.bytes; left = l; values = vs } in
    let x = bound (find hs c.op)
    (λ g. bind (read_at c.left (result_type g.results)) (λ l. bind (values_for (slots g.params c.args)) (λ vs. some (made l vs)))) h in
    let y = both (read_at c.left (result_type x.it.results)) (values_for (slots x.it.params c.args)) made x.gives in
    let d : Planned hs c (made y.one y.two) = record { header = x.it; found = x.there; op = refl; left = y.one-there; values = y.two-there } in
    rw y.made at d

pub data AllPlanned (hs : List Header) : List Call → List PlanCall → Type 0 where
  none-planned : AllPlanned hs [] []
  more-planned : {c : Call} {p : PlanCall} {cs : List Call} {ps : List PlanCall} → Planned hs c p → AllPlanned hs cs ps → AllPlanned hs (c ∷ cs) (p ∷ ps)

all-planned : (hs : List Header) (cs : List Call) {ps : List PlanCall} → plan_calls hs cs ≡ some ps → AllPlanned hs cs ps
unfolding plan_calls
all-planned hs [] {ps} h = let e : [] ≡ ps = cc in rw (← e) none-planned
all-planned hs (c ∷ cs) h =
    let x = both (plan_call hs c) (plan_calls hs cs) (λ p ps. p ∷ ps) h in
    rw (← x.made) (more-planned (planned hs c x.one-there) (all-planned hs cs x.two-there))

-- ---- documents

pub record PlannedDocument (hs : List Header) (d : Document) (p : Plan) : Type 0 where
  pub graph : d.graph.bytes ≡ p.graph
  pub inputs : spellings d.inputs ≡ p.inputs
  pub outputs : spellings d.outputs ≡ p.outputs
  pub calls : AllPlanned hs d.calls p.calls

pub planned-document : (hs : List Header) (d : Document) {p : Plan} → plan_of hs d ≡ some p → PlannedDocument hs d p
unfolding plan_of
planned-document hs d {p} h =
    let made : List PlanCall → Plan = λ cs. record { graph = d.graph.bytes; inputs = spellings d.inputs; outputs = spellings d.outputs; calls = cs } in
    let x = bound (plan_calls hs d.calls) (λ cs. some (made cs)) h in
    let e : made x.it ≡ p = cc x.gives in
    let q : PlannedDocument hs d (made x.it) = record { graph = refl; inputs = refl; outputs = refl; calls = all-planned hs d.calls x.there } in
    rw e at q
