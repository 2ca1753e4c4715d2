-- A document with a plan, and the tree of the plan's canonical text: they name the same inputs and outputs, and call by call the same
-- operations and the same identifiers on the left; and the tree uses no more names than the document.
use mathlib.Core.Path.{◌≡◌, refl, sym, ap, ◌∙◌}
use mathlib.Core.List.{List, [], ◌∷◌, flat_map}
use mathlib.Core.Option.{some}
use Prim.Native.Nat.{ℕ, suc}
use lib.ListN.{length}
use Rattle.lexis.specs.Lexer.{Token}
use Rattle.syntax.specs.Tree.{Header, Call, Document}
use Rattle.syntax.specs.Grammar.{IsList}
use Rattle.lists.specs.Names.{assigned, used, all_assigned, all_used}
use Rattle.lists.specs.Reading.{result_type}
use Rattle.writing.specs.Plan.{PlanCall, Plan, spellings, plan_of}
use Rattle.canonical.proofs.Shape.{CanonCall, CanonCalls, no-calls, a_call, CanonDocument}
use Rattle.writing.proofs.Found.{find-same}
use Rattle.writing.proofs.Planned.{Planned, AllPlanned, none-planned, more-planned, planned-document}
use Rattle.canonical.proofs.Spelt.{append-same, Within, equal-within, append-within}
use Rattle.canonical.proofs.ValueNames.{read_names}
use Rattle.canonical.proofs.Defaults.{found-bare}
use Rattle.canonical.proofs.Uses.{named-uses, values-within}

-- ---- calls

pub record CallAlike (c t : Call) : Type 0 where
  pub op : c.op.bytes ≡ t.op.bytes
  pub left : spellings (assigned c) ≡ spellings (assigned t)
  pub uses : Within (spellings (used t)) (spellings (used c))

pub data Alike : List Call → List Call → Type 0 where
  none_alike : Alike [] []
  more-alike : {c t : Call} {cs ts : List Call} → CallAlike c t → Alike cs ts → Alike (c ∷ cs) (t ∷ ts)

call-alike : {b : ℕ} {list : List Token} {hs : List Header} {c t : Call} {p : PlanCall} → IsList b list hs → Planned hs c p → CanonCall hs p t → CallAlike c t
unfolding used
call-alike {hs = hs} {c = c} {t = t} l d k =
    let o : c.op.bytes ≡ t.op.bytes = d.op ∙ sym k.op in
    let s = find-same hs c.op t.op o in
    let e : k.header ≡ d.header = cc (s, k.found, d.found) in
    let w = values-within d.header.params c.args (found-bare c.op l d.found) (rw e at k.distinct) d.values in
    record {
      op = o;
      left = read_names c.left (result_type d.header.results) d.left ∙ sym (read_names t.left (result_type k.header.results) k.left);
      uses = rw (named-uses k.args) w;
    }

calls-alike : {b : ℕ} {list : List Token} {hs : List Header} {cs : List Call} {ps : List PlanCall} {ts : List Call}
    → IsList b list hs → AllPlanned hs cs ps → CanonCalls hs ps ts → Alike cs ts
calls-alike l none-planned no-calls = none_alike
calls-alike l (more-planned d ds) (a_call k ks) = more-alike (call-alike l d k) (calls-alike l ds ks)

-- ---- documents

pub record DocumentAlike (d t : Document) : Type 0 where
  pub inputs : spellings d.inputs ≡ spellings t.inputs
  pub outputs : spellings d.outputs ≡ spellings t.outputs
  pub calls : Alike d.calls t.calls

pub document-alike : {b : ℕ} {list : List Token} (hs : List Header) (d t : Document) {p : Plan}
    → IsList b list hs → plan_of hs d ≡ some p → CanonDocument hs p t → DocumentAlike d t
document-alike hs d t l h k =
    let x = planned-document hs d h in
    record { inputs = x.inputs ∙ sym k.inputs; outputs = x.outputs ∙ sym k.outputs; calls = calls-alike l x.calls k.calls }

-- ---- all calls together

pub calls-length : {cs ts : List Call} → Alike cs ts → length ts ≡ length cs
calls-length none_alike = refl
calls-length (more-alike a l) = ap suc (calls-length l)

pub calls-assign : {cs ts : List Call} → Alike cs ts → spellings (all_assigned cs) ≡ spellings (all_assigned ts)
unfolding all_assigned flat_map
calls-assign none_alike = refl
calls-assign (more-alike {c} {t} {cs} {ts} a l) = append-same (assigned c) (all_assigned cs) (assigned t) (all_assigned ts) a.left (calls-assign l)

pub calls-use : {cs ts : List Call} → Alike cs ts → Within (spellings (all_used ts)) (spellings (all_used cs))
unfolding all_used flat_map
calls-use none_alike = equal-within refl
calls-use (more-alike {c} {t} {cs} {ts} a l) = append-within (used t) (all_used ts) (used c) (all_used cs) a.uses (calls-use l)
