-- The lawful plans under an accepted operation list are exactly the plans of texts, of any length and with any number of tokens
-- (`lawful-exactly`); within the limits a lawful plan is the plan of its canonical text, which is accepted (`lawful-accepted`). The tree of a
-- canonical text that is accepted has the shape that `Shape` says (`canonical-tree`).
use mathlib.Core.Path.{◌≡◌, refl, subst}
use mathlib.Core.Bool.{Bool, true, false}
use mathlib.Core.List.{List, []}
use mathlib.Core.Logic.{◌↔◌}
use Prim.Native.Nat.{ℕ, ◌≤◌}
use native.Mathlib.Omega.{arith}
use lib.Dec.{leb}
use lib.ListN.{length}
use borrow.Author.Tests.{leb-true, leb-false}
use Rattle.lexis.specs.Sizes.{max_tokens, max_brackets}
use Rattle.lexis.proofs.Theorems.{placed}
use Rattle.syntax.specs.Tree.{Header, Document}
use Rattle.syntax.specs.Grammar.{IsDocument}
use Rattle.lists.specs.Accepted.{AcceptedList}
use Rattle.documents.specs.DocumentRules.{document_faults}
use Rattle.documents.specs.Accepted.{AcceptedDocument}
use Rattle.documents.proofs.Acceptance.{document-passes}
use Rattle.writing.specs.Plan.{Plan}
use Rattle.writing.specs.Pieces.{tokens_at}
use Rattle.writing.specs.Layout.{document_pieces, canonical}
use Rattle.writing.specs.Lawful.{Lawful}
use Rattle.writing.proofs.Fit.{PlanFits}
use Rattle.writing.proofs.Good.{placed-good}
use Rattle.canonical.specs.Demand.{HasPlan, ReadsAs, Keeps}
use Rattle.canonical.proofs.Shape.{CanonDocument}
use Rattle.canonical.proofs.PlanFitted.{spelt-fits}
use Rattle.canonical.proofs.CanonicalTokens.{lex-canonical, placed-canonical, lex-over}
use Rattle.canonical.proofs.RereadDocument.{document-back}
use Rattle.canonical.proofs.Replan.{canon-plan}
use Rattle.canonical.proofs.CanonicalFaults.{canon-clean}
use Rattle.canonical.proofs.LawfulFits.{lawful-fits}
use Rattle.canonical.proofs.LawfulRules.{clean-lawful, lawful-clean}

-- an accepted document reads as its plan
pub plan-reads : (hs : List Header) (doc : List ℕ) (p : Plan) → HasPlan hs doc p → ReadsAs hs doc p
plan-reads hs doc p h = record {
  tree = h.tree;
  tokens = h.accepted.tokens;
  placed = placed doc h.accepted.tokens h.accepted.lexed;
  spelt = h.accepted.spelt;
  lawful = h.accepted.lawful;
  planned = h.planned;
}

-- ---- a plan that a text reads as is lawful

pub reads-lawful : (list text : List ℕ) (hs : List Header) (p : Plan) → AcceptedList list hs → ReadsAs hs text p → Lawful hs p
reads-lawful list text hs p l r =
    let f = spelt-fits list hs p l r.spelt (placed-good r.placed) r.planned in
    let x = document-back hs p f in
    clean-lawful x.1.1 f (canon-clean list hs r.tree x.0 p l r.lawful r.planned x.1.1)

pub lawful-plan : (list doc : List ℕ) (hs : List Header) (p : Plan) → AcceptedList list hs → HasPlan hs doc p → Lawful hs p
lawful-plan list doc hs p l h = reads-lawful list doc hs p l (plan-reads hs doc p h)

-- ---- the canonical text of a lawful plan reads as the plan

-- its tree
pub lawful-tree : (list : List ℕ) (hs : List Header) (p : Plan) → AcceptedList list hs → Lawful hs p
    → (d : Document) × (IsDocument max_brackets (tokens_at 0 (document_pieces hs p)) d × (CanonDocument hs p d × (document_faults hs d ≡ [])))
lawful-tree list hs p l k =
    let x = document-back hs p (lawful-fits list hs p l k.parts) in
    (x.0, (x.1.0, (x.1.1, lawful-clean x.1.1 k)))

pub lawful-reads : (list : List ℕ) (hs : List Header) (p : Plan) → AcceptedList list hs → Lawful hs p → ReadsAs hs (canonical hs p) p
lawful-reads list hs p l k =
    let x = lawful-tree list hs p l k in
    record {
      tree = x.0;
      tokens = tokens_at 0 (document_pieces hs p);
      placed = placed-canonical hs p (lawful-fits list hs p l k.parts);
      spelt = x.1.0;
      lawful = x.1.1.1;
      planned = canon-plan hs p x.0 x.1.1.0;
    }

pub lawful-exactly : (list : List ℕ) (hs : List Header) (p : Plan) → AcceptedList list hs → Lawful hs p ↔ ReadsAs hs (canonical hs p) p
lawful-exactly list hs p l = (lawful-reads list hs p l, reads-lawful list (canonical hs p) hs p l)

-- within the limits it is accepted
lawful-document : (list : List ℕ) (hs : List Header) (p : Plan) → AcceptedList list hs → Keeps hs p → Lawful hs p
    → (d : Document) × (AcceptedDocument hs (canonical hs p) d × CanonDocument hs p d)
lawful-document list hs p l k w =
    let x = lawful-tree list hs p l w in
    let a : AcceptedDocument hs (canonical hs p) x.0 = record {
      short = k.bytes;
      tokens = tokens_at 0 (document_pieces hs p);
      lexed = lex-canonical hs p (lawful-fits list hs p l w.parts) k.tokens;
      spelt = x.1.0;
      lawful = x.1.1.1;
    } in
    (x.0, (a, x.1.1.0))

pub lawful-accepted : (list : List ℕ) (hs : List Header) (p : Plan) → AcceptedList list hs → Keeps hs p → Lawful hs p → HasPlan hs (canonical hs p) p
lawful-accepted list hs p l k w =
    let x = lawful-document list hs p l k w in
    record { tree = x.0; accepted = x.1.0; planned = canon-plan hs p x.0 x.1.1 }

-- ---- the tree of an accepted canonical text

-- a text is accepted with one tree
pub one-tree : (hs : List Header) (doc : List ℕ) (d e : Document) → AcceptedDocument hs doc d → AcceptedDocument hs doc e → d ≡ e
one-tree hs doc d e a b = cc (document-passes hs doc d a, document-passes hs doc e b)

-- a canonical text that is accepted keeps the limits
accepted-keeps : (hs : List Header) (p : Plan) {d : Document} → PlanFits hs p → AcceptedDocument hs (canonical hs p) d → Keeps hs p
accepted-keeps hs p f a = record { bytes = a.short; tokens = go (leb (length (document_pieces hs p)) max_tokens) refl }
  where
    go : (b : Bool) → leb (length (document_pieces hs p)) max_tokens ≡ b → length (document_pieces hs p) ≤ max_tokens
    go true e = leb-true (length (document_pieces hs p)) max_tokens e
    go false e =
        let r = (lex-over hs p f (leb-false (length (document_pieces hs p)) max_tokens e)).1 in
        let z : ◌≡◌ {A = ℕ} 0 1 = cc (r, a.lexed) in
        absurd (omega arith)

pub canonical-tree : (list : List ℕ) (hs : List Header) (p : Plan) → AcceptedList list hs → (g : HasPlan hs (canonical hs p) p) → CanonDocument hs p g.tree
canonical-tree list hs p l g =
    let w = lawful-plan list (canonical hs p) hs p l g in
    let x = lawful-document list hs p l (accepted-keeps hs p (lawful-fits list hs p l w.parts) g.accepted) w in
    subst (CanonDocument hs p) (one-tree hs (canonical hs p) x.0 g.tree x.1.0 g.accepted) x.1.1
