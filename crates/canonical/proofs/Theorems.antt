-- The claims of `canon`, each proved in a few lines from the laws below it: plans; demand 3; acceptance and refusals. An operation list of
-- the headers hs is fixed; a document is taken with its plan (`HasPlan`: it is accepted under the list). The page of the demands cites these.
use mathlib.Core.Path.{◌≡◌, refl, sym, ap, ◌∙◌}
use mathlib.Core.Bool.{Bool, true, false, ◌&&◌}
use mathlib.Core.List.{List}
use mathlib.Core.Logic.{◌↔◌}
use mathlib.Core.Option.{some}
use Prim.Native.Nat.{ℕ, ◌+◌, ◌≤◌, ◌<◌}
use native.Mathlib.Omega.{arith}
use lib.Dec.{leb}
use lib.ListN.{length, drop}
use lib.Seq.{sets, sets-eq, take-append_seam}
use borrow.Author.Tests.{le-leb, lt-leb, leb-true}
use Rattle.lexis.specs.Sizes.{max_text, max_tokens, work_words}
use Rattle.lexis.specs.Code as Code
use Rattle.lexis.specs.Answer.{answer}
use Rattle.syntax.specs.Tree.{Header, Document}
use Rattle.lists.specs.Answer.{Stage, pass, stop, and_then, guard, guarded, stage_answer, table_after}
use Rattle.lists.specs.Accepted.{AcceptedList}
use Rattle.documents.specs.Answer.{both_stages, Checked, CheckRoom, check_serves, checked, call_count, check_answer}
use Rattle.documents.specs.Accepted.{AcceptedDocument}
use Rattle.documents.proofs.Theorems.{both-pass, both-passed, guarded-good, guarded-passed, guarded-codes, answer-passed}
use Rattle.canonical.specs.Code as Writing
use Rattle.writing.specs.Plan.{Plan, plan_of}
use Rattle.writing.specs.Pieces.{Piece, text}
use Rattle.writing.specs.Layout.{document_pieces, canonical}
use Rattle.canonical.specs.Answer.{layout_of, writing_stages, text_stages, canon_serves, written, canon_answer, output_after}
use Rattle.canonical.specs.Demand.{HasPlan, Keeps, Lent, room_of, Serves, numbers, output, bytes_written}
use Rattle.writing.proofs.PlanExists.{plan-exists}
use Rattle.canonical.proofs.Lawful.{lawful-plan, lawful-accepted, one-tree}
use Rattle.canonical.proofs.CanonStages.{text_codes}

-- ---- plans

-- an accepted document has a plan
pub has-plan : (list doc : List ℕ) (hs : List Header) (d : Document) → AcceptedList list hs → AcceptedDocument hs doc d → (p : Plan) × HasPlan hs doc p
has-plan list doc hs d a b = let x = plan-exists hs d a.lawful b.lawful in (x.0, record { tree = d; accepted = b; planned = x.1 })

-- and no other
pub one-plan : (hs : List Header) (doc : List ℕ) (p q : Plan) → HasPlan hs doc p → HasPlan hs doc q → p ≡ q
one-plan hs doc p q x y = cc (x.planned, y.planned, one-tree hs doc x.tree y.tree x.accepted y.accepted)

-- ---- the stages of canon

pub layout_is : (hs : List Header) (d : Document) (p : Plan) → plan_of hs d ≡ some p → layout_of hs d ≡ document_pieces hs p
unfolding layout_of
layout_is hs d p e = rw e

-- lent the room asked, the stages that are left of an accepted document are those of writing its pieces
written-stages : (list doc : List ℕ) (hs : List Header) (p : Plan) → AcceptedList list hs → (h : HasPlan hs doc p) (l : Lent) → work_words ≤ l.work₁
    → work_words ≤ l.work₂
    → written list doc (room_of l) ≡ writing_stages (document_pieces hs p) (length l.out)
unfolding written text_stages
written-stages list doc hs p a h l w₁ w₂ =
    guarded-good (canon_serves (room_of l)) list doc (text_stages list doc (length l.out)) (rw (le-leb work_words l.work₁ w₁, le-leb work_words l.work₂ w₂))
    a.short h.accepted.short
    ∙ ap (λ (s : Stage Checked). and_then s (λ c. writing_stages (layout_of c.headers c.document) (length l.out)))
    (both-pass list doc hs a h.tree h.accepted)
    ∙ ap (λ (ps : List Piece). writing_stages ps (length l.out)) (layout_is hs h.tree p h.planned)

writing-good : (ps : List Piece) (out : ℕ) → length (text ps) ≤ max_text → length ps ≤ max_tokens → length (text ps) ≤ out → writing_stages ps out ≡ pass (text ps)
unfolding writing_stages
writing-good ps out b t o = rw (le-leb (length (text ps)) max_text b, le-leb (length ps) max_tokens t, le-leb (length (text ps)) out o)

-- and what passes them keeps the limits and fits the output
writing-kept : (hs : List Header) (p : Plan) (out : ℕ) (bytes : List ℕ) → writing_stages (document_pieces hs p) out ≡ pass bytes
    → Keeps hs p × (length (canonical hs p) ≤ out)
unfolding writing_stages canonical
writing-kept hs p out bytes e =
    go (leb (length (canonical hs p)) max_text) (leb (length (document_pieces hs p)) max_tokens) (leb (length (canonical hs p)) out) refl refl refl e
  where
    go : (a b c : Bool) → leb (length (canonical hs p)) max_text ≡ a → leb (length (document_pieces hs p)) max_tokens ≡ b → leb (length (canonical hs p)) out ≡ c
        → guard (a && b) (answer 25 0 0 0) (guard c (answer 26 0 0 (length (canonical hs p))) (pass (canonical hs p))) ≡ pass bytes
        → Keeps hs p × (length (canonical hs p) ≤ out)
    go false b c x y z e = let q : ◌≡◌ {A = ℕ} 0 1 = cc in absurd (omega arith)
    go true false c x y z e = let q : ◌≡◌ {A = ℕ} 0 1 = cc in absurd (omega arith)
    go true true false x y z e = let q : ◌≡◌ {A = ℕ} 0 1 = cc in absurd (omega arith)
    go true true true x y z e = (
      record { bytes = leb-true (length (canonical hs p)) max_text x; tokens = leb-true (length (document_pieces hs p)) max_tokens y },
      leb-true (length (canonical hs p)) out z,
    )

module _ (list : List ℕ) (hs : List Header) (fixed : AcceptedList list hs) where
  -- ---- demand 3

  module _ (doc : List ℕ) (p : Plan) (h : HasPlan hs doc p) (k : Keeps hs p) where
    written_is : (l : Lent) → Serves l (canonical hs p) → written list doc (room_of l) ≡ pass (canonical hs p)
    unfolding canonical
    written_is l s =
        written-stages list doc hs p fixed h l s.first s.second
        ∙ writing-good (document_pieces hs p) (length l.out) k.bytes k.tokens s.holds

    -- canon writes the canonical text, from the first byte of the output on, and answers 0, 0, 0 and its length
    pub canon-answers : (l : Lent) → Serves l (canonical hs p) → numbers list doc l ≡ answer 0 0 0 (length (canonical hs p))
    unfolding numbers canon_answer
    canon-answers l s = rw (written_is l s)

    pub canon-writes : (l : Lent) → Serves l (canonical hs p) → output list doc l ≡ sets l.out 0 (canonical hs p)
    unfolding output output_after
    canon-writes l s = rw (written_is l s)

    pub canon-bytes : (l : Lent) → Serves l (canonical hs p) → bytes_written list doc l ≡ canonical hs p
    unfolding bytes_written
    canon-bytes l s =
        rw (canon-answers l s, canon-writes l s, sets-eq (canonical hs p) l.out 0 (omega (arith, s.holds)))
        (take-append_seam (canonical hs p) (drop (0 + length (canonical hs p)) l.out))

    -- the canonical text is accepted under the same list, and its plan is the plan of the document that it came from
    pub again-accepted : HasPlan hs (canonical hs p) p
    again-accepted = lawful-accepted list hs p fixed k (lawful-plan list doc hs p fixed h)

  -- canon, called on it in the same way, writes the same bytes and answers the same four numbers
  pub again-written : (doc : List ℕ) (p : Plan) (h : HasPlan hs doc p) (k : Keeps hs p) (l m : Lent) → Serves l (canonical hs p) → Serves m (canonical hs p)
      → (numbers list (canonical hs p) m ≡ numbers list doc l) × (bytes_written list (canonical hs p) m ≡ bytes_written list doc l)
  again-written doc p h k l m s t =
      let g = again-accepted doc p h k in
      (canon-answers (canonical hs p) p g k m t ∙ sym (canon-answers doc p h k l s), canon-bytes (canonical hs p) p g k m t ∙ sym (canon-bytes doc p h k l s))

  -- Two plans are equal exactly when the two lengths and all the bytes written are equal.
  pub equal-plans : (doc₁ doc₂ : List ℕ) (p q : Plan) (h : HasPlan hs doc₁ p) (g : HasPlan hs doc₂ q) → Keeps hs p → Keeps hs q → (l m : Lent)
      → Serves l (canonical hs p) → Serves m (canonical hs q)
      → (p ≡ q) ↔ (((numbers list doc₁ l).detail ≡ (numbers list doc₂ m).detail) × (bytes_written list doc₁ l ≡ bytes_written list doc₂ m))
  equal-plans doc₁ doc₂ p q h g k j l m s t =
      let a = canon-bytes doc₁ p h k l s in
      let b = canon-bytes doc₂ q g j m t in
      let n = canon-answers doc₁ p h k l s in
      let o = canon-answers doc₂ q g j m t in (
        λ (e : p ≡ q). (rw (n, o, e), a ∙ ap (canonical hs) e ∙ sym b),
        λ (e : ((numbers list doc₁ l).detail ≡ (numbers list doc₂ m).detail) × (bytes_written list doc₁ l ≡ bytes_written list doc₂ m)).
            let c : canonical hs p ≡ canonical hs q = sym a ∙ e.1 ∙ b in
            one-plan hs (canonical hs q) p q (rw c at (again-accepted doc₁ p h k)) (again-accepted doc₂ q g j),
      )

-- ---- acceptance and refusals of canon

-- lent the room asked, what check refuses canon refuses with the same four numbers
pub refuses-as-check : (list doc : List ℕ) (l : Lent) (k : CheckRoom) → canon_serves (room_of l) ≡ true → check_serves k ≡ true
    → ((check_answer list doc k).code ≡ Code.accepted → ⊥)
    → numbers list doc l ≡ check_answer list doc k
unfolding numbers canon_answer written text_stages check_answer checked
refuses-as-check list doc l k s t n = rw (s, t) (go (leb (length list) max_text) (leb (length doc) max_text) (both_stages list doc) (rw t at n))
  where
    go : (a b : Bool) (x : Stage Checked) → ((stage_answer (guard a (answer 2 1 max_text 0) (guard b (answer 2 2 max_text 0) x)) call_count).code ≡ 0 → ⊥)
        → stage_answer
        (guard a (answer 2 1 max_text 0)
        (guard b (answer 2 2 max_text 0) (and_then x (λ c. writing_stages (layout_of c.headers c.document) (length l.out)))))
        length
        ≡ stage_answer (guard a (answer 2 1 max_text 0) (guard b (answer 2 2 max_text 0) x)) call_count
    go false b x n = refl
    go true false x n = refl
    go true true (pass c) n = absurd (n refl)
    go true true (stop r) n = refl

-- What check accepts, canon refuses only where the canonical text does not keep the limits, with 25, or else where the output is shorter
-- than it, with 26 and its length.
module _ (list doc : List ℕ) (hs : List Header) (p : Plan) (fixed : AcceptedList list hs) (h : HasPlan hs doc p) (l : Lent) (w₁ : work_words ≤ l.work₁)
    (w₂ : work_words ≤ l.work₂) where
  numbers-are : numbers list doc l ≡ stage_answer (writing_stages (document_pieces hs p) (length l.out)) length
  unfolding numbers canon_answer
  numbers-are = ap (λ (s : Stage (List ℕ)). stage_answer s length) (written-stages list doc hs p fixed h l w₁ w₂)

  pub over-the-limits : (Keeps hs p → ⊥) → numbers list doc l ≡ answer Writing.over_limits 0 0 0
  unfolding writing_stages canonical
  over-the-limits n = numbers-are ∙ go (leb (length (text (document_pieces hs p))) max_text) (leb (length (document_pieces hs p)) max_tokens) refl refl
    where
      go : (a b : Bool) → leb (length (text (document_pieces hs p))) max_text ≡ a → leb (length (document_pieces hs p)) max_tokens ≡ b
          → stage_answer
          (guard (a && b) (answer 25 0 0 0)
          (guard (leb (length (text (document_pieces hs p))) (length l.out)) (answer 26 0 0 (length (text (document_pieces hs p))))
          (pass (text (document_pieces hs p)))))
          length ≡ answer 25 0 0 0
      go false b e f = refl
      go true false e f = refl
      go true true e f =
          absurd (n (record { bytes = leb-true (length (text (document_pieces hs p))) max_text e; tokens = leb-true (length (document_pieces hs p)) max_tokens f }))

  pub over-the-output : Keeps hs p → length l.out < length (canonical hs p) → numbers list doc l ≡ answer Writing.short_output 0 0 (length (canonical hs p))
  unfolding writing_stages canonical
  over-the-output k o =
      numbers-are
      ∙ rw (
        le-leb (length (text (document_pieces hs p))) max_text k.bytes,
        le-leb (length (document_pieces hs p)) max_tokens k.tokens,
        lt-leb (length (text (document_pieces hs p))) (length l.out) o,
      )

-- Code 0 is answered only to an accepted document under an accepted list whose canonical text keeps the limits and fits the output.
pub canon-accepted : (list doc : List ℕ) (l : Lent) → (numbers list doc l).code ≡ Code.accepted
    → (hs : List Header) × ((p : Plan) × (AcceptedList list hs × (HasPlan hs doc p × (Keeps hs p × (length (canonical hs p) ≤ length l.out)))))
unfolding numbers canon_answer written text_stages has-plan
canon-accepted list doc l e =
    let t = text_stages list doc (length l.out) in
    let x = answer-passed (guarded (canon_serves (room_of l)) list doc t) length
    (guarded-codes (canon_serves (room_of l)) list doc t (text_codes list doc (length l.out))) e in
    let y = guarded-passed (canon_serves (room_of l)) list doc t x.0 x.1 in
    go (both_stages list doc) refl y.1.0 y.1.1.0 x.0 y.1.1.1
  where
    go : (s : Stage Checked) → both_stages list doc ≡ s → length list ≤ max_text → length doc ≤ max_text → (bytes : List ℕ)
        → and_then s (λ c. writing_stages (layout_of c.headers c.document) (length l.out)) ≡ pass bytes
        → (hs : List Header) × ((p : Plan) × (AcceptedList list hs × (HasPlan hs doc p × (Keeps hs p × (length (canonical hs p) ≤ length l.out)))))
    go (stop r) q a b bytes k = let z : ◌≡◌ {A = ℕ} 0 1 = cc in absurd (omega arith)
    go (pass c) q a b bytes k =
        let v = both-passed list doc c a b q in
        let w = has-plan list doc c.headers c.document v.0 v.1 in
        let u = writing-kept c.headers w.0 (length l.out) bytes
        (sym (ap (λ (ps : List Piece). writing_stages ps (length l.out)) (layout_is c.headers c.document w.0 w.1.planned)) ∙ k) in
        (c.headers, (w.0, (v.0, (w.1, u))))

-- a refusal leaves the output as it was
pub refusal-keeps : (list doc : List ℕ) (l : Lent) → ((numbers list doc l).code ≡ Code.accepted → ⊥) → output list doc l ≡ l.out
unfolding numbers canon_answer output output_after
refusal-keeps list doc l n = go (written list doc (room_of l)) n
  where
    go : (s : Stage (List ℕ)) → ((stage_answer s length).code ≡ 0 → ⊥) → table_after s (λ (bytes : List ℕ). bytes) l.out ≡ l.out
    go (pass bytes) n = absurd (n refl)
    go (stop r) n = refl
