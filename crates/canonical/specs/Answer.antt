-- What `canon` answers, and every lent byte and word afterwards.
use Rattle.std.specs.Prelude.{ℕ, Bool, ◌&&◌, List, [], leb, length}
use Rattle.std.proofs.Math.Option.{Option, some, none as nothing}
use Rattle.lexis.specs.Sizes.{max_text, max_tokens}
use Rattle.lexis.specs.Answer.{answer}
use Rattle.lexis.specs.declared.Answer.{Answer}
use Rattle.syntax.specs.Tree.{Header, Document}
use Rattle.lists.specs.Answer.{Stage, pass, and_then, guard, guarded, stage_answer, table_after}
use Rattle.documents.specs.Answer.{both_stages, areas_serve}
use Rattle.canonical.specs.Code as Code
use Rattle.writing.specs.Plan.{Plan, plan_of}
use Rattle.writing.specs.Pieces.{Piece, text}
use Rattle.writing.specs.Layout.{document_pieces}

-- the pieces of a document's canonical text; an accepted document has a plan
abbrev pub laid_out : List Header → Option Plan → List Piece
laid_out hs nothing = []
laid_out hs (some p) = document_pieces hs p

unfoldable pub layout_of : List Header → Document → List Piece
layout_of hs d = laid_out hs (plan_of hs d)

-- The stages of writing these pieces into so many bytes. 25: they have more than 16,384 bytes or 4,096 tokens. 26: the output is shorter
-- than they are; the detail is their length.
unfoldable pub writing_stages : List Piece → ℕ → Stage (List ℕ)
writing_stages ps out =
    guard (leb (length (text ps)) max_text && leb (length ps) max_tokens) (answer Code.over_limits 0 0 0)
    (guard (leb (length (text ps)) out) (answer Code.short_output 0 0 (length (text ps)))
    (pass (text ps)))

-- the stages of both texts, then these
unfoldable pub text_stages : List ℕ → List ℕ → ℕ → Stage (List ℕ)
text_stages list doc out = and_then (both_stages list doc) (λ k. writing_stages (layout_of k.headers k.document) out)

-- ---- canon: from both texts and the lengths of what is lent beside them

-- the lengths of both work areas and of the output
pub record CanonRoom : Type 0 where
  pub work₁ : ℕ
  pub work₂ : ℕ
  pub out : ℕ

abbrev pub canon_room : List ℕ → List ℕ → List ℕ → CanonRoom
canon_room work₁ work₂ out = record { work₁ = length work₁; work₂ = length work₂; out = length out }

-- the room that canon asks; the output may have any length
abbrev pub canon_serves : CanonRoom → Bool
canon_serves l = areas_serve l.work₁ l.work₂

unfoldable pub written : List ℕ → List ℕ → CanonRoom → Stage (List ℕ)
written list doc l = guarded (canon_serves l) list doc (text_stages list doc l.out)

-- acceptance counts the bytes written
unfoldable pub canon_answer : List ℕ → List ℕ → CanonRoom → Answer
canon_answer list doc l = stage_answer (written list doc l) length

-- the output: the canonical text from its first byte on; beyond that, and after a refusal, as it was
unfoldable pub output_after : Stage (List ℕ) → List ℕ → List ℕ
output_after s out = table_after s (λ (bytes : List ℕ). bytes) out
