-- What the demands speak of: documents with their plans, canonical texts within the limits, what canon is lent and writes.
use Rattle.std.specs.Prelude.{ℕ, ◌≤◌, ◌≡◌, List, [], ◌⊎◌, length, take}
use Rattle.std.proofs.Math.Option.{some}
use Rattle.lexis.specs.Sizes.{max_text, max_tokens, max_brackets, work_words}
use Rattle.lexis.specs.Code as Code
use Rattle.lexis.specs.declared.Answer.{Answer}
use Rattle.lexis.specs.Lexer.{Token, Placed}
use Rattle.syntax.specs.Tree.{Header, Document}
use Rattle.syntax.specs.Grammar.{IsDocument}
use Rattle.documents.specs.DocumentRules.{document_faults}
use Rattle.documents.specs.Accepted.{AcceptedDocument}
use Rattle.writing.specs.Plan.{Plan, plan_of}
use Rattle.writing.specs.Layout.{document_pieces, canonical}
use Rattle.canonical.specs.Answer.{CanonRoom, written, canon_answer, output_after}

-- a document that is accepted under these headers, and its plan
pub record HasPlan (hs : List Header) (doc : List ℕ) (p : Plan) : Type 0 where
  pub tree : Document
  pub accepted : AcceptedDocument hs doc tree
  pub planned : plan_of hs tree ≡ some p

-- The same, limits aside: a text of any length whose tokens, of any number, spell a document that breaks no rule, and its plan.
pub record ReadsAs (hs : List Header) (text : List ℕ) (p : Plan) : Type 0 where
  pub tree : Document
  pub tokens : List Token
  pub placed : Placed text 0 tokens
  pub spelt : IsDocument max_brackets tokens tree
  pub lawful : document_faults hs tree ≡ []
  pub planned : plan_of hs tree ≡ some p

-- the canonical text of a plan keeps the byte and token limits
pub record Keeps (hs : List Header) (p : Plan) : Type 0 where
  pub bytes : length (canonical hs p) ≤ max_text
  pub tokens : length (document_pieces hs p) ≤ max_tokens

-- a call of canon on a document: the lengths of the two work areas, and the output as it was before
pub record Lent : Type 0 where
  pub work₁ : ℕ
  pub work₂ : ℕ
  pub out : List ℕ

abbrev pub room_of : Lent → CanonRoom
room_of l = record { work₁ = l.work₁; work₂ = l.work₂; out = length l.out }

-- the room that canon asks, and an output that holds these bytes
pub record Serves (l : Lent) (bytes : List ℕ) : Type 0 where
  pub first : work_words ≤ l.work₁
  pub second : work_words ≤ l.work₂
  pub holds : length bytes ≤ length l.out

-- a refusal of what is lent: code 1 or 2
abbrev pub IsGuard : Answer → Type 0
IsGuard r = (r.code ≡ Code.short_room) ⊎ (r.code ≡ Code.long_text)

-- the four numbers, the output afterwards, and its first bytes, as many as the count says
unfoldable pub numbers : List ℕ → List ℕ → Lent → Answer
numbers list doc l = canon_answer list doc (room_of l)

unfoldable pub output : List ℕ → List ℕ → Lent → List ℕ
output list doc l = output_after (written list doc (room_of l)) l.out

unfoldable pub bytes_written : List ℕ → List ℕ → Lent → List ℕ
bytes_written list doc l = take (numbers list doc l).detail (output list doc l)
