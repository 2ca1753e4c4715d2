-- What the stages of both texts come to, and what those of a document leave in its work area: a table in front.
use Rattle.std.specs.Prelude.{ℕ, ◌≤◌, ◌≡◌, List, [], Result, Ok, Err}
use Rattle.lexis.specs.Sizes.{max_tokens}
use Rattle.lexis.specs.declared.Answer.{Answer}
use Rattle.lexis.specs.Lexer.{accepted, lex}
use Rattle.syntax.specs.Tree.{Header, Document}
use Rattle.syntax.specs.Parser.{parse_document}
use Rattle.syntax.specs.Parser.Parse.{ok}
use Rattle.syntax.specs.Table.{toks, Holds}
use Rattle.lists.specs.Fault as F
use Rattle.lists.specs.Answer.{pass, stop, rules_stage}
use Rattle.lists.specs.Stages.{ListPassed}
use Rattle.documents.specs.DocumentRules.{document_faults}
use Rattle.documents.specs.Answer.{document_stages, Checked, both_stages}
use Rattle.documents.specs.Records.{Kept}
use Rattle.documents.specs.declared.stages.Sizes.{Sizes}

-- ---- a document under a list

-- the tokens of the text stand in the table, and they are a document; its rules under a list are the stage that is left
pub record DocumentRead (text work : List ℕ) (n : ℕ) : Type 0 where
  pub document : Document
  pub small : n ≤ max_tokens
  pub lexed : lex text ≡ accepted (toks text work n 0)
  pub table : Holds text work n
  pub parsed : parse_document (toks text work n 0) ≡ ok document []
  pub stages : (hs : List Header) → document_stages hs text ≡ rules_stage 2 document (F.first (document_faults hs document))

-- the document has passed its stages under the headers; it has n tokens
pub record DocumentPassed (hs : List Header) (text work : List ℕ) (n : ℕ) : Type 0 where
  pub document : Document
  pub stages : document_stages hs text ≡ pass document
  pub small : n ≤ max_tokens
  pub lexed : lex text ≡ accepted (toks text work n 0)
  pub table : Holds text work n
  pub parsed : parse_document (toks text work n 0) ≡ ok document []

-- ---- both texts

-- both have passed; the list has n tokens and k operations, the document m tokens
pub record BothPassed (list doc work₁ work₂ index words : List ℕ) (n k m : ℕ) : Type 0 where
  pub first : ListPassed list work₁ index words n k
  pub second : DocumentPassed first.headers doc work₂ m

-- and the records of the document's calls and uses are kept
pub record BothKept (list doc work₁ work₂ index words records : List ℕ) (s : Sizes) : Type 0 where
  pub passed : BothPassed list doc work₁ work₂ index words s.list s.operations s.document
  pub kept : Kept records passed.first.headers passed.second.document s.calls s.uses

-- what the stages come to
abbrev pub BothDone : List ℕ → List ℕ → List ℕ → List ℕ → List ℕ → List ℕ → List ℕ → Result Sizes Answer → Type 0
BothDone list doc work₁ work₂ index words records (Ok s) = BothKept list doc work₁ work₂ index words records s
BothDone list doc work₁ work₂ index words records (Err r) = both_stages list doc ≡ stop r

-- the same with nothing left but the records
pub record RecordsKept (list doc records : List ℕ) (s : Sizes) : Type 0 where
  pub trees : Checked
  pub stages : both_stages list doc ≡ pass trees
  pub kept : Kept records trees.headers trees.document s.calls s.uses

abbrev pub RecordsDone : List ℕ → List ℕ → List ℕ → Result Sizes Answer → Type 0
RecordsDone list doc records (Ok s) = RecordsKept list doc records s
RecordsDone list doc records (Err r) = both_stages list doc ≡ stop r
