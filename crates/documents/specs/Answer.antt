-- What `check` answers, and both tables afterwards.
use Rattle.std.specs.Prelude.{ℕ, List, Bool, ◌&&◌, leb, length}
use Rattle.lexis.specs.Sizes.{work_words, call_words, wire_words}
use Rattle.lexis.specs.Lexer.{lex}
use Rattle.lexis.specs.declared.Answer.{Answer}
use Rattle.syntax.specs.Tree.{Header, Document}
use Rattle.syntax.specs.Parser.{parse_document}
use Rattle.lists.specs.Fault.{first}
use Rattle.lists.specs.Answer.{Stage, pass, and_then, bytes_stage, syntax_stage, rules_stage, list_stages, guarded, stage_answer, table_after}
use Rattle.documents.specs.DocumentRules.{document_faults}
use Rattle.documents.specs.Tables.{call_table, wire_table}

-- ---- stages

-- the three stages of a document under a list
unfoldable pub document_stages : List Header → List ℕ → Stage Document
document_stages hs doc =
    and_then (bytes_stage 2 (lex doc)) (λ ts.
    and_then (syntax_stage 2 doc (parse_document ts)) (λ d.
    rules_stage 2 d (first (document_faults hs d))))

-- both trees of an accepted list and of a document accepted under it
pub record Checked : Type 0 where
  pub headers : List Header
  pub document : Document

-- the stages of both texts: those of the list, then those of the document under it
unfoldable pub both_stages : List ℕ → List ℕ → Stage Checked
both_stages list doc = and_then (list_stages list) (λ hs. and_then (document_stages hs doc) (λ d. pass (record { headers = hs; document = d })))

-- the work areas that every operation on a list and a document asks
abbrev pub areas_serve : ℕ → ℕ → Bool
areas_serve work₁ work₂ = leb work_words work₁ && leb work_words work₂

-- ---- check: from both texts and the lengths of what is lent beside them

-- the lengths of both work areas, of the call table and of the wire table
pub record CheckRoom : Type 0 where
  pub work₁ : ℕ
  pub work₂ : ℕ
  pub calls : ℕ
  pub wires : ℕ

abbrev pub check_room : List ℕ → List ℕ → List ℕ → List ℕ → CheckRoom
check_room work₁ work₂ calls wires = record { work₁ = length work₁; work₂ = length work₂; calls = length calls; wires = length wires }

-- the room that check asks
abbrev pub check_serves : CheckRoom → Bool
check_serves l = areas_serve l.work₁ l.work₂ && (leb call_words l.calls && leb wire_words l.wires)

unfoldable pub checked : List ℕ → List ℕ → CheckRoom → Stage Checked
checked list doc l = guarded (check_serves l) list doc (both_stages list doc)

-- acceptance counts calls
abbrev pub call_count : Checked → ℕ
call_count k = length k.document.calls

unfoldable pub check_answer : List ℕ → List ℕ → CheckRoom → Answer
check_answer list doc l = stage_answer (checked list doc l) call_count

-- ---- both tables afterwards

unfoldable pub calls_after : Stage Checked → List ℕ → List ℕ
calls_after s table = table_after s (λ k. call_table k.headers k.document) table

unfoldable pub wires_after : Stage Checked → List ℕ → List ℕ
wires_after s table = table_after s (λ k. wire_table k.document) table
