-- When a document under a list is accepted: said with the grammar and the rules alone, and no parser.
use Rattle.std.specs.Prelude.{List, ℕ}
use Rattle.syntax.specs.Tree.{Header, Document}
use Rattle.syntax.specs.Grammar.{IsDocument}
use Rattle.lists.specs.Accepted.{Accepted}
use Rattle.documents.specs.DocumentRules.{document_faults}

-- a document under these headers
abbrev pub AcceptedDocument : List Header → List ℕ → Document → Type 0
AcceptedDocument hs doc d = Accepted IsDocument (document_faults hs) doc d
