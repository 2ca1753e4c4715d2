-- The stages of a document pass exactly when it is accepted. Assumes nothing.
use mathlib.Core.Path.{◌≡◌}
use mathlib.Core.List.{List, []}
use Prim.Native.Nat.{ℕ, ◌≤◌}
use lib.ListN.{length}
use Rattle.lexis.specs.Sizes.{max_text, max_brackets}
use Rattle.syntax.specs.Tree.{Header, Document}
use Rattle.syntax.specs.Parser.{document}
use Rattle.syntax.proofs.Theorems.{document-parsed, document-all-read}
use Rattle.lists.specs.Answer.{pass}
use Rattle.lists.proofs.Acceptance.{passed, passes}
use Rattle.documents.specs.DocumentRules.{document_faults}
use Rattle.documents.specs.Answer.{document_stages}
use Rattle.documents.specs.Accepted.{AcceptedDocument}

pub document-passed : (hs : List Header) (doc : List ℕ) (d : Document) → length doc ≤ max_text → document_stages hs doc ≡ pass d → AcceptedDocument hs doc d
unfolding document_stages
document-passed hs doc d s e =
    let p = passed 2 (document max_brackets) (document_faults hs) doc d e in
    let z = document-all-read max_brackets p.tokens d p.rest p.read in
    record { short = s; tokens = p.tokens; lexed = p.lexed; spelt = (document-parsed max_brackets p.tokens d).0 (rw z at p.read); lawful = p.lawful }

pub document-passes : (hs : List Header) (doc : List ℕ) (d : Document) → AcceptedDocument hs doc d → document_stages hs doc ≡ pass d
unfolding document_stages
document-passes hs doc d a =
    passes 2 (document max_brackets) (document_faults hs) doc d
    (record { tokens = a.tokens; rest = []; lexed = a.lexed; read = (document-parsed max_brackets a.tokens d).1 a.spelt; lawful = a.lawful })
