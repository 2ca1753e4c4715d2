-- What a refusal by the stages of a document is, and by those of both texts: of the bytes, of the syntax, or of the rules. Its code is 3 or
-- more, so the work areas are cleared after it. Relies on `Lines` for the rules, and on `Refusals` of lists for any text.
use mathlib.Core.Path.{◌≡◌, refl, ap, ◌∙◌}
use mathlib.Core.List.{List}
use mathlib.Core.Logic.{◌⊎◌, inl, inr}
use mathlib.Core.Option.{none as nothing}
use Prim.Native.Nat.{ℕ, ◌≤◌}
use native.Mathlib.Omega.{arith}
use Rattle.lexis.specs.Sizes.{max_brackets}
use Rattle.lexis.specs.declared.Answer.{Answer}
use Rattle.syntax.specs.Tree.{Header, Document}
use Rattle.syntax.specs.Grammar.{IsList, IsDocument}
use Rattle.syntax.specs.Parser.{operations, document}
use Rattle.syntax.specs.Parser.Parse.{ok}
use Rattle.syntax.proofs.Theorems.{document-parsed, document-all-read, document-fault, document-bracket}
use Rattle.lists.specs.Fault.{first}
use Rattle.lists.specs.ListRules.{list_faults}
use Rattle.lists.specs.Accepted.{StartsToken}
use Rattle.lists.specs.Answer.{Stage, pass, stop, and_then, list_stages}
use Rattle.lists.proofs.Acceptance.{passed}
use Rattle.lists.proofs.Lines.{ListCode}
use Rattle.lists.proofs.Refusals.{Refusal, refusal, refusal-high, list-refusal, list-high}
use Rattle.documents.specs.DocumentRules.{document_faults}
use Rattle.documents.specs.Answer.{document_stages, Checked, both_stages}
use Rattle.documents.proofs.Members.{document-good}
use Rattle.documents.proofs.Lines.{DocumentCode, wrong-version, over-size, repeated-name, is-undeclared, is-misplaced, is-misnamed, is-misfit}
use Rattle.documents.proofs.Lines.{is-unbound, is-unmatched, assigned-again, unassigned-use, is-misfed, unassigned-output, document-lined}

pub document-refusal : (hs : List Header) (doc : List ℕ) (r : Answer) → first (list_faults hs) ≡ nothing → document_stages hs doc ≡ stop r
    → Refusal IsDocument DocumentCode 2 doc r
unfolding document_stages
document-refusal hs doc r c e =
    refusal IsDocument DocumentCode 2 doc (document max_brackets) (document_faults hs) (document-fault max_brackets) (document-bracket max_brackets)
    (λ ts us d q g. document-lined (StartsToken doc) hs c d
    (document-good (λ t. StartsToken doc t.start) ((document-parsed max_brackets ts d).0 (q ∙ ap (ok d) (document-all-read max_brackets ts d us q))) g))
    r e

pub both-refusal : (list doc : List ℕ) (r : Answer) → both_stages list doc ≡ stop r → Refusal IsList ListCode 1 list r ⊎ Refusal IsDocument DocumentCode 2 doc r
unfolding both_stages list_stages first
both-refusal list doc r h = go (list_stages list) refl h
  where
    inner : (hs : List Header) → first (list_faults hs) ≡ nothing → (s : Stage Document) → document_stages hs doc ≡ s
        → and_then {B = Checked} s (λ d. pass (record { headers = hs; document = d })) ≡ stop r
        → Refusal IsDocument DocumentCode 2 doc r
    inner hs c (pass d) e k = let z : ◌≡◌ {A = ℕ} 0 1 = cc in absurd (omega arith)
    inner hs c (stop q) e k = let z : q ≡ r = cc in document-refusal hs doc r c (e ∙ ap (λ (x : Answer). stop x) z)

    go : (s : Stage (List Header)) → list_stages list ≡ s
        → and_then s (λ hs. and_then {B = Checked} (document_stages hs doc) (λ d. pass (record { headers = hs; document = d }))) ≡ stop r
        → Refusal IsList ListCode 1 list r ⊎ Refusal IsDocument DocumentCode 2 doc r
    go (pass hs) e k = inr (inner hs (ap first (passed 1 (operations max_brackets) list_faults list hs e).lawful) (document_stages hs doc) refl k)
    go (stop q) e k = let z : q ≡ r = cc in inl (list-refusal list r (e ∙ ap (λ (x : Answer). stop x) z))

-- ---- their codes

document-high : (c k : ℕ) → DocumentCode c k → 3 ≤ c
document-high c k wrong-version = omega arith
document-high c k over-size = omega arith
document-high c k repeated-name = omega arith
document-high c k is-undeclared = omega arith
document-high c k is-misplaced = omega arith
document-high c k is-misnamed = omega arith
document-high c k is-misfit = omega arith
document-high c k (is-unbound l) = omega arith
document-high c k is-unmatched = omega arith
document-high c k assigned-again = omega arith
document-high c k unassigned-use = omega arith
document-high c k is-misfed = omega arith
document-high c k unassigned-output = omega arith

pub both-codes : (list doc : List ℕ) (r : Answer) → both_stages list doc ≡ stop r → 3 ≤ r.code
both-codes list doc r e = go (both-refusal list doc r e)
  where
    go : Refusal IsList ListCode 1 list r ⊎ Refusal IsDocument DocumentCode 2 doc r → 3 ≤ r.code
    go (inl x) = refusal-high list-high x
    go (inr x) = refusal-high document-high x
