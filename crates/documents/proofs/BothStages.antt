-- From the bytes of a document under a list that has passed to what the stages of both texts come to. Relies on `Acceptance` for what
-- passes, on `syntax` for the faults of bytes and syntax.
use mathlib.Core.Path.{◌≡◌, refl, sym, ap, ap₂, subst, ◌∙◌}
use mathlib.Core.Bool.{true}
use mathlib.Core.List.{List, [], map}
use mathlib.Core.Option.{some}
use mathlib.Core.Option.{none as nothing}
use Prim.Native.Nat.{ℕ, ◌*◌, ◌≤◌}
use native.Mathlib.Nat.{zero-add}
use native.Mathlib.Omega.{arith}
use lib.ListN.{length}
use Rattle.lexis.specs.Sizes.{max_tokens, record_words, max_brackets, work_words}
use Rattle.lexis.specs.Lexer.{Token, Lexed, accepted, refused, lex}
use Rattle.lexis.specs.Answer.{answer}
use Rattle.lexis.specs.Work.{Recorded, Room}
use Rattle.lexis.specs.Answer as LA
use Rattle.lexis.specs.declared.Answer.{Answer}
use Rattle.lexis.specs.Answer.{Counted}
use Rattle.lexis.specs.Answer.Counted.{Tokens, Fault as Refused}
use Rattle.syntax.specs.Tree.{Header, Document}
use Rattle.syntax.specs.Parser.{Parse, parse_list, parse_document}
use Rattle.syntax.specs.Parser.Parse.{ok, bad}
use Rattle.syntax.specs.Table.{toks, place_of, parsed}
use Rattle.syntax.specs.Read.{agreed, read_after, read_of}
use Rattle.syntax.specs.declared.Syntax.TheVariants as S
use Rattle.syntax.proofs.Reading.{got}
use Rattle.syntax.proofs.Theorems.{document-all-read}
use Rattle.lists.specs.Fault.{first}
use Rattle.lists.specs.Best.{meant_by, fault_of, meant}
use Rattle.lists.specs.ListRules.{list_faults}
use Rattle.lists.specs.Answer.{Stage, pass, stop, and_then, bytes_stage, syntax_stage, rules_stage, list_stages}
use Rattle.lists.specs.Headers.{Numbered}
use Rattle.lists.specs.Stages.{ListPassed}
use Rattle.lists.specs.declared.best.Best.{Best}
use Rattle.lists.proofs.Acceptance.{passed}
use Rattle.documents.specs.DocumentRules.{document_faults}
use Rattle.documents.specs.Judged.{Directs, Directed}
use Rattle.documents.specs.Answer.{document_stages, Checked, both_stages}
use Rattle.documents.specs.Graphs.{Rules}
use Rattle.documents.specs.Stages.{DocumentRead, BothKept, BothDone, RecordsDone}
use Rattle.documents.specs.declared.document.Ruled.{Ruled}
use Rattle.documents.specs.declared.stages.Sizes.{Sizes}
use Rattle.std.proofs.Common.{Result, Ok, Err, Some, None}
use Rattle.lists.specs.declared.best.Fault.{Fault as Found}

-- ---- what has passed has no fault

-- what both stages give together
abbrev pub joined : List Header → Document → Stage Checked
joined hs d = pass (record { headers = hs; document = d })

pub list-clean : (text : List ℕ) (hs : List Header) → list_stages text ≡ pass hs → first (list_faults hs) ≡ nothing
unfolding list_stages first
list-clean text hs e = ap first (passed 1 parse_list list_faults text hs e).lawful

pub document-clean : (hs : List Header) (text : List ℕ) (d : Document) → document_stages hs text ≡ pass d → first (document_faults hs d) ≡ nothing
unfolding document_stages first
document-clean hs text d e = ap first (passed 2 parse_document (document_faults hs) text d e).lawful

-- ---- bytes and syntax of the document

module _ (text before after : List ℕ) (n : ℕ) (small : n ≤ max_tokens) (large : work_words ≤ length before) where
  read_by : (l : Lexed) → lex text ≡ l → Tokens n ≡ read_after S.Document (length text) l → Recorded true l before after → n * record_words ≤ length before
      → DocumentRead text after n
  unfolding document_stages
  read_by (refused c p) e h w r = let z : ◌≡◌ {A = ℕ} 0 1 = cc in absurd (omega arith)
  read_by (accepted ts) e h w r = go (parse_document ts) refl h
    where
      go : (p : Parse Document) → parse_document ts ≡ p → Tokens n ≡ agreed (length ts) (parsed (length text) (length ts) p) → DocumentRead text after n
      go (bad c us) q k = let z : ◌≡◌ {A = ℕ} 0 1 = cc in absurd (omega arith)
      go (ok d us) q k =
          let m : n ≡ length ts = cc in
          let g = got text before after (Tokens n) n (ap Tokens (m ∙ sym (zero-add (length ts))) ∙ ap LA.counted (sym e))
          (subst (λ (l : Lexed). Recorded true l before after) (sym e) w) (small, r) large refl in
          let same : g.tokens ≡ ts = let y = sym g.is ∙ e in cc in
          let t : toks text after n 0 ≡ ts = g.decoded ∙ same in
          let none : us ≡ [] = document-all-read max_brackets ts d us q in
          record {
            document = d;
            small = small;
            lexed = e ∙ ap accepted (sym t);
            table = g.table;
            parsed = ap parse_document t ∙ q ∙ ap (λ (x : List Token). ok d x) none;
            stages =
                λ hs.
                ap
                (λ (l : Lexed). and_then (bytes_stage 2 l)
                (λ xs. and_then (syntax_stage 2 text (parse_document xs)) (λ y. rules_stage 2 y (first (document_faults hs y)))))
                e
                ∙ ap (λ (x : Parse Document). and_then (syntax_stage 2 text x) (λ y. rules_stage 2 y (first (document_faults hs y)))) q;
          }

  pub read-document : {x : Counted} → x ≡ read_of S.Document text → x ≡ Tokens n → Recorded true (lex text) before after → Room x (length before)
      → DocumentRead text after n
  read-document {x} h e w r = read_by (lex text) refl (sym e ∙ h) w (subst (λ (y : Counted). Room y (length before)) e r).1

-- a fault of the bytes or the syntax stops the stages
pub document-stops : (hs : List Header) (text : List ℕ) {c p : ℕ} {x : Counted} → x ≡ read_of S.Document text → x ≡ Refused c p
    → document_stages hs text ≡ stop (answer c 2 p 0)
unfolding document_stages
document-stops hs text {c} {p} h e = go (lex text) (sym e ∙ h)
  where
    parses : (ts : List Token) (x : Parse Document) → Refused c p ≡ agreed (length ts) (parsed (length text) (length ts) x)
        → and_then (syntax_stage 2 text x) (λ y. rules_stage 2 y (first (document_faults hs y))) ≡ stop (answer c 2 p 0)
    parses ts (ok d us) k = let z : ◌≡◌ {A = ℕ} 0 1 = cc in absurd (omega arith)
    parses ts (bad d us) k = let a : d ≡ c = cc in let b : place_of (length text) us ≡ p = cc in ap₂ (λ (x y : ℕ). stop (answer x 2 y 0)) a b

    go : (l : Lexed) → Refused c p ≡ read_after S.Document (length text) l
        → and_then (bytes_stage 2 l) (λ xs. and_then (syntax_stage 2 text (parse_document xs)) (λ y. rules_stage 2 y (first (document_faults hs y)))) ≡ stop
        (answer c 2 p 0)
    go (refused d q) k = let a : d ≡ c = cc in let b : q ≡ p = cc in ap₂ (λ (x y : ℕ). stop (answer x 2 y 0)) a b
    go (accepted ts) k = parses ts (parse_document ts) k

-- ---- the directory as it is lent

-- the headers of a list that has passed stand in its directory, without a fault
module _ {text work index words : List ℕ} {n k : ℕ} (p : ListPassed text work index words n k) where
  pub list-directs : Directs text work index words n p.headers
  list-directs =
      record {
        names = subst (λ (x : ℕ). Numbered text work index n x (map (λ (h : Header). h.name) p.headers)) (sym p.count) p.names;
        operations = p.directory;
        clean = list-clean text p.headers p.stages;
      }

  pub list-directed : Directed text work index words n
  list-directed = record { headers = p.headers; directs = list-directs; walkable = p.walkable; roomy = p.roomy }

-- ---- what the stages of both texts come to

module _ (list doc : List ℕ) where
  pub list-stopped : {r : Answer} → list_stages list ≡ stop r → both_stages list doc ≡ stop r
  unfolding both_stages
  list-stopped e = ap (λ (s : Stage (List Header)). and_then s (λ hs. and_then (document_stages hs doc) (λ d. joined hs d))) e

  -- under a list that has passed, the document decides
  pub both_under : {hs : List Header} {s : Stage Document} → list_stages list ≡ pass hs → document_stages hs doc ≡ s
      → both_stages list doc ≡ and_then s (λ d. joined hs d)
  unfolding both_stages
  both_under {hs} p e =
      ap (λ (s : Stage (List Header)). and_then s (λ hs. and_then (document_stages hs doc) (λ d. joined hs d))) p
      ∙ ap (λ (s : Stage Document). and_then s (λ d. joined hs d)) e

-- the rules of the document: a fault, or none
module _ {list doc work₁ work₂ index words : List ℕ} {n k m : ℕ} (l : ListPassed list work₁ index words n k) (r : DocumentRead doc work₂ m)
    (records : List ℕ) (ruled : Ruled)
    (rules : (hs : List Header) (d : Document) → Directs list work₁ index words n hs → parse_document (toks doc work₂ m 0) ≡ ok d [] → Rules records hs d ruled)
  where
    abbrev best : Best
    best = ruled.best

    done : Rules records l.headers r.document ruled
    done = rules l.headers r.document (list-directs l) r.parsed

    pub rules-stop : {f : Found} → best.fault ≡ Some f → both_stages list doc ≡ stop (answer f.code 2 f.at f.detail)
    unfolding meant
    rules-stop {f} z =
        let q : some (fault_of f) ≡ first (document_faults l.headers r.document) = rw z at done.found in
        both_under list doc l.stages (r.stages l.headers ∙ ap (rules_stage 2 r.document) (sym q))

    pub rules-pass : best.fault ≡ None
        → BothKept list doc work₁ work₂ index words records (record { list = n; operations = k; document = m; calls = ruled.calls; uses = ruled.uses })
    unfolding meant
    rules-pass z =
        let none : nothing ≡ meant best = sym (ap meant_by z) in
        record {
          passed =
              record {
                first = l;
                second =
                    record {
                      document = r.document;
                      stages = r.stages l.headers ∙ ap (rules_stage 2 r.document) (sym (none ∙ done.found));
                      small = r.small;
                      lexed = r.lexed;
                      table = r.table;
                      parsed = r.parsed;
                    };
              };
          kept = done.kept (sym none);
        }

-- ---- the records alone

pub records-done : (list doc work₁ work₂ index words records : List ℕ) (x : Result Sizes Answer)
    → BothDone list doc work₁ work₂ index words records x → RecordsDone list doc records x
records-done list doc work₁ work₂ index words records (Ok s) d =
    let p = d.passed in
    record { trees = _; stages = both_under list doc p.first.stages p.second.stages; kept = d.kept }
records-done list doc work₁ work₂ index words records (Err r) d = d
