-- The directory of a list as the code lends it on, and what the list says to a call, which only the contracts of the code cite.
use Rattle.std.specs.Prelude.{◌≡◌, ℕ, List, Result}
use Rattle.std.proofs.Math.Option.{none as nothing}
use Rattle.lexis.specs.declared.Answer.{Answer}
use Rattle.syntax.specs.Tree.{Header, Call}
use Rattle.syntax.specs.declared.tokens.Tokens.{Tokens}
use Rattle.lists.specs.Fault.{first}
use Rattle.lists.specs.Lists.{header_faults}
use Rattle.lists.specs.Directory.{OperationAt}
use Rattle.lists.specs.Stages.{ListPassed}
use Rattle.documents.specs.Stages.{BothDone}
use Rattle.documents.specs.declared.stages.Sizes.{Sizes}
use Rattle.documents.specs.declared.directory.Directory.{Directory}
use Rattle.documents.specs.declared.judging.Judged.{Judged}
use Rattle.documents.specs.Judged.{Directs, CallWith, Says, Judges}

-- it holds the headers hs
abbrev pub Lists : Directory → List Header → Type 0
Lists d hs = Directs d.tokens.text.now d.tokens.table.now d.index.now d.words.now d.tokens.count hs

-- its list has passed its stages, with k operations
abbrev pub Passed : Directory → ℕ → Type 0
Passed d k = ListPassed d.tokens.text.now d.tokens.table.now d.index.now d.words.now d.tokens.count k

-- what the stages of a document come to under it
abbrev pub UnderDone : Directory → List ℕ → List ℕ → List ℕ → Result Sizes Answer → Type 0
UnderDone d doc work records r = BothDone d.tokens.text.now doc d.tokens.table.now work d.index.now d.words.now records r

-- ---- what the code promises, for whatever call stands at place `at`

-- by operation k of the directory, whatever header it is
abbrev pub OfOperation : Directory → ℕ → Tokens → ℕ → ℕ → Judged → Type 0
OfOperation d k doc at equal r =
    (h : Header) → OperationAt d.tokens.text.now d.tokens.table.now d.words.now d.tokens.count k h → first (header_faults h) ≡ nothing
    → Says doc.text.now doc.table.now doc.count at equal h r

-- by the directory, whatever headers it holds
abbrev pub OfCall : Directory → Tokens → ℕ → ℕ → Judged → Type 0
OfCall d doc at equal r =
    (hs : List Header) (c : Call) → Lists d hs → CallWith doc.text.now doc.table.now doc.count at equal c
    → Judges hs c doc.text.now doc.table.now doc.count equal r
