-- What the walk over the calls of a document promises, for whatever calls stand there and whatever headers the directory holds.
use Rattle.std.specs.Prelude.{ℕ, ◌≡◌, ◌<◌, length}
use mathlib.Core.List.{List, []}
use Rattle.lexis.specs.Sizes.{max_brackets}
use Rattle.lexis.specs.Lexer.{Token}
use Rattle.syntax.specs.Tree.{Header, Call, Document}
use Rattle.syntax.specs.Parser.{call, parse_document}
use Rattle.syntax.specs.Parser.Parse.{ok}
use Rattle.spellings.specs.Comparison.{same_bytes}
use Rattle.lexis.specs.Ascii.{ascii}
use Rattle.syntax.specs.Table.{token_at}
use Rattle.syntax.specs.Tokens.{from}
use Rattle.syntax.specs.declared.tokens.Tokens.{Tokens}
use Rattle.lists.specs.Fault.{first, fault, unless}
use Rattle.lists.specs.Best.{meant}
use Rattle.lists.specs.declared.best.Best.{Best}
use Rattle.documents.specs.Code as Code
use Rattle.lists.specs.Names.{all_assigned}
use Rattle.documents.specs.declared.body.Walk.{Walk}
use Rattle.documents.specs.declared.directory.Directory.{Directory}
use Rattle.documents.specs.declared.document.Ruled.{Ruled}
use Rattle.documents.specs.declared.graph.Graph.{Graph}
use Rattle.documents.specs.declared.source.Source.{Source}
use Rattle.documents.specs.declared.wiring.Tally.{Tally}
use Rattle.documents.specs.Calls.{Calls, CallFrom}
use Rattle.documents.specs.Naming.{headed, assigners, Naming}
use Rattle.documents.specs.Directories.{Lists}
use Rattle.documents.specs.Graphs.{LeftSide, Walked, Stepped, Body, Rules}

-- the version, which stands at place 1, is spelt `1.0`, or it is a fault
abbrev pub OfVersion : Tokens → Best → Type 0
OfVersion ts r =
    let t = token_at ts.text.now ts.table.now 1 in
    1 < ts.count → meant r ≡ first (unless (same_bytes t.bytes (ascii "1.0")) (fault Code.wrong_version t.start))

-- the left side of call k from place `at` up to its `=` at place `equal`
abbrev pub OfLeft : Source → List ℕ → List ℕ → ℕ → ℕ → ℕ → Tally → Tally → Type 0
OfLeft s index index' at equal k tally r =
    (ins outs : List Token) (ds : List Call) (c : Call) → CallFrom s.tokens.text.now s.tokens.table.now s.tokens.count at equal c → k ≡ length ds
    → Naming s.tokens.text.now s.tokens.table.now index at (headed ins outs) (assigners ds) → tally.count ≡ length (all_assigned ds)
    → LeftSide s.tokens.text.now s.tokens.table.now index' equal ins outs ds c tally r

-- one call more
abbrev pub OfStep : Directory → Source → List ℕ → List ℕ → List ℕ → List ℕ → Walk → Walk → Type 0
OfStep d s index index' records records' w r =
    (hs : List Header) (ins outs : List Token) (ds : List Call) (c : Call) (us : List Token) → Lists d hs
    → call max_brackets (from s.tokens w.at) ≡ ok c us
    → Walked s.tokens.text.now s.tokens.table.now index records hs ins outs ds w
    → Stepped s.tokens.text.now s.tokens.table.now s.tokens.count index' records' hs ins outs ds c us w r

-- all calls of a graph
abbrev pub OfBody : Directory → Source → Graph → List ℕ → List ℕ → List ℕ → Walk → Type 0
OfBody d s g index index' records' r =
    (hs : List Header) (ins outs : List Token) (cs : List Call) → Lists d hs → Calls max_brackets (from s.tokens g.body) cs (from s.tokens g.end)
    → Naming s.tokens.text.now s.tokens.table.now index g.body (headed ins outs) []
    → Body s.tokens.text.now s.tokens.table.now index' records' hs ins outs cs r

-- all rules
abbrev pub OfDocument : Directory → Source → List ℕ → Ruled → Type 0
OfDocument d s records' r =
    (hs : List Header) (t : Document) → Lists d hs → parse_document (from s.tokens 0) ≡ ok t [] → Rules records' hs t r
