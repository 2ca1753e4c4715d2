-- The header, the calls and the closing bracket are the whole document.
use mathlib.Core.Path.{ap}
use borrow.Author.Rules.{rules}
use denote.MutBor.{MutBor}
use mathlib.Core.List.{List}
use Prim.Native.Nat.{ℕ}
use Rattle.lexis.specs.Sizes.{max_brackets}
use Rattle.lexis.specs.Kind as Kind
use Rattle.writing.proofs.CallWrites.{arguments-clean, puts-document}
use Rattle.writing.proofs.document.put_document.Goals as goal

pub returns : goal.returns
returns c = λ hs d p r e f q.
    let w = c.graph_at-graph.ensures.by_index max_brackets d e in
    puts-document hs d q (ap (λ (x : MutBor (List ℕ)). x.now) c.new-writer.ensures.0) c.new-writer.ensures.1 (c.put_header.ensures d _ e w.returned)
    (λ cs y. c.put_calls.ensures hs d.calls _ cs r w.calls (arguments-clean hs d f) y) (c.put_spaced.ensures Kind.syntactic) (λ s. search (rules, s))
