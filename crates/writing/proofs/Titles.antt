-- The first tokens of a document: the graph's name stands at place 3, its inputs from place 5 on. Assumes nothing.
use mathlib.Core.Path.{◌≡◌, refl, ap, ◌∙◌}
use mathlib.Core.List.{List, []}
use Prim.Native.Nat.{ℕ, ◌<◌}
use Rattle.lexis.specs.Sizes.{max_brackets}
use Rattle.lexis.specs.Lexer.{Token}
use Rattle.lexis.specs.Symbol.{a_name, right_round}
use Rattle.syntax.specs.Tree.{Document}
use Rattle.syntax.specs.Grammar.{IsDocument}
use Rattle.syntax.specs.Grammar.IsDocument.{a-document}
use Rattle.syntax.specs.Parser.{expect, row, plain, commas, parse_document}
use Rattle.syntax.specs.Parser.Parse.{ok}
use Rattle.syntax.specs.Table.{token_at, toks}
use Rattle.syntax.proofs.Shrinks.{expect-shrinks}
use Rattle.syntax.proofs.Complete.{name-complete, separated-complete}
use Rattle.syntax.proofs.Theorems.{document-parsed}
use Rattle.lists.proofs.Parts.{first_of}

module _ (text table : List ℕ) (n : ℕ) where
  pub record Title (d : Document) : Type 0 where
    pub behind : List Token
    pub inside : 3 < n
    pub graph : token_at text table 3 ≡ d.graph
    pub inputs : row plain (commas right_round) (expect a_name) (toks text table n 5) ≡ ok d.inputs behind

  title-of : {ts : List Token} {d : Document} → toks text table n 0 ≡ ts → IsDocument max_brackets ts d → Title d
  title-of w (a-document v l g m o is a p os q h) =
      let one = first_of text table n 0 _ _ w in
      let two = first_of text table n 1 _ _ one.rest in
      let three = first_of text table n 2 _ _ two.rest in
      let four = first_of text table n 3 _ _ three.rest in
      let five = first_of text table n 4 _ _ four.rest in
      record {
        behind = _;
        inside = four.inside;
        graph = four.here;
        inputs = ap (row plain (commas right_round) (expect a_name)) five.rest ∙ separated-complete (expect-shrinks a_name) name-complete is;
      }

  pub title : (d : Document) → parse_document (toks text table n 0) ≡ ok d [] → Title d
  title d e = title-of refl ((document-parsed max_brackets (toks text table n 0) d).0 e)
