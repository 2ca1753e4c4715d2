-- The names in a row, put one at a time: no token at all, the last name, a name that a comma follows. Assumes nothing.
use mathlib.Core.Path.{◌≡◌, refl, sym, ap, ◌∙◌}
use mathlib.Core.List.{List, ◌∷◌}
use Prim.Native.Nat.{ℕ, ◌+◌, ◌≤◌}
use native.Mathlib.Omega.{arith}
use Rattle.lexis.specs.Ascii.{ascii}
use Rattle.lexis.specs.Lexer.{Token}
use Rattle.lexis.specs.Kind as Kind
use Rattle.lexis.specs.Symbol.{a_name, comma, right_round}
use Rattle.syntax.specs.Parser.{expect, row, plain, commas}
use Rattle.syntax.specs.Parser.Parse.{ok}
use Rattle.syntax.specs.Table.{token_at, toks}
use Rattle.syntax.specs.Inner.{lookahead}
use Rattle.syntax.proofs.Shrinks.{expect-shrinks}
use Rattle.lists.proofs.Parts.{First, first_of}
use Rattle.documents.proofs.RowParses.{expect-ok, Rowed, row_ok}
use Rattle.documents.proofs.RowParses.Rowed.{last, next}
use Rattle.writing.specs.declared.writer.Writer.{Writer}
use Rattle.writing.specs.Pieces.{Piece}
use Rattle.writing.specs.Plan.{spellings}
use Rattle.writing.specs.Layout.{mark, names_pieces, more_names_pieces}
use Rattle.writing.specs.Layout.{name_piece}
use Rattle.writing.specs.Writing.{Puts, PutsWord}
use Rattle.writing.proofs.Putting.{puts_then, puts-same}

-- the names of the row that begins ts, if one does, were put
abbrev pub PutsNames : List Token → Writer → Writer → Type 0
PutsNames ts out out' = (xs us : List Token) → row plain (commas right_round) (expect a_name) ts ≡ ok xs us → Puts (names_pieces (spellings xs)) out out'

-- the names after a comma
after-comma : {ts us xs : List Token} → Rowed right_round (expect a_name) ts us xs → (r : List Piece)
    → mark (ascii ",") ∷ names_pieces (spellings xs) r ≡ more_names_pieces (spellings xs) r
unfolding names_pieces more_names_pieces
after-comma (last k c) r = refl
after-comma (next k c m) r = refl

module _ (text table : List ℕ) (n i : ℕ) where
  -- a name that is read here is the token here
  name-here : {t : Token} {us : List Token} → expect a_name (toks text table n i) ≡ ok t us → First text table n i t us
  name-here {t} {us} k = first_of text table n i t us (expect-ok a_name (toks text table n i) k).is

  row_here : {xs us : List Token} → row plain (commas right_round) (expect a_name) (toks text table n i) ≡ ok xs us
      → Rowed right_round (expect a_name) (toks text table n i) us xs
  row_here k = row_ok right_round (expect a_name) (expect-shrinks a_name) (toks text table n i) k

  pub names-none : {out out' : Writer} → n ≤ i → PutsNames (toks text table n i) out out'
  names-none {out} {out'} h xs us k = go (row_here k)
    where
      go : {ys : List Token} → Rowed right_round (expect a_name) (toks text table n i) us ys → Puts (names_pieces (spellings xs)) out out'
      go (last k c) = absurd (omega (arith, (name-here k).inside))
      go (next k c m) = absurd (omega (arith, (name-here k).inside))

  module _ {out a : Writer} (put : PutsWord (token_at text table i).bytes out a) {c : ℕ}
      (sees : c ≡ lookahead (toks text table n (i + 1))) where
    pub names-last : (c ≡ comma → ⊥) → PutsNames (toks text table n i) out a
    unfolding names_pieces more_names_pieces
    names-last w xs us k = go (row_here k)
      where
        go : {ys : List Token} → Rowed right_round (expect a_name) (toks text table n i) us ys → Puts (names_pieces (spellings ys)) out a
        go (last k e) = rw (← (name-here k).here) (put Kind.name)
        go (next k e m) = absurd (w (sees ∙ ap lookahead (name-here k).rest ∙ e))

    pub names-next : {b o : Writer} → c ≡ comma → PutsWord (ascii ",") a b → PutsNames (toks text table n (i + 2)) b o
        → PutsNames (toks text table n i) out o
    unfolding names_pieces
    names-next {b} {o} w then on xs us k = go (row_here k)
      where
        go : {ys : List Token} → Rowed right_round (expect a_name) (toks text table n i) us ys → Puts (names_pieces (spellings ys)) out o
        go (last k e) = let z : comma ≡ right_round = sym w ∙ sees ∙ ap lookahead (name-here k).rest ∙ e in absurd (omega arith)
        go (next {c = d} {us = ws} {xs = zs} k e m) =
            let f = first_of text table n (i + 1) d ws (name-here k).rest in
            let j : i + 2 ≡ i + 1 + 1 = omega arith in
            let g : toks text table n (i + 2) ≡ ws = ap (λ (x : ℕ). toks text table n x) j ∙ f.rest in
            let l = ap (row plain (commas right_round) (expect a_name)) g ∙ m in
            rw (← (name-here k).here)
            (puts-same
            (λ r. ap (λ (x : List Piece). name_piece (token_at text table i).bytes ∷ x)
            (after-comma (row_ok right_round (expect a_name) (expect-shrinks a_name) ws m) r))
            (puts_then (put Kind.name) (puts_then (then Kind.syntactic) (on zs us l))))
