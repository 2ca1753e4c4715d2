-- Rows over a table: what the loops that read them answer at each of their ways out. Assumes nothing.
use mathlib.Core.Path.{◌≡◌, refl, sym, ap, ◌∙◌}
use mathlib.Core.Bool.{Bool, true, false, cond}
use Prim.Native.Nat.{ℕ, ◌+◌}
use mathlib.Core.List.{List, [], ◌∷◌}
use lib.Dec.{eqb}
use borrow.Author.Tests.{eq-eqb, ne_eqb}
use lib.ListN.{length}
use Rattle.lexis.specs.Lexer.{Token}
use Rattle.syntax.specs.Read.{Parsed}
use Rattle.syntax.specs.Read.Parsed.{Done, Fault}
use Rattle.lexis.specs.Symbol.{sym_of, comma}
use Rattle.syntax.specs.Parser.{Reader, Lists, mapped, expect, rest, row, follow, onward, commas}
use Rattle.syntax.specs.Parser.Parse.{ok, bad}
use Rattle.syntax.specs.Parser.Follow.{again, done, neither}
use Rattle.syntax.specs.Table.{parsed}
use Rattle.syntax.specs.Tokens.{from, answer}
use Rattle.syntax.specs.declared.tokens.Tokens.{Tokens}
use Rattle.syntax.specs.Inner.{lookahead}
use Rattle.syntax.proofs.Row.{Shrinks, row_is, row-shrinks}
use Rattle.syntax.proofs.Tails.{Tails, row-tails}
use Rattle.syntax.proofs.Table.{toks-rest}
use Rattle.syntax.proofs.Chain.{outcome, onwards, goes, stops, chain, mapped-same}

-- a reader that shrinks and leaves an end
pub record Sound {A : Type 0} (item : Reader A) : Type 0 where
  pub small : Shrinks item
  pub tails : Tails item

pub row-sound : {A L : Type 0} (l : Lists A L) (close : ℕ) {item : Reader A} → Sound item → Sound (row l (commas close) item)
row-sound l close s = record { small = row-shrinks l (commas close) _ s.small; tails = row-tails l (commas close) _ s.tails }

module _ {A L : Type 0} (l : Lists A L) (close : ℕ) {item : Reader A} (good : Sound item) where
  module _ (e n : ℕ) where
    -- after an item: a comma and the row again, or the closing terminal
    tail-by : (a : A) (t : Token) (us : List Token) (p q : Bool)
        → parsed e n
        (onward (cond p (again us) (cond q (done us) neither)) (t ∷ us) (λ ws. mapped (l.cons a) (row l (commas close) item ws)) (λ ws. ok (l.one a) ws))
        ≡ cond p (parsed e n (row l (commas close) item us)) (parsed e n (cond q (ok t us) (bad 9 (t ∷ us))))
    tail-by a t us true q = mapped-same e n (l.cons a) (row l (commas close) item us)
    tail-by a t us false true = refl
    tail-by a t us false false = refl

    pub tail-is : (a : A) (us : List Token)
        → parsed e n (onward (follow (commas close) us) us (λ ws. mapped (l.cons a) (row l (commas close) item ws)) (λ ws. ok (l.one a) ws)) ≡ cond
        (eqb (lookahead us) comma) (parsed e n (row l (commas close) item (rest us))) (parsed e n (expect close us))
    unfolding follow expect
    tail-is a [] = refl
    tail-is a (t ∷ us) = tail-by a t us (eqb (sym_of t) comma) (eqb (sym_of t) close)

  module _ (ts : Tokens) (i : ℕ) where
    abbrev behind : ℕ → Parsed
    behind j =
        cond (eqb (lookahead (from ts j)) comma) (answer ts (row l (commas close) item) (j + 1))
        (answer ts (expect close) j)

    row_from : answer ts (row l (commas close) item) i ≡ onwards (answer ts item i) behind
    row_from =
        ap (outcome ts) (row_is l (commas close) item good.small (from ts i))
        ∙ chain ts i _ (behind ∷ []) (good.tails (from ts i))
        (λ a j. tail-is (length ts.text.now) ts.count a (from ts j)
        ∙ ap
        (λ (ws : List Token). cond (eqb (lookahead (from ts j)) comma) (outcome ts (row l (commas close) item ws))
        (answer ts (expect close) j))
        (toks-rest ts.text.now ts.table.now ts.count j))

    pub row-fell : {c q : ℕ} → Fault c q ≡ answer ts item i → Fault c q ≡ answer ts (row l (commas close) item) i
    row-fell f = stops behind f ∙ sym row_from

    module _ {j s : ℕ} (first : Done j ≡ answer ts item i) (sees : s ≡ lookahead (from ts j)) where
      pub row_last : {r : Parsed} → (s ≡ comma → ⊥) → r ≡ answer ts (expect close) j
          → r ≡ answer ts (row l (commas close) item) i
      row_last w h = goes behind first (rw (ne_eqb (lookahead (from ts j)) comma (λ z. w (sees ∙ z))) h) ∙ sym row_from

      pub row_next : s ≡ comma
          → answer ts (row l (commas close) item) i ≡ answer ts (row l (commas close) item) (j + 1)
      row_next w = sym (goes behind first (rw (eq-eqb (lookahead (from ts j)) comma (sym sees ∙ w))) ∙ sym row_from)
