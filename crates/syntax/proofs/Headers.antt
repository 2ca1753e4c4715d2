-- What the readers of operation lists answer at each of their ways out. Assumes nothing.
use mathlib.Core.Path.{◌≡◌, refl, sym, ap, ◌∙◌}
use Prim.Native.Nat.{ℕ, ◌-◌, ◌<◌, ◌≤◌}
use native.Mathlib.Omega.{arith}
use mathlib.Core.List.{List, [], ◌∷◌}
use Rattle.lexis.specs.Sizes.{max_brackets}
use lib.ListN.{length}
use Rattle.lexis.specs.Lexer.{Token}
use Rattle.syntax.specs.Read.Parsed.{Done}
use Rattle.syntax.specs.declared.list.Item.TheVariants.{Parameter, Result}
use Rattle.lexis.specs.Symbol.{left_round, right_round, arrow, a_name, fragment}
use Rattle.syntax.specs.Tree.{Header}
use Rattle.syntax.specs.Parser.{mapped, row, plain, commas, to_the_end, follow, onward, header, operations}
use Rattle.syntax.specs.Parser.Parse.{ok}
use Rattle.syntax.specs.Table.{parsed}
use Rattle.syntax.specs.Tokens.{from, answer}
use Rattle.syntax.specs.declared.tokens.Tokens.{Tokens}
use Rattle.syntax.specs.Inner.{reader}
use Rattle.syntax.proofs.Row.{row_is}
use Rattle.syntax.proofs.Shrinks.{header-shrinks}
use Rattle.syntax.proofs.Tails.{expect-tails, header-tails}
use Rattle.syntax.proofs.Table.{toks-none, toks_more}
use Rattle.syntax.proofs.Chain.{outcome, onwards, chain, steps, mapped-same}
use Rattle.syntax.proofs.Rows.{row-sound}
use Rattle.syntax.proofs.Lists.{item-sound, word, listed}

-- after a header the list goes on
more_by : (e n : ℕ) (h : Header) (us : List Token)
    → parsed e n (onward (follow to_the_end us) us (λ ws. mapped (λ hs. h ∷ hs) (row plain to_the_end (header max_brackets) ws)) (λ ws. ok (h ∷ []) ws))
    ≡ parsed e n (operations max_brackets us)
unfolding follow operations
more_by e n h [] = refl
more_by e n h (t ∷ us) = mapped-same e n (λ hs. h ∷ hs) (row plain to_the_end (header max_brackets) (t ∷ us))

module _ (ts : Tokens) where
  pub header_is : (i : ℕ)
      → answer ts (header max_brackets) i ≡ steps (word ts fragment i)
      (word ts a_name ∷ word ts left_round ∷ listed ts Parameter ∷ word ts arrow ∷ word ts left_round
      ∷ listed ts Result ∷ [])
  unfolding header
  header_is i =
      chain ts i _
      (word ts a_name ∷ word ts left_round ∷ listed ts Parameter ∷ word ts arrow ∷ word ts left_round
      ∷ listed ts Result ∷ [])
      (expect-tails fragment (from ts i)) (λ f i.
      chain ts i _
      (word ts left_round ∷ listed ts Parameter ∷ word ts arrow ∷ word ts left_round
      ∷ listed ts Result ∷ [])
      (expect-tails a_name (from ts i)) (λ m i.
      chain ts i _ (listed ts Parameter ∷ word ts arrow ∷ word ts left_round ∷ listed ts Result ∷ [])
      (expect-tails left_round (from ts i)) (λ o i.
      chain ts i _ (word ts arrow ∷ word ts left_round ∷ listed ts Result ∷ [])
      ((row-sound plain right_round (item-sound Parameter)).tails (from ts i)) (λ ps i.
      chain ts i _ (word ts left_round ∷ listed ts Result ∷ []) (expect-tails arrow (from ts i)) (λ a i.
      chain ts i _ (listed ts Result ∷ []) (expect-tails left_round (from ts i)) (λ o i.
      mapped-same (length ts.text.now) ts.count (λ rs. record { keyword = f; name = m; params = ps; results = rs })
      (row plain (commas right_round) (reader Result) (from ts i))))))))

  row_by : (i : ℕ)
      → answer ts (row plain to_the_end (header max_brackets)) i ≡ onwards (answer ts (header max_brackets) i) (λ j. answer ts (operations max_brackets) j)
  row_by i =
      ap (outcome ts) (row_is plain to_the_end (header max_brackets) (header-shrinks max_brackets) (from ts i))
      ∙ chain ts i _ ((λ j. answer ts (operations max_brackets) j) ∷ []) (header-tails max_brackets (from ts i))
      (λ h j. more_by (length ts.text.now) ts.count h (from ts j))

  pub operations-is : (i : ℕ) → i < ts.count
      → answer ts (operations max_brackets) i ≡ onwards (answer ts (header max_brackets) i) (λ j. answer ts (operations max_brackets) j)
  unfolding operations
  operations-is i h =
      let q = toks_more ts.text.now ts.table.now ts.count i h in
      ap (λ (ws : List Token). outcome ts (operations max_brackets ws)) q
      ∙ ap (λ (ws : List Token). outcome ts (row plain to_the_end (header max_brackets) ws)) (sym q)
      ∙ row_by i

  pub operations-end : (i : ℕ) → ts.count ≤ i → Done ts.count ≡ answer ts (operations max_brackets) i
  unfolding operations
  operations-end i h =
      let q : ts.count ≡ ts.count - 0 = omega arith in
      ap Done q
      ∙ sym (ap (λ (ws : List Token). outcome ts (operations max_brackets ws)) (toks-none ts.text.now ts.table.now ts.count i h))
