-- The scan for a terminal over a table, place by place, and the place after a call. Assumes nothing.
use mathlib.Core.Path.{◌≡◌, sym, ap, ◌∙◌}
use mathlib.Core.Bool.{Bool, cond}
use mathlib.Core.List.{List, ◌∷◌}
use Prim.Native.Nat.{ℕ, ◌+◌, ◌≤◌, ◌<◌}
use native.Mathlib.Omega.{arith}
use lib.Dec.{eqb}
use borrow.Author.Tests.{eq-eqb, ne_eqb}
use Rattle.lexis.specs.Lexer.{Token}
use Rattle.lexis.specs.Symbol.{sym_of, semicolon}
use Rattle.syntax.specs.Parser.{begins}
use Rattle.syntax.specs.Table.{token_at, toks}
use Rattle.syntax.specs.Inner.{lookahead}
use Rattle.syntax.proofs.Table.{toks-none, toks_more}
use Rattle.syntax.proofs.Symbols.{begins-look}
use Rattle.lists.specs.Scans.{from_symbol}

-- ---- places

module _ (text table : List ℕ) (n i : ℕ) where
  abbrev here : List Token
  here = toks text table n i

  look-here : i < n → lookahead here ≡ sym_of (token_at text table i)
  look-here h = ap lookahead (toks_more text table n i h)

  pub find-here : (s : ℕ) {x : ℕ} → i < n → x ≡ lookahead here → x ≡ s → toks text table n i ≡ from_symbol s here
  unfolding from_symbol
  find-here s h e q =
      let k = eq-eqb (sym_of (token_at text table i)) s (sym (look-here h) ∙ sym e ∙ q) in
      let m = toks_more text table n i h in
      m ∙ sym (ap (from_symbol s) m ∙ ap (λ (b : Bool). cond b (token_at text table i ∷ toks text table n (i + 1)) (from_symbol s (toks text table n (i + 1)))) k)

  pub find-next : (s : ℕ) {x : ℕ} → i < n → x ≡ lookahead here → (x ≡ s → ⊥) → from_symbol s here ≡ from_symbol s (toks text table n (i + 1))
  unfolding from_symbol
  find-next s h e q =
      let k = ne_eqb (sym_of (token_at text table i)) s (λ z. q (e ∙ look-here h ∙ z)) in
      ap (from_symbol s) (toks_more text table n i h)
      ∙ ap (λ (b : Bool). cond b (token_at text table i ∷ toks text table n (i + 1)) (from_symbol s (toks text table n (i + 1)))) k

  pub find-end : (s : ℕ) → n ≤ i → toks text table n n ≡ from_symbol s here
  unfolding from_symbol
  find-end s h = toks-none text table n n (omega arith) ∙ sym (ap (from_symbol s) (toks-none text table n i h))

-- ---- a semicolon after a call

module _ (k : ℕ) (ts : List Token) {x : ℕ} (e : x ≡ lookahead ts) where
  begins-semicolon : begins semicolon ts ≡ eqb x semicolon
  begins-semicolon = begins-look semicolon ts (omega arith) ∙ ap (λ (y : ℕ). eqb y semicolon) (sym e)

  pub past-semicolon : x ≡ semicolon → k + 2 ≡ cond (begins semicolon ts) (k + 2) (k + 1)
  past-semicolon h = sym (ap (λ (b : Bool). cond b (k + 2) (k + 1)) (begins-semicolon ∙ eq-eqb x semicolon h))

  pub no-semicolon : (x ≡ semicolon → ⊥) → k + 1 ≡ cond (begins semicolon ts) (k + 2) (k + 1)
  no-semicolon h = sym (ap (λ (b : Bool). cond b (k + 2) (k + 1)) (begins-semicolon ∙ ne_eqb x semicolon h))
