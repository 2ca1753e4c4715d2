-- The token at a place: its terminal, and whether it is a name; what `those` is of one token. Assumes nothing.
use mathlib.Core.Path.{◌≡◌, sym, ap, ◌∙◌}
use mathlib.Core.Bool.{Bool, true, false}
use mathlib.Core.List.{List, [], ◌∷◌}
use Prim.Native.Nat.{ℕ, ◌<◌}
use borrow.Author.Tests.{eq-eqb, ne_eqb}
use Rattle.lexis.specs.Lexer.{Token}
use Rattle.lexis.specs.Symbol.{sym_of, a_name}
use Rattle.syntax.specs.Table.{token_at, toks}
use Rattle.syntax.specs.Inner.{lookahead}
use Rattle.syntax.proofs.Table.{toks_more}
use Rattle.lists.specs.Names.{those}
use Rattle.lists.specs.Scans.{is_name_token}

-- ---- the token at a place

module _ (text table : List ℕ) (n i : ℕ) (h : i < n) where
  pub look_at : {x : ℕ} → x ≡ lookahead (toks text table n i) → x ≡ sym_of (token_at text table i)
  look_at e = e ∙ ap lookahead (toks_more text table n i h)

  pub is_name : {x : ℕ} → x ≡ lookahead (toks text table n i) → x ≡ a_name → is_name_token (token_at text table i) ≡ true
  is_name e q = eq-eqb (sym_of (token_at text table i)) a_name (sym (look_at e) ∙ q)

  pub no_name : {x : ℕ} → x ≡ lookahead (toks text table n i) → (x ≡ a_name → ⊥) → is_name_token (token_at text table i) ≡ false
  no_name e q = ne_eqb (sym_of (token_at text table i)) a_name (λ z. q (look_at e ∙ z))

pub those-one : (f : Token → Bool) (t : Token) → f t ≡ true → those f (t ∷ []) ≡ t ∷ []
unfolding those
those-one f t h = simp h

pub those-none : (f : Token → Bool) (t : Token) → f t ≡ false → those f (t ∷ []) ≡ []
unfolding those
those-none f t h = simp h
