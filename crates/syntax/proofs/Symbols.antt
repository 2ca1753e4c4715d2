-- The terminal and the place of the token at a place of a table. Assumes nothing.
use mathlib.Core.Path.{◌≡◌, refl, sym, ap, ◌∙◌}
use mathlib.Core.Bool.{Bool, true, false}
use Prim.Native.Nat.{ℕ, ◌+◌, ◌-◌, ◌<◌, ◌≤◌}
use native.Mathlib.Omega.{arith}
use mathlib.Core.List.{List, [], ◌∷◌}
use lib.Dec.{eqb, leb}
use lib.ListN.{length, get_or}
use borrow.Author.Tests.{leb-true, leb-false, eq-eqb, ne_eqb}
use Rattle.lexis.specs.Lexer.{Token}
use Rattle.lexis.specs.Sizes.{first_mark}
use Rattle.syntax.specs.Read.Parsed.{Done, Fault}
use Rattle.lexis.specs.Symbol.{sym_of}
use Rattle.syntax.specs.Parser.{Reader, begins, rest, expect}
use Rattle.syntax.specs.Parser.Parse.{bad}
use Rattle.syntax.specs.Table.{start_at, token_at, toks, Holds, place_of, parsed}
use Rattle.syntax.specs.Inner.{the_end, lookahead}
use Rattle.syntax.specs.Tokens.{from, answer}
use Rattle.syntax.specs.declared.tokens.Tokens.{Tokens}
use Rattle.syntax.proofs.Chain.{outcome, clash}
use Rattle.syntax.proofs.Table.{toks-none, toks_more, toks-length, toks-rest}

module _ (text table : List ℕ) (n i : ℕ) where
  pub look_none : n ≤ i → the_end ≡ lookahead (toks text table n i)
  look_none h = sym (ap lookahead (toks-none text table n i h))

  pub look-more : Holds text table n → i < n → get_or table (first_mark + i) 0 ≡ lookahead (toks text table n i)
  look-more h l = h.mark i l ∙ sym (ap lookahead (toks_more text table n i l))

  pub place_none : n ≤ i → length text ≡ place_of (length text) (toks text table n i)
  place_none h = sym (ap (place_of (length text)) (toks-none text table n i h))

  pub place-more : i < n → start_at table i ≡ place_of (length text) (toks text table n i)
  unfolding token_at
  place-more h = sym (ap (place_of (length text)) (toks_more text table n i h))

  -- a token stands where a terminal is
  pub stands : {s : ℕ} → s ≡ lookahead (toks text table n i) → s < the_end → i < n
  stands {s} e l = go (leb n i) refl
    where
      go : (b : Bool) → leb n i ≡ b → i < n
      go true q = let z : s ≡ the_end = e ∙ sym (look_none (leb-true n i q)) in absurd (omega arith)
      go false q = leb-false n i q

  -- and where a test holds that does not at the end
  pub stands_by : (f : ℕ → Bool) → f the_end ≡ false → {s : ℕ} → s ≡ lookahead (toks text table n i) → f s ≡ true → i < n
  stands_by f z {s} e h = go (leb n i) refl
    where
      go : (b : Bool) → leb n i ≡ b → i < n
      go true q = clash (sym z ∙ (ap f (look_none (leb-true n i q) ∙ sym e) ∙ h))
      go false q = leb-false n i q

-- past one token, past none, and what is read after one token
module _ (ts : Tokens) (i : ℕ) where
  rest-length : length (rest (from ts i)) ≡ ts.count - (i + 1)
  rest-length = ap (λ (ws : List Token). length ws) (toks-rest ts.text.now ts.table.now ts.count i) ∙ toks-length ts.text.now ts.table.now ts.count (i + 1)

  pub one_more : i < ts.count → Done (i + 1) ≡ Done (ts.count - length (rest (from ts i)))
  one_more h = let q : i + 1 ≡ ts.count - length (rest (from ts i)) = omega (arith, rest-length) in ap Done q

  pub none_more : i ≤ ts.count → Done i ≡ Done (ts.count - length (from ts i))
  none_more h = let q : i ≡ ts.count - length (from ts i) = omega (arith, toks-length ts.text.now ts.table.now ts.count i) in ap Done q

  pub answer-rest : {A : Type 0} (r : Reader A) → answer ts r (i + 1) ≡ outcome ts (r (rest (from ts i)))
  answer-rest r = ap (λ (ws : List Token). outcome ts (r ws)) (sym (toks-rest ts.text.now ts.table.now ts.count i))

-- ---- one terminal

-- the number that stands for the end is above every terminal
pub end-not : (s : ℕ) → s < the_end → the_end ≡ s → ⊥
end-not s l h = omega arith

-- what follows an opening bracket
abbrev pub begun : {A : Type 0} → (Token → Reader A) → Reader A
begun opened [] = bad 9 []
begun opened (t ∷ ts) = opened t ts

pub begins-look : (s : ℕ) (ts : List Token) → s < the_end → begins s ts ≡ eqb (lookahead ts) s
begins-look s [] h = sym (ne_eqb the_end s (λ z. omega arith))
begins-look s (t ∷ ts) h = refl

pub expect-yes : (e n s : ℕ) (ts : List Token) → s < the_end → lookahead ts ≡ s → parsed e n (expect s ts) ≡ Done (n - length (rest ts))
unfolding expect
expect-yes e n s [] l h = absurd (omega arith)
expect-yes e n s (t ∷ ts) l h = simp (eq-eqb (sym_of t) s h)

pub expect-no : (e n s : ℕ) (ts : List Token) → (lookahead ts ≡ s → ⊥) → parsed e n (expect s ts) ≡ Fault 9 (place_of e ts)
unfolding expect
expect-no e n s [] h = refl
expect-no e n s (t ∷ ts) h = simp (ne_eqb (sym_of t) s h)
