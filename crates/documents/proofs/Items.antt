-- What the answers of readers say, and what stands at a place of a table. Assumes nothing.
use mathlib.Core.Path.{◌≡◌, refl, sym, ap, ◌∙◌}
use mathlib.Core.Bool.{Bool, true, false, false≢true}
use mathlib.Core.List.{List, ◌∷◌}
use Prim.Native.Nat.{ℕ, ◌+◌, ◌-◌, ◌<◌}
use native.Mathlib.Omega.{arith}
use lib.Dec.{leb}
use borrow.Author.Tests.{leb-true, leb-false}
use lib.ListN.{length}
use Rattle.lexis.specs.Lexer.{Token}
use Rattle.syntax.specs.Read.{Parsed}
use Rattle.syntax.specs.Read.Parsed.{Done, Fault}
use Rattle.syntax.specs.Tree.{Value}
use Rattle.syntax.specs.Grammar.{Leaves, Spells}
use Rattle.syntax.specs.Grammar.IsLiteral.{no_sign, a-sign}
use Rattle.syntax.specs.Grammar.Spells.{a-name, a-literal, an-empty-array, an-array, a-tuple}
use Rattle.syntax.specs.Parser.{Parse, Reader, rest}
use Rattle.syntax.specs.Parser.Parse.{ok}
use Rattle.syntax.specs.Table.{token_at, toks, parsed}
use Rattle.syntax.specs.Inner.{lookahead}
use Rattle.syntax.proofs.Tails.{Takes, Tails}
use Rattle.syntax.proofs.Tails.Takes.{took}
use Rattle.syntax.proofs.Table.{toks-none, toks_more, toks-rest, toks-suffix}
use Rattle.lists.specs.Fitting.{is_leaf_symbol}

-- constructors that differ
pub clash : {X : Type 0} → ◌≡◌ {A = ℕ} 0 1 → X
clash z = absurd (omega arith)

-- ---- answers of readers

-- a reader that read a tree has not answered a fault
pub no-fault : {A X : Type 0} (e n : ℕ) {p : Parse A} {a : A} {us : List Token} {x : Parsed} {c q : ℕ} → x ≡ parsed e n p → x ≡ Fault c q → p ≡ ok a us → X
no-fault e n first fell h = let z = sym fell ∙ (first ∙ ap (parsed e n) h) in clash cc

-- what it leaves are the tokens from the place that it has reached
pub left_at : {A : Type 0} {item : Reader A} → Tails item → (text table : List ℕ) (e n i : ℕ) {a : A} {us : List Token} {x : Parsed} {j : ℕ}
    → x ≡ parsed e n (item (toks text table n i)) → x ≡ Done j → item (toks text table n i) ≡ ok a us → us ≡ toks text table n j
left_at {A} tails text table e n i {a} {us} {j = j} first reached h =
    let z = sym reached ∙ (first ∙ ap (parsed e n) h) in
    let d : j ≡ n - length us = cc in
    go (rw h at (tails (toks text table n i))) d
  where
    go : Takes {A = A} (toks text table n i) (ok a us) → j ≡ n - length us → us ≡ toks text table n j
    go (took s) d = toks-suffix text table n i s ∙ ap (λ (k : ℕ). toks text table n k) (sym d)

-- ---- tokens

-- a reader that read something read a token
pub token-there : (text table : List ℕ) (n i : ℕ) {t : Token} {ts : List Token} → toks text table n i ≡ t ∷ ts → i < n
token-there text table n i {t} {ts} h = go (leb n i) refl
  where
    go : (b : Bool) → leb n i ≡ b → i < n
    go true e = let z = sym (toks-none text table n i (leb-true n i e)) ∙ h in clash cc
    go false e = leb-false n i e

pub token-is : (text table : List ℕ) (n i : ℕ) {t : Token} {ts : List Token} → toks text table n i ≡ t ∷ ts → t ≡ token_at text table i
token-is text table n i {t} {ts} h = let z = sym h ∙ toks_more text table n i (token-there text table n i h) in cc

-- a leaf without a sign is one token
pub leaf-ends : (text table : List ℕ) (n i : ℕ) {m : Leaves} {b : ℕ} {v : Value} {us : List Token} → is_leaf_symbol (lookahead (toks text table n i)) ≡ true
    → Spells m b (toks text table n i) v us → us ≡ toks text table n (i + 1)
leaf-ends text table n i {m} h s = go s h ∙ toks-rest text table n i
  where
    go : {b : ℕ} {ts us : List Token} {v : Value} → Spells m b ts v us → is_leaf_symbol (lookahead ts) ≡ true → us ≡ rest ts
    go (a-name q e) l = refl
    go (a-literal q (no_sign e)) l = refl
    go (a-literal q (a-sign e f)) l = absurd (false≢true (sym (ap is_leaf_symbol e) ∙ l))
    go (an-empty-array e f) l = absurd (false≢true (sym (ap is_leaf_symbol e) ∙ l))
    go (an-array e f) l = absurd (false≢true (sym (ap is_leaf_symbol e) ∙ l))
    go (a-tuple e f g r) l = absurd (false≢true (sym (ap is_leaf_symbol e) ∙ l))

pub leaf-there : (text table : List ℕ) (n i : ℕ) → is_leaf_symbol (lookahead (toks text table n i)) ≡ true → i < n
leaf-there text table n i h = go (leb n i) refl
  where
    go : (b : Bool) → leb n i ≡ b → i < n
    go true e = absurd (false≢true (sym (ap (λ (ts : List Token). is_leaf_symbol (lookahead ts)) (toks-none text table n i (leb-true n i e))) ∙ h))
    go false e = leb-false n i e
