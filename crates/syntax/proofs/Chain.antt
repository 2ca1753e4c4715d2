-- One reader after another: what the code answers, step by step, is what the reader on tokens gives. Assumes nothing.
use mathlib.Core.Path.{◌≡◌, refl, sym, ap, ◌∙◌}
use mathlib.Core.Bool.{Bool, true, false}
use Prim.Native.Nat.{ℕ, ◌-◌, ◌<◌, ◌≤◌}
use native.Mathlib.Omega.{arith}
use mathlib.Core.List.{List, [], ◌∷◌, ◌++◌}
use lib.ListN.{length}
use Rattle.std.specs.Prelude.{Result, Err}
use Rattle.std.specs.Result.{IsErrAnd}
use Rattle.std.proofs.lemmas.Result.{err_from_is_err_and}
use Rattle.lexis.specs.Lexer.{Token}
use Rattle.syntax.specs.Read.{Parsed}
use Rattle.syntax.specs.Read.Parsed.{Done, Fault}
use Rattle.syntax.specs.Parser.{Parse, Reader, then, mapped}
use Rattle.syntax.specs.Parser.Parse.{ok, bad}
use Rattle.syntax.specs.Table.{place_of, parsed}
use Rattle.syntax.specs.Tokens.{from, told, answer}
use Rattle.syntax.specs.declared.ParseError.{ParseError}
use Rattle.syntax.specs.declared.tokens.Tokens.{Tokens}
use Rattle.syntax.proofs.Row.{Left, Shrinks}
use Rattle.syntax.proofs.Row.Left.{fewer}
use Rattle.syntax.proofs.Row.Left.{fault as no_more}
use Rattle.syntax.proofs.Tails.{Takes}
use Rattle.syntax.proofs.Tails.Takes.{took, fault}
use Rattle.syntax.proofs.Table.{toks-length, toks-suffix}

-- ---- what cannot be

pub clash : {X : Type 0} → ◌≡◌ {A = Bool} false true → X
clash h = let z : ◌≡◌ {A = ℕ} 0 1 = cc in absurd (omega arith)

no-fault : {X : Type 0} {c q k : ℕ} → Done k ≡ Fault c q → X
no-fault h = let z : ◌≡◌ {A = ℕ} 0 1 = cc in absurd (omega arith)

-- ---- answers

-- on from the place that an answer has reached
abbrev pub onwards : Parsed → (ℕ → Parsed) → Parsed
onwards (Done j) k = k j
onwards (Fault c q) k = Fault c q

-- a step that has reached j, and what goes on from there
pub goes : (g : ℕ → Parsed) {y r : Parsed} {j : ℕ} → Done j ≡ y → r ≡ g j → r ≡ onwards y g
goes g e h = h ∙ ap (λ (z : Parsed). onwards z g) e

-- a step that is a fault ends all that follow
pub stops : (g : ℕ → Parsed) {y : Parsed} {c q : ℕ} → Fault c q ≡ y → Fault c q ≡ onwards y g
stops g e = ap (λ (z : Parsed). onwards z g) e

-- the error with which a `?` ends is the one that it was given
pub exits : (ts : Tokens) (e : ParseError) (r : Result ℕ ParseError) {whole : Parsed} → IsErrAnd r (λ y. y ≡ e) → told ts (Err e) ≡ whole → told ts r ≡ whole
exits ts e r w h = let p = err_from_is_err_and r w in ap (told ts) (p.1 ∙ ap (λ (y : ParseError). Err y) p.2) ∙ h

-- r is the whole, where a law says what the whole is
pub by_law : {r x whole : Parsed} → whole ≡ x → r ≡ x → r ≡ whole
by_law w h = h ∙ sym w

-- several steps, each from where the one before it has reached
abbrev pub steps : Parsed → List (ℕ → Parsed) → Parsed
steps x [] = x
steps x (g ∷ gs) = onwards x (λ j. steps (g j) gs)

steps-fault : (c q : ℕ) (gs : List (ℕ → Parsed)) → Fault c q ≡ steps (Fault c q) gs
steps-fault c q [] = refl
steps-fault c q (g ∷ gs) = refl

pub steps-append : (x : Parsed) (fs gs : List (ℕ → Parsed)) → steps x (fs ++ gs) ≡ steps (steps x fs) gs
steps-append x [] gs = refl
steps-append (Done j) (f ∷ fs) gs = steps-append (f j) fs gs
steps-append (Fault c q) (f ∷ fs) gs = steps-fault c q gs

-- ---- readers

-- what a reader that ends with p answers over these tokens
abbrev pub outcome : {A : Type 0} → Tokens → Parse A → Parsed
outcome ts p = parsed (length ts.text.now) ts.count p

-- a tree made of what was read does not matter to the answer
pub mapped-same : {A B : Type 0} (e n : ℕ) (f : A → B) (p : Parse A) → parsed e n (mapped f p) ≡ parsed e n p
mapped-same e n f (ok a us) = refl
mapped-same e n f (bad c us) = refl

module _ (ts : Tokens) (i : ℕ) where
  pub chain : {A B : Type 0} {p : Parse A} (k : A → List Token → Parse B) (gs : List (ℕ → Parsed)) → Takes (from ts i) p
      → ((a : A) (j : ℕ) → outcome ts (k a (from ts j)) ≡ steps (Done j) gs)
      → outcome ts (then p k) ≡ steps (outcome ts p) gs
  chain k gs (took {a = a} {us = us} h) f =
      ap (λ (ws : List Token). outcome ts (k a ws)) (toks-suffix ts.text.now ts.table.now ts.count i h) ∙ f a (ts.count - length us)
  chain k gs (fault {c = c} {us = us} h) f = steps-fault c (place_of (length ts.text.now) us) gs

-- a reader that shrinks passes i
pub passes : {A : Type 0} {item : Reader A} → Shrinks item → (ts : Tokens) {i j : ℕ} → Done j ≡ answer ts item i → i < j
passes {item = item} small ts {i} {j} w = go (item (from ts i)) (small (from ts i)) w
  where
    go : {A : Type 0} (p : Parse A) → Left (length (from ts i)) p → Done j ≡ outcome ts p → i < j
    go (ok a us) (fewer h) w = let q : j ≡ ts.count - length us = cc in omega (arith, toks-length ts.text.now ts.table.now ts.count i)
    go (bad c us) no_more w = no-fault w

-- no reader passes the end
pub reaches : {A : Type 0} {n j : ℕ} (e : ℕ) (p : Parse A) → Done j ≡ parsed e n p → j ≤ n
reaches {n = n} {j = j} e (ok a us) w = let q : j ≡ n - length us = cc in omega arith
reaches e (bad c us) w = no-fault w
