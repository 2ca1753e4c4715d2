-- What a reader's answer says about its parts: the laws by which an equation of the parser is taken apart. One reader after another,
-- one terminal, rows, calls up to a place; and the grammar's phrase for whatever was read. Assumes nothing.
use mathlib.Core.Path.{◌≡◌, refl, sym, ap, ◌∙◌}
use mathlib.Core.Bool.{Bool, true, false, cond}
use mathlib.Core.List.{List, [], ◌∷◌}
use Prim.Native.Nat.{ℕ, zero, suc}
use native.Mathlib.Omega.{arith}
use lib.Dec.{eqb}
use lib.ListN.{length}
use borrow.Author.Tests.{eqb-true}
use Rattle.lexis.specs.Lexer.{Token}
use Rattle.lexis.specs.Symbol.{sym_of, comma}
use Rattle.syntax.specs.Grammar.{Separated}
use Rattle.syntax.specs.Grammar.Separated.{last, next}
use Rattle.syntax.specs.Parser.{Parse, Reader, then, mapped, expect, plain, follow, onward, row_f, row}
use Rattle.syntax.specs.Parser.Parse.{ok, bad}
use Rattle.syntax.specs.Parser.Row.{commas}
use Rattle.syntax.specs.Parser.Follow.{again, done, neither}
use Rattle.syntax.proofs.Right.{Phrase, Right, Reads}
use Rattle.syntax.proofs.Right.Right.{good}

clash : {C : Type 0} → ◌≡◌ {A = ℕ} 0 1 → C
clash z = absurd (omega arith)

-- ---- one reader after another

pub then_ok : {A B : Type 0} (p : Parse A) (k : A → List Token → Parse B) (b : B) (ws : List Token) → then p k ≡ ok b ws
    → (a : A) × (us : List Token) × (p ≡ ok a us) × (k a us ≡ ok b ws)
then_ok (ok a us) k b ws e = (a, us, refl, e)
then_ok (bad c us) k b ws e = clash cc

pub mapped-ok : {A B : Type 0} (f : A → B) (p : Parse A) (b : B) (ws : List Token) → mapped f p ≡ ok b ws → (a : A) × (p ≡ ok a ws) × (b ≡ f a)
mapped-ok f (ok a us) b ws e =
    let q : f a ≡ b = cc in
    let r : us ≡ ws = cc in
    (a, ap (λ (l : List Token). ok a l) r, sym q)
mapped-ok f (bad c us) b ws e = clash cc

pub expect-ok : (s : ℕ) (ts : List Token) (t : Token) (us : List Token) → expect s ts ≡ ok t us → (ts ≡ t ∷ us) × (sym_of t ≡ s)
unfolding expect
expect-ok s [] t us e = clash cc
expect-ok s (x ∷ ts) t us e = go (eqb (sym_of x) s) refl e
  where
    go : (c : Bool) → eqb (sym_of x) s ≡ c → cond c (ok x ts) (bad 9 (x ∷ ts)) ≡ ok t us → (x ∷ ts ≡ t ∷ us) × (sym_of t ≡ s)
    go true h e =
        let p : x ≡ t = cc in
        let q : ts ≡ us = cc in
        ((λ i. p i ∷ q i), ap sym_of (sym p) ∙ eqb-true (sym_of x) s h)
    go false h e = clash cc

-- the same, on to whatever is to be shown
pub after-ok : {A B C : Type 0} (p : Parse A) (k : A → List Token → Parse B) (b : B) (ws : List Token) → then p k ≡ ok b ws
    → ((a : A) (us : List Token) → p ≡ ok a us → k a us ≡ ok b ws → C) → C
after-ok p k b ws e f = let r = then_ok p k b ws e in f r.0 r.1 r.2 r.3

pub token-ok : {B C : Type 0} (s : ℕ) (ts : List Token) (k : Token → List Token → Parse B) (b : B) (ws : List Token) → then (expect s ts) k ≡ ok b ws
    → ((t : Token) (us : List Token) → ts ≡ t ∷ us → sym_of t ≡ s → k t us ≡ ok b ws → C) → C
token-ok s ts k b ws e f =
    let r = then_ok (expect s ts) k b ws e in
    let q = expect-ok s ts r.0 r.1 r.2 in
    f r.0 r.1 q.0 q.1 r.3

-- ---- the grammar's phrase

pub reads_ok : {A : Type 0} (R : Phrase A) (b : ℕ) (f : Reader A) → Reads R b f → (ts : List Token) (a : A) (us : List Token) → f ts ≡ ok a us → R b ts a us
reads_ok R b f h ts a us e = go (rw e at (h.each ts))
  where
    go : Right R b ts (ok a us) → R b ts a us
    go (good p d r) = rw d (r b us (omega arith))

-- ---- rows

-- what an item reads
abbrev pub Reading : {A : Type 0} → Reader A → List Token → A → List Token → Type 0
Reading item ts a us = item ts ≡ ok a us

module _ {A : Type 0} (item : Reader A) (close : ℕ) where
  -- after an item: what follows it
  behind : (f : ℕ) (ts : List Token) (a : A) (us : List Token) (xs : List A) (ws : List Token) → item ts ≡ ok a us
      → ((us : List Token) (xs : List A) → row_f f plain (commas close) item us ≡ ok xs ws → Separated (Reading item) close us xs ws)
      → onward (follow (commas close) us) us (λ ws. mapped (λ xs. a ∷ xs) (row_f f plain (commas close) item ws)) (λ ws. ok (a ∷ []) ws) ≡ ok xs ws
      → Separated (Reading item) close ts xs ws
  unfolding follow
  behind f ts a [] xs ws h ih e = clash cc
  behind f ts a (c ∷ us) xs ws h ih e = go (eqb (sym_of c) comma) refl (eqb (sym_of c) close) refl e
    where
      go : (p : Bool) → eqb (sym_of c) comma ≡ p → (q : Bool) → eqb (sym_of c) close ≡ q
          → onward (cond p (again us) (cond q (done us) neither)) (c ∷ us) (λ ws. mapped (λ xs. a ∷ xs) (row_f f plain (commas close) item ws))
          (λ ws. ok (a ∷ []) ws) ≡ ok xs ws
          → Separated (Reading item) close ts xs ws
      go true p q r e =
          let m = mapped-ok (λ xs. a ∷ xs) (row_f f plain (commas close) item us) xs ws e in
          rw m.2 (next h (eqb-true (sym_of c) comma p) (ih us m.0 m.1))
      go false p true r e =
          let x : a ∷ [] ≡ xs = cc in
          let y : us ≡ ws = cc in
          rw (← x, ← y) (last h (eqb-true (sym_of c) close r))
      go false p false r e = clash cc

  separated-fuel : (f : ℕ) (ts : List Token) (xs : List A) (ws : List Token) → row_f f plain (commas close) item ts ≡ ok xs ws
      → Separated (Reading item) close ts xs ws
  unfolding row_f
  separated-fuel zero ts xs ws e = clash cc
  separated-fuel (suc f) ts xs ws e =
      let t = then_ok (item ts) _ xs ws e in
      behind f ts t.0 t.1 xs ws t.2 (λ us xs e. separated-fuel f us xs ws e) t.3

  -- a row is its items, each as its reader reads it
  pub separated-ok : (ts : List Token) (xs : List A) (ws : List Token) → row plain (commas close) item ts ≡ ok xs ws → Separated (Reading item) close ts xs ws
  unfolding row
  separated-ok ts xs ws e = separated-fuel (suc (length ts)) ts xs ws e
