-- What stands behind a parse that succeeds: the parts of a chain of readers, of a row, of a parameter.
-- Relies on nothing but the readers' own definitions and that they shrink.
use mathlib.Core.Path.{◌≡◌, refl, sym, ap, ◌∙◌}
use mathlib.Core.Bool.{Bool, true, false, cond}
use mathlib.Core.List.{List, [], ◌∷◌}
use Prim.Native.Nat.{ℕ}
use native.Mathlib.Omega.{arith}
use lib.Dec.{eqb}
use borrow.Author.Tests.{eqb-true}
use Rattle.lexis.specs.Lexer.{Token}
use Rattle.lexis.specs.Symbol.{sym_of, comma, a_name}
use Rattle.syntax.specs.Tree.{Param}
use Rattle.syntax.specs.Parser.{Parse, Reader, then, mapped, expect, follow, onward, plain, row, type, default}
use Rattle.syntax.specs.Parser.Parse.{ok, bad}
use Rattle.syntax.specs.Parser.Row.{commas}
use Rattle.syntax.specs.Parser.Follow.{again, done, neither}
use Rattle.syntax.proofs.Row.{Shrinks, row_is}

-- ---- chains

pub record Chained {A B : Type 0} (x : Parse A) (k : A → Reader B) (b : B) (ws : List Token) : Type 0 where
  pub tree : A
  pub left : List Token
  pub one : x ≡ ok tree left
  pub then-on : k tree left ≡ ok b ws

pub then_ok : {A B : Type 0} (x : Parse A) (k : A → Reader B) {b : B} {ws : List Token} → then x k ≡ ok b ws → Chained x k b ws
then_ok (ok a us) k h = record { tree = a; left = us; one = refl; then-on = h }
then_ok (bad c us) k h = let z : ◌≡◌ {A = ℕ} 0 1 = cc in absurd (omega arith)

ok-tree : {A : Type 0} {a b : A} {us ws : List Token} → ok a us ≡ ok b ws → a ≡ b
ok-tree h = cc

ok-left : {A : Type 0} {a b : A} {us ws : List Token} → ok a us ≡ ok b ws → us ≡ ws
ok-left h = cc

pub record Mapped {A B : Type 0} (x : Parse A) (f : A → B) (b : B) (ws : List Token) : Type 0 where
  pub tree : A
  pub one : x ≡ ok tree ws
  pub made : f tree ≡ b

pub mapped-ok : {A B : Type 0} (f : A → B) (x : Parse A) {b : B} {ws : List Token} → mapped f x ≡ ok b ws → Mapped x f b ws
mapped-ok f (ok a us) h = record { tree = a; one = ap (ok a) (ok-left h); made = ok-tree h }
mapped-ok f (bad c us) h = let z : ◌≡◌ {A = ℕ} 0 1 = cc in absurd (omega arith)

pub record Expected (s : ℕ) (ts : List Token) (t : Token) (us : List Token) : Type 0 where
  pub is : ts ≡ t ∷ us
  pub symbol : sym_of t ≡ s

pub expect-ok : (s : ℕ) (ts : List Token) {t : Token} {us : List Token} → expect s ts ≡ ok t us → Expected s ts t us
unfolding expect
expect-ok s [] h = let z : ◌≡◌ {A = ℕ} 0 1 = cc in absurd (omega arith)
expect-ok s (x ∷ ts) {t} {us} h = go (eqb (sym_of x) s) refl h
  where
    go : (b : Bool) → eqb (sym_of x) s ≡ b → cond b (ok x ts) (bad 9 (x ∷ ts)) ≡ ok t us → Expected s (x ∷ ts) t us
    go true e k = let p : x ≡ t = cc in let q : ts ≡ us = cc in record { is = rw (p, q) refl; symbol = ap sym_of (sym p) ∙ eqb-true (sym_of x) s e }
    go false e k = let z : ◌≡◌ {A = ℕ} 0 1 = cc in absurd (omega arith)

-- ---- rows parted by commas

-- the first item, and the last one's end or a comma and the rest of the row
pub data Rowed {A : Type 0} (close : ℕ) (item : Reader A) (ts : List Token) (ws : List Token) : List A → Type 0 where
  last : {a : A} {c : Token} → item ts ≡ ok a (c ∷ ws) → sym_of c ≡ close → Rowed close item ts ws (a ∷ [])
  next : {a : A} {c : Token} {us : List Token} {xs : List A} → item ts ≡ ok a (c ∷ us) → sym_of c ≡ comma → row plain (commas close) item us ≡ ok xs ws
      → Rowed close item ts ws (a ∷ xs)

pub row_ok : {A : Type 0} (close : ℕ) (item : Reader A) → Shrinks item → (ts : List Token) {xs : List A} {ws : List Token}
    → row plain (commas close) item ts ≡ ok xs ws → Rowed close item ts ws xs
unfolding follow
row_ok {A} close item small ts {xs} {ws} h =
    let c = then_ok (item ts) _ (sym (row_is plain (commas close) item small ts) ∙ h) in
    on c.tree c.left c.one c.then-on
  where
    on : (a : A) (us : List Token) → item ts ≡ ok a us
        → onward (follow (commas close) us) us (λ vs. mapped (λ ys. a ∷ ys) (row plain (commas close) item vs)) (λ vs. ok (a ∷ []) vs) ≡ ok xs ws
        → Rowed close item ts ws xs
    on a [] e k = let z : ◌≡◌ {A = ℕ} 0 1 = cc in absurd (omega arith)
    on a (t ∷ us) e k = go (eqb (sym_of t) comma) (eqb (sym_of t) close) refl refl k
      where
        go : (x y : Bool) → eqb (sym_of t) comma ≡ x → eqb (sym_of t) close ≡ y
            → onward (cond x (again us) (cond y (done us) neither)) (t ∷ us) (λ vs. mapped (λ ys. a ∷ ys) (row plain (commas close) item vs))
            (λ vs. ok (a ∷ []) vs) ≡ ok xs ws
            → Rowed close item ts ws xs
        go true y p q j =
            let m = mapped-ok (λ (ys : List A). a ∷ ys) (row plain (commas close) item us) j in
            rw (sym m.made) (next e (eqb-true (sym_of t) comma p) m.one)
        go false true p q j =
            let f : us ≡ ws = ok-left j in
            let g : a ∷ [] ≡ xs = ok-tree j in
            rw (sym g) (last (e ∙ ap (λ (vs : List Token). ok a (t ∷ vs)) f) (eqb-true (sym_of t) close q))
        go false false p q j = let z : ◌≡◌ {A = ℕ} 0 1 = cc in absurd (omega arith)

-- ---- operation lists

pub record IsParam (b : ℕ) (ts : List Token) (p : Param) (us : List Token) : Type 0 where
  pub colon : Token
  pub typed : List Token
  pub valued : List Token
  pub is : ts ≡ p.name ∷ colon ∷ typed
  pub a-name : sym_of p.name ≡ a_name
  pub a-colon : sym_of colon ≡ 58
  pub a-type : type b typed ≡ ok p.ty valued
  pub a-default : default b valued ≡ ok p.default us
