-- What stands behind a parse that succeeds: the parts of a chain of readers, of a row, of a header, of an operation list.
-- Relies on nothing but the readers' own definitions and that they shrink.
use mathlib.Core.Path.{◌≡◌, refl, sym, ap, ◌∙◌}
use mathlib.Core.Bool.{Bool, true, false, cond}
use mathlib.Core.List.{List, [], ◌∷◌}
use mathlib.Core.Option.{Option}
use Prim.Native.Nat.{ℕ}
use native.Mathlib.Omega.{arith}
use lib.Dec.{eqb}
use borrow.Author.Tests.{eqb-true}
use Rattle.lexis.specs.Lexer.{Token}
use Rattle.lexis.specs.Symbol.{sym_of, left_round, right_round, colon, comma, arrow, a_name, fragment}
use Rattle.syntax.specs.Tree.{Value, Ty, Param, Result, Header}
use Rattle.syntax.specs.Parser.{Parse, Reader, then, mapped, expect, follow, onward, plain, row, type, default, param, typed_name, header, operations}
use Rattle.syntax.specs.Parser.Parse.{ok, bad}
use Rattle.syntax.specs.Parser.Row.{commas, to_the_end}
use Rattle.syntax.specs.Parser.Follow.{again, done, neither}
use Rattle.syntax.proofs.Row.{Shrinks, row_is}
use Rattle.syntax.proofs.Shrinks.{header-shrinks}

-- ---- chains

pub record Chained {A B : Type 0} (x : Parse A) (k : A → Reader B) (b : B) (ws : List Token) : Type 0 where
  pub tree : A
  pub left : List Token
  pub one : x ≡ ok tree left
  pub then-on : k tree left ≡ ok b ws

pub then_ok : {A B : Type 0} (x : Parse A) (k : A → Reader B) {b : B} {ws : List Token} → then x k ≡ ok b ws → Chained x k b ws
then_ok (ok a us) k h = record { tree = a; left = us; one = refl; then-on = h }
then_ok (bad c us) k h = let z : ◌≡◌ {A = ℕ} 0 1 = cc in absurd (omega arith)

ok-tree : {A : Type 0} {a b : A} {us ws : List Token} → ok a us ≡ ok b ws → a ≡ b
ok-tree h = cc

ok-left : {A : Type 0} {a b : A} {us ws : List Token} → ok a us ≡ ok b ws → us ≡ ws
ok-left h = cc

pub record Mapped {A B : Type 0} (x : Parse A) (f : A → B) (b : B) (ws : List Token) : Type 0 where
  pub tree : A
  pub one : x ≡ ok tree ws
  pub made : f tree ≡ b

pub mapped-ok : {A B : Type 0} (f : A → B) (x : Parse A) {b : B} {ws : List Token} → mapped f x ≡ ok b ws → Mapped x f b ws
mapped-ok f (ok a us) h = record { tree = a; one = ap (ok a) (ok-left h); made = ok-tree h }
mapped-ok f (bad c us) h = let z : ◌≡◌ {A = ℕ} 0 1 = cc in absurd (omega arith)

pub record Expected (s : ℕ) (ts : List Token) (t : Token) (us : List Token) : Type 0 where
  pub is : ts ≡ t ∷ us
  pub symbol : sym_of t ≡ s

pub expect-ok : (s : ℕ) (ts : List Token) {t : Token} {us : List Token} → expect s ts ≡ ok t us → Expected s ts t us
unfolding expect
expect-ok s [] h = let z : ◌≡◌ {A = ℕ} 0 1 = cc in absurd (omega arith)
expect-ok s (x ∷ ts) {t} {us} h = go (eqb (sym_of x) s) refl h
  where
    go : (b : Bool) → eqb (sym_of x) s ≡ b → cond b (ok x ts) (bad 9 (x ∷ ts)) ≡ ok t us → Expected s (x ∷ ts) t us
    go true e k = let p : x ≡ t = cc in let q : ts ≡ us = cc in record { is = rw (p, q) refl; symbol = ap sym_of (sym p) ∙ eqb-true (sym_of x) s e }
    go false e k = let z : ◌≡◌ {A = ℕ} 0 1 = cc in absurd (omega arith)

-- ---- rows parted by commas

-- the first item, and the last one's end or a comma and the rest of the row
pub data Rowed {A : Type 0} (close : ℕ) (item : Reader A) (ts : List Token) (ws : List Token) : List A → Type 0 where
  last : {a : A} {c : Token} → item ts ≡ ok a (c ∷ ws) → sym_of c ≡ close → Rowed close item ts ws (a ∷ [])
  next : {a : A} {c : Token} {us : List Token} {xs : List A} → item ts ≡ ok a (c ∷ us) → sym_of c ≡ comma → row plain (commas close) item us ≡ ok xs ws
      → Rowed close item ts ws (a ∷ xs)

pub row_ok : {A : Type 0} (close : ℕ) (item : Reader A) → Shrinks item → (ts : List Token) {xs : List A} {ws : List Token}
    → row plain (commas close) item ts ≡ ok xs ws → Rowed close item ts ws xs
unfolding follow
row_ok {A} close item small ts {xs} {ws} h =
    let c = then_ok (item ts) _ (sym (row_is plain (commas close) item small ts) ∙ h) in
    on c.tree c.left c.one c.then-on
  where
    on : (a : A) (us : List Token) → item ts ≡ ok a us
        → onward (follow (commas close) us) us (λ vs. mapped (λ ys. a ∷ ys) (row plain (commas close) item vs)) (λ vs. ok (a ∷ []) vs) ≡ ok xs ws
        → Rowed close item ts ws xs
    on a [] e k = let z : ◌≡◌ {A = ℕ} 0 1 = cc in absurd (omega arith)
    on a (t ∷ us) e k = go (eqb (sym_of t) comma) (eqb (sym_of t) close) refl refl k
      where
        go : (x y : Bool) → eqb (sym_of t) comma ≡ x → eqb (sym_of t) close ≡ y
            → onward (cond x (again us) (cond y (done us) neither)) (t ∷ us) (λ vs. mapped (λ ys. a ∷ ys) (row plain (commas close) item vs))
            (λ vs. ok (a ∷ []) vs) ≡ ok xs ws
            → Rowed close item ts ws xs
        go true y p q j =
            let m = mapped-ok (λ (ys : List A). a ∷ ys) (row plain (commas close) item us) j in
            rw (sym m.made) (next e (eqb-true (sym_of t) comma p) m.one)
        go false true p q j =
            let f : us ≡ ws = ok-left j in
            let g : a ∷ [] ≡ xs = ok-tree j in
            rw (sym g) (last (e ∙ ap (λ (vs : List Token). ok a (t ∷ vs)) f) (eqb-true (sym_of t) close q))
        go false false p q j = let z : ◌≡◌ {A = ℕ} 0 1 = cc in absurd (omega arith)

-- ---- operation lists

pub record IsParam (b : ℕ) (ts : List Token) (p : Param) (us : List Token) : Type 0 where
  pub colon : Token
  pub typed : List Token
  pub valued : List Token
  pub is : ts ≡ p.name ∷ colon ∷ typed
  pub a-name : sym_of p.name ≡ a_name
  pub a-colon : sym_of colon ≡ 58
  pub a-type : type b typed ≡ ok p.ty valued
  pub a-default : default b valued ≡ ok p.default us

pub param-ok : (b : ℕ) (ts : List Token) {p : Param} {us : List Token} → param b ts ≡ ok p us → IsParam b ts p us
unfolding param
param-ok b ts {p} {us} h =
    let n = then_ok (expect a_name ts) _ h in
    let c = then_ok (expect colon n.left) _ n.then-on in
    let u = then_ok (type b c.left) _ c.then-on in
    let d = mapped-ok _ (default b u.left) u.then-on in
    let x = expect-ok a_name ts n.one in
    let y = expect-ok colon n.left c.one in
    let m : n.tree ≡ p.name = ap (λ (q : Param). q.name) d.made in
    let v : u.tree ≡ p.ty = ap (λ (q : Param). q.ty) d.made in
    let e : d.tree ≡ p.default = ap (λ (q : Param). q.default) d.made in
    record {
      colon = c.tree;
      typed = c.left;
      valued = u.left;
      is = x.is ∙ ap (λ (ws : List Token). n.tree ∷ ws) y.is ∙ ap (λ (t : Token). t ∷ c.tree ∷ c.left) m;
      a-name = ap sym_of (sym m) ∙ x.symbol;
      a-colon = y.symbol;
      a-type = u.one ∙ ap (λ (w : Ty). ok w u.left) v;
      a-default = d.one ∙ ap (λ (w : Option Value). ok w us) e;
    }

pub record IsResult (b : ℕ) (ts : List Token) (r : Result) (us : List Token) : Type 0 where
  pub colon : Token
  pub typed : List Token
  pub is : ts ≡ r.name ∷ colon ∷ typed
  pub a-name : sym_of r.name ≡ a_name
  pub a-colon : sym_of colon ≡ 58
  pub a-type : type b typed ≡ ok r.ty us

pub result_ok : (b : ℕ) (ts : List Token) {r : Result} {us : List Token} → typed_name b ts ≡ ok r us → IsResult b ts r us
unfolding typed_name
result_ok b ts {r} {us} h =
    let n = then_ok (expect a_name ts) _ h in
    let c = then_ok (expect colon n.left) _ n.then-on in
    let u = mapped-ok _ (type b c.left) c.then-on in
    let x = expect-ok a_name ts n.one in
    let y = expect-ok colon n.left c.one in
    let m : n.tree ≡ r.name = ap (λ (q : Result). q.name) u.made in
    let v : u.tree ≡ r.ty = ap (λ (q : Result). q.ty) u.made in
    record {
      colon = c.tree;
      typed = c.left;
      is = x.is ∙ ap (λ (ws : List Token). n.tree ∷ ws) y.is ∙ ap (λ (t : Token). t ∷ c.tree ∷ c.left) m;
      a-name = ap sym_of (sym m) ∙ x.symbol;
      a-colon = y.symbol;
      a-type = u.one ∙ ap (λ (w : Ty). ok w us) v;
    }

pub record IsHeader (b : ℕ) (ts : List Token) (h : Header) (us : List Token) : Type 0 where
  pub opening : Token
  pub listed : List Token
  pub sign : Token
  pub second : Token
  pub given : List Token
  pub is : ts ≡ h.keyword ∷ h.name ∷ opening ∷ listed
  pub a_word : sym_of h.keyword ≡ fragment
  pub a-name : sym_of h.name ≡ a_name
  pub opens : sym_of opening ≡ left_round
  pub the-params : row plain (commas right_round) (param b) listed ≡ ok h.params (sign ∷ second ∷ given)
  pub an-arrow : sym_of sign ≡ arrow
  pub opens-again : sym_of second ≡ left_round
  pub the-results : row plain (commas right_round) (typed_name b) given ≡ ok h.results us

pub header_ok : (b : ℕ) (ts : List Token) {h : Header} {us : List Token} → header b ts ≡ ok h us → IsHeader b ts h us
unfolding header
header_ok b ts {h} {us} e =
    let f = then_ok (expect fragment ts) _ e in
    let n = then_ok (expect a_name f.left) _ f.then-on in
    let o = then_ok (expect left_round n.left) _ n.then-on in
    let p = then_ok (row plain (commas right_round) (param b) o.left) _ o.then-on in
    let a = then_ok (expect arrow p.left) _ p.then-on in
    let q = then_ok (expect left_round a.left) _ a.then-on in
    let r = mapped-ok _ (row plain (commas right_round) (typed_name b) q.left) q.then-on in
    let f' = expect-ok fragment ts f.one in
    let n' = expect-ok a_name f.left n.one in
    let o' = expect-ok left_round n.left o.one in
    let a' = expect-ok arrow p.left a.one in
    let q' = expect-ok left_round a.left q.one in
    let k : f.tree ≡ h.keyword = ap (λ (x : Header). x.keyword) r.made in
    let m : n.tree ≡ h.name = ap (λ (x : Header). x.name) r.made in
    let ps : p.tree ≡ h.params = ap (λ (x : Header). x.params) r.made in
    let rs : r.tree ≡ h.results = ap (λ (x : Header). x.results) r.made in
    record {
      opening = o.tree;
      listed = o.left;
      sign = a.tree;
      second = q.tree;
      given = q.left;
      is =
          f'.is ∙ ap (λ (ws : List Token). f.tree ∷ ws) n'.is ∙ ap (λ (ws : List Token). f.tree ∷ n.tree ∷ ws) o'.is
          ∙ ap (λ (t : Token). t ∷ n.tree ∷ o.tree ∷ o.left) k ∙ ap (λ (t : Token). h.keyword ∷ t ∷ o.tree ∷ o.left) m;
      a_word = ap sym_of (sym k) ∙ f'.symbol;
      a-name = ap sym_of (sym m) ∙ n'.symbol;
      opens = o'.symbol;
      the-params =
          p.one ∙ ap (λ (ws : List Token). ok p.tree ws) a'.is ∙ ap (λ (ws : List Token). ok p.tree (a.tree ∷ ws)) q'.is
          ∙ ap (λ (xs : List Param). ok xs (a.tree ∷ q.tree ∷ q.left)) ps;
      an-arrow = a'.symbol;
      opens-again = q'.symbol;
      the-results = r.one ∙ ap (λ (xs : List Result). ok xs us) rs;
    }

-- the first header and the list after it
pub record Begun (b : ℕ) (ts : List Token) (hs : List Header) : Type 0 where
  pub head : Header
  pub others : List Header
  pub left : List Token
  pub is : hs ≡ head ∷ others
  pub read : header b ts ≡ ok head left
  pub more : operations b left ≡ ok others []

pub begun : (b : ℕ) (t : Token) (ts : List Token) (hs : List Header) → operations b (t ∷ ts) ≡ ok hs [] → Begun b (t ∷ ts) hs
unfolding operations follow
begun b t ts hs e =
    let c = then_ok (header b (t ∷ ts)) _ (sym (row_is plain to_the_end (header b) (header-shrinks b) (t ∷ ts)) ∙ e) in
    on c.tree c.left c.one c.then-on
  where
    on : (h : Header) (us : List Token) → header b (t ∷ ts) ≡ ok h us
        → onward (follow to_the_end us) us (λ vs. mapped (λ xs. h ∷ xs) (row plain to_the_end (header b) vs)) (λ vs. ok (h ∷ []) vs) ≡ ok hs []
        → Begun b (t ∷ ts) hs
    on h [] p k = record { head = h; others = []; left = []; is = sym (ok-tree k); read = p; more = refl }
    on h (u ∷ us) p k =
        let m = mapped-ok (λ (xs : List Header). h ∷ xs) (row plain to_the_end (header b) (u ∷ us)) k in
        record { head = h; others = m.tree; left = u ∷ us; is = sym m.made; read = p; more = m.one }
