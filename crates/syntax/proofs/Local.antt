-- What it means that a reader is local: what it gives depends on the tokens that it takes and on the first one after them, and on
-- nothing behind that; and its faults have code 9 or 10. The laws build local readers from local readers. Assumes nothing.
use mathlib.Core.Path.{◌≡◌, refl, sym, ap, ◌∙◌}
use mathlib.Core.Bool.{Bool, true, false, cond}
use mathlib.Core.List.{List, [], ◌∷◌, ◌++◌, append_assoc}
use Prim.Native.Nat.{ℕ, zero, suc, ◌<◌, ◌≤◌}
use native.Mathlib.Nat.{le_refl}
use native.Mathlib.Omega.{arith}
use lib.Dec.{eqb}
use lib.ListN.{length}
use Rattle.lexis.specs.Lexer.{Token}
use Rattle.lexis.specs.Symbol.{sym_of, comma}
use Rattle.syntax.specs.Fault.{Alike}
use Rattle.syntax.specs.Fault.Alike.{both_end, both-begin}
use Rattle.syntax.specs.Parser.{Parse, Reader, Row, Lists, then, mapped, expect, begins, rest, follow, onward, row}
use Rattle.syntax.specs.Parser.Parse.{ok, bad}
use Rattle.syntax.specs.Parser.Row.{commas, closed, to_the_end}
use Rattle.syntax.specs.Parser.Follow.{again, done, neither}
use Rattle.syntax.proofs.Row.{Shrinks, left-ok, row_is}

-- ---- the notion

-- the tokens that were not read
abbrev pub unread : {A : Type 0} → Parse A → List Token
unread (ok a us) = us
unread (bad c us) = us

-- the same result, with other tokens not read
abbrev pub instead : {A : Type 0} → Parse A → List Token → Parse A
instead (ok a us) ws = ok a ws
instead (bad c us) ws = bad c ws

-- the codes of faults
pub data Code : ℕ → Type 0 where
  is-nine : Code 9
  is-ten : Code 10

-- the code of a fault is one of them
abbrev pub Coded : {A : Type 0} → Parse A → Type 0
Coded (ok a us) = Unit {0}
Coded (bad c us) = Code c

-- the reader f gives x on the tokens ts, and gives the same on others that have the tokens taken and the first one after them
pub record Fixed {A : Type 0} (f : Reader A) (ts : List Token) (x : Parse A) : Type 0 where
  pub taken : List Token
  pub split : ts ≡ taken ++ unread x
  pub holds : (ws : List Token) → Alike (unread x) ws → f (taken ++ ws) ≡ instead x ws
  pub code : Coded x

abbrev pub Local : {A : Type 0} → Reader A → Type 0
Local f = (ts : List Token) → Fixed f ts (f ts)

-- ---- readers that agree

-- lists are alike that go on alike after the same tokens
alike-append : {us ws : List Token} (p : List Token) → Alike us ws → Alike (p ++ us) (p ++ ws)
alike-append [] h = h
alike-append (t ∷ p) h = both-begin

alike-split : {ts us ws : List Token} (p : List Token) → ts ≡ p ++ us → Alike us ws → Alike ts (p ++ ws)
alike-split p e h = rw e (alike-append p h)

module _ {A : Type 0} {f g : Reader A} where
  -- two readers that agree on all lists alike ts
  pub look-fixed : {ts : List Token} {x : Parse A} → ((ws : List Token) → Alike ts ws → f ws ≡ g ws) → Fixed g ts x → Fixed f ts x
  look-fixed {ts} e h =
      record {
        taken = h.taken;
        split = h.split;
        holds = λ ws al. e (h.taken ++ ws) (alike-split h.taken h.split al) ∙ h.holds ws al;
        code = h.code;
      }

  -- they agree at the end of the tokens
  pub end-fixed : {x : Parse A} → f [] ≡ g [] → Fixed g [] x → Fixed f [] x
  end-fixed e h = look-fixed (λ ws al. agree ws al) h
    where
      agree : (ws : List Token) → Alike [] ws → f ws ≡ g ws
      agree ws both_end = e

  -- they agree on all lists that begin with the token t
  pub token-fixed : {t : Token} {ts : List Token} {x : Parse A} → ((us : List Token) → f (t ∷ us) ≡ g (t ∷ us)) → Fixed g (t ∷ ts) x → Fixed f (t ∷ ts) x
  token-fixed {t} {ts} e h = look-fixed (λ ws al. agree ws al) h
    where
      agree : (ws : List Token) → Alike (t ∷ ts) ws → f ws ≡ g ws
      agree ws (both-begin {ws = us}) = e us

  -- they agree everywhere
  pub same-fixed : {ts : List Token} → ((ws : List Token) → f ws ≡ g ws) → Fixed g ts (g ts) → Fixed f ts (f ts)
  same-fixed {ts} e h = rw (e ts) (look-fixed (λ ws al. e ws) h)

-- ---- steps

-- lists that are alike begin alike
pub begins-alike : {ts ws : List Token} (s : ℕ) → Alike ts ws → begins s ws ≡ begins s ts
begins-alike s both_end = refl
begins-alike s both-begin = refl

module _ {A : Type 0} where
  pub ok-local : (a : A) → Local (λ ts. ok a ts)
  ok-local a ts = record { taken = []; split = refl; holds = λ ws al. refl; code = tt }

  pub nine-local : Local {A = A} (λ ts. bad 9 ts)
  nine-local ts = record { taken = []; split = refl; holds = λ ws al. refl; code = is-nine }

  pub ten-local : Local {A = A} (λ ts. bad 10 ts)
  ten-local ts = record { taken = []; split = refl; holds = λ ws al. refl; code = is-ten }

  -- a token is passed
  pub rest-fixed : {f : Reader A} {x : Parse A} (ts : List Token) → Fixed f (rest ts) x → Fixed (λ ws. f (rest ws)) ts x
  rest-fixed [] h = end-fixed refl h
  rest-fixed (t ∷ ts) h = record { taken = t ∷ h.taken; split = ap (λ us. t ∷ us) h.split; holds = h.holds; code = h.code }

  -- a choice that does not look at the tokens
  pub cond-fixed : {f g : Reader A} {ts : List Token} {x y : Parse A} (c : Bool) → Fixed f ts x → Fixed g ts y
      → Fixed (λ ws. cond c (f ws) (g ws)) ts (cond c x y)
  cond-fixed true p q = p
  cond-fixed false p q = q

  -- a choice by the first token
  pub begins-local : {f g : Reader A} (s : ℕ) → Local f → Local g → Local (λ ts. cond (begins s ts) (f ts) (g ts))
  begins-local {f} {g} s p q ts = look-fixed (λ ws al. ap (λ c. cond c (f ws) (g ws)) (begins-alike s al)) (cond-fixed (begins s ts) (p ts) (q ts))

pub expect-local : (s : ℕ) → Local (expect s)
unfolding expect
expect-local s [] = end-fixed refl (nine-local [])
expect-local s (t ∷ ts) = token-fixed (λ us. refl) (cond-fixed (eqb (sym_of t) s) (rest-fixed (t ∷ ts) (ok-local t ts)) (nine-local (t ∷ ts)))

-- ---- one after another

module _ {A B : Type 0} {f : Reader A} {k : A → Reader B} where
  pub then-fixed : {ts : List Token} (x : Parse A) → Fixed f ts x → ((a : A) (us : List Token) → x ≡ ok a us → Fixed (k a) us (k a us))
      → Fixed (λ us. then (f us) k) ts (then x k)
  then-fixed (ok a us) h g =
      let n = g a us refl in
      record {
        taken = h.taken ++ n.taken;
        split = h.split ∙ ap (λ ws. h.taken ++ ws) n.split ∙ sym (append_assoc h.taken n.taken _);
        holds = λ ws al. rw (append_assoc h.taken n.taken ws, h.holds (n.taken ++ ws) (alike-split n.taken n.split al)) (n.holds ws al);
        code = n.code;
      }
  then-fixed (bad c us) h g = record { taken = h.taken; split = h.split; holds = λ ws al. rw (h.holds ws al); code = h.code }

  pub then-local : Local f → ((a : A) → Local (k a)) → Local (λ ts. then (f ts) k)
  then-local h g ts = then-fixed (f ts) (h ts) (λ a us e. g a us)

module _ {A B : Type 0} {g : Reader A} (f : A → B) where
  mapped-fixed : {ts : List Token} (x : Parse A) → Fixed g ts x → Fixed (λ us. mapped f (g us)) ts (mapped f x)
  mapped-fixed x h = then-fixed x h (λ a us e. ok-local (f a) us)

  pub mapped-local : Local g → Local (λ ts. mapped f (g ts))
  mapped-local h ts = mapped-fixed (g ts) (h ts)

-- ---- rows

-- what follows an item is seen by the first token after it
module _ {A : Type 0} {k j : Reader A} (end : Local j) where
  by-commas : {t : Token} {us : List Token} (c d : Bool) → Fixed k us (k us) →
      Fixed (λ ws. onward (cond c (again (rest ws)) (cond d (done (rest ws)) neither)) ws k j) (t ∷ us)
      (onward (cond c (again us) (cond d (done us) neither)) (t ∷ us) k j)
  by-commas {t} {us} true d h = rest-fixed (t ∷ us) h
  by-commas {t} {us} false true h = rest-fixed (t ∷ us) (end us)
  by-commas {t} {us} false false h = nine-local (t ∷ us)

  by_end : {t : Token} {us : List Token} (c : Bool) → Fixed k (t ∷ us) (k (t ∷ us)) →
      Fixed (λ ws. onward (cond c (done (rest ws)) (again ws)) ws k j) (t ∷ us) (onward (cond c (done us) (again (t ∷ us))) (t ∷ us) k j)
  by_end {t} {us} true h = rest-fixed (t ∷ us) (end us)
  by_end false h = h

  onward-fixed : (r : Row) (us : List Token) → ((ws : List Token) → length ws ≤ length us → Fixed k ws (k ws)) →
      Fixed (λ ws. onward (follow r ws) ws k j) us (onward (follow r us) us k j)
  unfolding follow
  onward-fixed (commas s) [] h = end-fixed refl (nine-local [])
  onward-fixed (commas s) (t ∷ us) h = token-fixed (λ ws. refl) (by-commas (eqb (sym_of t) comma) (eqb (sym_of t) s) (h us (omega arith)))
  onward-fixed (closed s) [] h = end-fixed refl (nine-local [])
  onward-fixed (closed s) (t ∷ us) h = token-fixed (λ ws. refl) (by_end (eqb (sym_of t) s) (h (t ∷ us) (le_refl (suc (length us)))))
  onward-fixed to_the_end [] h = end-fixed refl (end [])
  onward-fixed to_the_end (t ∷ us) h = token-fixed (λ ws. refl) (h (t ∷ us) (le_refl (suc (length us))))

module _ {A L : Type 0} (l : Lists A L) (r : Row) (item : Reader A) (small : Shrinks item) (h : Local item) where
  row-fixed : (n : ℕ) (ts : List Token) → length ts < n → Fixed (row l r item) ts (row l r item ts)
  row-fixed zero ts p = absurd (omega arith)
  row-fixed (suc n) ts p =
      same-fixed (row_is l r item small) (then-fixed (item ts) (h ts) (λ a us e.
      let q = left-ok (rw e at (small ts)) in
      onward-fixed (ok-local (l.one a)) r us (λ ws q'. mapped-fixed (l.cons a) _ (row-fixed n ws (omega arith)))))

  pub row-local : Local (row l r item)
  row-local ts = row-fixed (suc (length ts)) ts (le_refl (suc (length ts)))
