-- Parts of a table: the tokens from one place up to another. They split at any place between, and what stands first
-- is the token at the first place. Then names and uses of parts. What `toks` is at the end and before it: `Table` of crate `syntax`.
-- Assumes nothing.
use mathlib.Core.Path.{◌≡◌, refl, sym, ap, ap₂, ◌∙◌}
use mathlib.Core.Bool.{Bool, true, false, cond, not, ◌&&◌}
use mathlib.Core.List.{List, [], ◌∷◌, ◌++◌}
use Prim.Native.Nat.{ℕ, zero, suc, ◌+◌, ◌-◌, ◌≤◌, ◌<◌}
use native.Mathlib.Nat.{add-zero}
use native.Mathlib.Omega.{arith}
use lib.Dec.{leb}
use lib.ListN.{length, length-append, take}
use lib.Seq.{take-append_seam}
use borrow.Author.Tests.{leb-true, leb-false}
use Rattle.lexis.specs.Lexer.{Token}
use Rattle.lexis.specs.Symbol.{equal}
use Rattle.syntax.specs.Parser.{begins}
use Rattle.syntax.specs.Table.{token_at, tokens_from, toks, Holds}
use Rattle.syntax.proofs.Table.{toks-none, toks_more}
use Rattle.lists.specs.Names.{those}
use Rattle.lists.specs.Scans.{is_name_token, is_use, uses_among}

pub cancel : {A : Type 0} (xs ys zs : List A) → xs ++ zs ≡ ys ++ zs → xs ≡ ys
cancel xs ys zs h =
    let n : length xs ≡ length ys =
    let a = length-append xs zs in let b = length-append ys zs in let c = ap (λ (l : List _). length l) h in omega arith in
    sym (take-append_seam xs zs) ∙ ap₂ (λ (k : ℕ) (l : List _). take k l) n h ∙ take-append_seam ys zs

-- ---- tokens

module _ (text table : List ℕ) where
  from-split : (i a b : ℕ) → tokens_from text table i (a + b) ≡ tokens_from text table i a ++ tokens_from text table (i + a) b
  unfolding tokens_from
  from-split i zero b =
      let p : 0 + b ≡ b = omega arith in
      ap₂ (λ (x y : ℕ). tokens_from text table x y) (sym (add-zero i)) p
  from-split i (suc a) b =
      let p : suc a + b ≡ suc (a + b) = omega arith in
      let q : i + 1 + a ≡ i + suc a = omega arith in
      ap (λ (x : ℕ). tokens_from text table i x) p
      ∙ ap (λ (x : List Token). token_at text table i ∷ x)
      (from-split (i + 1) a b ∙ ap (λ (x : ℕ). tokens_from text table (i + 1) a ++ tokens_from text table x b) q)

  pub toks-split : (n i j : ℕ) → i ≤ j → j ≤ n → toks text table n i ≡ toks text table j i ++ toks text table n j
  toks-split n i j h k =
      let p : n - i ≡ (j - i) + (n - j) = omega arith in
      let q : i + (j - i) ≡ j = omega arith in
      ap (λ (x : ℕ). tokens_from text table i x) p ∙ from-split i (j - i) (n - j) ∙ ap (λ (x : ℕ). toks text table j i ++ tokens_from text table x (n - j)) q

  module _ (n i : ℕ) where
    -- what stands first
    pub record First (t : Token) (us : List Token) : Type 0 where
      pub inside : i < n
      pub here : token_at text table i ≡ t
      pub rest : toks text table n (i + 1) ≡ us

    pub first_of : (t : Token) (us : List Token) → toks text table n i ≡ t ∷ us → First t us
    first_of t us e = go (leb n i) refl
      where
        go : (b : Bool) → leb n i ≡ b → First t us
        go true q =
            let l = ap (λ (x : List Token). length x) (sym (toks-none text table n i (leb-true n i q)) ∙ e) in
            absurd (omega arith)
        go false q =
            let l : i < n = leb-false n i q in
            let w : token_at text table i ∷ toks text table n (i + 1) ≡ t ∷ us = sym (toks_more text table n i l) ∙ e in
            let p : token_at text table i ≡ t = cc in
            let r : toks text table n (i + 1) ≡ us = cc in
            record { inside = l; here = p; rest = r }

-- a part of a table that holds its tokens does too
pub holds-part : (text table : List ℕ) (n j : ℕ) → j ≤ n → Holds text table n → Holds text table j
holds-part text table n j l h =
    record {
      room = let r = h.room in omega arith;
      behind = let r = h.behind in omega arith;
      within = λ i k. h.within i (omega arith);
      mark = λ i k. h.mark i (omega arith);
    }

-- ---- names and uses

pub those-append : (f : Token → Bool) (ts us : List Token) → those f (ts ++ us) ≡ those f ts ++ those f us
unfolding those
those-append f [] us = refl
those-append f (t ∷ ts) us = go (f t) (those-append f ts us)
  where
    go : (b : Bool) → those f (ts ++ us) ≡ those f ts ++ those f us
        → cond b (t ∷ those f (ts ++ us)) (those f (ts ++ us)) ≡ cond b (t ∷ those f ts) (those f ts) ++ those f us
    go true e = ap (λ (x : List Token). t ∷ x) e
    go false e = e

-- uses go over parts if no `=` begins the second
pub uses-append : (ts us : List Token) → begins equal us ≡ false → uses_among (ts ++ us) ≡ uses_among ts ++ uses_among us
unfolding uses_among
uses-append [] us h = refl
uses-append (t ∷ []) us h = ap (λ (b : Bool). cond (is_name_token t && not b) (t ∷ uses_among us) (uses_among us)) h ∙ go (is_name_token t)
  where
    go : (b : Bool) → cond (b && true) (t ∷ uses_among us) (uses_among us) ≡ cond (b && true) (t ∷ []) [] ++ uses_among us
    go true = refl
    go false = refl
uses-append (t ∷ s ∷ ts) us h = go (is_use t (s ∷ ts)) (uses-append (s ∷ ts) us h)
  where
    go : (b : Bool) → uses_among (s ∷ (ts ++ us)) ≡ uses_among (s ∷ ts) ++ uses_among us
        → cond b (t ∷ uses_among (s ∷ (ts ++ us))) (uses_among (s ∷ (ts ++ us))) ≡ cond b (t ∷ uses_among (s ∷ ts)) (uses_among (s ∷ ts)) ++ uses_among us
    go true e = ap (λ (x : List Token). t ∷ x) e
    go false e = e
