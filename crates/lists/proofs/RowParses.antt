-- Rows over a table, item by item: after an item stands a comma and the row goes on, or the bracket that closes it. What a parameter and a result take.
-- Relies on `HeaderParses` and `Parts`.
use mathlib.Core.Path.{◌≡◌, refl, sym, ap, ◌∙◌}
use mathlib.Core.List.{List, [], ◌∷◌}
use Prim.Native.Nat.{ℕ, suc, ◌+◌, ◌<◌, ◌≤◌}
use native.Mathlib.Omega.{arith}
use lib.ListN.{length}
use Rattle.lexis.specs.Lexer.{Token}
use Rattle.lexis.specs.Symbol.{sym_of, right_round, comma}
use Rattle.syntax.specs.Tree.{Param, Result}
use Rattle.syntax.specs.Parser.{Parse, Reader, plain, row, param, typed_name}
use Rattle.syntax.specs.Parser.Parse.{ok}
use Rattle.syntax.specs.Parser.Row.{commas}
use Rattle.syntax.specs.Table.{toks}
use Rattle.syntax.specs.Inner.{lookahead}
use Rattle.syntax.proofs.Row.{Left, Shrinks, left-ok}
use Rattle.syntax.proofs.Shrinks.{type-shrinks, default-keeps}
use Rattle.lists.specs.Headers.{Reads}
use Rattle.lists.proofs.HeaderParses.{Rowed, row_ok, param-ok, result_ok}
use Rattle.lists.proofs.HeaderParses.Rowed.{last, next}
use Rattle.lists.proofs.Parts.{first_of}

-- ---- how much is taken

left_is : {A : Type 0} {n : ℕ} {x : Parse A} {a : A} {us : List Token} → Left n x → x ≡ ok a us → length us < n
left_is h e = left-ok (rw e at h)

pub param-takes : (b : ℕ) (ts : List Token) {p : Param} {us : List Token} → param b ts ≡ ok p us → length us + 3 ≤ length ts
param-takes b ts {p} {us} h =
    let i = param-ok b ts h in
    let l : length ts ≡ length i.typed + 2 = ap (λ (x : List Token). length x) i.is ∙ two (length i.typed) in
    omega (arith, left_is (type-shrinks b i.typed) i.a-type, left_is (default-keeps b i.valued) i.a-default)
  where
    two : (k : ℕ) → suc (suc k) ≡ k + 2
    two k = omega arith

pub result-takes : (b : ℕ) (ts : List Token) {r : Result} {us : List Token} → typed_name b ts ≡ ok r us → length us + 3 ≤ length ts
result-takes b ts {r} {us} h =
    let i = result_ok b ts h in
    let l : length ts ≡ length i.typed + 2 = ap (λ (x : List Token). length x) i.is ∙ two (length i.typed) in
    omega (arith, left_is (type-shrinks b i.typed) i.a-type)
  where
    two : (k : ℕ) → suc (suc k) ≡ k + 2
    two k = omega arith

-- ---- a row, from place i on

module _ {A : Type 0} (item : Reader A) (small : Shrinks item) (text table : List ℕ) (n i : ℕ) where
  abbrev row_there : Reader (List A)
  row_there = row plain (commas right_round) item

  -- its first item, and a token behind it
  pub record Begins (xs : List A) : Type 0 where
    pub one : A
    pub mark : Token
    pub behind : List Token
    pub read : item (toks text table n i) ≡ ok one (mark ∷ behind)

  pub begins : {xs : List A} {us : List Token} → row_there (toks text table n i) ≡ ok xs us → Begins xs
  begins {xs} {us} h = go (row_ok right_round item small (toks text table n i) h)
    where
      go : {ys : List A} → Rowed right_round item (toks text table n i) us ys → Begins ys
      go (last {a = a} {c = c} e s) = record { one = a; mark = c; behind = us; read = e }
      go (next {a = a} {c = c} {us = ws} e s r) = record { one = a; mark = c; behind = ws; read = e }

  -- it ends at place j
  module _ (j : ℕ) (ends : (x : A) (ws : List Token) → item (toks text table n i) ≡ ok x ws → ws ≡ toks text table n j) where
    looks : {x : A} {c : Token} {ws : List Token} → item (toks text table n i) ≡ ok x (c ∷ ws) → lookahead (toks text table n j) ≡ sym_of c
    looks {x} {c} {ws} e = ap lookahead (sym (ends x (c ∷ ws) e))

    -- a comma behind it: the row goes on
    pub record GoesOn (xs : List A) (us : List Token) : Type 0 where
      pub one : A
      pub others : List A
      pub behind : List Token
      pub is : xs ≡ one ∷ others
      pub read : item (toks text table n i) ≡ ok one behind
      pub more : row_there (toks text table n (j + 1)) ≡ ok others us

    pub goes_on : {xs : List A} {us : List Token} → lookahead (toks text table n j) ≡ comma → row_there (toks text table n i) ≡ ok xs us → GoesOn xs us
    goes_on {xs} {us} q h = go (row_ok right_round item small (toks text table n i) h)
      where
        apart : comma ≡ right_round → ⊥
        apart z = omega arith

        go : {ys : List A} → Rowed right_round item (toks text table n i) us ys → GoesOn ys us
        go (last {a = a} {c = c} e s) = absurd (apart (sym q ∙ looks e ∙ s))
        go (next {a = a} {c = c} {us = ws} {xs = zs} e s r) = record {
          one = a;
          others = zs;
          behind = c ∷ ws;
          is = refl;
          read = e;
          more = ap row_there (first_of text table n j c ws (sym (ends a (c ∷ ws) e))).rest ∙ r;
        }

    -- none: it is closed
    pub record Closed (xs : List A) (us : List Token) : Type 0 where
      pub one : A
      pub behind : List Token
      pub is : xs ≡ one ∷ []
      pub read : item (toks text table n i) ≡ ok one behind
      pub left : us ≡ toks text table n (j + 1)

    pub closed : {xs : List A} {us : List Token} → (lookahead (toks text table n j) ≡ comma → ⊥) → row_there (toks text table n i) ≡ ok xs us → Closed xs us
    closed {xs} {us} q h = go (row_ok right_round item small (toks text table n i) h)
      where
        go : {ys : List A} → Rowed right_round item (toks text table n i) us ys → Closed ys us
        go (next {a = a} {c = c} {us = ws} {xs = zs} e s r) = absurd (q (looks e ∙ s))
        go (last {a = a} {c = c} e s) = record {
          one = a;
          behind = c ∷ us;
          is = refl;
          read = e;
          left = sym (first_of text table n j c us (sym (ends a (c ∷ us) e))).rest;
        }

    pub still-reads : lookahead (toks text table n j) ≡ comma → Reads row_there text table n i → Reads row_there text table n (j + 1)
    still-reads q r = let g = goes_on q r.is in record { tree = g.others; left = r.left; is = g.more }
