-- The look-up of a name: by the trees, and among the names. Assumes nothing.
use mathlib.Core.Path.{◌≡◌, refl, sym, ap, ◌∙◌}
use mathlib.Core.Bool.{Bool, true, false, cond, ◌||◌}
use mathlib.Core.List.{List, [], ◌∷◌, map}
use mathlib.Core.Option.{some}
use Prim.Native.Nat.{ℕ, suc, ◌+◌}
use native.Mathlib.Nat.{add-zero}
use native.Mathlib.Omega.{arith}
use Rattle.spellings.specs.Comparison.{same_bytes}
use Rattle.lexis.specs.Lexer.{Token}
use Rattle.syntax.specs.Tree.{Header}
use Rattle.lists.specs.Names.{is_among}
use Rattle.lists.specs.Reading.{is_some}
use Rattle.lists.specs.Found.{operation_of, find, index_of, found}
use Rattle.lists.specs.Lists.{lookup_from}
use Rattle.std.specs.Prelude.{Some, None}

-- what is found, by the trees
lookup-found : (k : ℕ) (hs : List Header) (t : Token)
    → lookup_from k (map (λ (h : Header). h.name) hs) t ≡ cond (is_some (find hs t)) (Some (k + index_of hs t)) None
unfolding lookup_from operation_of index_of
lookup-found k [] t = refl
lookup-found k (g ∷ hs) t = go (same_bytes g.name.bytes t.bytes) (lookup-found (suc k) hs t)
  where
    go : (b : Bool) → lookup_from (suc k) (map (λ (h : Header). h.name) hs) t ≡ cond (is_some (find hs t)) (Some (suc k + index_of hs t)) None
        → cond b (Some k) (lookup_from (suc k) (map (λ (h : Header). h.name) hs) t) ≡ cond (is_some (cond b (some g) (find hs t)))
        (Some (k + cond b 0 (suc (index_of hs t)))) None
    go true e = ap Some (sym (add-zero k))
    go false e = let z : suc k + index_of hs t ≡ k + suc (index_of hs t) = omega arith in e ∙ ap (λ (m : ℕ). cond (is_some (find hs t)) (Some m) None) z

pub names-found : (hs : List Header) (t : Token) → lookup_from 0 (map (λ (h : Header). h.name) hs) t ≡ found hs t
unfolding found
names-found hs t = let z : 0 + index_of hs t ≡ index_of hs t = omega arith in lookup-found 0 hs t ∙ ap (λ (m : ℕ). cond (is_some (find hs t)) (Some m) None) z

-- a name is among those where it is found
pub at-among : (k i : ℕ) (ss : List Token) (t : Token) → lookup_from k ss t ≡ Some i → is_among ss t ≡ true
unfolding lookup_from is_among
at-among k i [] t h = let z : ◌≡◌ {A = ℕ} 0 1 = cc in absurd (omega arith)
at-among k i (s ∷ ss) t h = go (same_bytes s.bytes t.bytes) h (at-among (suc k) i ss t)
  where
    go : (b : Bool) → cond b (Some k) (lookup_from (suc k) ss t) ≡ Some i → (lookup_from (suc k) ss t ≡ Some i → is_among ss t ≡ true) → (b || is_among ss t) ≡ true
    go true e r = refl
    go false e r = r e

pub missing-among : (k : ℕ) (ss : List Token) (t : Token) → lookup_from k ss t ≡ None → is_among ss t ≡ false
unfolding lookup_from is_among
missing-among k [] t h = refl
missing-among k (s ∷ ss) t h = go (same_bytes s.bytes t.bytes) h (missing-among (suc k) ss t)
  where
    go : (b : Bool) → cond b (Some k) (lookup_from (suc k) ss t) ≡ None → (lookup_from (suc k) ss t ≡ None → is_among ss t ≡ false)
        → (b || is_among ss t) ≡ false
    go true e r = let z : ◌≡◌ {A = ℕ} 0 1 = cc in absurd (omega arith)
    go false e r = r e
