-- Repeats, images and first faults of tokens in a row: `repeats_after`, `map` and `first` over `++`. Assumes nothing.
use mathlib.Core.Path.{◌≡◌, refl, ap, ◌∙◌}
use mathlib.Core.Bool.{Bool, true, false, cond}
use mathlib.Core.List.{List, [], ◌∷◌, ◌++◌, map, append_assoc, append-nil}
use Prim.Native.Nat.{ℕ}
use Rattle.lexis.specs.Lexer.{Token}
use Rattle.lists.specs.Fault.{fault, faults, starts, earlier, first}
use Rattle.lists.specs.Names.{is_among, repeats_after}
use Rattle.lists.proofs.First.{first-append}

pub repeats-append : (ss ts us : List Token) → repeats_after ss (ts ++ us) ≡ repeats_after ss ts ++ repeats_after (ss ++ ts) us
unfolding repeats_after
repeats-append ss [] us = simp append-nil
repeats-append ss (t ∷ ts) us =
    go (is_among ss t)
    (repeats-append (ss ++ (t ∷ [])) ts us ∙ ap (λ (x : List Token). repeats_after (ss ++ (t ∷ [])) ts ++ repeats_after x us) (append_assoc ss (t ∷ []) ts))
  where
    R : List Token
    R = repeats_after (ss ++ (t ∷ [])) (ts ++ us)

    go : (b : Bool) → R ≡ repeats_after (ss ++ (t ∷ [])) ts ++ repeats_after (ss ++ (t ∷ ts)) us
        → cond b (t ∷ R) R ≡ cond b (t ∷ repeats_after (ss ++ (t ∷ [])) ts) (repeats_after (ss ++ (t ∷ [])) ts) ++ repeats_after (ss ++ (t ∷ ts)) us
    go true e = ap (λ (x : List Token). t ∷ x) e
    go false e = e

pub map-append : {A B : Type 0} (f : A → B) (xs ys : List A) → map f (xs ++ ys) ≡ map f xs ++ map f ys
map-append f [] ys = refl
map-append f (x ∷ xs) ys = ap (λ (l : List _). f x ∷ l) (map-append f xs ys)

-- The first fault of one code among tokens in a row.
pub first-at : (c : ℕ) (ts us : List Token) → first (faults c (starts (ts ++ us))) ≡ earlier (first (faults c (starts ts))) (first (faults c (starts us)))
first-at c ts us =
    ap (λ (x : List ℕ). first (faults c x)) (map-append (λ (t : Token). t.start) ts us)
    ∙ ap first (map-append (fault c) (starts ts) (starts us))
    ∙ first-append (faults c (starts ts)) (faults c (starts us))
