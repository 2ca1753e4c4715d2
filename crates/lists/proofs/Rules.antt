-- Scans by rules of single names: they go over `++`, two rules at once are both, and the lists of faults that the specification names are
-- scans: what passes a test, repeats, and the first beyond a size. Assumes nothing.
use mathlib.Core.Path.{◌≡◌, refl, sym, ap, ap₂, ◌∙◌}
use mathlib.Core.Bool.{Bool, true, false, cond}
use mathlib.Core.List.{List, [], ◌∷◌, ◌++◌, append_assoc, append-nil}
use mathlib.Core.Option.{Option}
use Prim.Native.Nat.{ℕ, zero, suc, ◌+◌, ◌<◌}
use native.Mathlib.Omega.{arith}
use lib.ListN.{length, length-append}
use borrow.Author.Tests.{eq-eqb, ne_eqb}
use Rattle.lexis.specs.Lexer.{Token}
use Rattle.lists.specs.Fault.{Fault, fault, faults, starts, earlier, first}
use Rattle.lists.specs.Names.{those, is_among, repeats_after}
use Rattle.lists.specs.ListRules.{over}
use Rattle.lists.specs.Walks.{when, Rule, scan, passing, repeating, beyond, both_rules}
use Rattle.lists.proofs.First.{first-append, earlier-assoc, earlier-comm}

-- ---- sums of faults

-- the middle two change places
pub interchange : (a b c d : Option Fault) → earlier (earlier a b) (earlier c d) ≡ earlier (earlier a c) (earlier b d)
interchange a b c d =
    earlier-assoc a b (earlier c d)
    ∙ ap (earlier a) (sym (earlier-assoc b c d) ∙ ap (λ (x : Option Fault). earlier x d) (earlier-comm b c) ∙ earlier-assoc c b d)
    ∙ sym (earlier-assoc a c (earlier b d))

-- ---- scans

pub scan-append : (f : Rule) (ss ts us : List Token) → scan f ss (ts ++ us) ≡ scan f ss ts ++ scan f (ss ++ ts) us
unfolding scan
scan-append f ss [] us = ap (λ (l : List Token). scan f l us) (sym (append-nil ss))
scan-append f ss (t ∷ ts) us =
    ap (λ (l : List Fault). f ss t ++ l)
    (scan-append f (ss ++ (t ∷ [])) ts us ∙ ap (λ (l : List Token). scan f (ss ++ (t ∷ [])) ts ++ scan f l us) (append_assoc ss (t ∷ []) ts))
    ∙ sym (append_assoc (f ss t) (scan f (ss ++ (t ∷ [])) ts) (scan f (ss ++ (t ∷ ts)) us))

pub first-scan : (f : Rule) (ss ts us : List Token) → first (scan f ss (ts ++ us)) ≡ earlier (first (scan f ss ts)) (first (scan f (ss ++ ts) us))
first-scan f ss ts us = ap first (scan-append f ss ts us) ∙ first-append (scan f ss ts) (scan f (ss ++ ts) us)

pub scan-one : (f : Rule) (ss : List Token) (t : Token) → scan f ss (t ∷ []) ≡ f ss t
unfolding scan
scan-one f ss t = append-nil (f ss t)

pub first-both : (f g : Rule) (ss ts : List Token) → first (scan (both_rules f g) ss ts) ≡ earlier (first (scan f ss ts)) (first (scan g ss ts))
unfolding scan first
first-both f g ss [] = refl
first-both f g ss (t ∷ ts) =
    let us = ss ++ (t ∷ []) in
    first-append (f ss t ++ g ss t) (scan (both_rules f g) us ts)
    ∙ ap₂ earlier (first-append (f ss t) (g ss t)) (first-both f g us ts)
    ∙ interchange (first (f ss t)) (first (g ss t)) (first (scan f us ts)) (first (scan g us ts))
    ∙ ap₂ earlier (sym (first-append (f ss t) (scan f us ts))) (sym (first-append (g ss t) (scan g us ts)))

-- ---- the lists of the specification

pub passing-is : (code : ℕ) (f : Token → Bool) (ss ts : List Token) → faults code (starts (those f ts)) ≡ scan (passing code f) ss ts
unfolding those scan
passing-is code f ss [] = refl
passing-is code f ss (t ∷ ts) = go (f t) (passing-is code f (ss ++ (t ∷ [])) ts)
  where
    go : (b : Bool) → faults code (starts (those f ts)) ≡ scan (passing code f) (ss ++ (t ∷ [])) ts
        → faults code (starts (cond b (t ∷ those f ts) (those f ts))) ≡ when b (fault code t.start) ++ scan (passing code f) (ss ++ (t ∷ [])) ts
    go true e = ap (λ (l : List Fault). fault code t.start ∷ l) e
    go false e = e

pub repeating-is : (code : ℕ) (ss ts : List Token) → faults code (starts (repeats_after ss ts)) ≡ scan (repeating code) ss ts
unfolding repeats_after scan
repeating-is code ss [] = refl
repeating-is code ss (t ∷ ts) = go (is_among ss t) (repeating-is code (ss ++ (t ∷ [])) ts)
  where
    go : (b : Bool) → faults code (starts (repeats_after (ss ++ (t ∷ [])) ts)) ≡ scan (repeating code) (ss ++ (t ∷ [])) ts
        → faults code (starts (cond b (t ∷ repeats_after (ss ++ (t ∷ [])) ts) (repeats_after (ss ++ (t ∷ [])) ts))) ≡ when b (fault code t.start)
        ++ scan (repeating code) (ss ++ (t ∷ [])) ts
    go true e = ap (λ (l : List Fault). fault code t.start ∷ l) e
    go false e = e

-- past a size no name is the first beyond it
past-size : (size : ℕ) (ss ts : List Token) → size < length ss → scan (beyond size) ss ts ≡ []
unfolding scan
past-size size ss [] h = refl
past-size size ss (t ∷ ts) h =
    let l = length-append ss (t ∷ []) in
    ap (λ (b : Bool). when b (fault 12 t.start) ++ scan (beyond size) (ss ++ (t ∷ [])) ts) (ne_eqb (length ss) size (λ z. omega arith))
    ∙ past-size size (ss ++ (t ∷ [])) ts (omega arith)

beyond-from : (size k : ℕ) (ss ts : List Token) → length ss + k ≡ size → over k (starts ts) ≡ scan (beyond size) ss ts
unfolding scan
beyond-from size zero ss [] h = refl
beyond-from size (suc k) ss [] h = refl
beyond-from size zero ss (t ∷ ts) h =
    let l = length-append ss (t ∷ []) in
    sym
    (ap₂ (λ (b : Bool) (x : List Fault). when b (fault 12 t.start) ++ x) (eq-eqb (length ss) size (omega arith))
    (past-size size (ss ++ (t ∷ [])) ts (omega arith)))
beyond-from size (suc k) ss (t ∷ ts) h =
    let l = length-append ss (t ∷ []) in
    beyond-from size k (ss ++ (t ∷ [])) ts (omega arith)
    ∙ sym (ap (λ (b : Bool). when b (fault 12 t.start) ++ scan (beyond size) (ss ++ (t ∷ [])) ts) (ne_eqb (length ss) size (λ z. omega arith)))

pub beyond-is : (size : ℕ) (ts : List Token) → over size (starts ts) ≡ scan (beyond size) [] ts
beyond-is size ts = beyond-from size size [] ts (omega arith)
