-- The terminal of a token: keywords by their first byte, a syntactic character by its own.
use mathlib.Core.Path.{◌≡◌, refl, sym, ap, ◌∙◌}
use mathlib.Core.Bool.{Bool, true, false, cond}
use mathlib.Core.List.{List, [], ◌∷◌}
use Prim.Native.Nat.{ℕ, ◌-◌, ◌<◌}
use native.Mathlib.Nat.{add-zero}
use native.Mathlib.Omega.{arith}
use lib.Dec.{eqb}
use lib.ListN.{take, drop, get_or}
use lib.Seq.{get_or-take, get_or-drop}
use borrow.Author.Tests.{ne_eqb, eqb-false}
use Rattle.spellings.specs.Comparison.{same_bytes}
use Rattle.lexis.specs.Symbol.{Terminal, terminals, symbol_in, symbol_of}
use Rattle.lexis.proofs.Words.{same-firsts}

-- ---- keywords

unfoldable pub retain : Bool → Terminal → List Terminal → List Terminal
retain true x xs = x ∷ xs
retain false x xs = xs

-- the keywords of first byte f
unfoldable pub leading : ℕ → List Terminal → List Terminal
leading f [] = []
leading f (x ∷ xs) = retain (eqb f (get_or x.spelling 0 0)) x (leading f xs)

symbol-leading : (w : List ℕ) (xs : List Terminal) → symbol_in xs w ≡ symbol_in (leading (get_or w 0 0) xs) w
unfolding symbol_in leading retain
symbol-leading w [] = refl
symbol-leading w (x ∷ xs) = go (eqb (get_or w 0 0) (get_or x.spelling 0 0)) refl (symbol-leading w xs)
  where
    go : (a : Bool) → eqb (get_or w 0 0) (get_or x.spelling 0 0) ≡ a → symbol_in xs w ≡ symbol_in (leading (get_or w 0 0) xs) w
        → cond (same_bytes w x.spelling) x.symbol (symbol_in xs w) ≡ symbol_in (retain a x (leading (get_or w 0 0) xs)) w
    go true e r = ap (cond (same_bytes w x.spelling) x.symbol) r
    go false e r = rw (same-firsts w x.spelling (eqb-false _ _ e)) r

-- the terminal of a word of first byte f
pub symbol-by : (w : List ℕ) (a f : ℕ) → a ≡ get_or w 0 0 → a ≡ f → symbol_in terminals w ≡ symbol_in (leading f terminals) w
symbol-by w a f e q = symbol-leading w terminals ∙ ap (λ (b : ℕ). symbol_in (leading b terminals) w) (sym e ∙ q)

-- no keyword with a terminal has another first byte than these
pub symbol-none : (w : List ℕ) (a : ℕ) → a ≡ get_or w 0 0 → (a ≡ 116 → ⊥) → (a ≡ 101 → ⊥) → (a ≡ 115 → ⊥) → (a ≡ 108 → ⊥) → (a ≡ 102 → ⊥)
    → (a ≡ 103 → ⊥) → (a ≡ 118 → ⊥) → 0 ≡ symbol_in terminals w
unfolding symbol_in leading retain terminals
symbol-none w a e t x s l f g v =
    let none : leading a terminals ≡ [] =
    rw (ne_eqb a 116 t, ne_eqb a 101 x, ne_eqb a 115 s, ne_eqb a 108 l, ne_eqb a 102 f, ne_eqb a 103 g, ne_eqb a 118 v) in
    sym (symbol-by w a a e refl ∙ ap (λ (xs : List Terminal). symbol_in xs w) none)

-- a syntactic character is its first byte
pub mark-is : (text : List ℕ) (k s e : ℕ) → k ≡ 8 → s < e → get_or text s 0 ≡ symbol_of k (take (e - s) (drop s text))
unfolding symbol_of
mark-is text k s e h l =
    let first : get_or (take (e - s) (drop s text)) 0 0 ≡ get_or text s 0 =
    get_or-take (e - s) (drop s text) 0 0 (omega arith) ∙ (get_or-drop s text 0 0 ∙ ap (λ (i : ℕ). get_or text i 0) (add-zero s)) in
    simp h (sym first)
