-- The header that a look-up finds, or none. Assumes nothing.
use mathlib.Core.Path.{◌≡◌, refl, sym, ap, ◌∙◌}
use mathlib.Core.Bool.{Bool, true, false, cond}
use mathlib.Core.List.{List}
use mathlib.Core.Option.{Option, some}
use mathlib.Core.Option.{none as nothing}
use Prim.Native.Nat.{ℕ}
use native.Mathlib.Omega.{arith}
use Rattle.lexis.specs.Lexer.{Token}
use Rattle.syntax.specs.Tree.{Header}
use Rattle.lists.specs.Reading.{is_some}
use Rattle.lists.specs.Found.{find, index_of, found}
use Rattle.std.specs.Prelude.{Option as Maybe, Some, None}

pub found-missing : (hs : List Header) (t : Token) {r : Maybe ℕ} → r ≡ found hs t → r ≡ None → find hs t ≡ nothing
unfolding found
found-missing hs t {r} e q = go (find hs t) refl (sym q ∙ e)
  where
    go : (o : Option Header) → find hs t ≡ o → None ≡ cond (is_some (find hs t)) (Some (index_of hs t)) None → find hs t ≡ nothing
    go nothing p k = p
    go (some h) p k =
        let w = k ∙ ap (λ (x : Option Header). cond (is_some x) (Some (index_of hs t)) None) p in let z : ◌≡◌ {A = ℕ} 0 1 = cc in absurd (omega arith)

pub found_some : (hs : List Header) (t : Token) {r : Maybe ℕ} {k : ℕ} → r ≡ found hs t → r ≡ Some k → (is_some (find hs t) ≡ true) × (k ≡ index_of hs t)
unfolding found
found_some hs t {r} {k} e q = go (is_some (find hs t)) refl (sym q ∙ e)
  where
    go : (b : Bool) → is_some (find hs t) ≡ b → Some k ≡ cond b (Some (index_of hs t)) None → (is_some (find hs t) ≡ true) × (k ≡ index_of hs t)
    go true p z = let w : k ≡ index_of hs t = cc in (p, w)
    go false p z = let w : ◌≡◌ {A = ℕ} 0 1 = cc in absurd (omega arith)
