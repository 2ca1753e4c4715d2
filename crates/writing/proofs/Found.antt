-- The look-up of operations: it depends on the bytes of the name alone, the header that it finds has the name, and the layout takes the
-- parameters of that header.
use mathlib.Core.Path.{◌≡◌, refl, ap}
use mathlib.Core.Bool.{Bool, true, false, cond}
use mathlib.Core.List.{List, [], ◌∷◌}
use mathlib.Core.Option.{some}
use Rattle.spellings.specs.Comparison.{same_bytes}
use Rattle.lexis.specs.Lexer.{Token}
use Rattle.syntax.specs.Tree.{Header}
use Rattle.lists.specs.Found.{operation_of, find}
use Rattle.documents.proofs.Sought.{same-is}
use Rattle.writing.specs.Layout.{params_in, params_of}
use Rattle.writing.proofs.Planned.{nothing-some}

pub find-same : (hs : List Header) (s t : Token) → s.bytes ≡ t.bytes → find hs s ≡ find hs t
find-same hs s t e = ap (operation_of hs) e

pub found_name : (hs : List Header) (t : Token) {h : Header} → find hs t ≡ some h → h.name.bytes ≡ t.bytes
unfolding operation_of
found_name [] t e = nothing-some e
found_name (g ∷ hs) t {h} e = go (same_bytes g.name.bytes t.bytes) refl e (found_name hs t)
  where
    go : (b : Bool) → same_bytes g.name.bytes t.bytes ≡ b → cond b (some g) (find hs t) ≡ some h
        → (find hs t ≡ some h → h.name.bytes ≡ t.bytes) → h.name.bytes ≡ t.bytes
    go true s e r = let q : g ≡ h = cc in rw q at (same-is g.name.bytes t.bytes s)
    go false s e r = r e

pub params-found : (hs : List Header) (t : Token) {h : Header} → find hs t ≡ some h → params_of hs t.bytes ≡ h.params
params-found hs t e = ap params_in e
