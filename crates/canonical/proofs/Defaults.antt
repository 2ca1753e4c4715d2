-- The defaults of an operation list that the grammar derives hold no names.
use mathlib.Core.Path.{◌≡◌, refl}
use mathlib.Core.Bool.{Bool, true, false, cond, false≢true}
use mathlib.Core.List.{List, [], ◌∷◌}
use mathlib.Core.Option.{Option, some}
use Prim.Native.Nat.{ℕ}
use Rattle.spellings.specs.Comparison.{same_bytes}
use Rattle.lexis.specs.Lexer.{Token}
use Rattle.syntax.specs.Tree.{Value, Values, Param, Header}
use Rattle.lexis.specs.Symbol.{right_round}
use Rattle.syntax.specs.Grammar.{Separated, last, next, literals, Spells, a-name, a-literal, an-empty-array, an-array, a-tuple, Items, last-item, next-item}
use Rattle.syntax.specs.Grammar.{IsDefault, no_default, a-default, IsParam, a-param, IsHeader, a-header, IsList, no_header, a-header-more}
use Rattle.lists.specs.Names.{names_in, names_of}
use Rattle.lists.specs.Found.{operation_of, find}
use Rattle.writing.proofs.Planned.{nothing-some}

mutual
  unfolding names_in names_of

  literal-bare : {b : ℕ} {ts us : List Token} {v : Value} → Spells literals b ts v us → names_in v ≡ []
  literal-bare (a-name n h) = absurd (false≢true n)
  literal-bare (a-literal n h) = refl
  literal-bare (an-empty-array h k) = refl
  literal-bare (an-array h i) = items-bare i
  literal-bare (a-tuple h s k i) = rw (literal-bare s) (items-bare i)

  items-bare : {c b : ℕ} {ts us : List Token} {vs : Values} → Items literals c b ts vs us → names_of vs ≡ []
  items-bare (last-item s k) = rw (literal-bare s)
  items-bare (next-item s k i) = rw (literal-bare s) (items-bare i)

-- parameters whose defaults hold no names
pub data Bare : List Param → Type 0 where
  no_bare : Bare []
  a-bare : {p : Param} {ps : List Param} → ((v : Value) → p.default ≡ some v → names_in v ≡ []) → Bare ps → Bare (p ∷ ps)

default-bare : {b : ℕ} {ts us : List Token} {d : Option Value} → IsDefault b ts d us → (v : Value) → d ≡ some v → names_in v ≡ []
default-bare no_default v e = nothing-some e
default-bare (a-default {v = w} h s) v e = let q : w ≡ v = cc in rw (← q) (literal-bare s)

param-bare : {b : ℕ} {ts us : List Token} {p : Param} → IsParam b ts p us → (v : Value) → p.default ≡ some v → names_in v ≡ []
param-bare (a-param h k t d) v e = default-bare d v e

params-bare : {b : ℕ} {ts us : List Token} {ps : List Param} → Separated (IsParam b) right_round ts ps us → Bare ps
params-bare (last h k) = a-bare (param-bare h) no_bare
params-bare (next h k r) = a-bare (param-bare h) (params-bare r)

header-bare : {b : ℕ} {ts us : List Token} {h : Header} → IsHeader b ts h us → Bare h.params
header-bare (a-header f n o p a q r) = params-bare p

-- an operation that is found
pub found-bare : {b : ℕ} {ts : List Token} {hs : List Header} (t : Token) {h : Header} → IsList b ts hs → find hs t ≡ some h → Bare h.params
unfolding operation_of
found-bare t no_header e = nothing-some e
found-bare t {h} (a-header-more {h = g} {hs = hs} i l) e = go (same_bytes g.name.bytes t.bytes) e (found-bare t l)
  where
    go : (c : Bool) → cond c (some g) (find hs t) ≡ some h → (find hs t ≡ some h → Bare h.params) → Bare h.params
    go true e r = let q : g ≡ h = cc in rw q at (header-bare i)
    go false e r = r e
