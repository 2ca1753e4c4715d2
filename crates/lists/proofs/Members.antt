-- The tokens of a tree are tokens of its text: what holds of every token that spells a tree holds of those that the tree keeps. In order:
-- lists of which every item has a property; values; operation lists.
use mathlib.Core.List.{List, [], ◌∷◌, ◌++◌}
use mathlib.Core.Option.{Option, some}
use mathlib.Core.Option.{none as nothing}
use Prim.Native.Nat.{ℕ}
use Rattle.lexis.specs.Lexer.{Token}
use Rattle.syntax.specs.Tree.{Value, Values, Ty, Tys, Param, Result, Header}
use Rattle.syntax.specs.Grammar.{Separated, last, next, no_sign, a-sign, Leaves, Spells, a-name, a-literal, an-empty-array, an-array, a-tuple, Items}
use Rattle.syntax.specs.Grammar.{last-item, next-item, Dims, no-pair, a_pair, IsType, a-plain, a-tuple-type, IsTypes, last-type, next-type}
use Rattle.syntax.specs.Grammar.{IsDefault, no_default, a-default, IsParam, a-param, IsResult, a-result, IsHeader, a-header, IsList, no_header, a-header-more}
use Rattle.lists.specs.Names.{first_token, names_in, names_of}

-- ---- lists

-- every item of a list has the property
abbrev pub Each : {A : Type 0} → (A → Type 0) → List A → Type 0
Each P [] = Unit {0}
Each P (x ∷ xs) = P x × Each P xs

pub each_append : {A : Type 0} (P : A → Type 0) (xs ys : List A) → Each P xs → Each P ys → Each P (xs ++ ys)
each_append P [] ys h k = k
each_append P (x ∷ xs) ys h k = (h.0, each_append P xs ys h.1 k)

-- ---- values

module _ (P : Token → Type 0) where
  abbrev Good : List Token → Type 0
  Good ts = Each P ts

  -- a value's first token and its names have the property
  pub record HasValue (v : Value) : Type 0 where
    pub first : P (first_token v)
    pub names : Good (names_in v)

  mutual
    unfolding names_in names_of

    pub value-good : {m : Leaves} {b : ℕ} {ts us : List Token} {v : Value} → Spells m b ts v us → Good ts → HasValue v × Good us
    value-good (a-name m s) g = (record { first = g.0; names = (g.0, tt) }, g.1)
    value-good (a-literal m (no_sign s)) g = (record { first = g.0; names = tt }, g.1)
    value-good (a-literal m (a-sign s n)) g = (record { first = g.0; names = tt }, g.1.1)
    value-good (an-empty-array o c) g = (record { first = g.0; names = tt }, g.1.1)
    value-good (an-array o i) g = let r = items-good i g.1 in (record { first = g.0; names = r.0 }, r.1)
    value-good (a-tuple {v = v} {vs = vs} o s c i) g =
        let x = value-good s g.1 in
        let y = items-good i x.1.1 in
        (record { first = g.0; names = each_append P (names_in v) (names_of vs) x.0.names y.0 }, y.1)

    pub items-good : {m : Leaves} {close b : ℕ} {ts us : List Token} {vs : Values} → Items m close b ts vs us → Good ts → Good (names_of vs) × Good us
    items-good (last-item {v = v} s c) g = let x = value-good s g in (each_append P (names_in v) [] x.0.names tt, x.1.1)
    items-good (next-item {v = v} {vs = vs} s c i) g =
        let x = value-good s g in
        let y = items-good i x.1.1 in
        (each_append P (names_in v) (names_of vs) x.0.names y.0, y.1)

  -- items parted by commas
  pub separated-good : {A : Type 0} {Item : List Token → A → List Token → Type 0} {close : ℕ} (Q : A → Type 0)
      → ((ts us : List Token) (a : A) → Item ts a us → Good ts → Q a × Good us)
      → {ts us : List Token} {xs : List A} → Separated Item close ts xs us → Good ts → Each Q xs × Good us
  separated-good Q f (last i c) g = let x = f _ _ _ i g in ((x.0, tt), x.1.1)
  separated-good Q f (next i c s) g = let x = f _ _ _ i g in let y = separated-good Q f s x.1.1 in ((x.0, y.0), y.1)

  -- ---- operation lists

  dims-good : {b : ℕ} {ts us : List Token} {u w : Ty} → Dims b ts u w us → Good ts → Good us
  dims-good no-pair g = g
  dims-good (a_pair o c d) g = dims-good d g.1.1

  mutual
    type-good : {b : ℕ} {ts us : List Token} {u : Ty} → IsType b ts u us → Good ts → Good us
    type-good (a-plain n d) g = dims-good d g.1
    type-good (a-tuple-type o t c ts d) g = dims-good d (types-good ts (type-good t g.1).1)

    types-good : {b : ℕ} {ts us : List Token} {vs : Tys} → IsTypes b ts vs us → Good ts → Good us
    types-good (last-type t c) g = (type-good t g).1
    types-good (next-type t c ts) g = types-good ts (type-good t g).1

  -- a default's first token has the property
  abbrev pub HasDefault : Option Value → Type 0
  HasDefault nothing = Unit {0}
  HasDefault (some v) = P (first_token v)

  -- so do a parameter's name and the first token of its default
  pub record HasParam (p : Param) : Type 0 where
    pub name : P p.name
    pub default : HasDefault p.default

  abbrev pub HasResult : Result → Type 0
  HasResult r = P r.name

  -- so do the word `fragment`, the operation's name, and its parameters and results
  pub record HasHeader (h : Header) : Type 0 where
    pub keyword : P h.keyword
    pub name : P h.name
    pub params : Each HasParam h.params
    pub results : Each HasResult h.results

  default-good : {b : ℕ} {ts us : List Token} {d : Option Value} → IsDefault b ts d us → Good ts → HasDefault d × Good us
  default-good no_default g = (tt, g)
  default-good (a-default e s) g = let x = value-good s g.1 in (x.0.first, x.1)

  param-good : {b : ℕ} {ts us : List Token} {p : Param} → IsParam b ts p us → Good ts → HasParam p × Good us
  param-good (a-param n c t d) g = let x = default-good d (type-good t g.1.1) in (record { name = g.0; default = x.0 }, x.1)

  result-good : {b : ℕ} {ts us : List Token} {r : Result} → IsResult b ts r us → Good ts → HasResult r × Good us
  result-good (a-result n c t) g = (g.0, type-good t g.1.1)

  header-good : {b : ℕ} {ts us : List Token} {h : Header} → IsHeader b ts h us → Good ts → HasHeader h × Good us
  header-good (a-header f n o ps a p rs) g =
      let x = separated-good HasParam (λ _ _ _ i k. param-good i k) ps g.1.1.1 in
      let y = separated-good HasResult (λ _ _ _ i k. result-good i k) rs x.1.1.1 in
      (record { keyword = g.0; name = g.1.0; params = x.0; results = y.0 }, y.1)

  pub list-good : {b : ℕ} {ts : List Token} {hs : List Header} → IsList b ts hs → Good ts → Each HasHeader hs
  list-good no_header g = tt
  list-good (a-header-more h l) g = let x = header-good h g in (x.0, list-good l x.1)
