-- What a value that was read says of its parts and of the type that it was read at: items one by one; arrays and tuples; leaves, which
-- the writing code tells by the kinds of their tokens. Assumes nothing.
use mathlib.Core.Path.{◌≡◌, refl, ap, subst}
use mathlib.Core.Bool.{Bool, true, false, cond}
use mathlib.Core.List.{List}
use mathlib.Core.Option.{Option, some}
use mathlib.Core.Option.{none as nothing}
use Prim.Native.Nat.{ℕ, zero, suc, ◌-◌, ◌<◌}
use native.Mathlib.Omega.{arith}
use lib.Dec.{eqb}
use lib.ListN.{get_or}
use Rattle.lexis.specs.Kind as Kind
use Rattle.lexis.specs.Lexer.{Token}
use Rattle.lexis.specs.Symbol.{sym_of, symbol_of, is_literal, a_name}
use Rattle.syntax.specs.Tree.{Literal, Value, Values, Ty, Tys}
use Rattle.syntax.specs.Tree.Value.{name, literal, array, tuple}
use Rattle.syntax.specs.Tree.Values.{more}
use Rattle.syntax.specs.Tree.Tys.{no-type, a-type}
use Rattle.syntax.specs.Grammar.{IsTypeName}
use Rattle.syntax.specs.Parser.{rest}
use Rattle.syntax.specs.Inner.{lookahead}
use Rattle.lists.specs.Reading.{Val, Vals, v_array, v_tuple, a-val, bind, read_at, read_all, read_each, fits}
use Rattle.lists.specs.Fitting.{is_leaf_symbol, stacked, IsBase, Columns}
use Rattle.lists.specs.Fitting.IsBase.{a_word, a-tuple-base}
use Rattle.lists.proofs.Leaves.{LeafKind, leaf-kind}
use Rattle.lists.proofs.Leaves.LeafKind.{whole-kind, real-kind, string-kind, truth-kind}
use Rattle.lists.proofs.Leaves.LeafKind.{name-kind as is_name}
use Rattle.lists.proofs.Fits.{tuple-no}
use Rattle.lists.proofs.Phrases.{tuple-columns}
use Rattle.writing.specs.Writing.{leaf_at}

clash : ◌≡◌ {A = ℕ} 0 1 → ⊥
clash z = omega arith

-- ---- items

-- what does not fit was not read
pub unread : (v : Value) (u : Ty) {w : Val} → fits v u ≡ false → read_at v u ≡ some w → ⊥
unfolding fits
unread v u e f = clash (cc)

-- the first of the values of items, and the others
pub data Parted (o : Option Val) (p : Option Vals) : Vals → Type 0 where
  parted : {w : Val} {ws : Vals} → o ≡ some w → p ≡ some ws → Parted o p (a-val w ws)

bind-parts : (o : Option Val) (p : Option Vals) {ws : Vals} → bind o (λ w. bind p (λ xs. some (a-val w xs))) ≡ some ws → Parted o p ws
bind-parts nothing p e = absurd (clash (cc))
bind-parts (some w) nothing e = absurd (clash (cc))
bind-parts (some w) (some xs) {ws} e = let q : a-val w xs ≡ ws = cc in subst (λ (y : Vals). Parted (some w) (some xs) y) q (parted refl refl)

pub all-parts : (v : Value) (vs : Values) (u : Ty) {ws : Vals} → read_all (more v vs) u ≡ some ws → Parted (read_at v u) (read_all vs u) ws
unfolding read_all
all-parts v vs u e = bind-parts (read_at v u) (read_all vs u) e

pub each-parts : (v : Value) (vs : Values) (u : Ty) (us : Tys) {ws : Vals} → read_each (more v vs) (a-type u us) ≡ some ws
    → Parted (read_at v u) (read_each vs us) ws
unfolding read_each
each-parts v vs u us e = bind-parts (read_at v u) (read_each vs us) e

-- at least one value
pub data OneOrMore : Vals → Type 0 where
  one-or-more : {w : Val} {ws : Vals} → OneOrMore (a-val w ws)

parts-some : {o : Option Val} {p : Option Vals} {ws : Vals} → Parted o p ws → OneOrMore ws
parts-some (parted e f) = one-or-more

pub all-some : (v : Value) (vs : Values) (u : Ty) {ws : Vals} → read_all (more v vs) u ≡ some ws → OneOrMore ws
all-some v vs u e = parts-some (all-parts v vs u e)

pub each-some : (v : Value) (vs : Values) (us : Tys) {ws : Vals} → read_each (more v vs) us ≡ some ws → OneOrMore ws
unfolding read_each
each-some v vs no-type e = absurd (clash (cc))
each-some v vs (a-type u us) e = parts-some (each-parts v vs u us e)

-- ---- arrays and tuples

bind-items : (p : Option Vals) (f : Vals → Val) {w : Val} → bind p (λ ws. some (f ws)) ≡ some w → (ws : Vals) × (p ≡ some ws) × (f ws ≡ w)
bind-items nothing f e = absurd (clash (cc))
bind-items (some ws) f e = (ws, refl, cc)

pub array-items : (k : ℕ) (u : Ty) (o : Token) (vs : Values) {w : Val} → (k ≡ 0 → ⊥) → read_at (array o vs) (stacked k u) ≡ some w
    → (ws : Vals) × (read_all vs (stacked (k - 1) u) ≡ some ws) × (v_array ws ≡ w)
unfolding read_at stacked
array-items k u o vs {w} h e =
    let q : k ≡ suc (k - 1) = omega (arith, h) in
    bind-items (read_all vs (stacked (k - 1) u)) v_array (subst (λ (j : ℕ). read_at (array o vs) (stacked j u) ≡ some w) q e)

-- only a tuple type reads a tuple
pub data TupleRead (ts : List Token) (vs : Values) (w : Val) : Type 0 where
  tuple-read : {c : ℕ} {cs : Tys} {xs : List Token} → Columns 0 c (rest ts) cs xs → ((ws : Vals) × (read_each vs cs ≡ some ws) × (v_tuple ws ≡ w))
      → TupleRead ts vs w

pub tuple-items : (k : ℕ) {c : ℕ} {ts xs : List Token} {u : Ty} (o : Token) (vs : Values) {w : Val} → IsBase c ts u xs
    → read_at (tuple o vs) (stacked k u) ≡ some w → TupleRead ts vs w
unfolding read_at stacked
tuple-items zero {u = u} o vs (a_word h) e = absurd (unread (tuple o vs) u (tuple-no o vs h) e)
tuple-items zero o vs (a-tuple-base {vs = cs} f d h) e = tuple-read (tuple-columns h) (bind-items (read_each vs cs) v_tuple e)
tuple-items (suc k) o vs h e = absurd (clash (cc))

-- ---- leaves

-- a leaf is read only at a type word, the first token of the base
none-or-none : {A : Type 0} (x : Bool) {a : A} → cond x nothing nothing ≡ some a → ⊥
none-or-none true e = clash (cc)
none-or-none false e = clash (cc)

pub leaf-word : (k : ℕ) {c : ℕ} {ts xs : List Token} {u : Ty} (n : Bool) (t : Token) {w : Val} → IsBase c ts u xs → leaf_at (stacked k u) n t ≡ some w
    → IsTypeName (lookahead ts) u × (leaf_at u n t ≡ some w)
unfolding stacked
leaf-word zero n t (a_word h) e = (h, e)
leaf-word zero n t (a-tuple-base f d h) e = absurd (none-or-none (eqb t.kind Kind.name) e)
leaf-word (suc k) n t h e = absurd (none-or-none (eqb t.kind Kind.name) e)

-- a token that is seen as a name is one, and one that is seen as a literal is none
name-kind : (t : Token) → get_or t.bytes 0 0 < 256 → sym_of t ≡ a_name → eqb t.kind Kind.name ≡ true
name-kind t l e = go (leaf-kind t l (ap is_leaf_symbol e)) e
  where
    go : {k s : ℕ} → LeafKind k s → s ≡ a_name → eqb k Kind.name ≡ true
    go is_name z = refl
    go whole-kind z = absurd (omega arith)
    go real-kind z = absurd (omega arith)
    go string-kind z = absurd (omega arith)
    go truth-kind z = absurd (omega arith)

literal-kind : (t : Token) → is_literal (sym_of t) ≡ true → eqb t.kind Kind.name ≡ false
unfolding sym_of symbol_of
literal-kind t h = go (eqb t.kind Kind.name) refl
  where
    go : (x : Bool) → eqb t.kind Kind.name ≡ x → x ≡ false
    go true e = let q : is_literal a_name ≡ true = simp e at h in absurd (clash (cc))
    go false e = refl

pub name-leaf : (t : Token) (u : Ty) → get_or t.bytes 0 0 < 256 → sym_of t ≡ a_name → leaf_at u false t ≡ read_at (name t) u
unfolding read_at
name-leaf t u l e = simp (name-kind t l e)

pub literal-leaf : (l : Literal) (u : Ty) → is_literal (sym_of l.token) ≡ true → leaf_at u l.negative l.token ≡ read_at (literal l) u
unfolding read_at
literal-leaf l u e = simp (literal-kind l.token e)
