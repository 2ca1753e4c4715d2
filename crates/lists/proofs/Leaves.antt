-- Leaves by the kinds of their tokens: which kinds a leaf has, that a type word takes it by its kind, and how the code tests it at a place.
-- Assumes nothing.
use mathlib.Core.Path.{◌≡◌, refl, sym, ap, subst, ◌∙◌}
use mathlib.Core.Bool.{Bool, true, false, cond}
use mathlib.Core.List.{List}
use Prim.Native.Nat.{ℕ, ◌+◌, ◌-◌, ◌<◌}
use native.Mathlib.Omega.{arith}
use lib.Dec.{eqb}
use lib.ListN.{get_or, take, drop}
use lib.Seq.{get_or-take, get_or-drop}
use borrow.Author.Tests.{eq-eqb, ne_eqb, eqb-true, lt-ltb}
use Rattle.spellings.specs.Comparison.{same_bytes}
use Rattle.lexis.specs.Ascii.{ascii}
use Rattle.lexis.specs.Kind as Kind
use Rattle.lexis.specs.Number.{value_from, signed}
use Rattle.lexis.specs.Lexer.{Token}
use Rattle.lexis.specs.Symbol.{terminals, symbol_in, keyword_symbol, operator_symbol, symbol_of, sym_of, is_literal, other, a_name, a_number, a_literal}
use Rattle.lexis.specs.Symbol.{version, graph, fragment, tensor_word, extent_word, scalar_word, logical_word, string_word}
use Rattle.syntax.specs.Tree.{Literal, Ty}
use Rattle.syntax.specs.Tree.Value.{name, literal}
use Rattle.syntax.specs.Grammar.{IsTypeName}
use Rattle.syntax.specs.Grammar.IsTypeName.{is-tensor, is-extent, is-scalar, is-logical, is-string}
use Rattle.syntax.specs.Table.{kind_at, start_at, end_at, token_at, Holds}
use Rattle.syntax.proofs.Row.{cond_has}
use Rattle.syntax.proofs.Right.{choice}
use Rattle.lists.specs.Reading.{is_extent, Val, where-true, name_at, literal_at, is_some, read_at, fits}
use Rattle.lists.specs.Types.{extent_kinds, takes, kinds_of}
use Rattle.lists.specs.Fitting.{leaf_fits, leaf_fits_at, is_leaf_symbol, IsBase}
use Rattle.lists.specs.Fitting.IsBase.{a_word, a-tuple-base}

clash : ◌≡◌ {A = ℕ} 0 1 → ⊥
clash z = omega arith

-- ---- the kinds of leaves

-- no keyword is seen as a leaf
keyword-no-leaf : (w : List ℕ) → is_leaf_symbol (keyword_symbol w) ≡ false
unfolding terminals symbol_in
keyword-no-leaf w =
    none (same_bytes w (ascii "version")) version _ refl
    (none (same_bytes w (ascii "graph")) graph _ refl
    (none (same_bytes w (ascii "fragment")) fragment _ refl
    (none (same_bytes w (ascii "tensor")) tensor_word _ refl
    (none (same_bytes w (ascii "extent")) extent_word _ refl
    (none (same_bytes w (ascii "scalar")) scalar_word _ refl
    (none (same_bytes w (ascii "logical")) logical_word _ refl (none (same_bytes w (ascii "string")) string_word other refl refl)))))))
  where
    none : (c : Bool) (s t : ℕ) → is_leaf_symbol s ≡ false → is_leaf_symbol t ≡ false → is_leaf_symbol (cond c s t) ≡ false
    none c s t p q = cond_has (λ (x : ℕ). is_leaf_symbol x ≡ false) c p q

pub keyword-not : (w : List ℕ) → keyword_symbol w ≡ a_name → ⊥
keyword-not w e = let q : true ≡ false = sym (ap is_leaf_symbol e) ∙ keyword-no-leaf w in clash (cc)

-- nor is an operator, nor a byte
operator-no-leaf : (w : List ℕ) → is_leaf_symbol (operator_symbol w) ≡ false
operator-no-leaf w = cond_has (λ (x : ℕ). is_leaf_symbol x ≡ false) (same_bytes w (ascii "-")) refl refl

byte-no-leaf : (s : ℕ) → s < a_name → is_leaf_symbol s ≡ false
byte-no-leaf s h = simp (lt-ltb s a_name h)

-- the kind of a leaf, beside its terminal
pub data LeafKind : ℕ → ℕ → Type 0 where
  name-kind : LeafKind Kind.name a_name
  whole-kind : LeafKind Kind.whole a_number
  real-kind : LeafKind Kind.real a_number
  string-kind : LeafKind Kind.string a_literal
  truth-kind : LeafKind Kind.truth a_literal

-- a syntactic character is seen as its first byte
pub leaf-kind : (t : Token) → get_or t.bytes 0 0 < 256 → is_leaf_symbol (sym_of t) ≡ true → LeafKind t.kind (sym_of t)
unfolding sym_of symbol_of
leaf-kind t l =
    choice Kinded (eqb t.kind Kind.name) (λ e. is-kind e name-kind) (λ _.
    choice Kinded (eqb t.kind Kind.whole) (λ e. is-kind e whole-kind) (λ _.
    choice Kinded (eqb t.kind Kind.real) (λ e. is-kind e real-kind) (λ _.
    choice Kinded (eqb t.kind Kind.string) (λ e. is-kind e string-kind) (λ _.
    choice Kinded (eqb t.kind Kind.truth) (λ e. is-kind e truth-kind) (λ _.
    choice Kinded (eqb t.kind Kind.keyword) (λ _. no_kind (keyword-no-leaf t.bytes)) (λ _.
    choice Kinded (eqb t.kind Kind.operator) (λ _. no_kind (operator-no-leaf t.bytes)) (λ _.
    choice Kinded (eqb t.kind Kind.syntactic) (λ _. no_kind (byte-no-leaf (get_or t.bytes 0 0) l)) (λ _. no_kind refl))))))))
  where
    Kinded : ℕ → Type 0
    Kinded s = is_leaf_symbol s ≡ true → LeafKind t.kind s

    is-kind : {k s : ℕ} → eqb t.kind k ≡ true → LeafKind k s → Kinded s
    is-kind {k} {s} e h z = subst (λ (j : ℕ). LeafKind j s) (sym (eqb-true t.kind k e)) h

    no_kind : {s : ℕ} → is_leaf_symbol s ≡ false → Kinded s
    no_kind e z = absurd (clash (cc))

-- the first byte of a token is a byte of the text
pub first_byte : (text table : List ℕ) (n i : ℕ) → Holds text table n → i < n → ((j : ℕ) → get_or text j 0 < 256) → get_or (token_at text table i).bytes 0 0 < 256
unfolding token_at
first_byte text table n i h l f =
    let e = get_or-take (end_at table i - start_at table i) (drop (start_at table i) text) 0 0 (omega (arith, (h.within i l).0))
    ∙ get_or-drop (start_at table i) text 0 0 in
    omega (arith, e, f (start_at table i + 0))

-- ---- leaves against type words

pub where-some : (p : Bool) (v : Val) → is_some (where-true p v) ≡ p
where-some true v = refl
where-some false v = refl

name-at : {k s r : ℕ} {w : Ty} → LeafKind k s → s ≡ a_name → IsTypeName r w → (x y : List ℕ) → is_some (name_at w x) ≡ leaf_fits (kinds_of w) false k y
unfolding leaf_fits takes kinds_of
name-at name-kind e is-tensor x y = refl
name-at name-kind e is-extent x y = refl
name-at name-kind e is-scalar x y = refl
name-at name-kind e is-logical x y = refl
name-at name-kind e is-string x y = refl
name-at whole-kind e h x y = absurd (omega arith)
name-at real-kind e h x y = absurd (omega arith)
name-at string-kind e h x y = absurd (omega arith)
name-at truth-kind e h x y = absurd (omega arith)

literal-at : {k s r : ℕ} {w : Ty} → LeafKind k s → is_literal s ≡ true → IsTypeName r w → (n : Bool) (x : List ℕ)
    → is_some (literal_at w n k x) ≡ leaf_fits (kinds_of w) n k x
unfolding leaf_fits takes kinds_of
literal-at name-kind e h n x = absurd (clash (cc))
literal-at whole-kind e is-tensor n x = refl
literal-at whole-kind e is-extent n x = where-some (is_extent (signed n (value_from 0 x))) _
literal-at whole-kind e is-scalar n x = refl
literal-at whole-kind e is-logical n x = refl
literal-at whole-kind e is-string n x = refl
literal-at real-kind e is-tensor n x = refl
literal-at real-kind e is-extent n x = refl
literal-at real-kind e is-scalar n x = refl
literal-at real-kind e is-logical n x = refl
literal-at real-kind e is-string n x = refl
literal-at string-kind e is-tensor n x = refl
literal-at string-kind e is-extent n x = refl
literal-at string-kind e is-scalar n x = refl
literal-at string-kind e is-logical n x = refl
literal-at string-kind e is-string n x = refl
literal-at truth-kind e is-tensor n x = refl
literal-at truth-kind e is-extent n x = refl
literal-at truth-kind e is-scalar n x = refl
literal-at truth-kind e is-logical n x = refl
literal-at truth-kind e is-string n x = refl

tuple_at : {k s : ℕ} → LeafKind k s → (n : Bool) (x : List ℕ) → false ≡ leaf_fits 0 n k x
unfolding leaf_fits takes
tuple_at name-kind n x = refl
tuple_at whole-kind n x = refl
tuple_at real-kind n x = refl
tuple_at string-kind n x = refl
tuple_at truth-kind n x = refl

-- a base takes a leaf by its kind
pub name-fits : {c : ℕ} {ts ws : List Token} {w : Ty} (t : Token) → IsBase c ts w ws → LeafKind t.kind (sym_of t) → sym_of t ≡ a_name
    → fits (name t) w ≡ leaf_fits (kinds_of w) false t.kind t.bytes
unfolding fits read_at kinds_of
name-fits t (a_word h) k e = name-at k e h t.bytes t.bytes
name-fits t (a-tuple-base f d h) k e = tuple_at k false t.bytes

pub literal-fits : {c : ℕ} {ts ws : List Token} {w : Ty} (l : Literal) → IsBase c ts w ws → LeafKind l.token.kind (sym_of l.token)
    → is_literal (sym_of l.token) ≡ true → fits (literal l) w ≡ leaf_fits (kinds_of w) l.negative l.token.kind l.token.bytes
unfolding fits read_at kinds_of
literal-fits l (a_word h) k e = literal-at k e h l.negative l.token.bytes
literal-fits l (a-tuple-base f d h) k e = tuple_at k l.negative l.token.bytes

-- ---- the leaf at a place, as the code tests it

module _ (text table : List ℕ) (i kinds : ℕ) (negative : Bool) where
  pub leaf-not-taken : takes kinds (kind_at table i) ≡ false → false ≡ leaf_fits_at text table i kinds negative
  unfolding token_at leaf_fits
  leaf-not-taken e = simp e

  module _ (e : takes kinds (kind_at table i) ≡ true) where
    pub leaf-taken : (kinds ≡ extent_kinds → ⊥) → true ≡ leaf_fits_at text table i kinds negative
    unfolding token_at leaf_fits
    leaf-taken d = simp (e, ne_eqb kinds extent_kinds d)

    pub leaf-extent : kinds ≡ extent_kinds → (s j : ℕ) → s ≡ start_at table i → j ≡ end_at table i
        → is_extent (signed negative (value_from 0 (take (j - s) (drop s text)))) ≡ leaf_fits_at text table i kinds negative
    unfolding token_at leaf_fits
    leaf-extent d s j p q = rw (p, q) (sym (simp (e, eq-eqb kinds extent_kinds d)))
