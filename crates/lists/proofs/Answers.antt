-- What each way through the code that fits a value to a type answers, whatever stands in the two tables: a value by its first token,
-- then the items of an array, then items and types side by side. Assumes nothing.
use mathlib.Core.Path.{◌≡◌, refl, sym, ap, subst, ◌∙◌}
use mathlib.Core.Bool.{Bool, true, false, cond, ◌||◌, or-false}
use mathlib.Core.List.{List, [], ◌∷◌}
use Prim.Native.Nat.{ℕ, zero, suc, ◌+◌, ◌-◌, ◌<◌, ◌≤◌}
use native.Mathlib.Omega.{arith}
use lib.Dec.{eqb, leb}
use lib.ListN.{get_or, drop}
use borrow.Author.Tests.{eqb-true, eqb-false, lt-ltb, le-ltb, le-leb, leb-true, leb-false}
use Rattle.std.specs.Prelude.{Option as Maybe, Some, None}
use Rattle.lexis.specs.Lexer.{Token}
use Rattle.lexis.specs.Symbol.{sym_of, is_literal, left_round, right_round, left_square, right_square, comma, minus, a_name, a_number, a_literal}
use Rattle.syntax.specs.Tree.{unsigned, negated, Value, Values, Ty, Tys}
use Rattle.syntax.specs.Tree.Value.{name, literal, array, tuple}
use Rattle.syntax.specs.Tree.Values.{none, more}
use Rattle.syntax.specs.Tree.Ty.{array_of, tuple_of}
use Rattle.syntax.specs.Tree.Tys.{no-type, a-type}
use Rattle.syntax.specs.Grammar.{Leaves, Spells, Items, IsType, IsTypes}
use Rattle.syntax.specs.Grammar.IsLiteral.{no_sign, a-sign}
use Rattle.syntax.specs.Grammar.Spells.{a-name, a-literal, an-empty-array, an-array, a-tuple}
use Rattle.syntax.specs.Grammar.Items.{last-item, next-item}
use Rattle.syntax.specs.Parser.{rest}
use Rattle.syntax.specs.Table.{token_at, toks, Holds}
use Rattle.syntax.specs.Inner.{lookahead}
use Rattle.syntax.proofs.Row.{cond_has}
use Rattle.syntax.proofs.Table.{toks_more, toks-rest}
use Rattle.syntax.proofs.Symbols.{stands}
use Rattle.lists.specs.Reading.{fits}
use Rattle.lists.specs.declared.types.TypeAt.{TypeAt}
use Rattle.lists.specs.Types.{kinds_of, OfType}
use Rattle.lists.specs.Fitting.{leaf_fits, leaf_fits_at, is_leaf_symbol, starts_leaf, stacked, Several, IsBase, NoPair, Columns, InArray, fits_all, fits_each}
use Rattle.lists.specs.Fitting.{Within, Fitted, leaf_answer, signed_answer, BaseOf, OfValue, OfArray, OfEach}
use Rattle.lists.specs.Fitting.Columns.{last-column, next-column}
use Rattle.lists.specs.Fitting.InArray.{no_items, some-items}
use Rattle.lists.proofs.Fits.{array-fits, all_none, all_more, tuple-fits, each_none, each-few, each-many, each_more, Flat, flat-no, array-no, tuple-no}
use Rattle.lists.proofs.Fits.Flat.{flat-name, flat-literal, flat-tuple}
use Rattle.lists.proofs.Leaves.{LeafKind, leaf-kind, first_byte, name-fits, literal-fits}
use Rattle.lists.proofs.TypeTokens.{base-none, base-tuple, base-name, base-of, read_of, shape_of}
use Rattle.lists.proofs.Phrases.{tuple-columns}

clash : ◌≡◌ {A = ℕ} 0 1 → ⊥
clash z = omega arith

-- ---- places and answers

-- an answer of the functions that fit a value: where it stands, and that it is right for whatever value and type stand there
pub record Answered (text table : List ℕ) (n i : ℕ) (ts : List Token) (kinds k : ℕ) (r : Maybe ℕ) : Type 0 where
  pub range : Within n i r
  pub meaning : OfValue text table n i ts kinds k r

none-some : {j : ℕ} → None ≡ Some j → ⊥
none-some z = clash cc

same : {j k : ℕ} → Some j ≡ Some k → j ≡ k
same z = cc

pub none_within : (n i : ℕ) → Within n i None
none_within n i = record { past = λ z. absurd (none-some z); inside = λ z. absurd (none-some z) }

pub one-within : (n i j : ℕ) → i ≤ j → j < n → Within n i (Some (j + 1))
one-within n i j h l = record { past = λ z. let e = same z in omega arith; inside = λ z. let e = same z in omega arith }

pub wider : (n i k : ℕ) (r : Maybe ℕ) → i ≤ k → Within n k r → Within n i r
wider n i k r h w = record { past = λ z. let q = w.past z in omega arith; inside = w.inside }

module _ {text table : List ℕ} {n : ℕ} {p : Bool} {us : List Token} where
  fitted-no : p ≡ false → Fitted text table n p us None
  fitted-no e = record { misfit = λ z. e; fit = λ z. absurd (none-some z); ends = λ z. absurd (none-some z) }

  fitted-yes : (j : ℕ) → p ≡ true → us ≡ toks text table n (j + 1) → Fitted text table n p us (Some (j + 1))
  fitted-yes j e f = record { misfit = λ z. absurd (none-some (sym z)); fit = λ z. e; ends = λ z. f ∙ ap (λ (k : ℕ). toks text table n k) (same z) }

  fitted-as : {q : Bool} {r : Maybe ℕ} → q ≡ p → Fitted text table n p us r → Fitted text table n q us r
  fitted-as e f = record { misfit = λ z. e ∙ f.misfit z; fit = λ z. e ∙ f.fit z; ends = λ z. f.ends z }

-- ---- a value by its first token

-- the number of a literal's terminal lies above a name's
literal-cases : (s : ℕ) (p q : Bool) → eqb s a_number ≡ p → eqb s a_literal ≡ q → (p || q) ≡ true → (a_name < s) × (s ≤ a_literal)
literal-cases s true q e f h = let z = eqb-true s a_number e in (omega arith, omega arith)
literal-cases s false true e f h = let z = eqb-true s a_literal f in (omega arith, omega arith)
literal-cases s false false e f h = absurd (clash cc)

literal-range : (s : ℕ) → is_literal s ≡ true → (a_name < s) × (s ≤ a_literal)
literal-range s h = literal-cases s (eqb s a_number) (eqb s a_literal) refl refl h

-- what a value is, by the first of the tokens ts
pub data Seen (m : Leaves) (ts : List Token) : Value → List Token → Type 0 where
  a-name-seen : {t : Token} {us : List Token} → ts ≡ t ∷ us → sym_of t ≡ a_name → Seen m ts (name t) us
  a-literal-seen : {t : Token} {us : List Token} → ts ≡ t ∷ us → is_literal (sym_of t) ≡ true → Seen m ts (literal (unsigned t)) us
  a-sign-seen : {x t : Token} {us : List Token} → ts ≡ x ∷ t ∷ us → sym_of x ≡ minus → sym_of t ≡ a_number → Seen m ts (literal (negated x t)) us
  an-array-seen : {b : ℕ} {o : Token} {xs us : List Token} {vs : Values} → ts ≡ o ∷ xs → sym_of o ≡ left_square → InArray m b xs vs us
      → Seen m ts (array o vs) us
  a-tuple-seen : {b : ℕ} {o : Token} {xs us : List Token} {vs : Values} → ts ≡ o ∷ xs → sym_of o ≡ left_round → Items m right_round b xs vs us
      → Seen m ts (tuple o vs) us

pub seen : {m : Leaves} {b : ℕ} {ts us : List Token} {v : Value} → Spells m b ts v us → Seen m ts v us
seen (a-name h e) = a-name-seen refl e
seen (a-literal h (no_sign e)) = a-literal-seen refl e
seen (a-literal h (a-sign e f)) = a-sign-seen refl e f
seen (an-empty-array {b = b} e f) = an-array-seen {b = b} refl e (no_items f)
seen (an-array e h) = an-array-seen refl e (some-items h)
seen (a-tuple e h f i) = a-tuple-seen refl e (next-item h f i)

-- the terminal that was seen is that of the first token
pub look : {ts : List Token} {t : Token} {us : List Token} {s a : ℕ} → ts ≡ t ∷ us → sym_of t ≡ a → s ≡ lookahead ts → s ≡ a
look p e h = h ∙ (ap lookahead p ∙ e)

pub literal-look : {ts : List Token} {t : Token} {us : List Token} {s : ℕ} → ts ≡ t ∷ us → is_literal (sym_of t) ≡ true → s ≡ lookahead ts
    → (a_name < s) × (s ≤ a_literal)
literal-look {t = t} {s = s} p f h =
    let q = literal-range (sym_of t) f in
    let y : s ≡ sym_of t = h ∙ ap lookahead p in
    (omega (arith, q.0, y), omega (arith, q.1, y))

-- the terminals of leaves lie together, above those of brackets
leaf-between : (s : ℕ) → a_name ≤ s → s ≤ a_literal → is_leaf_symbol s ≡ true
leaf-between s h l = simp (le-ltb s a_name h, le-leb s a_literal l)

leaf-bracket : (s : ℕ) → s < a_name → is_leaf_symbol s ≡ true → ⊥
leaf-bracket s h e = let q : false ≡ true = simp (lt-ltb s a_name h) at e in clash cc

-- what stands behind the first token
pub behind : {ts : List Token} {t : Token} {us : List Token} → ts ≡ t ∷ us → us ≡ rest ts
behind p = sym (ap rest p)

deep : (k : ℕ) → (k ≡ 0 → ⊥) → k ≡ suc (k - 1)
deep k h = omega (arith, h)

-- no pairs, and some
pub fits-none : (v : Value) (k : ℕ) (w : Ty) → k ≡ 0 → fits v (stacked k w) ≡ fits v w
unfolding stacked
fits-none v k w e = rw e

pub fits-some : (v : Value) (k : ℕ) (w : Ty) → (k ≡ 0 → ⊥) → fits v (stacked k w) ≡ fits v (array_of (stacked (k - 1) w))
unfolding stacked
fits-some v k w h = ap (λ (j : ℕ). fits v (stacked j w)) (deep k h)

-- no tuple fits a type word
pub word-no-tuple : {c o : ℕ} {ts ws : List Token} {w : Ty} → IsBase c ts w ws → o ≡ lookahead ts → (o ≡ left_round → ⊥) → (t : Token) (vs : Values)
    → fits (tuple t vs) w ≡ false
word-no-tuple {ts = []} q f d t vs = absurd (base-none refl q)
word-no-tuple {ts = x ∷ ts} q f d t vs = tuple-no t vs (base-name (λ y. d (f ∙ y)) q)

-- the columns of a tuple type
tuple-base : {c o : ℕ} {ts ws : List Token} {w : Ty} → IsBase c ts w ws → o ≡ lookahead ts → o ≡ left_round
    → (c' : ℕ) × (vs : Tys) × (w ≡ tuple_of vs) × Several vs × IsTypes c' (rest ts) vs ws
tuple-base {ts = []} q f d = absurd (base-none refl q)
tuple-base {ts = x ∷ ts} q f d = base-tuple (sym f ∙ d) q

pub base-columns : (text table : List ℕ) (n i : ℕ) {c o : ℕ} {ws : List Token} {w : Ty} → IsBase c (toks text table n i) w ws
    → o ≡ lookahead (toks text table n i) → o ≡ left_round →
    (c' : ℕ) × (vs : Tys) × (w ≡ tuple_of vs) × Several vs × Columns 0 c' (toks text table n (i + 1)) vs ws
base-columns text table n i {ws = ws} q f d =
    let y = tuple-base q f d in
    (y.0, y.1, y.2, y.3, subst (λ (xs : List Token). Columns 0 y.0 xs y.1 ws) (toks-rest text table n i) (tuple-columns y.4))

-- the value at place i of one table, the base at place t of another, under k pairs
module _ (text table : List ℕ) (n i : ℕ) (ttext ttable : List ℕ) (tn t k s : ℕ) (sees : s ≡ lookahead (toks text table n i)) where
  -- whatever value and base stand there, the one does not fit the other
  abbrev Never : Type 0
  Never =
      (m : Leaves) (b : ℕ) (v : Value) (us : List Token) (c : ℕ) (w : Ty) (ws : List Token) → Spells m b (toks text table n i) v us
      → IsBase c (toks ttext ttable tn t) w ws → fits v (stacked k w) ≡ false

  pub never : Never → {kinds : ℕ} → OfValue text table n i (toks ttext ttable tn t) kinds k None
  never f m b v us c w ws g h = fitted-no (f m b v us c w ws g h.is_base)

  pub array-flat : s ≡ left_square → k ≡ 0 → Never
  array-flat e z m b v us c w ws g h = go (seen g)
    where
      go : {v : Value} {us : List Token} → Seen m (toks text table n i) v us → fits v (stacked k w) ≡ false
      go (a-name-seen p f) = absurd (omega (arith, look p f sees))
      go (a-literal-seen p f) = absurd (omega (arith, (literal-look p f sees).0))
      go (a-sign-seen p f g) = absurd (omega (arith, look p f sees))
      go (an-array-seen {o = o} {vs = vs} p f x) = fits-none (array o vs) k w z ∙ array-no o vs h
      go (a-tuple-seen p f x) = absurd (omega (arith, look p f sees))

  pub flat-deep : (s ≡ left_square → ⊥) → (k ≡ 0 → ⊥) → Never
  flat-deep e z m b v us c w ws g h = go (seen g)
    where
      flat : {v : Value} → Flat v → fits v (stacked k w) ≡ false
      flat {v} q = fits-some v k w z ∙ flat-no q (stacked (k - 1) w)

      go : {v : Value} {us : List Token} → Seen m (toks text table n i) v us → fits v (stacked k w) ≡ false
      go (a-name-seen p f) = flat flat-name
      go (a-literal-seen p f) = flat flat-literal
      go (a-sign-seen p f g) = flat flat-literal
      go (an-array-seen p f x) = absurd (e (look p f sees))
      go (a-tuple-seen p f x) = flat flat-tuple

  -- the terminal that a leaf begins with
  name-seen : {x : Token} {us : List Token} → toks text table n i ≡ x ∷ us → sym_of x ≡ a_name → starts_leaf s ≡ true
  name-seen p f = ap starts_leaf (look p f sees)

  literal-seen : {x : Token} {us : List Token} → toks text table n i ≡ x ∷ us → is_literal (sym_of x) ≡ true → starts_leaf s ≡ true
  literal-seen {x} p f =
      let q = literal-range (sym_of x) f in
      let e = leaf-between (sym_of x) (omega (arith, q.0)) q.1 in
      ap starts_leaf (sees ∙ ap lookahead p) ∙ ap (λ (b : Bool). b || eqb (sym_of x) minus) e

  sign-seen : {x : Token} {us : List Token} → toks text table n i ≡ x ∷ us → sym_of x ≡ minus → starts_leaf s ≡ true
  sign-seen p f = ap starts_leaf (look p f sees)

  -- neither a leaf nor an array: a tuple, at a tuple type
  module _ (flat : k ≡ 0) (nested : starts_leaf s ≡ false) (e : s ≡ left_square → ⊥) (o : ℕ) (type-sees : o ≡ lookahead (toks ttext ttable tn t)) where
    pub tuple-word : (s ≡ left_round → o ≡ left_round → ⊥) → Never
    tuple-word d m b v us c w ws g h = go (seen g)
      where
        go : {v : Value} {us : List Token} → Seen m (toks text table n i) v us → fits v (stacked k w) ≡ false
        go (a-name-seen p f) = let q = name-seen p f in absurd (clash cc)
        go (a-literal-seen p f) = let q = literal-seen p f in absurd (clash cc)
        go (a-sign-seen p f g) = let q = sign-seen p f in absurd (clash cc)
        go (an-array-seen p f x) = absurd (e (look p f sees))
        go (a-tuple-seen {o = x} {vs = vs} p f y) = fits-none (tuple x vs) k w flat ∙ word-no-tuple h type-sees (λ q. d (look p f sees) q) x vs

    pub tuple-each : {kinds : ℕ} (r : Maybe ℕ) → o ≡ left_round → OfEach text table n (i + 1) right_round (toks ttext ttable tn (t + 1)) 0 r
        → OfValue text table n i (toks ttext ttable tn t) kinds k r
    tuple-each r d f m b v us c w ws g h = go (seen g)
      where
        go : {v : Value} {us : List Token} → Seen m (toks text table n i) v us → Fitted text table n (fits v (stacked k w)) us r
        go (a-name-seen p q) = let q = name-seen p q in absurd (clash cc)
        go (a-literal-seen p q) = let q = literal-seen p q in absurd (clash cc)
        go (a-sign-seen p q x) = let q = sign-seen p q in absurd (clash cc)
        go (an-array-seen p q x) = absurd (e (look p q sees))
        go {us = us} (a-tuple-seen {b = b} {o = x} {vs = vs} p q y) =
            let z = base-columns ttext ttable tn t h.is_base type-sees d in
            let xs = subst (λ (xs : List Token). Items m right_round b xs vs us) (behind p ∙ toks-rest text table n i) y in
            fitted-as (fits-none (tuple x vs) k w flat ∙ (ap (fits (tuple x vs)) z.2 ∙ tuple-fits x vs z.1)) (f m b vs us z.0 z.1 ws xs z.4)

  pub array-deep : {kinds : ℕ} (r : Maybe ℕ) → s ≡ left_square → (k ≡ 0 → ⊥) → OfArray text table n (i + 1) (toks ttext ttable tn t) kinds (k - 1) r
      → OfValue text table n i (toks ttext ttable tn t) kinds k r
  array-deep r e z f m b v us c w ws g h = go (seen g)
    where
      go : {v : Value} {us : List Token} → Seen m (toks text table n i) v us → Fitted text table n (fits v (stacked k w)) us r
      go (a-name-seen p f) = absurd (omega (arith, look p f sees))
      go (a-literal-seen p f) = absurd (omega (arith, (literal-look p f sees).0))
      go (a-sign-seen p f g) = absurd (omega (arith, look p f sees))
      go {us = us} (an-array-seen {b = b} {o = o} {vs = vs} p q x) =
          let xs = subst (λ (xs : List Token). InArray m b xs vs us) (behind p ∙ toks-rest text table n i) x in
          fitted-as (fits-some (array o vs) k w z ∙ array-fits o vs (stacked (k - 1) w)) (f m b vs us c w ws xs h)
      go (a-tuple-seen p f x) = absurd (omega (arith, look p f sees))

  -- a leaf whose token is at place p, as its answer has it
  module _ (p : ℕ) (negative : Bool) (kinds : ℕ) where
    abbrev EndsLeaf : Type 0
    EndsLeaf =
        (m : Leaves) (b : ℕ) (v : Value) (us : List Token) (c : ℕ) (w : Ty) (ws : List Token) → Spells m b (toks text table n i) v us
        → BaseOf kinds c (toks ttext ttable tn t) w ws
        → (fits v (stacked k w) ≡ leaf_fits_at text table p kinds negative) × (us ≡ toks text table n (p + 1))

    leaf-cases : (x : Bool) → leaf_fits_at text table p kinds negative ≡ x → EndsLeaf
        → OfValue text table n i (toks ttext ttable tn t) kinds k (cond x (Some (p + 1)) None)
    leaf-cases true e f m b v us c w ws g q = let r = f m b v us c w ws g q in fitted-yes p (r.0 ∙ e) r.1
    leaf-cases false e f m b v us c w ws g q = fitted-no ((f m b v us c w ws g q).0 ∙ e)

    answer-of : (s ≡ left_square → ⊥) → (k ≡ 0 → EndsLeaf) → (r : Maybe ℕ) → r ≡ leaf_answer text table p kinds k negative
        → OfValue text table n i (toks ttext ttable tn t) kinds k r
    answer-of d f r e = go (eqb k 0) refl
      where
        onto : {x : Maybe ℕ} → r ≡ x → OfValue text table n i (toks ttext ttable tn t) kinds k x → OfValue text table n i (toks ttext ttable tn t) kinds k r
        onto p f m b v us c w ws g q = subst (λ (y : Maybe ℕ). Fitted text table n (fits v (stacked k w)) us y) (sym p) (f m b v us c w ws g q)

        go : (x : Bool) → eqb k 0 ≡ x → OfValue text table n i (toks ttext ttable tn t) kinds k r
        go true z = onto (simp z at e) (leaf-cases (leaf_fits_at text table p kinds negative) refl (f (eqb-true k 0 z)))
        go false z = onto (simp z at e) (never (flat-deep d (eqb-false k 0 z)))

    within_of : i ≤ p → p < n → (r : Maybe ℕ) → r ≡ leaf_answer text table p kinds k negative → Within n i r
    within_of l h r e =
        subst (Within n i) (sym e)
        (cond_has (Within n i) (eqb k 0) (cond_has (Within n i) (leaf_fits_at text table p kinds negative) (one-within n i p l h) (none_within n i))
        (none_within n i))

  module _ (holds : Holds text table n) (bytes : (j : ℕ) → get_or text j 0 < 256) (h : i < n) where
    -- a token at place p
    module _ (p : ℕ) (l : p < n) where
      there : {x : Token} {us : List Token} → toks text table n p ≡ x ∷ us → (x ≡ token_at text table p) × (us ≡ toks text table n (p + 1))
      there q = let y = sym q ∙ toks_more text table n p l in (cc, cc)

      kinded : {x : Token} → x ≡ token_at text table p → is_leaf_symbol (sym_of x) ≡ true → LeafKind x.kind (sym_of x)
      kinded {x} q f = leaf-kind x (rw q (first_byte text table n p holds l bytes)) f

      onto-kinds : {x : Token} (w : Ty) {kinds : ℕ} (negative : Bool) → x ≡ token_at text table p → kinds ≡ kinds_of w
          → leaf_fits (kinds_of w) negative x.kind x.bytes ≡ leaf_fits_at text table p kinds negative
      onto-kinds w negative q e =
          ap (λ (y : Token). leaf_fits (kinds_of w) negative y.kind y.bytes) q ∙ ap (λ (j : ℕ). leaf_fits_at text table p j negative) (sym e)

    -- without a sign
    module _ (leaf : is_leaf_symbol s ≡ true) where
      leaf-is : (kinds : ℕ) → k ≡ 0 → EndsLeaf i false kinds
      leaf-is kinds z m b v us c w ws g q = go (seen g)
        where
          leafy : {x : Token} {us : List Token} → toks text table n i ≡ x ∷ us → LeafKind x.kind (sym_of x)
          leafy p = kinded i h (there i h p).0 (ap is_leaf_symbol (sym (look p refl sees)) ∙ leaf)

          go : {v : Value} {us : List Token} → Seen m (toks text table n i) v us
              → (fits v (stacked k w) ≡ leaf_fits_at text table i kinds false) × (us ≡ toks text table n (i + 1))
          go (a-name-seen {t = x} p f) =
              (fits-none (name x) k w z ∙ (name-fits x q.is_base (leafy p) f ∙ onto-kinds i h w false (there i h p).0 q.takes), (there i h p).1)
          go (a-literal-seen {t = x} p f) = (
            fits-none (literal (unsigned x)) k w z
                ∙ (literal-fits (unsigned x) q.is_base (leafy p) f ∙ onto-kinds i h w false (there i h p).0 q.takes),
            (there i h p).1,
          )
          go (a-sign-seen p f y) = let e = ap is_leaf_symbol (look p f sees) in absurd (clash cc)
          go (an-array-seen p f x) = let y = look p f sees in absurd (leaf-bracket s (omega (arith, y)) leaf)
          go (a-tuple-seen p f x) = let y = look p f sees in absurd (leaf-bracket s (omega (arith, y)) leaf)

      pub leaf-answer : (kinds : ℕ) (r : Maybe ℕ) → r ≡ leaf_answer text table i kinds k false → OfValue text table n i (toks ttext ttable tn t) kinds k r
      leaf-answer kinds r e = answer-of i false kinds (λ y. leaf-bracket s (omega (arith, y)) leaf) (leaf-is kinds) r e

      pub leaf-within : (kinds : ℕ) (r : Maybe ℕ) → r ≡ leaf_answer text table i kinds k false → Within n i r
      leaf-within kinds r e = within_of i false kinds (omega arith) h r e

    -- with one
    module _ (sign : s ≡ minus) where
      -- of what begins with a sign, the number after it
      number-after : {m : Leaves} {v : Value} {us : List Token} → Seen m (toks text table n i) v us → (i + 1 < n) × (x : Token) × (y : Token)
          × (v ≡ literal (negated x y)) × (sym_of y ≡ a_number) × (toks text table n (i + 1) ≡ y ∷ us)
      number-after (a-name-seen p f) = absurd (omega (arith, look p f sees))
      number-after (a-literal-seen p f) = absurd (omega (arith, (literal-look p f sees).1))
      number-after (a-sign-seen {x = x} {t = y} {us = us} p f g) =
          let q : toks text table n (i + 1) ≡ y ∷ us = sym (behind p ∙ toks-rest text table n i) in
          (stands text table n (i + 1) (ap lookahead (sym q)) (omega (arith, g)), x, y, refl, g, q)
      number-after (an-array-seen p f x) = absurd (omega (arith, look p f sees))
      number-after (a-tuple-seen p f x) = absurd (omega (arith, look p f sees))

      sign-is : (kinds : ℕ) → k ≡ 0 → EndsLeaf (i + 1) true kinds
      sign-is kinds z m b v us c w ws g q =
          let a = number-after (seen g) in
          let l = a.0 in
          let x = a.1 in
          let y = a.2 in
          let at = there (i + 1) l a.5 in
          let number = ap is_literal a.4 in (
            ap (λ (j : Value). fits j (stacked k w)) a.3 ∙ (fits-none (literal (negated x y)) k w z
                ∙ (literal-fits (negated x y) q.is_base (kinded (i + 1) l at.0 (ap is_leaf_symbol a.4)) number
                ∙ onto-kinds (i + 1) l w true at.0 q.takes)),
            at.1,
          )

      lone : n ≤ i + 1 → {kinds : ℕ} → OfValue text table n i (toks ttext ttable tn t) kinds k None
      lone l m b v us c w ws g q = absurd (omega (arith, (number-after (seen g)).0))

      pub sign-answer : (kinds : ℕ) (r : Maybe ℕ) → r ≡ cond (leb n (i + 1)) None (leaf_answer text table (i + 1) kinds k true)
          → OfValue text table n i (toks ttext ttable tn t) kinds k r
      sign-answer kinds r e = go (leb n (i + 1)) refl
        where
          go : (x : Bool) → leb n (i + 1) ≡ x → OfValue text table n i (toks ttext ttable tn t) kinds k r
          go true z =
              let f : r ≡ None = simp z at e in
              subst (λ (y : Maybe ℕ). OfValue text table n i (toks ttext ttable tn t) kinds k y) (sym f) (lone (leb-true n (i + 1) z))
          go false z = answer-of (i + 1) true kinds (λ y. omega arith) (sign-is kinds) r (simp z at e)

      pub sign-within : (kinds : ℕ) (r : Maybe ℕ) → r ≡ cond (leb n (i + 1)) None (leaf_answer text table (i + 1) kinds k true) → Within n i r
      sign-within kinds r e = go (leb n (i + 1)) refl
        where
          go : (x : Bool) → leb n (i + 1) ≡ x → Within n i r
          go true z = let f : r ≡ None = simp z at e in subst (Within n i) (sym f) (none_within n i)
          go false z = within_of (i + 1) true kinds (omega arith) (omega (arith, leb-false n (i + 1) z)) r (simp z at e)

    -- a leaf or a sign
    module _ (starts : starts_leaf s ≡ true) (kinds : ℕ) (r : Maybe ℕ) (e : r ≡ signed_answer text table n i s kinds k) where
      signed-has : {X : Type 0} → ((s ≡ minus) → r ≡ cond (leb n (i + 1)) None (leaf_answer text table (i + 1) kinds k true) → X)
          → (is_leaf_symbol s ≡ true → r ≡ leaf_answer text table i kinds k false → X) → X
      signed-has {X} f g = go (eqb s minus) refl
        where
          go : (x : Bool) → eqb s minus ≡ x → X
          go true z = f (eqb-true s minus z) (simp z at e)
          go false z = g (sym (or-false (is_leaf_symbol s)) ∙ simp z at starts) (simp z at e)

      pub signed-answer : OfValue text table n i (toks ttext ttable tn t) kinds k r
      signed-answer = signed-has (λ d. sign-answer d kinds r) (λ d. leaf-answer d kinds r)

      pub signed-within : Within n i r
      signed-within = signed-has (λ d. sign-within d kinds r) (λ d. leaf-within d kinds r)

      pub signed-answered : Answered text table n i (toks ttext ttable tn t) kinds k r
      signed-answered = record { range = signed-within; meaning = signed-answer }

-- ---- the items of an array

-- items from place i on, as the loop over them meets them
abbrev pub OfItems : List ℕ → List ℕ → ℕ → ℕ → List Token → ℕ → ℕ → Maybe ℕ → Type 0
OfItems text table n i ts kinds k r =
    (m : Leaves) (b : ℕ) (vs : Values) (us : List Token) (c : ℕ) (w : Ty) (ws : List Token) → Items m right_square b (toks text table n i) vs us
    → BaseOf kinds c ts w ws → Fitted text table n (fits_all vs (stacked k w)) us r

-- no value begins with a closing bracket
first-not : {m : Leaves} {b : ℕ} {ts us : List Token} {v : Value} {s : ℕ} → Spells m b ts v us → s ≡ lookahead ts → s ≡ right_square → ⊥
first-not {ts = ts} {s = s} g e f = go (seen g)
  where
    go : {m : Leaves} {v : Value} {us : List Token} → Seen m ts v us → ⊥
    go (a-name-seen p q) = absurd (omega (arith, look p q e))
    go (a-literal-seen p q) = absurd (omega (arith, (literal-look p q e).0))
    go (a-sign-seen p q x) = absurd (omega (arith, look p q e))
    go (an-array-seen p q x) = absurd (omega (arith, look p q e))
    go (a-tuple-seen p q x) = absurd (omega (arith, look p q e))

module _ (text table : List ℕ) (n i : ℕ) (ts : List Token) (kinds k s : ℕ) (sees : s ≡ lookahead (toks text table n i)) where
  pub array-empty : s ≡ right_square → OfArray text table n i ts kinds k (Some (i + 1))
  array-empty e m b vs us c w ws g h = go refl g
    where
      go : {xs : List Token} {vs : Values} {us : List Token} → toks text table n i ≡ xs → InArray m b xs vs us
          → Fitted text table n (fits_all vs (stacked k w)) us (Some (i + 1))
      go p (no_items f) = fitted-yes i (all_none (stacked k w)) (behind p ∙ toks-rest text table n i)
      go p (some-items (last-item x f)) = absurd (first-not x (sees ∙ ap lookahead p) e)
      go p (some-items (next-item x f y)) = absurd (first-not x (sees ∙ ap lookahead p) e)

  pub array-some : (r : Maybe ℕ) → (s ≡ right_square → ⊥) → OfItems text table n i ts kinds k r → OfArray text table n i ts kinds k r
  array-some r e f m b vs us c w ws g h = go refl g
    where
      go : {xs : List Token} {vs : Values} {us : List Token} → toks text table n i ≡ xs → InArray m b xs vs us
          → Fitted text table n (fits_all vs (stacked k w)) us r
      go p (no_items q) = absurd (e (sees ∙ (ap lookahead p ∙ q)))
      go {vs = vs} {us = us} p (some-items x) = f m b vs us c w ws (subst (λ (xs : List Token). Items m right_square b xs vs us) (sym p) x) h

-- the answer j of one value
module _ (text table : List ℕ) (n i : ℕ) (ts : List Token) (kinds k : ℕ) (x : Maybe ℕ) (one : OfValue text table n i ts kinds k x) where
  all-false : (v : Value) (vs : Values) (u : Ty) → fits v u ≡ false → fits_all (more v vs) u ≡ false
  all-false v vs u e = all_more v vs u ∙ simp e

  all_true : (v : Value) (vs : Values) (u : Ty) → fits v u ≡ true → fits_all (more v vs) u ≡ fits_all vs u
  all_true v vs u e = all_more v vs u ∙ simp e

  answer : {m : Leaves} {b c : ℕ} {v : Value} {w : Ty} {us ws : List Token} → Spells m b (toks text table n i) v us → BaseOf kinds c ts w ws
      → Fitted text table n (fits v (stacked k w)) us x
  answer {m} {b} {c} {v} {w} {us} {ws} g h = one m b v us c w ws g h

  pub items-no : x ≡ None → OfItems text table n i ts kinds k None
  items-no e m b vs us c w ws (last-item {v = v} g f) h = fitted-no (all-false v none (stacked k w) ((answer g h).misfit e))
  items-no e m b vs us c w ws (next-item {v = v} {vs = vs'} g f q) h = fitted-no (all-false v vs' (stacked k w) ((answer g h).misfit e))

  module _ (s j : ℕ) (reached : x ≡ Some j) (sees : s ≡ lookahead (toks text table n j)) where
    -- what follows an item
    after : {m : Leaves} {b c a : ℕ} {v : Value} {w : Ty} {o : Token} {us ws : List Token} → Spells m b (toks text table n i) v (o ∷ us)
        → BaseOf kinds c ts w ws
        → sym_of o ≡ a → s ≡ a
    after g h f = look (sym ((answer g h).ends reached)) f sees

    pub items-last : s ≡ right_square → OfItems text table n i ts kinds k (Some (j + 1))
    items-last e m b vs us c w ws (last-item {v = v} g f) h =
        let q = answer g h in
        fitted-yes j (all_true v none (stacked k w) (q.fit reached) ∙ all_none (stacked k w)) (behind (sym (q.ends reached)) ∙ toks-rest text table n j)
    items-last e m b vs us c w ws (next-item g f y) h = absurd (omega (arith, after g h f))

    pub items-next : (r : Maybe ℕ) → s ≡ comma → OfItems text table n (j + 1) ts kinds k r → OfItems text table n i ts kinds k r
    items-next r e t m b vs us c w ws (last-item g f) h = absurd (omega (arith, after g h f))
    items-next r e t m b vs us c w ws (next-item {v = v} {vs = vs'} g f y) h =
        let q = answer g h in
        let xs = subst (λ (xs : List Token). Items m right_square b xs vs' us) (behind (sym (q.ends reached)) ∙ toks-rest text table n j) y in
        fitted-as (all_true v vs' (stacked k w) (q.fit reached)) (t m b vs' us c w ws xs h)

    pub items-neither : (r : Maybe ℕ) → (s ≡ right_square → ⊥) → (s ≡ comma → ⊥) → OfItems text table n i ts kinds k r
    items-neither r e d m b vs us c w ws (last-item g f) h = absurd (e (after g h f))
    items-neither r e d m b vs us c w ws (next-item g f y) h = absurd (d (after g h f))

-- ---- items and types side by side

-- neither items nor types are ever none
columns-some : {lead b : ℕ} {ts us : List Token} {vs : Tys} → Columns lead b ts vs us → fits_each none vs ≡ false
columns-some (last-column {u = u} h e) = each-few u no-type
columns-some (next-column {u = u} {vs = vs} h e g) = each-few u vs

items-some : {m : Leaves} {close b : ℕ} {ts us : List Token} {vs : Values} → Items m close b ts vs us → fits_each vs no-type ≡ false
items-some (last-item {v = v} h e) = each-many v none
items-some (next-item {v = v} {vs = vs} h e g) = each-many v vs

each-false : (v : Value) (vs : Values) (u : Ty) (us : Tys) → fits v u ≡ false → fits_each (more v vs) (a-type u us) ≡ false
each-false v vs u us e = each_more v vs u us ∙ simp e

each-true : (v : Value) (vs : Values) (u : Ty) (us : Tys) → fits v u ≡ true → fits_each (more v vs) (a-type u us) ≡ fits_each vs us
each-true v vs u us e = each_more v vs u us ∙ simp e

-- no pair of square brackets begins with a comma or a closing bracket
pub round-no-pair : {s : ℕ} → s ≡ right_round → s ≡ left_square → ⊥
round-no-pair e f = omega (arith, e, f)

pub comma-no-pair : {s : ℕ} → s ≡ comma → s ≡ left_square → ⊥
comma-no-pair e f = omega (arith, e, f)

-- past the tokens before a type
pub toks-lead : (text table : List ℕ) (n i lead : ℕ) → drop lead (toks text table n i) ≡ toks text table n (i + lead)
toks-lead text table n i lead = drop-toks lead i
  where
    drop-rest : (k : ℕ) (ts : List Token) → drop (suc k) ts ≡ drop k (rest ts)
    drop-rest zero [] = refl
    drop-rest (suc k) [] = refl
    drop-rest k (t ∷ ts) = refl

    drop-toks : (k i : ℕ) → drop k (toks text table n i) ≡ toks text table n (i + k)
    drop-toks zero i = let q : i ≡ i + 0 = omega arith in ap (λ (j : ℕ). toks text table n j) q
    drop-toks (suc k) i =
        let q : i + 1 + k ≡ i + suc k = omega arith in
        drop-rest k (toks text table n i) ∙ (ap (drop k) (toks-rest text table n i) ∙ (drop-toks k (i + 1) ∙ ap (λ (j : ℕ). toks text table n j) q))

-- the value at place i, with the answer x, and the type u at place j + lead
module _ (text table : List ℕ) (n i close : ℕ) (ttext ttable : List ℕ) (tn j lead : ℕ) (u : TypeAt) (read : OfType ttext ttable tn (j + lead) u)
    (x : Maybe ℕ) (one : OfValue text table n i (toks ttext ttable tn (j + lead)) u.kinds u.pairs x) where
  abbrev Sides : Maybe ℕ → Type 0
  Sides r = OfEach text table n i close (toks ttext ttable tn j) lead r

  module _ {m : Leaves} {b c : ℕ} {v : Value} {w : Ty} {us ws : List Token} (g : Spells m b (toks text table n i) v us)
      (h : IsType c (drop lead (toks ttext ttable tn j)) w ws) (f : NoPair ws) where
    placed : IsType c (toks ttext ttable tn (j + lead)) w ws
    placed = subst (λ (ts : List Token). IsType c ts w ws) (toks-lead ttext ttable tn j lead) h

    side : Fitted text table n (fits v w) us x
    side =
        let q = shape_of ttext ttable tn (j + lead) u read placed f in
        fitted-as (ap (fits v) q.under) (one m b v us c q.base q.after g (base-of q (read_of ttext ttable tn (j + lead) u read placed f).kinds))

    side-end : ws ≡ toks ttext ttable tn u.end
    side-end = (read_of ttext ttable tn (j + lead) u read placed f).end

  pub each-no : x ≡ None → Sides None
  each-no y m b vs us c cs ws (last-item {v = v} g f) (last-column {u = u} h d) =
      fitted-no (each-false v none u no-type ((side g h (round-no-pair d)).misfit y))
  each-no y m b vs us c cs ws (last-item {v = v} g f) (next-column {u = u} {vs = us'} h d q) =
      fitted-no (each-false v none u us' ((side g h (comma-no-pair d)).misfit y))
  each-no y m b vs us c cs ws (next-item {v = v} {vs = vs'} g f p) (last-column {u = u} h d) =
      fitted-no (each-false v vs' u no-type ((side g h (round-no-pair d)).misfit y))
  each-no y m b vs us c cs ws (next-item {v = v} {vs = vs'} g f p) (next-column {u = u} {vs = us'} h d q) =
      fitted-no (each-false v vs' u us' ((side g h (comma-no-pair d)).misfit y))

  module _ (s o after : ℕ) (reached : x ≡ Some after) (sees : s ≡ lookahead (toks text table n after)) (type-sees : o ≡ lookahead (toks ttext ttable tn u.end)) where
    -- what follows the value, and the type
    after-value : {m : Leaves} {b c a : ℕ} {v : Value} {w : Ty} {e : Token} {us ws : List Token} → Spells m b (toks text table n i) v (e ∷ us)
        → IsType c (drop lead (toks ttext ttable tn j)) w ws → NoPair ws → sym_of e ≡ a → s ≡ a
    after-value g h f y = look (sym ((side g h f).ends reached)) y sees

    after-type : {m : Leaves} {b c a : ℕ} {v : Value} {w : Ty} {e : Token} {us ws : List Token} → Spells m b (toks text table n i) v us
        → IsType c (drop lead (toks ttext ttable tn j)) w (e ∷ ws) → NoPair (e ∷ ws) → sym_of e ≡ a → o ≡ a
    after-type g h f y = look (sym (side-end g h f)) y type-sees

    pub each-stop : (s ≡ close → o ≡ right_round → ⊥) → (s ≡ comma → o ≡ comma → ⊥) → Sides None
    each-stop y z m b vs us c cs ws (last-item g f) (last-column h d) = absurd (y (after-value g h (round-no-pair d) f) (after-type g h (round-no-pair d) d))
    each-stop y z m b vs us c cs ws (last-item {v = v} g f) (next-column {u = w} {vs = us'} h d r) =
        fitted-no (each-true v none w us' ((side g h (comma-no-pair d)).fit reached) ∙ columns-some r)
    each-stop y z m b vs us c cs ws (next-item {v = v} {vs = vs'} g f r) (last-column {u = w} h d) =
        fitted-no (each-true v vs' w no-type ((side g h (round-no-pair d)).fit reached) ∙ items-some r)
    each-stop y z m b vs us c cs ws (next-item g f r) (next-column h d t) =
        absurd (z (after-value g h (comma-no-pair d) f) (after-type g h (comma-no-pair d) d))

    module _ (z : close ≡ comma → ⊥) where
      pub each_last : s ≡ close → o ≡ right_round → Sides (Some (after + 1))
      each_last y e m b vs us c cs ws (last-item {v = v} g f) (last-column {u = w} h d) =
          let q = side g h (round-no-pair d) in
          fitted-yes after (each-true v none w no-type (q.fit reached) ∙ each_none) (behind (sym (q.ends reached)) ∙ toks-rest text table n after)
      each_last y e m b vs us c cs ws (last-item g f) (next-column h d r) = absurd (omega (arith, e, after-type g h (comma-no-pair d) d))
      each_last y e m b vs us c cs ws (next-item g f r) (last-column h d) = absurd (z (sym y ∙ after-value g h (round-no-pair d) f))
      each_last y e m b vs us c cs ws (next-item g f r) (next-column h d t) = absurd (z (sym y ∙ after-value g h (comma-no-pair d) f))

      pub each_next : (r : Maybe ℕ) → s ≡ comma → o ≡ comma → OfEach text table n (after + 1) close (toks ttext ttable tn (u.end + 1)) lead r → Sides r
      each_next r y e a m b vs us c cs ws (last-item g f) (last-column h d) = absurd (omega (arith, e, after-type g h (round-no-pair d) d))
      each_next r y e a m b vs us c cs ws (last-item g f) (next-column h d t) = absurd (z (sym (after-value g h (comma-no-pair d) f) ∙ y))
      each_next r y e a m b vs us c cs ws (next-item g f v) (last-column h d) = absurd (omega (arith, e, after-type g h (round-no-pair d) d))
      each_next r y e a m b vs us c cs ws (next-item {v = v} {vs = vs'} g f i') (next-column {u = w} {vs = us'} h d t) =
          let q = side g h (comma-no-pair d) in
          let xs = subst (λ (xs : List Token). Items m close b xs vs' us) (behind (sym (q.ends reached)) ∙ toks-rest text table n after) i' in
          let ts = subst (λ (xs : List Token). Columns lead c xs us' ws)
          (behind (sym (side-end g h (comma-no-pair d))) ∙ toks-rest ttext ttable tn u.end) t in
          fitted-as (each-true v vs' w us' (q.fit reached)) (a m b vs' us c us' ws xs ts)
