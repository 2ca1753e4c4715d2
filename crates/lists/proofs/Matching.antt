-- What the code that matches a left side against results answers. It tries the left side as one value that `=` follows, and then as the
-- items of a tuple up to `=`; a left side of one value is no such tuple, since a tuple type has at least two items.
-- Assumes nothing.
use mathlib.Core.Path.{◌≡◌, refl, sym, ap, subst, ◌∙◌}
use mathlib.Core.Bool.{Bool, true, false, ◌&&◌}
use mathlib.Core.List.{List, [], ◌∷◌}
use Prim.Native.Nat.{ℕ, ◌+◌}
use native.Mathlib.Omega.{arith}
use lib.Dec.{eqb}
use lib.ListN.{drop}
use borrow.Author.Tests.{eq-eqb, ne_eqb}
use Rattle.std.specs.Prelude.{Option as Maybe, Some, None}
use Rattle.lexis.specs.Lexer.{Token}
use Rattle.lexis.specs.Symbol.{sym_of, left_round, right_round, equal, comma, a_name}
use Rattle.syntax.specs.Tree.{Value, Values, Ty, Tys, Result}
use Rattle.syntax.specs.Tree.Value.{tuple}
use Rattle.syntax.specs.Tree.Values.{none, more}
use Rattle.syntax.specs.Tree.Ty.{tensor, tuple_of}
use Rattle.syntax.specs.Tree.Tys.{a-type}
use Rattle.syntax.specs.Grammar.{Leaves, Separated, Spells, Items, IsType, IsResult, IsLeft}
use Rattle.syntax.specs.Grammar.Leaves.{names}
use Rattle.syntax.specs.Grammar.Separated.{last, next}
use Rattle.syntax.specs.Grammar.Spells.{a-name, a-literal, an-empty-array, an-array, a-tuple}
use Rattle.syntax.specs.Grammar.Items.{last-item, next-item}
use Rattle.syntax.specs.Grammar.IsResult.{a-result}
use Rattle.syntax.specs.Grammar.IsLeft.{one-pattern, a-bare-tuple}
use Rattle.syntax.specs.Table.{toks}
use Rattle.syntax.specs.Inner.{lookahead, is_label}
use Rattle.syntax.proofs.Table.{toks-rest}
use Rattle.lists.specs.Reading.{read_at, fits, types_of, result_type}
use Rattle.lists.specs.Types.{kinds_of, pairs_of, type_code, several, result_code}
use Rattle.lists.specs.Fitting.{stacked, Several, Shaped, Columns, fits_each}
use Rattle.lists.specs.Fitting.{Fitted, is_fit, is_whole, OfItem, BaseOf, OfValue, OfEach, OfLeft, OfWhole}
use Rattle.lists.specs.Fitting.Several.{two-or-more}
use Rattle.lists.proofs.Fits.{tuple-fits, each-few, each_more, flat-no}
use Rattle.lists.proofs.Fits.Flat.{flat-tuple}
use Rattle.lists.proofs.TypeTokens.{shape, base-of}
use Rattle.lists.proofs.TypeCodes.{code-single, only-tensor}
use Rattle.lists.proofs.Phrases.{value-is, type-is}
use Rattle.lists.proofs.Answers.{Seen, seen, look, literal-look, behind, fits-some, toks-lead}
use Rattle.lists.proofs.Answers.Seen.{a-name-seen, a-literal-seen, a-sign-seen, an-array-seen, a-tuple-seen}

clash : ◌≡◌ {A = ℕ} 0 1 → ⊥
clash z = omega arith

-- ---- answers

module _ (text table : List ℕ) (n : ℕ) where
  -- an answer as a test, and that `=` follows
  pub fit-told : (p : Bool) (us : List Token) (r : Maybe ℕ) → Fitted text table n p us r → is_fit r ≡ p
  fit-told p us None h = sym (h.misfit refl)
  fit-told p us (Some j) h = sym (h.fit refl)

  whole-told : (p : Bool) (e : Token) (us : List Token) (r : Maybe ℕ) → Fitted text table n p (e ∷ us) r
      → is_whole text table n r ≡ (p && eqb (sym_of e) equal)
  whole-told p e us None h = ap (λ (q : Bool). q && eqb (sym_of e) equal) (sym (h.misfit refl))
  whole-told p e us (Some j) h =
      ap (λ (ts : List Token). eqb (lookahead ts) equal) (sym (h.ends refl)) ∙ ap (λ (q : Bool). q && eqb (sym_of e) equal) (sym (h.fit refl))

-- a value and a type, as the readers read them
pub item-told : (text table : List ℕ) (n i : ℕ) (ts : List Token) (kinds k : ℕ) (r : Maybe ℕ) → OfValue text table n i ts kinds k r → OfItem text table n i ts kinds k r
item-told text table n i ts kinds k r one m b v us c u ws f g p q =
    let s = shape (type-is c ts g) in
    let w = base-of s p in
    let e : stacked k s.base ≡ u = ap (λ (j : ℕ). stacked j s.base) q ∙ sym s.under in
    subst (λ (x : Ty). Fitted text table n (fits v x) us r) e (one m b v us c s.base s.after (value-is m b (toks text table n i) f) w)

-- ---- left sides

-- a left side: one value and `=`, or a value, a comma and more items up to `=`
data Sides (b : ℕ) (ts : List Token) : Value → List Token → Type 0 where
  one_side : {v : Value} {e : Token} {us : List Token} → Spells names b ts v (e ∷ us) → sym_of e ≡ equal → Sides b ts v us
  bare-sides : {t c : Token} {v : Value} {vs : Values} {us ws : List Token} → Spells names b ts v (c ∷ us) → sym_of c ≡ comma → Items names equal b us vs ws
      → Sides b ts (tuple t (more v vs)) ws

sides : {b : ℕ} {ts us : List Token} {v : Value} → IsLeft b ts v us → Sides b ts v us
sides (one-pattern g e) = one_side g e
sides (a-bare-tuple g e i) = bare-sides g e i

and_is : (x y : Bool) → y ≡ true → (x && y) ≡ x
and_is true y e = e
and_is false y e = refl

and-not : (x y : Bool) → y ≡ false → (x && y) ≡ false
and-not true y e = e
and-not false y e = refl

-- one item is too few for a tuple type
several-more : {cs : Tys} (v : Value) → Several cs → fits_each (more v none) cs ≡ false
several-more v (two-or-more {u = u} {w = w} {us = us}) = each_more v none u (a-type w us) ∙ and-not (fits v u) (fits_each none (a-type w us)) (each-few w us)

module _ (text table : List ℕ) (n i : ℕ) (u : Ty) (w : Bool) (whole : OfWhole text table n i u w) where
  equal-after : {m : Leaves} {b : ℕ} {v : Value} {us : List Token} (e : Token) → Spells m b (toks text table n i) v (e ∷ us) → sym_of e ≡ equal → w ≡ fits v u
  equal-after {m} {b} {v} {us} e g f = whole m b v e us g ∙ and_is (fits v u) (eqb (sym_of e) equal) (eq-eqb (sym_of e) equal f)

  comma-after : {m : Leaves} {b : ℕ} {v : Value} {us : List Token} (e : Token) → Spells m b (toks text table n i) v (e ∷ us) → sym_of e ≡ comma → w ≡ false
  comma-after {m} {b} {v} {us} e g f = whole m b v e us g ∙ and-not (fits v u) (eqb (sym_of e) equal) (ne_eqb (sym_of e) equal (λ z. omega (arith, f, z)))

  pub left-whole : w ≡ true → OfLeft text table n i u true
  left-whole y b v us h = go (sides h)
    where
      go : {v : Value} {us : List Token} → Sides b (toks text table n i) v us → true ≡ fits v u
      go (one_side {e = e} g f) = sym y ∙ equal-after e g f
      go (bare-sides {c = c} g f r) = let z = sym y ∙ comma-after c g f in absurd (clash cc)

  pub left_word : w ≡ false → ((t : Token) (vs : Values) → fits (tuple t vs) u ≡ false) → OfLeft text table n i u false
  left_word y d b v us h = go (sides h)
    where
      go : {v : Value} {us : List Token} → Sides b (toks text table n i) v us → false ≡ fits v u
      go (one_side {e = e} g f) = sym y ∙ equal-after e g f
      go (bare-sides {t = t} {v = v} {vs = vs} g f r) = sym (d t (more v vs))

  pub left-each : w ≡ false → (cs : Tys) → u ≡ tuple_of cs → Several cs → (c : ℕ) (ts ws : List Token) (lead : ℕ) → Columns lead c ts cs ws → (r : Maybe ℕ)
      → OfEach text table n i equal ts lead r → OfLeft text table n i u (is_fit r)
  left-each y cs q s c ts ws lead k r one b v us h = go (sides h)
    where
      go : {v : Value} {us : List Token} → Sides b (toks text table n i) v us → is_fit r ≡ fits v u
      go {us = us} (one_side {v = v} {e = e} g f) =
          fit-told text table n (fits_each (more v none) cs) us r (one names b (more v none) us c cs ws (last-item g f) k)
          ∙ (several-more v s ∙ (sym y ∙ equal-after e g f))
      go {us = us} (bare-sides {t = t} {v = v} {vs = vs} g f x) =
          fit-told text table n (fits_each (more v vs) cs) us r (one names b (more v vs) us c cs ws (next-item g f x) k)
          ∙ (sym (tuple-fits t (more v vs) cs) ∙ ap (fits (tuple t (more v vs))) (sym q))

-- ---- a left side that is one name

pattern-label : {b : ℕ} {ts us : List Token} {v : Value} → Spells names b ts v us → is_label ts ≡ (fits v tensor && eqb (lookahead us) equal)
unfolding fits read_at
pattern-label (a-name {t = t} h e) = simp (eq-eqb (sym_of t) a_name e)
pattern-label (a-literal h e) = absurd (clash cc)
pattern-label (an-empty-array {o = o} e f) = simp (ne_eqb (sym_of o) a_name (λ z. omega (arith, e, z)))
pattern-label (an-array {o = o} e h) = simp (ne_eqb (sym_of o) a_name (λ z. omega (arith, e, z)))
pattern-label (a-tuple {o = o} e h f i) = simp (ne_eqb (sym_of o) a_name (λ z. omega (arith, e, z)))

-- only such a one matches tensor
pub label-left : {b : ℕ} {ts us : List Token} {v : Value} → IsLeft b ts v us → is_label ts ≡ fits v tensor
unfolding fits read_at
label-left h = go (sides h)
  where
    go : {b : ℕ} {ts us : List Token} {v : Value} → Sides b ts v us → is_label ts ≡ fits v tensor
    go (one_side {v = v} {e = e} g f) = pattern-label g ∙ and_is (fits v tensor) (eqb (sym_of e) equal) (eq-eqb (sym_of e) equal f)
    go (bare-sides {c = c} {v = v} g f r) =
        pattern-label g ∙ and-not (fits v tensor) (eqb (sym_of c) equal) (ne_eqb (sym_of c) equal (λ z. omega (arith, f, z)))

-- ---- one value and its equals sign

pub whole-value : (text table : List ℕ) (n i : ℕ) (ts : List Token) (kinds k : ℕ) (r : Maybe ℕ) (x : Bool) → OfValue text table n i ts kinds k r
    → x ≡ is_whole text table n r
    → (c : ℕ) (w : Ty) (ws : List Token) → BaseOf kinds c ts w ws → OfWhole text table n i (stacked k w) x
whole-value text table n i ts kinds k r x one f c w ws h m b v e us g =
    f ∙ whole-told text table n (fits v (stacked k w)) e us r (one m b v (e ∷ us) c w ws g h)

pub stacked-none : (k : ℕ) (w : Ty) → k ≡ 0 → stacked k w ≡ w
unfolding stacked
stacked-none k w e = rw e

-- no tuple fits an array
pub deep-no-tuple : (k : ℕ) (w : Ty) → (k ≡ 0 → ⊥) → (t : Token) (vs : Values) → fits (tuple t vs) (stacked k w) ≡ false
deep-no-tuple k w h t vs = fits-some (tuple t vs) k w h ∙ flat-no flat-tuple _

module _ (text table : List ℕ) (n i s : ℕ) (sees : s ≡ lookahead (toks text table n i)) (cs : Tys) where
  pub no-bracket : (s ≡ left_round → ⊥) → OfWhole text table n i (tuple_of cs) false
  unfolding fits read_at
  no-bracket d m b v e us g = go (seen g)
    where
      go : {v : Value} {us : List Token} → Seen m (toks text table n i) v us → false ≡ (fits v (tuple_of cs) && eqb (sym_of e) equal)
      go (a-name-seen p f) = refl
      go (a-literal-seen p f) = refl
      go (a-sign-seen p f g) = refl
      go (an-array-seen p f x) = refl
      go (a-tuple-seen p f x) = absurd (d (look p f sees))

  pub bracket : s ≡ left_round → (c : ℕ) (ts ws : List Token) (lead : ℕ) → Columns lead c ts cs ws → (r : Maybe ℕ) (x : Bool)
      → OfEach text table n (i + 1) right_round ts lead r → x ≡ is_whole text table n r → OfWhole text table n i (tuple_of cs) x
  bracket d c ts ws lead k r x one f m b v e us g = go refl (seen g)
    where
      go : {v : Value} {ys : List Token} → ys ≡ e ∷ us → Seen m (toks text table n i) v ys → x ≡ (fits v (tuple_of cs) && eqb (sym_of e) equal)
      go z (a-name-seen p q) = absurd (omega (arith, look p q sees))
      go z (a-literal-seen p q) = absurd (omega (arith, (literal-look p q sees).0))
      go z (a-sign-seen p q y) = absurd (omega (arith, look p q sees))
      go z (an-array-seen p q y) = absurd (omega (arith, look p q sees))
      go {ys = ys} z (a-tuple-seen {b = b'} {o = o} {vs = vs} p q y) =
          f ∙ (whole-told text table n (fits_each vs cs) e us r
          (subst (λ (l : List Token). Fitted text table n (fits_each vs cs) l r) z
          (one m b' vs ys c cs ws (subst (λ (l : List Token). Items m right_round b' l vs ys) (behind p ∙ toks-rest text table n i) y) k))
          ∙ ap (λ (j : Bool). j && eqb (sym_of e) equal) (sym (tuple-fits o vs cs)))

-- ---- results

result-some : {b : ℕ} {ts us : List Token} {r : Result} → ts ≡ [] → IsResult b ts r us → ⊥
result-some e (a-result f g h) = clash cc

pub results-none : {b : ℕ} {ts us : List Token} {rs : List Result} → ts ≡ [] → Separated (IsResult b) right_round ts rs us → ⊥
results-none e (last h f) = result-some e h
results-none e (next h f s) = result-some e h

result-type : {b : ℕ} {ts us : List Token} {r : Result} → IsResult b ts r us → IsType b (drop 2 ts) r.ty us
result-type (a-result e f h) = h

several-types : {b : ℕ} {ts us : List Token} {rs : List Result} (r : Result) → Separated (IsResult b) right_round ts rs us
    → Several (types_of (r ∷ rs)) × (result_type (r ∷ rs) ≡ tuple_of (types_of (r ∷ rs)))
unfolding types_of result_type
several-types r (last h e) = (two-or-more, refl)
several-types r (next h e s) = (two-or-more, refl)

-- the only result's type is read two tokens after its name
only-result : {b : ℕ} {us : List Token} (text table : List ℕ) (n j : ℕ) {r : Result} → IsResult b (toks text table n j) r us
    → IsType b (toks text table n (j + 2)) r.ty us
only-result {b} {us} text table n j {r} h = subst (λ (ts : List Token). IsType b ts r.ty us) (toks-lead text table n j 2) (result-type h)

-- and matched as its base and its pairs
pub one_left : (text table : List ℕ) (n i : ℕ) (ts : List Token) (kinds k : ℕ) (r : Bool)
    → ((c : ℕ) (w : Ty) (ws : List Token) → BaseOf kinds c ts w ws → OfLeft text table n i (stacked k w) r)
    → {b : ℕ} {u : Ty} → Shaped b ts u (pairs_of u) → kinds ≡ kinds_of u → k ≡ pairs_of u → OfLeft text table n i u r
one_left text table n i ts kinds k r f {b} s p q c v us h =
    f b s.base s.after (base-of s p) c v us h ∙ ap (fits v) (ap (λ (j : ℕ). stacked j s.base) q ∙ sym s.under)

-- the results at place j, by their number
module _ (text table : List ℕ) (n j code : ℕ) where
  pub coded-several : code ≡ several → {b : ℕ} {us : List Token} {rs : List Result} → Separated (IsResult b) right_round (toks text table n j) rs us
      → code ≡ result_code rs
      → Several (types_of rs) × (result_type rs ≡ tuple_of (types_of rs))
  unfolding result_code
  coded-several f (last {a = r} h d) e = absurd (code-single r.ty code e f)
  coded-several f (next {a = r} h d s) e = several-types r s

  pub coded-one : (code ≡ several → ⊥) → {b : ℕ} {us : List Token} {rs : List Result} → Separated (IsResult b) right_round (toks text table n j) rs us
      → code ≡ result_code rs
      → Shaped b (toks text table n (j + 2)) (result_type rs) (pairs_of (result_type rs)) × (code ≡ type_code (result_type rs))
  unfolding result_code result_type
  coded-one f (last h d) e = (shape (only-result text table n j h), e)
  coded-one f (next h d (last g q)) e = absurd (f e)
  coded-one f (next h d (next g q s)) e = absurd (f e)

  pub coded-tensor : code ≡ type_code tensor → {b : ℕ} {us : List Token} {rs : List Result} → Separated (IsResult b) right_round (toks text table n j) rs us
      → code ≡ result_code rs
      → result_type rs ≡ tensor
  coded-tensor f r e = only-tensor _ (sym f ∙ (coded-one (code-single tensor code f) r e).1)
