-- Fitting by trees: items one by one, and what no pair of brackets fits. Assumes nothing.
use mathlib.Core.Path.{◌≡◌, refl}
use mathlib.Core.Bool.{true, false, ◌&&◌}
use mathlib.Core.List.{List}
use mathlib.Core.Option.{Option, some}
use mathlib.Core.Option.{none as nothing}
use Prim.Native.Nat.{ℕ}
use Rattle.lexis.specs.Lexer.{Token}
use Rattle.syntax.specs.Tree.{Literal, Value, Values, Ty, Tys}
use Rattle.syntax.specs.Tree.Value.{name, literal, array, tuple}
use Rattle.syntax.specs.Tree.Values.{none, more}
use Rattle.syntax.specs.Tree.Ty.{array_of, tuple_of}
use Rattle.syntax.specs.Tree.Tys.{no-type, a-type}
use Rattle.syntax.specs.Grammar.{IsTypeName}
use Rattle.syntax.specs.Grammar.IsTypeName.{is-tensor, is-extent, is-scalar, is-logical, is-string}
use Rattle.lists.specs.Reading.{v_array, v_tuple, a-val, bind, is_some, read_at, read_all, read_each, fits}
use Rattle.lists.specs.Fitting.{IsBase, fits_all, fits_each}
use Rattle.lists.specs.Fitting.IsBase.{a_word, a-tuple-base}

some-bind : {A B : Type 0} (o : Option A) (f : A → B) → is_some (bind o (λ a. some (f a))) ≡ is_some o
some-bind nothing f = refl
some-bind (some a) f = refl

some-both : {A B C : Type 0} (o : Option A) (p : Option B) (f : A → B → C) → is_some (bind o (λ a. bind p (λ b. some (f a b)))) ≡ (is_some o && is_some p)
some-both nothing p f = refl
some-both (some a) nothing f = refl
some-both (some a) (some b) f = refl

-- ---- arrays

pub array-fits : (t : Token) (vs : Values) (u : Ty) → fits (array t vs) (array_of u) ≡ fits_all vs u
unfolding fits read_at fits_all
array-fits t vs u = some-bind (read_all vs u) (λ ws. v_array ws)

pub all_none : (u : Ty) → fits_all none u ≡ true
unfolding fits_all read_all
all_none u = refl

pub all_more : (v : Value) (vs : Values) (u : Ty) → fits_all (more v vs) u ≡ (fits v u && fits_all vs u)
unfolding fits_all read_all fits
all_more v vs u = some-both (read_at v u) (read_all vs u) (λ w ws. a-val w ws)

-- ---- tuples

pub tuple-fits : (t : Token) (vs : Values) (us : Tys) → fits (tuple t vs) (tuple_of us) ≡ fits_each vs us
unfolding fits read_at fits_each
tuple-fits t vs us = some-bind (read_each vs us) (λ ws. v_tuple ws)

pub each_none : fits_each none no-type ≡ true
unfolding fits_each read_each
each_none = refl

pub each-few : (u : Ty) (us : Tys) → fits_each none (a-type u us) ≡ false
unfolding fits_each read_each
each-few u us = refl

pub each-many : (v : Value) (vs : Values) → fits_each (more v vs) no-type ≡ false
unfolding fits_each read_each
each-many v vs = refl

pub each_more : (v : Value) (vs : Values) (u : Ty) (us : Tys) → fits_each (more v vs) (a-type u us) ≡ (fits v u && fits_each vs us)
unfolding fits_each read_each fits
each_more v vs u us = some-both (read_at v u) (read_each vs us) (λ w ws. a-val w ws)

-- ---- brackets and pairs that do not agree

-- what fits no array
pub data Flat : Value → Type 0 where
  flat-name : {t : Token} → Flat (name t)
  flat-literal : {l : Literal} → Flat (literal l)
  flat-tuple : {t : Token} {vs : Values} → Flat (tuple t vs)

pub flat-no : {v : Value} → Flat v → (u : Ty) → fits v (array_of u) ≡ false
unfolding fits read_at
flat-no flat-name u = refl
flat-no flat-literal u = refl
flat-no flat-tuple u = refl

array-word : {s : ℕ} {w : Ty} (t : Token) (vs : Values) → IsTypeName s w → fits (array t vs) w ≡ false
unfolding fits read_at
array-word t vs is-tensor = refl
array-word t vs is-extent = refl
array-word t vs is-scalar = refl
array-word t vs is-logical = refl
array-word t vs is-string = refl

pub array-no : {b : ℕ} {ts us : List Token} {w : Ty} (t : Token) (vs : Values) → IsBase b ts w us → fits (array t vs) w ≡ false
unfolding fits read_at
array-no t vs (a_word h) = array-word t vs h
array-no t vs (a-tuple-base e d h) = refl

pub tuple-no : {s : ℕ} {w : Ty} (t : Token) (vs : Values) → IsTypeName s w → fits (tuple t vs) w ≡ false
unfolding fits read_at
tuple-no t vs is-tensor = refl
tuple-no t vs is-extent = refl
tuple-no t vs is-scalar = refl
tuple-no t vs is-logical = refl
tuple-no t vs is-string = refl
