-- What the grammar spells with good tokens fits the type at which it reads. In order: numbers; leaves; arrays and tuples; values and
-- the tokens after them; more brackets and more leaves keep what fits.
use mathlib.Core.Path.{◌≡◌, refl, sym, ap, subst}
use mathlib.Core.Bool.{Bool, true, false, cond, ◌&&◌, and-eq-true_iff}
use mathlib.Core.List.{List, ◌∷◌}
use mathlib.Core.Option.{some}
use Prim.Native.Nat.{ℕ, zero, suc, ◌≤◌}
use native.Mathlib.Nat.{le_of_suc-le-suc, not-suc-le-zero}
use lib.Dec.{eqb, leb}
use borrow.Author.Tests.{eqb-true, eqb-false}
use Rattle.lexis.specs.Sizes.{max_written}
use Rattle.lexis.specs.Kind as Kind
use Rattle.lexis.specs.Number.{Reduced, parts_of, written_of, reduced_of, is_small, in_range, value_from, spelt, signed}
use Rattle.lexis.specs.Lexer.{Token}
use Rattle.lexis.proofs.Theorems.{reduced}
use Rattle.syntax.specs.Tree.{Value, Values, Ty, Tys}
use Rattle.syntax.specs.Tree.Value.{array, tuple}
use Rattle.syntax.specs.Tree.Values.{none, more}
use Rattle.syntax.specs.Tree.Ty.{tensor, extent, scalar, logical, string, array_of, tuple_of}
use Rattle.syntax.specs.Tree.Tys.{no-type, a-type}
use Rattle.syntax.specs.Grammar.{Leaves, takes_names, takes_literals, no_sign, a-sign, Spells, a-name, a-literal, an-empty-array, an-array, a-tuple, Items}
use Rattle.syntax.specs.Grammar.{last-item, next-item}
use Rattle.lists.specs.Reading.{Val, Vals, v_name, v_extent, v_string, v_array, v_tuple, no-val, a-val, where-true, is_number, content_of, number_of, truth_of, name_at}
use Rattle.lists.specs.Reading.{with_sign, is_extent, literal_at, bind, read_at, read_all, read_each}
use Rattle.lists.proofs.Extents.{abs-signed}
use Rattle.documents.proofs.Items.{clash}
use Rattle.writing.specs.Layout.{unsigned_of}
use Rattle.writing.specs.Fit.{Lowest, nought, odd, IsName, IsNumber, Fits, fit-name, fit-number, fit-scalar, fit-extent, fit-string, fit-logical}
use Rattle.writing.specs.Fit.{fit-truth, fit-array, fit-tuple, FitsAll, all_none, all_more, FitsEach, each_none, each_more}
use Rattle.writing.proofs.Planned.{bound}
use Rattle.writing.proofs.Good.{Good, good-name, AllGood}

-- ---- numbers

number_is : (w : List ℕ) → in_range w (parts_of w) ≡ true → IsNumber (reduced_of w (parts_of w))
unfolding in_range
number_is w h =
    let r = (and-eq-true_iff (leb (written_of w (parts_of w)) max_written) (is_small (reduced_of w (parts_of w)))).0 h in
    record { lowest = go (eqb (spelt w) 0) refl; small = r.1 }
  where
    go : (b : Bool) → eqb (spelt w) 0 ≡ b → Lowest (reduced_of w (parts_of w))
    go true e = rw ((reduced w).zero (eqb-true (spelt w) 0 e)) nought
    go false e = odd ((reduced w).ends (eqb-false (spelt w) 0 e))

-- a number without its sign
unsigned-again : (n : Bool) (r : Reduced) → unsigned_of (with_sign n r) ≡ r
unsigned-again n r = ap (λ (m : ℕ). record { mantissa = m; exponent = r.exponent }) (abs-signed n r.mantissa)

signed_is : (n : Bool) (w : List ℕ) → in_range w (parts_of w) ≡ true → IsNumber (unsigned_of (with_sign n (reduced_of w (parts_of w))))
signed_is n w h = subst IsNumber (sym (unsigned-again n (reduced_of w (parts_of w)))) (number_is w h)

-- ---- leaves

module _ {m : Leaves} {b : ℕ} where
  -- a value where a test holds
  tested : {u : Ty} (c : Bool) (x v : Val) → (c ≡ true → Fits m b u x) → where-true c x ≡ some v → Fits m b u v
  tested true x v f h = let e : x ≡ v = cc in rw e at (f refl)
  tested false x v f h = clash cc

  name-fits : (u : Ty) (w : List ℕ) (v : Val) → takes_names m ≡ true → IsName w → name_at u w ≡ some v → Fits m b u v
  name-fits tensor w v l n h = tested true (v_name w) v (λ _. fit-name l n) h
  name-fits extent w v l n h = clash cc
  name-fits scalar w v l n h = clash cc
  name-fits logical w v l n h = clash cc
  name-fits string w v l n h = clash cc
  name-fits (array_of u) w v l n h = clash cc
  name-fits (tuple_of us) w v l n h = clash cc

  literal-fits : (u : Ty) (n : Bool) (k : ℕ) (w : List ℕ) (v : Val) → takes_literals m ≡ true → Good k w → literal_at u n k w ≡ some v → Fits m b u v
  literal-fits tensor n k w v l g h = go (eqb k Kind.truth) h
    where
      go : (c : Bool) → cond c (some (truth_of w)) (where-true (is_number k) (number_of n w)) ≡ some v → Fits m b tensor v
      go true h = tested true (truth_of w) v (λ _. fit-truth l) h
      go false h = tested (is_number k) (number_of n w) v (λ t. fit-number l (signed_is n w (g.number t).0)) h
  literal-fits extent n k w v l g h =
      let z = signed n (value_from 0 w) in
      tested (eqb k Kind.whole && is_extent z) (v_extent z) v (λ t. fit-extent l ((and-eq-true_iff (eqb k Kind.whole) (is_extent z)).0 t).1) h
  literal-fits scalar n k w v l g h = tested (is_number k) (number_of n w) v (λ t. fit-scalar l (signed_is n w (g.number t).0)) h
  literal-fits logical n k w v l g h = tested (eqb k Kind.truth) (truth_of w) v (λ _. fit-logical l) h
  literal-fits string n k w v l g h = tested (eqb k Kind.string) (v_string (content_of w)) v (λ t. fit-string l (g.text (eqb-true k Kind.string t))) h
  literal-fits (array_of u) n k w v l g h = clash cc
  literal-fits (tuple_of us) n k w v l g h = clash cc

-- ---- arrays and tuples

-- whatever a tree reads as fits
abbrev pub Reads : Leaves → ℕ → Value → Type 0
Reads m b v = (u : Ty) (w : Val) → read_at v u ≡ some w → Fits m b u w

-- a first item, and others of which R holds
data First (m : Leaves) (b : ℕ) (R : Tys → Vals → Type 0) : Tys → Vals → Type 0 where
  first : {u : Ty} {us : Tys} {v : Val} {vs : Vals} → Fits m b u v → R us vs → First m b R (a-type u us) (a-val v vs)

-- a tuple of at least two items
pub data Pair (m : Leaves) (b : ℕ) : Ty → Val → Type 0 where
  pair : {u t : Ty} {us : Tys} {v w : Val} {vs : Vals}
      → Fits m b u v → Fits m b t w → FitsEach m b us vs → Pair m b (tuple_of (a-type u (a-type t us))) (v_tuple (a-val v (a-val w vs)))

module _ {m : Leaves} {b : ℕ} where
  array-fits : (t : Token) (vs : Values) (u : Ty) (w : Val) → ((x : Ty) (ws : Vals) → read_all vs x ≡ some ws → FitsAll m b x ws)
      → read_at (array t vs) u ≡ some w → Fits m (suc b) u w
  unfolding read_at
  array-fits t vs (array_of u) w f h =
      let x = bound (read_all vs u) (λ ws. some (v_array ws)) h in
      let e : v_array x.it ≡ w = cc x.gives in
      let r : Fits m (suc b) (array_of u) (v_array x.it) = fit-array (f u x.it x.there) in
      rw e at r
  array-fits t vs tensor w f h = clash cc
  array-fits t vs extent w f h = clash cc
  array-fits t vs scalar w f h = clash cc
  array-fits t vs logical w f h = clash cc
  array-fits t vs string w f h = clash cc
  array-fits t vs (tuple_of us) w f h = clash cc

  none-all : (u : Ty) (ws : Vals) → read_all none u ≡ some ws → FitsAll m b u ws
  unfolding read_all
  none-all u ws h = let e : no-val ≡ ws = cc in let r : FitsAll m b u no-val = all_none in rw e at r

  more-all : (v : Value) (vs : Values) (u : Ty) (ws : Vals) → Reads m b v → ((xs : Vals) → read_all vs u ≡ some xs → FitsAll m b u xs)
      → read_all (more v vs) u ≡ some ws → FitsAll m b u ws
  unfolding read_all
  more-all v vs u ws f g h =
      let x = bound (read_at v u) (λ w. bind (read_all vs u) (λ xs. some (a-val w xs))) h in
      let y = bound (read_all vs u) (λ xs. some (a-val x.it xs)) x.gives in
      let e : a-val x.it y.it ≡ ws = cc y.gives in
      let r : FitsAll m b u (a-val x.it y.it) = all_more (f u x.it x.there) (g y.it y.there) in
      rw e at r

  none_each : (us : Tys) (ws : Vals) → read_each none us ≡ some ws → FitsEach m b us ws
  unfolding read_each
  none_each no-type ws h = let e : no-val ≡ ws = cc in let r : FitsEach m b no-type no-val = each_none in rw e at r
  none_each (a-type u us) ws h = clash cc

  more-each : (R : Tys → Vals → Type 0) (v : Value) (vs : Values) (us : Tys) (ws : Vals) → Reads m b v
      → ((xs : Tys) (ys : Vals) → read_each vs xs ≡ some ys → R xs ys) → read_each (more v vs) us ≡ some ws → First m b R us ws
  unfolding read_each
  more-each R v vs no-type ws f g h = clash cc
  more-each R v vs (a-type u us) ws f g h =
      let x = bound (read_at v u) (λ w. bind (read_each vs us) (λ xs. some (a-val w xs))) h in
      let y = bound (read_each vs us) (λ xs. some (a-val x.it xs)) x.gives in
      let e : a-val x.it y.it ≡ ws = cc y.gives in
      let r : First m b R (a-type u us) (a-val x.it y.it) = first (f u x.it x.there) (g us y.it y.there) in
      rw e at r

  two-fit : {us : Tys} {ws : Vals} → First m b (First m b (FitsEach m b)) us ws → Pair m b (tuple_of us) (v_tuple ws)
  two-fit (first f (first g r)) = pair f g r

  each-fit : {us : Tys} {ws : Vals} → First m b (FitsEach m b) us ws → FitsEach m b us ws
  each-fit (first f r) = each_more f r

  tuple-fits : (t : Token) (v : Value) (vs : Values) (u : Ty) (w : Val) → Reads m b v
      → ((xs : Tys) (ys : Vals) → read_each vs xs ≡ some ys → First m b (FitsEach m b) xs ys) → read_at (tuple t (more v vs)) u ≡ some w → Pair m b u w
  unfolding read_at
  tuple-fits t v vs (tuple_of us) w f g h =
      let x = bound (read_each (more v vs) us) (λ ws. some (v_tuple ws)) h in
      let e : v_tuple x.it ≡ w = cc x.gives in
      rw e at (two-fit (more-each (First m b (FitsEach m b)) v vs us x.it f g x.there))
  tuple-fits t v vs tensor w f g h = clash cc
  tuple-fits t v vs extent w f g h = clash cc
  tuple-fits t v vs scalar w f g h = clash cc
  tuple-fits t v vs logical w f g h = clash cc
  tuple-fits t v vs string w f g h = clash cc
  tuple-fits t v vs (array_of u) w f g h = clash cc

  pair_fits : {u : Ty} {w : Val} → Pair m b u w → Fits m (suc b) u w
  pair_fits (pair f g r) = fit-tuple f g r

-- ---- values

-- the tokens after a value are good
mutual
  pub spells-rest : {m : Leaves} {b : ℕ} {ts us : List Token} {v : Value} → Spells m b ts v us → AllGood ts → AllGood us
  spells-rest (a-name l s) g = g.1
  spells-rest (a-literal l (no_sign s)) g = g.1
  spells-rest (a-literal l (a-sign s n)) g = g.1.1
  spells-rest (an-empty-array o c) g = g.1.1
  spells-rest (an-array o i) g = items-rest i g.1
  spells-rest (a-tuple o s c i) g = items-rest i (spells-rest s g.1).1

  pub items-rest : {m : Leaves} {close b : ℕ} {ts us : List Token} {vs : Values} → Items m close b ts vs us → AllGood ts → AllGood us
  items-rest (last-item s c) g = (spells-rest s g).1
  items-rest (next-item s c i) g = items-rest i (spells-rest s g).1

mutual
  unfolding read_at

  pub spells-fits : {m : Leaves} {b : ℕ} {ts us : List Token} {v : Value} → Spells m b ts v us → AllGood ts → Reads m b v
  spells-fits (a-name {t = t} l s) g u w h = name-fits u t.bytes w l (good-name t g.0 s) h
  spells-fits (a-literal l (no_sign {t = t} s)) g u w h = literal-fits u false t.kind t.bytes w l g.0 h
  spells-fits (a-literal l (a-sign {t = t} s n)) g u w h = literal-fits u true t.kind t.bytes w l g.1.0 h
  spells-fits (an-empty-array {o = o} s c) g u w h = array-fits o none u w (λ x ws e. none-all x ws e) h
  spells-fits (an-array {o = o} {vs = vs} s i) g u w h = array-fits o vs u w (λ x ws e. items-all i g.1 x ws e) h
  spells-fits (a-tuple {o = o} {v = v} {vs} o' s c i) g u w h =
      pair_fits (tuple-fits o v vs u w (λ x y e. spells-fits s g.1 x y e) (λ xs ys e. items-each i (spells-rest s g.1).1 xs ys e) h)

  items-all : {m : Leaves} {close b : ℕ} {ts us : List Token} {vs : Values} → Items m close b ts vs us → AllGood ts
      → (u : Ty) (ws : Vals) → read_all vs u ≡ some ws → FitsAll m b u ws
  items-all (last-item {v = v} s c) g u ws h = more-all v none u ws (λ x w e. spells-fits s g x w e) (λ xs e. none-all u xs e) h
  items-all (next-item {v = v} {vs} s c i) g u ws h = more-all v vs u ws (λ x w e. spells-fits s g x w e) (λ xs e. items-all i (spells-rest s g).1 u xs e) h

  items-each : {m : Leaves} {close b : ℕ} {ts us : List Token} {vs : Values} → Items m close b ts vs us → AllGood ts
      → (us : Tys) (ws : Vals) → read_each vs us ≡ some ws → First m b (FitsEach m b) us ws
  items-each (last-item {v = v} s c) g us ws h = more-each _ v none us ws (λ u w e. spells-fits s g u w e) (λ xs ys e. none_each xs ys e) h
  items-each (next-item {v = v} {vs} s c i) g us ws h =
      more-each _ v vs us ws (λ u w e. spells-fits s g u w e) (λ xs ys e. each-fit (items-each i (spells-rest s g).1 xs ys e)) h

-- a first item and others that make a tuple, bare or in brackets
pub tuple-pair : {m : Leaves} {close b : ℕ} {c : Token} {ts us ws : List Token} {v : Value} {vs : Values}
    → Spells m b ts v (c ∷ us) → Items m close b us vs ws → AllGood ts → (t : Token) (u : Ty) (w : Val) → read_at (tuple t (more v vs)) u ≡ some w → Pair m b u w
tuple-pair {v = v} {vs} s i g t u w h = tuple-fits t v vs u w (spells-fits s g) (items-each i (spells-rest s g).1) h

-- ---- more leaves, more brackets

array-wider : {n : Leaves} {b : ℕ} {u : Ty} {vs : Vals} (c : ℕ) → suc b ≤ c → ((d : ℕ) → b ≤ d → FitsAll n d u vs) → Fits n c (array_of u) (v_array vs)
array-wider zero l f = absurd (not-suc-le-zero l)
array-wider (suc d) l f = fit-array (f d (le_of_suc-le-suc l))

tuple-wider : {n : Leaves} {b : ℕ} {u : Ty} {w : Val} (c : ℕ) → suc b ≤ c → ((d : ℕ) → b ≤ d → Pair n d u w) → Fits n c u w
tuple-wider zero l f = absurd (not-suc-le-zero l)
tuple-wider (suc d) l f = pair_fits (f d (le_of_suc-le-suc l))

module _ (m n : Leaves) (names : takes_names m ≡ true → takes_names n ≡ true) (literals : takes_literals m ≡ true → takes_literals n ≡ true) where
  mutual
    pub wider : {b : ℕ} {u : Ty} {v : Val} (c : ℕ) → b ≤ c → Fits m b u v → Fits n c u v
    wider c l (fit-name t h) = fit-name (names t) h
    wider c l (fit-number t h) = fit-number (literals t) h
    wider c l (fit-scalar t h) = fit-scalar (literals t) h
    wider c l (fit-extent t h) = fit-extent (literals t) h
    wider c l (fit-string t h) = fit-string (literals t) h
    wider c l (fit-logical t) = fit-logical (literals t)
    wider c l (fit-truth t) = fit-truth (literals t)
    wider c l (fit-array r) = array-wider c l (λ d k. all-wider d k r)
    wider c l (fit-tuple f g r) = tuple-wider c l (λ d k. pair (wider d k f) (wider d k g) (each-wider d k r))

    all-wider : {b : ℕ} {u : Ty} {vs : Vals} (c : ℕ) → b ≤ c → FitsAll m b u vs → FitsAll n c u vs
    all-wider c l all_none = all_none
    all-wider c l (all_more f r) = all_more (wider c l f) (all-wider c l r)

    pub each-wider : {b : ℕ} {us : Tys} {vs : Vals} (c : ℕ) → b ≤ c → FitsEach m b us vs → FitsEach n c us vs
    each-wider c l each_none = each_none
    each-wider c l (each_more f r) = each_more (wider c l f) (each-wider c l r)
