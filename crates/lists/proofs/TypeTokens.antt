-- The tokens of a type: its base and its pairs of square brackets, the kinds of leaf that its word takes, and the flat walk over a tuple
-- type, which counts only round brackets and words. What the code reads of a type in a table. Assumes nothing.
use mathlib.Core.Path.{◌≡◌, refl, sym, ap, ap₂, subst, ◌∙◌}
use mathlib.Core.Bool.{Bool, true, false, cond, ◌&&◌}
use mathlib.Core.List.{List, [], ◌∷◌}
use Prim.Native.Nat.{ℕ, zero, suc, ◌+◌, ◌-◌, ◌*◌, ◌≤◌, ◌<◌}
use native.Mathlib.Numerals.{add-one}
use native.Mathlib.Omega.{arith}
use lib.Dec.{eqb}
use Rattle.std.specs.Int.{from_bool}
use borrow.Author.Tests.{eq-eqb, ne_eqb}
use Rattle.lexis.specs.Lexer.{Token}
use Rattle.lexis.specs.Symbol.{sym_of, left_round, right_round, left_square, right_square, comma, tensor_word, extent_word, scalar_word, logical_word, string_word}
use Rattle.syntax.specs.Tree.{Ty, Tys}
use Rattle.syntax.specs.Tree.Ty.{array_of, tuple_of}
use Rattle.syntax.specs.Tree.Tys.{a-type}
use Rattle.syntax.specs.Grammar.{IsTypeName, Dims, IsType, IsTypes}
use Rattle.syntax.specs.Grammar.IsTypeName.{is-tensor, is-extent, is-scalar, is-logical, is-string}
use Rattle.syntax.specs.Grammar.Dims.{no-pair, a_pair}
use Rattle.syntax.specs.Grammar.IsType.{a-plain, a-tuple-type}
use Rattle.syntax.specs.Grammar.IsTypes.{last-type, next-type}
use Rattle.syntax.specs.Parser.{rest, type}
use Rattle.syntax.specs.Parser.Parse.{ok}
use Rattle.syntax.specs.Table.{token_at, toks}
use Rattle.syntax.specs.Inner.{lookahead}
use Rattle.syntax.proofs.Complete.{type-complete}
use Rattle.syntax.proofs.Table.{toks-none, toks_more, toks-rest}
use Rattle.syntax.proofs.Symbols.{begins-look}
use Rattle.lists.specs.Reading.{all_tensor, all_tensors}
use Rattle.lists.specs.declared.types.TypeAt.{TypeAt}
use Rattle.lists.specs.Types.{kinds_of, pairs_of, word_kinds, TypeIs, OfType}
use Rattle.lists.specs.Fitting.{stacked, Several, IsBase, NoPair, Shaped, OfPairs, BaseOf, rounds_opened, rounds_closed, still, TypeWalk, type_walk}
use Rattle.lists.specs.Fitting.Several.{two-or-more}
use Rattle.lists.specs.Fitting.IsBase.{a_word, a-tuple-base}
use Rattle.lists.proofs.Phrases.{type-is, type-ends}

clash : ◌≡◌ {A = ℕ} 0 1 → ⊥
clash z = omega arith

-- ---- base and pairs

-- a type is its base and its pairs
record Split (b : ℕ) (ts : List Token) (u : Ty) (us : List Token) : Type 0 where
  pub base : Ty
  pub after : List Token
  pub is_base : IsBase b ts base after
  pub pairs : Dims b after base u us

several : {b : ℕ} {ts us : List Token} {u : Ty} {vs : Tys} → IsTypes b ts vs us → Several (a-type u vs)
several (last-type h e) = two-or-more
several (next-type h e g) = two-or-more

split : {b : ℕ} {ts us : List Token} {u : Ty} → IsType b ts u us → Split b ts u us
split (a-plain h d) = record { base = _; after = _; is_base = a_word h; pairs = d }
split (a-tuple-type e h f g d) = record { base = _; after = _; is_base = a-tuple-base e (several g) (next-type h f g); pairs = d }

-- pairs do not matter to the words of a type
dims-tensor : {b : ℕ} {ts us : List Token} {w u : Ty} → Dims b ts w u us → all_tensor u ≡ all_tensor w
unfolding all_tensor
dims-tensor no-pair = refl
dims-tensor (a_pair e f d) = dims-tensor d

dims-kinds : {b : ℕ} {ts us : List Token} {w u : Ty} → Dims b ts w u us → kinds_of u ≡ kinds_of w
unfolding kinds_of
dims-kinds no-pair = refl
dims-kinds (a_pair e f d) = dims-kinds d

stacked-array : (k : ℕ) (w : Ty) → stacked k (array_of w) ≡ stacked (suc k) w
unfolding stacked
stacked-array zero w = refl
stacked-array (suc k) w = ap array_of (stacked-array k w)

dims-stacked : {b : ℕ} {ts us : List Token} {w u : Ty} → Dims b ts w u us → (k : ℕ) × (u ≡ stacked k w)
unfolding stacked
dims-stacked no-pair = (0, refl)
dims-stacked (a_pair {w = w} e f d) = let r = dims-stacked d in (suc r.0, r.1 ∙ stacked-array r.0 w)

-- k pairs over a base, counted
stacked-pairs : (k : ℕ) (w : Ty) → pairs_of w ≡ 0 → pairs_of (stacked k w) ≡ k
unfolding stacked pairs_of
stacked-pairs zero w e = e
stacked-pairs (suc k) w e = ap suc (stacked-pairs k w e)

stacked-kinds : (k : ℕ) (w : Ty) → kinds_of (stacked k w) ≡ kinds_of w
unfolding stacked kinds_of
stacked-kinds zero w = refl
stacked-kinds (suc k) w = stacked-kinds k w

word-pairs : {s : ℕ} {w : Ty} → IsTypeName s w → pairs_of w ≡ 0
unfolding pairs_of
word-pairs is-tensor = refl
word-pairs is-extent = refl
word-pairs is-scalar = refl
word-pairs is-logical = refl
word-pairs is-string = refl

base-pairs : {b : ℕ} {ts us : List Token} {w : Ty} → IsBase b ts w us → pairs_of w ≡ 0
unfolding pairs_of
base-pairs (a_word h) = word-pairs h
base-pairs (a-tuple-base f d h) = refl

word-kinds : {s : ℕ} {w : Ty} → IsTypeName s w → word_kinds s ≡ kinds_of w
unfolding word_kinds kinds_of
word-kinds is-tensor = refl
word-kinds is-extent = refl
word-kinds is-scalar = refl
word-kinds is-logical = refl
word-kinds is-string = refl

-- any other terminal takes no leaf
pub no-kinds : (s : ℕ) → (s ≡ tensor_word → ⊥) → (s ≡ extent_word → ⊥) → (s ≡ scalar_word → ⊥) → (s ≡ logical_word → ⊥) → (s ≡ string_word → ⊥)
    → 0 ≡ word_kinds s
unfolding word_kinds
no-kinds s a b c d e = simp (ne_eqb s tensor_word a, ne_eqb s extent_word b, ne_eqb s scalar_word c, ne_eqb s logical_word d, ne_eqb s string_word e)

base-kinds : {b : ℕ} {ts us : List Token} {w : Ty} → IsBase b ts w us → word_kinds (lookahead ts) ≡ kinds_of w
unfolding word_kinds kinds_of
base-kinds (a_word h) = word-kinds h
base-kinds (a-tuple-base f d h) = ap word_kinds f

-- a type has as many pairs over its base as are counted, and its base takes the kinds that it takes
pub shape : {b : ℕ} {ts us : List Token} {u : Ty} → IsType b ts u us → Shaped b ts u (pairs_of u)
shape {u = u} t =
    let s = split t in
    let r = dims-stacked s.pairs in
    let q : pairs_of u ≡ r.0 = ap pairs_of r.1 ∙ stacked-pairs r.0 s.base (base-pairs s.is_base) in
    record { base = s.base; after = s.after; is_base = s.is_base; under = r.1 ∙ ap (λ (k : ℕ). stacked k s.base) (sym q) }

pub base-of : {kinds k b : ℕ} {ts : List Token} {u : Ty} → (q : Shaped b ts u k) → kinds ≡ kinds_of u → BaseOf kinds b ts q.base q.after
base-of {k = k} q e = record { is_base = q.is_base; takes = e ∙ (ap kinds_of q.under ∙ stacked-kinds k q.base) }

-- ---- the walk over a tuple type

-- what the walk gives after the bracket that closes the first of d + 1
abbrev shut : ℕ → Bool → List Token → TypeWalk
shut d x ts = cond (eqb d 0) (record { left = ts; tensor = x }) (type_walk d x ts)

shut-more : (d : ℕ) (x : Bool) (ts : List Token) → shut (suc d) x ts ≡ type_walk (suc d) x ts
shut-more d x ts = rw (ne_eqb (suc d) 0 (λ z. omega arith))

module _ (d : ℕ) (x : Bool) (t : Token) (ts : List Token) where
  walk-to : {e : ℕ} {y : Bool} → (suc d + rounds_opened (sym_of t)) - rounds_closed (sym_of t) ≡ e → still (sym_of t) x ≡ y
      → type_walk (suc d) x (t ∷ ts) ≡ shut e y ts
  unfolding type_walk
  walk-to p q = ap₂ (λ (e : ℕ) (y : Bool). shut e y ts) p q

  walk-quiet : (s : ℕ) → sym_of t ≡ s → rounds_opened s ≡ 0 → rounds_closed s ≡ 0 → type_walk (suc d) x (t ∷ ts) ≡ type_walk (suc d) (still s x) ts
  walk-quiet s e o c =
      let p : (suc d + rounds_opened (sym_of t)) - rounds_closed (sym_of t) ≡ suc d = rw e (omega (arith, o, c)) in
      walk-to p (ap (λ (z : ℕ). still z x) e) ∙ shut-more d (still s x) ts

  walk-open : sym_of t ≡ left_round → type_walk (suc d) x (t ∷ ts) ≡ type_walk (suc (suc d)) x ts
  unfolding rounds_opened rounds_closed still
  walk-open e =
      let p : (suc d + 1) - 0 ≡ suc (suc d) = omega arith in
      walk-to (ap (λ (z : ℕ). (suc d + rounds_opened z) - rounds_closed z) e ∙ p) (ap (λ (z : ℕ). still z x) e) ∙ shut-more (suc d) x ts

  walk-close : sym_of t ≡ right_round → type_walk (suc d) x (t ∷ ts) ≡ shut d x ts
  unfolding rounds_opened rounds_closed still
  walk-close e =
      let p : (suc d + 0) - 1 ≡ d = omega arith in
      walk-to (ap (λ (z : ℕ). (suc d + rounds_opened z) - rounds_closed z) e ∙ p) (ap (λ (z : ℕ). still z x) e)

  walk-comma : sym_of t ≡ comma → type_walk (suc d) x (t ∷ ts) ≡ type_walk (suc d) x ts
  unfolding rounds_opened rounds_closed still
  walk-comma e = walk-quiet comma e refl refl

  walk-square : sym_of t ≡ left_square → type_walk (suc d) x (t ∷ ts) ≡ type_walk (suc d) x ts
  unfolding rounds_opened rounds_closed still
  walk-square e = walk-quiet left_square e refl refl

  walk-unsquare : sym_of t ≡ right_square → type_walk (suc d) x (t ∷ ts) ≡ type_walk (suc d) x ts
  unfolding rounds_opened rounds_closed still
  walk-unsquare e = walk-quiet right_square e refl refl

word-still : {s : ℕ} {w : Ty} (x : Bool) → IsTypeName s w → still s x ≡ (x && all_tensor w)
unfolding still all_tensor
word-still true is-tensor = refl
word-still false is-tensor = refl
word-still true is-extent = refl
word-still false is-extent = refl
word-still true is-scalar = refl
word-still false is-scalar = refl
word-still true is-logical = refl
word-still false is-logical = refl
word-still true is-string = refl
word-still false is-string = refl

word-opens : {s : ℕ} {w : Ty} → IsTypeName s w → rounds_opened s ≡ 0
unfolding rounds_opened
word-opens is-tensor = refl
word-opens is-extent = refl
word-opens is-scalar = refl
word-opens is-logical = refl
word-opens is-string = refl

word-closes : {s : ℕ} {w : Ty} → IsTypeName s w → rounds_closed s ≡ 0
unfolding rounds_closed
word-closes is-tensor = refl
word-closes is-extent = refl
word-closes is-scalar = refl
word-closes is-logical = refl
word-closes is-string = refl

dims-walk : {b : ℕ} {ts us : List Token} {w u : Ty} (d : ℕ) (x : Bool) → Dims b ts w u us → type_walk (suc d) x ts ≡ type_walk (suc d) x us
dims-walk d x no-pair = refl
dims-walk d x (a_pair {o = o} {c = c} {ts = ts} e f h) = walk-square d x o (c ∷ ts) e ∙ (walk-unsquare d x c ts f ∙ dims-walk d x h)

and-more : (x y z : Bool) → ((x && y) && z) ≡ (x && (y && z))
and-more true y z = refl
and-more false y z = refl

and_last : (x y : Bool) → (x && y) ≡ (x && (y && true))
and_last true true = refl
and_last true false = refl
and_last false y = refl

mutual
  unfolding all_tensor all_tensors

  type-walk : {b : ℕ} {ts us : List Token} {u : Ty} (d : ℕ) (x : Bool) → IsType b ts u us → type_walk (suc d) x ts ≡ type_walk (suc d) (x && all_tensor u) us
  type-walk d x (a-plain {t = t} {ts = ts} {us = us} {w = w} {u = u} h p) =
      walk-quiet d x t ts (sym_of t) refl (word-opens h) (word-closes h)
      ∙ (dims-walk d (still (sym_of t) x) p ∙ ap (λ (y : Bool). type_walk (suc d) y us) (word-still x h ∙ ap (λ (y : Bool). x && y) (sym (dims-tensor p))))
  type-walk d x (a-tuple-type {o = o} {c = c} {ts = ts} {us = us} {ws = ws} {xs = xs} {w = w} {u = u} {vs = vs} e h f g p) =
      walk-open d x o ts e
      ∙ (type-walk (suc d) x h
      ∙ (walk-comma (suc d) (x && all_tensor w) c us f
      ∙ (types-walk (suc d) (x && all_tensor w) g
      ∙ (shut-more d ((x && all_tensor w) && all_tensors vs) ws
      ∙ (dims-walk d ((x && all_tensor w) && all_tensors vs) p
      ∙ ap (λ (y : Bool). type_walk (suc d) y xs) (and-more x (all_tensor w) (all_tensors vs) ∙ ap (λ (y : Bool). x && y) (sym (dims-tensor p))))))))

  types-walk : {b : ℕ} {ts us : List Token} {vs : Tys} (d : ℕ) (x : Bool) → IsTypes b ts vs us → type_walk (suc d) x ts ≡ shut d (x && all_tensors vs) us
  types-walk d x (last-type {c = c} {us = us} {u = u} h f) =
      type-walk d x h
      ∙ (walk-close d (x && all_tensor u) c us f
      ∙ ap (λ (y : Bool). shut d y us) (and_last x (all_tensor u)))
  types-walk d x (next-type {c = c} {us = us} {ws = ws} {u = u} {vs = vs} h f g) =
      type-walk d x h
      ∙ (walk-comma d (x && all_tensor u) c us f
      ∙ (types-walk d (x && all_tensor u) g
      ∙ ap (λ (y : Bool). shut d y ws) (and-more x (all_tensor u) (all_tensors vs))))

-- ---- a base by its first token

word-not-round : {s : ℕ} {w : Ty} → IsTypeName s w → s ≡ left_round → ⊥
word-not-round is-tensor e = absurd (omega arith)
word-not-round is-extent e = absurd (omega arith)
word-not-round is-scalar e = absurd (omega arith)
word-not-round is-logical e = absurd (omega arith)
word-not-round is-string e = absurd (omega arith)

word-tensor : {s : ℕ} {w : Ty} → IsTypeName s w → eqb s tensor_word ≡ all_tensor w
unfolding all_tensor
word-tensor is-tensor = refl
word-tensor is-extent = refl
word-tensor is-scalar = refl
word-tensor is-logical = refl
word-tensor is-string = refl

pub base-none : {b : ℕ} {ts us : List Token} {w : Ty} → ts ≡ [] → IsBase b ts w us → ⊥
base-none e (a_word h) = clash cc
base-none e (a-tuple-base f d h) = clash cc

base-walk : {b : ℕ} {o : Token} {ts us : List Token} {w : Ty} → sym_of o ≡ left_round → IsBase b (o ∷ ts) w us
    → type_walk 1 true ts ≡ record { left = us; tensor = all_tensor w }
unfolding all_tensor
base-walk e (a_word h) = absurd (word-not-round h e)
base-walk e (a-tuple-base f d h) = types-walk 0 true h

base_word : {b : ℕ} {o : Token} {ts us : List Token} {w : Ty} → (sym_of o ≡ left_round → ⊥) → IsBase b (o ∷ ts) w us
    → (us ≡ ts) × (eqb (sym_of o) tensor_word ≡ all_tensor w)
base_word e (a_word h) = (refl, word-tensor h)
base_word e (a-tuple-base f d h) = absurd (e f)

pub base-tuple : {b : ℕ} {o : Token} {ts us : List Token} {w : Ty} → sym_of o ≡ left_round → IsBase b (o ∷ ts) w us
    → (c : ℕ) × (vs : Tys) × (w ≡ tuple_of vs) × Several vs × IsTypes c ts vs us
base-tuple e (a_word h) = absurd (word-not-round h e)
base-tuple e (a-tuple-base f d h) = (_, _, refl, d, h)

pub base-name : {b : ℕ} {o : Token} {ts us : List Token} {w : Ty} → (sym_of o ≡ left_round → ⊥) → IsBase b (o ∷ ts) w us → IsTypeName (sym_of o) w
base-name e (a_word h) = h
base-name e (a-tuple-base f d h) = absurd (e f)

-- ---- pairs by their first token

dims-stop : {b : ℕ} {ts us : List Token} {w u : Ty} → Dims b ts w u us → (lookahead ts ≡ left_square → ⊥) → (u ≡ w) × (us ≡ ts)
dims-stop no-pair h = (refl, refl)
dims-stop (a_pair e f d) h = absurd (h e)

-- a pair, where one must be taken
data Pair (b : ℕ) (ts : List Token) (w u : Ty) (us : List Token) : Type 0 where
  pair : {o c : Token} {xs : List Token} → ts ≡ o ∷ c ∷ xs → Dims b xs (array_of w) u us → Pair b ts w u us

dims-pair : {b : ℕ} {ts us : List Token} {w u : Ty} → Dims b ts w u us → NoPair us → lookahead ts ≡ left_square → Pair b ts w u us
dims-pair no-pair n h = absurd (n h)
dims-pair (a_pair e f d) n h = pair refl d

-- ---- places of a table

-- a bracket counted as the code counts it
counted : (p : Bool) → from_bool p ≡ cond p 1 0
counted true = refl
counted false = refl

pub opens : (s : ℕ) → from_bool (eqb s left_round) ≡ rounds_opened s
unfolding rounds_opened
opens s = counted (eqb s left_round)

pub closes : (s : ℕ) → from_bool (eqb s right_round) ≡ rounds_closed s
unfolding rounds_closed
closes s = counted (eqb s right_round)

module _ (text table : List ℕ) (n : ℕ) where
  -- the walk at the end of the tokens
  pub walk_none : (i d : ℕ) (x : Bool) → n ≤ i → record { left = toks text table n n; tensor = x } ≡ type_walk d x (toks text table n i)
  unfolding type_walk
  walk_none i d x h = rw (toks-none text table n i h, toks-none text table n n (omega arith))

  -- one token of the walk, as the code takes it
  module _ (i d s o c : ℕ) (x y : Bool) (h : i < n) (e : s ≡ lookahead (toks text table n i)) (p : o ≡ rounds_opened s) (q : c ≡ rounds_closed s)
      (z : y ≡ still s x) where
    walk_step : type_walk d x (toks text table n i) ≡ shut ((d + o) - c) y (toks text table n (i + 1))
    unfolding type_walk
    walk_step =
        let t = e ∙ ap lookahead (toks_more text table n i h) in
        ap (type_walk d x) (toks_more text table n i h) ∙ ap₂ (λ (k : ℕ) (b : Bool). shut k b (toks text table n (i + 1)))
        (ap (λ (m : ℕ). (d + rounds_opened m) - rounds_closed m) (sym t) ∙ ap₂ (λ (k m : ℕ). (d + k) - m) (sym p) (sym q))
        (ap (λ (m : ℕ). still m x) (sym t) ∙ sym z)

    pub walk_ends : (d + o) - c ≡ 0 → record { left = toks text table n (i + 1); tensor = y } ≡ type_walk d x (toks text table n i)
    walk_ends w = sym (walk_step ∙ simp (eq-eqb ((d + o) - c) 0 w))

    pub walk-goes : ((d + o) - c ≡ 0 → ⊥) → type_walk d x (toks text table n i) ≡ type_walk ((d + o) - c) y (toks text table n (i + 1))
    walk-goes w = walk_step ∙ simp (ne_eqb ((d + o) - c) 0 w)

  -- what the code says of a base at place i that ends at place j
  abbrev Based : ℕ → ℕ → Bool → Type 0
  Based i j x = (b : ℕ) (w : Ty) (us : List Token) → IsBase b (toks text table n i) w us → (us ≡ toks text table n j) × (x ≡ all_tensor w)

  pub based-none : (i j : ℕ) (x : Bool) → n ≤ i → Based i j x
  based-none i j x h b w us g = absurd (base-none (toks-none text table n i h) g)

  module _ (i s : ℕ) (h : i < n) (e : s ≡ lookahead (toks text table n i)) where
    head-is : sym_of (token_at text table i) ≡ s
    head-is = sym (e ∙ ap lookahead (toks_more text table n i h))

    pub based-tuple : (j : ℕ) (x : Bool) → s ≡ left_round → record { left = toks text table n j; tensor = x } ≡ type_walk 1 true (toks text table n (i + 1))
        → Based i j x
    based-tuple j x f g b w us k =
        let r = g ∙ base-walk (head-is ∙ f) (subst (λ (ts : List Token). IsBase b ts w us) (toks_more text table n i h) k) in
        (sym (ap (λ (z : TypeWalk). z.left) r), ap (λ (z : TypeWalk). z.tensor) r)

    pub based-word : (s ≡ left_round → ⊥) → Based i (i + 1) (eqb s tensor_word)
    based-word f b w us k =
        let r = base_word (λ z. f (sym head-is ∙ z)) (subst (λ (ts : List Token). IsBase b ts w us) (toks_more text table n i h) k) in
        (r.0, ap (λ (z : ℕ). eqb z tensor_word) (sym head-is) ∙ r.1)

  -- past k pairs from place i on
  abbrev pub PastPairs : ℕ → ℕ → Type 0
  PastPairs i k = (b : ℕ) (w u : Ty) (us : List Token) → Dims b (toks text table n i) w u us → NoPair us
      → Dims b (toks text table n (i + 2 * k)) (stacked k w) u us

  pub pairs-none : (i : ℕ) → PastPairs i 0
  unfolding stacked
  pairs-none i b w u us d f = let q : i + 2 * 0 ≡ i = omega arith in rw q d

  module _ (i k s : ℕ) (e : s ≡ lookahead (toks text table n (i + 2 * k))) (h : PastPairs i k) where
    pub pairs-more : s ≡ left_square → PastPairs i (k + 1)
    unfolding stacked
    pairs-more f b w u us d g = go (dims-pair (h b w u us d g) g (sym e ∙ f))
      where
        go : Pair b (toks text table n (i + 2 * k)) (stacked k w) u us → Dims b (toks text table n (i + 2 * (k + 1))) (stacked (k + 1) w) u us
        go (pair {xs = xs} p r) =
            let q : i + 2 * k + 1 + 1 ≡ i + 2 * (k + 1) = omega arith in
            let x : xs ≡ toks text table n (i + 2 * (k + 1)) = sym (ap (λ (ts : List Token). rest (rest ts)) p)
            ∙ (ap rest (toks-rest text table n (i + 2 * k)) ∙ (toks-rest text table n (i + 2 * k + 1) ∙ ap (λ (m : ℕ). toks text table n m) q)) in
            rw (add-one k) (rw (add-one k) at (subst (λ (ts : List Token). Dims b ts (array_of (stacked k w)) u us) x r))

    pub pairs-stop : (s ≡ left_square → ⊥) → OfPairs text table n i k
    pairs-stop f b w u us d g = dims-stop (h b w u us d g) (λ z. f (e ∙ z))

  -- base and pairs together
  pub typed : (i j k : ℕ) (x : Bool) → Based i j x → OfPairs text table n j k → (c : ℕ) (u : Ty) (us : List Token) → type c (toks text table n i) ≡ ok u us
      → (word_kinds (lookahead (toks text table n i)) ≡ kinds_of u) × (k ≡ pairs_of u) × (x ≡ all_tensor u) × (us ≡ toks text table n (j + 2 * k))
  typed i j k x f g c u us e =
      let s = split (type-is c (toks text table n i) e) in
      let b = f c s.base s.after s.is_base in
      let d = subst (λ (ts : List Token). Dims c ts s.base u us) b.0 s.pairs in
      let r = g c s.base u us d (type-ends c (toks text table n i) e) in
      let p = sym (ap pairs_of r.0 ∙ stacked-pairs k s.base (base-pairs s.is_base)) in
      (base-kinds s.is_base ∙ sym (dims-kinds s.pairs), p, b.1 ∙ sym (dims-tensor s.pairs), r.1)

  -- what is read of a type of the grammar
  pub read_of : (i : ℕ) (r : TypeAt) → OfType text table n i r → {b : ℕ} {u : Ty} {us : List Token} → IsType b (toks text table n i) u us → NoPair us
      → TypeIs text table n u us r
  read_of i r f {b} {u} {us} t h = f b u us (type-complete (begins-look left_square us (omega arith) ∙ ne_eqb (lookahead us) left_square h) t)

  pub shape_of : (i : ℕ) (r : TypeAt) → OfType text table n i r → {b : ℕ} {u : Ty} {us : List Token} → IsType b (toks text table n i) u us → NoPair us
      → Shaped b (toks text table n i) u r.pairs
  shape_of i r f {b} {u} {us} t h = subst (λ (k : ℕ). Shaped b (toks text table n i) u k) (sym (read_of i r f t h).pairs) (shape t)
