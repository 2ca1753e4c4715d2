-- What the readers of types answer at each of their ways out. Assumes nothing.
use mathlib.Core.Path.{◌≡◌, refl, sym, ap, ◌∙◌}
use mathlib.Core.Bool.{Bool, true, false, cond}
use mathlib.Core.Option.{some}
use mathlib.Core.Option.{none as nothing}
use Prim.Native.Nat.{ℕ, zero, suc, ◌+◌, ◌-◌, ◌<◌, ◌≤◌}
use native.Mathlib.Omega.{arith}
use mathlib.Core.List.{List, [], ◌∷◌}
use lib.Dec.{eqb, ltb}
use lib.ListN.{length}
use borrow.Author.Tests.{eq-eqb, ne_eqb, lt-ltb, le-ltb}
use Rattle.lexis.specs.Lexer.{Token}
use Rattle.syntax.specs.Read.{Parsed}
use Rattle.syntax.specs.Read.Parsed.{Done, Fault}
use Rattle.lexis.specs.Symbol.{sym_of, left_round, right_round, left_square, right_square, comma, tensor_word, extent_word, scalar_word, logical_word}
use Rattle.lexis.specs.Symbol.{string_word}
use Rattle.syntax.specs.Tree.{Ty}
use Rattle.syntax.specs.Tree.Ty.{tensor, extent, scalar, logical, string, array_of, tuple_of}
use Rattle.syntax.specs.Tree.Tys.{a-type}
use Rattle.syntax.specs.Parser.{Parse, Reader, then, expect, rest, row, types, commas, type_name, dims, tuple_types, named-type, base_step, type}
use Rattle.syntax.specs.Parser.Parse.{ok, bad}
use Rattle.syntax.specs.Table.{place_of, parsed}
use Rattle.syntax.specs.Tokens.{from, answer}
use Rattle.syntax.specs.declared.tokens.Tokens.{Tokens}
use Rattle.syntax.specs.Inner.{lookahead, is_type_word, base_of}
use Rattle.syntax.proofs.Shrinks.{type-shrinks}
use Rattle.syntax.proofs.Tails.{expect-tails, type-tails, base-tails}
use Rattle.syntax.proofs.Chain.{outcome, onwards, clash, chain, steps, mapped-same}
use Rattle.syntax.proofs.Symbols.{begun, end-not, stands_by, one_more, none_more, answer-rest}
use Rattle.syntax.proofs.Rows.{Sound}

pub type-sound : (b : ℕ) → Sound (type b)
type-sound b = record { small = type-shrinks b; tails = type-tails b }

-- ---- the names of types

named_by : (e n : ℕ) (t : Token) (us : List Token) (a b c d f : Bool) → cond a true (cond b true (cond c true (cond d true f))) ≡ true
    → parsed e n (named-type (cond a (some tensor) (cond b (some extent) (cond c (some scalar) (cond d (some logical) (cond f (some string) nothing))))) t us)
    ≡ Done (n - length us)
named_by e n t us true b c d f h = refl
named_by e n t us false true c d f h = refl
named_by e n t us false false true d f h = refl
named_by e n t us false false false true f h = refl
named_by e n t us false false false false true h = refl
named_by e n t us false false false false false h = clash h

unnamed-by : (t : Token) (us : List Token) (a b c d f : Bool) → cond a true (cond b true (cond c true (cond d true f))) ≡ false
    → named-type (cond a (some tensor) (cond b (some extent) (cond c (some scalar) (cond d (some logical) (cond f (some string) nothing))))) t us ≡ bad 9
    (t ∷ us)
unnamed-by t us true b c d f h = clash (sym h)
unnamed-by t us false true c d f h = clash (sym h)
unnamed-by t us false false true d f h = clash (sym h)
unnamed-by t us false false false true f h = clash (sym h)
unnamed-by t us false false false false true h = clash (sym h)
unnamed-by t us false false false false false h = refl

-- ---- a type without its pairs of brackets, by its first token

round-not : (s : ℕ) → is_type_word s ≡ true → s ≡ left_round → ⊥
unfolding is_type_word
round-not s h z = clash (sym (ap is_type_word z) ∙ h)

module _ (e n : ℕ) (opened : Token → Reader Ty) where
  base_word : (ts : List Token) → is_type_word (lookahead ts) ≡ true → parsed e n (base_step opened ts) ≡ Done (n - length (rest ts))
  unfolding base_step type_name is_type_word
  base_word [] h = clash h
  base_word (t ∷ us) h =
      let s = sym_of t in
      simp (ne_eqb (sym_of t) left_round (round-not (sym_of t) h))
      (named_by e n t us (eqb s tensor_word) (eqb s extent_word) (eqb s scalar_word) (eqb s logical_word) (eqb s string_word) h)

  base-not : (ts : List Token) → is_type_word (lookahead ts) ≡ false → (lookahead ts ≡ left_round → ⊥)
      → parsed e n (base_step opened ts) ≡ Fault 9 (place_of e ts)
  unfolding base_step type_name is_type_word
  base-not [] h z = refl
  base-not (t ∷ us) h z =
      let s = sym_of t in
      simp (ne_eqb (sym_of t) left_round z)
      (ap (parsed e n) (unnamed-by t us (eqb s tensor_word) (eqb s extent_word) (eqb s scalar_word) (eqb s logical_word) (eqb s string_word) h))

  base-open : (ts : List Token) → lookahead ts ≡ left_round → parsed e n (base_step opened ts) ≡ parsed e n (begun opened ts)
  unfolding base_step
  base-open [] h = absurd (end-not left_round (omega arith) h)
  base-open (t ∷ us) h = simp (eq-eqb (sym_of t) left_round h)

module _ (e n : ℕ) (ts : List Token) where
  base-is-word : (b : ℕ) → is_type_word (lookahead ts) ≡ true → parsed e n (base_of b ts) ≡ Done (n - length (rest ts))
  unfolding base_of
  base-is-word zero h = base_word e n _ ts h
  base-is-word (suc b) h = base_word e n _ ts h

  base-is-not : (b : ℕ) → is_type_word (lookahead ts) ≡ false → (lookahead ts ≡ left_round → ⊥) → parsed e n (base_of b ts) ≡ Fault 9 (place_of e ts)
  unfolding base_of
  base-is-not zero h z = base-not e n _ ts h z
  base-is-not (suc b) h z = base-not e n _ ts h z

full_by : (e n : ℕ) (ts : List Token) → lookahead ts ≡ left_round → parsed {A = Ty} e n (begun (λ t us. bad 10 (t ∷ us)) ts) ≡ Fault 10 (place_of e ts)
full_by e n [] h = absurd (end-not left_round (omega arith) h)
full_by e n (t ∷ us) h = refl

base-is-full : (e n b : ℕ) (ts : List Token) → lookahead ts ≡ left_round → b ≡ 0 → parsed e n (base_of b ts) ≡ Fault 10 (place_of e ts)
unfolding base_of
base-is-full e n b ts h z = ap (λ (k : ℕ). parsed e n (base_of k ts)) z ∙ (base-open e n _ ts h ∙ full_by e n ts h)

tuple-by : (e n b : ℕ) (ts : List Token) → lookahead ts ≡ left_round
    → parsed e n (begun (λ t us. tuple_types (type b) us) ts) ≡ parsed e n (tuple_types (type b) (rest ts))
tuple-by e n b [] h = absurd (end-not left_round (omega arith) h)
tuple-by e n b (t ∷ us) h = refl

base-is-tuple : (e n b : ℕ) (ts : List Token) → lookahead ts ≡ left_round → (b ≡ 0 → ⊥)
    → parsed e n (base_of b ts) ≡ parsed e n (tuple_types (type (b - 1)) (rest ts))
unfolding base_of
base-is-tuple e n b ts h z =
    let q : b ≡ suc (b - 1) = omega arith in
    ap (λ (k : ℕ). parsed e n (base_of k ts)) q ∙ (base-open e n _ ts h ∙ tuple-by e n (b - 1) ts h)

-- ---- pairs of brackets

any-by : (e n : ℕ) (o c : Token) (ts : List Token) (p q r : Bool) (u w : Ty) (x y : Parse Ty) → parsed e n x ≡ parsed e n y
    → parsed e n (cond p (cond q (cond r x (bad 9 (c ∷ ts))) (bad 10 (o ∷ c ∷ ts))) (ok u (o ∷ c ∷ ts))) ≡ parsed e n
    (cond p (cond q (cond r y (bad 9 (c ∷ ts))) (bad 10 (o ∷ c ∷ ts))) (ok w (o ∷ c ∷ ts)))
any-by e n o c ts false q r u w x y h = refl
any-by e n o c ts true false r u w x y h = refl
any-by e n o c ts true true false u w x y h = refl
any-by e n o c ts true true true u w x y h = h

one-by : (e n : ℕ) (o : Token) (p q : Bool) (u w : Ty)
    → parsed e n (cond p (cond q (bad 9 []) (bad 10 (o ∷ []))) (ok u (o ∷ []))) ≡ parsed e n (cond p (cond q (bad 9 []) (bad 10 (o ∷ []))) (ok w (o ∷ [])))
one-by e n o false q u w = refl
one-by e n o true false u w = refl
one-by e n o true true u w = refl

-- the answer does not depend on the type before them
dims-any : (e n : ℕ) (may : Bool) (u w : Ty) (ts : List Token) → parsed e n (dims may u ts) ≡ parsed e n (dims may w ts)
unfolding dims
dims-any e n may u w [] = refl
dims-any e n may u w (o ∷ []) = one-by e n o (eqb (sym_of o) left_square) may u w
dims-any e n may u w (o ∷ c ∷ ts) =
    any-by e n o c ts (eqb (sym_of o) left_square) may (eqb (sym_of c) right_square) u w _ _ (dims-any e n may (array_of u) (array_of w) ts)

dims-stop : (may : Bool) (u : Ty) (ts : List Token) → (lookahead ts ≡ left_square → ⊥) → dims may u ts ≡ ok u ts
unfolding dims
dims-stop may u [] h = refl
dims-stop may u (o ∷ []) h = simp (ne_eqb (sym_of o) left_square h)
dims-stop may u (o ∷ c ∷ ts) h = simp (ne_eqb (sym_of o) left_square h)

dims-full : (u : Ty) (ts : List Token) → lookahead ts ≡ left_square → dims false u ts ≡ bad 10 ts
unfolding dims
dims-full u [] h = absurd (end-not left_square (omega arith) h)
dims-full u (o ∷ []) h = simp (eq-eqb (sym_of o) left_square h)
dims-full u (o ∷ c ∷ ts) h = simp (eq-eqb (sym_of o) left_square h)

-- with a bracket and room for it: the closing bracket, and the pairs after it
dims-next : (u : Ty) (ts : List Token) → lookahead ts ≡ left_square → dims true u ts ≡ then (expect right_square (rest ts)) (λ c us. dims true (array_of u) us)
unfolding dims expect
dims-next u [] h = absurd (end-not left_square (omega arith) h)
dims-next u (o ∷ []) h = simp (eq-eqb (sym_of o) left_square h)
dims-next u (o ∷ c ∷ ts) h = simp (eq-eqb (sym_of o) left_square h) (go (eqb (sym_of c) right_square))
  where
    go : (p : Bool) → cond p (dims true (array_of u) ts) (bad 9 (c ∷ ts)) ≡ then (cond p (ok c ts) (bad 9 (c ∷ ts))) (λ c us. dims true (array_of u) us)
    go true = refl
    go false = refl

-- ---- the parts of a type

module _ (ts : Tokens) (i : ℕ) where
  pub type-is : (b : ℕ)
      → answer ts (type b) i ≡ onwards (answer ts (base_of b) i)
      (λ j. answer ts (dims (ltb 0 b) tensor) j)
  unfolding type base_of
  type-is zero =
      chain ts i (dims false) ((λ j. answer ts (dims false tensor) j) ∷ []) (base-tails zero (from ts i))
      (λ u j. dims-any (length ts.text.now) ts.count false u tensor (from ts j))
  type-is (suc b) =
      let h : 0 < suc b = omega arith in
      rw (lt-ltb 0 (suc b))
      (chain ts i (dims true) ((λ j. answer ts (dims true tensor) j) ∷ []) (base-tails (suc b) (from ts i))
      (λ u j. dims-any (length ts.text.now) ts.count true u tensor (from ts j)))

  pub tuple-types-is : (b : ℕ) → answer ts (tuple_types (type b)) i ≡ steps (answer ts (type b) i)
      ((λ j. answer ts (expect comma) j) ∷ (λ j. answer ts (row types (commas right_round) (type b)) j) ∷ [])
  unfolding tuple_types
  tuple-types-is b =
      chain ts i _
      ((λ j. answer ts (expect comma) j) ∷ (λ j. answer ts (row types (commas right_round) (type b)) j) ∷ [])
      (type-tails b (from ts i)) (λ u j.
      chain ts j _ ((λ j. answer ts (row types (commas right_round) (type b)) j) ∷ [])
      (expect-tails comma (from ts j))
      (λ c k. mapped-same (length ts.text.now) ts.count (λ vs. tuple_of (a-type u vs)) (row types (commas right_round) (type b) (from ts k))))

-- ---- the ways out of the code, by the terminal s at place i

module _ (ts : Tokens) (i : ℕ) {s : ℕ} (sees : s ≡ lookahead (from ts i)) where
  pub word_stands : is_type_word s ≡ true → i < ts.count
  unfolding is_type_word
  word_stands h = stands_by ts.text.now ts.table.now ts.count i is_type_word refl sees h

  module _ (b : ℕ) where
    pub at-word : is_type_word s ≡ true → Done (i + 1) ≡ answer ts (base_of b) i
    at-word h = one_more ts i (word_stands h) ∙ sym (base-is-word (length ts.text.now) ts.count _ b (ap is_type_word (sym sees) ∙ h))

    pub at-not : is_type_word s ≡ false → (s ≡ left_round → ⊥) → Fault 9 (place_of (length ts.text.now) (from ts i)) ≡ answer ts (base_of b) i
    at-not h z = sym (base-is-not (length ts.text.now) ts.count _ b (ap is_type_word (sym sees) ∙ h) (λ w. z (sees ∙ w)))

    pub at-full : s ≡ left_round → b ≡ 0 → Fault 10 (place_of (length ts.text.now) (from ts i)) ≡ answer ts (base_of b) i
    at-full h z = sym (base-is-full (length ts.text.now) ts.count b _ (sym sees ∙ h) z)

    pub at-tuple : {r : Parsed} → s ≡ left_round → (b ≡ 0 → ⊥) → r ≡ answer ts (tuple_types (type (b - 1))) (i + 1)
        → r ≡ answer ts (base_of b) i
    at-tuple h z p =
        p ∙ answer-rest ts i (tuple_types (type (b - 1))) ∙ sym (base-is-tuple (length ts.text.now) ts.count b _ (sym sees ∙ h) z)

    pub pairs-stop : i ≤ ts.count → (s ≡ left_square → ⊥) → Done i ≡ answer ts (dims (ltb 0 b) tensor) i
    pairs-stop l h =
        none_more ts i l
        ∙ sym (ap (outcome ts) (dims-stop (ltb 0 b) tensor _ (λ z. h (sees ∙ z))))

    pub pairs-full : s ≡ left_square → b ≡ 0 → Fault 10 (place_of (length ts.text.now) (from ts i)) ≡ answer ts (dims (ltb 0 b) tensor) i
    pairs-full h z =
        sym
        (ap (λ (y : Bool). answer ts (dims y tensor) i) (le-ltb 0 b (omega arith))
        ∙ ap (outcome ts) (dims-full tensor _ (sym sees ∙ h)))

    -- with a bracket and room for it: the closing bracket, and the pairs after it
    pub pairs-next : s ≡ left_square → (b ≡ 0 → ⊥)
        → answer ts (dims (ltb 0 b) tensor) i ≡ onwards (answer ts (expect right_square) (i + 1))
        (λ j. answer ts (dims (ltb 0 b) tensor) j)
    pairs-next h z =
        let l : 0 < b = omega arith in
        rw (lt-ltb 0 b l)
        (ap (outcome ts) (dims-next tensor _ (sym sees ∙ h))
        ∙ sym (answer-rest ts i (λ ws. then (expect right_square ws) (λ c us. dims true (array_of tensor) us)))
        ∙ chain ts (i + 1) _ ((λ j. answer ts (dims true tensor) j) ∷ [])
        (expect-tails right_square (from ts (i + 1)))
        (λ c j. dims-any (length ts.text.now) ts.count true (array_of tensor) tensor (from ts j)))
