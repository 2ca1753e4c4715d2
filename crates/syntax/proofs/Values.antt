-- What the readers of values answer at each of their ways out. Assumes nothing.
use mathlib.Core.Path.{◌≡◌, refl, sym, ap, ◌∙◌}
use mathlib.Core.Bool.{Bool, true, false, cond, ◌&&◌, ◌||◌}
use Prim.Native.Nat.{ℕ, zero, suc, ◌+◌, ◌-◌, ◌<◌}
use native.Mathlib.Omega.{arith}
use mathlib.Core.List.{List, [], ◌∷◌}
use lib.Dec.{eqb}
use lib.ListN.{length}
use borrow.Author.Tests.{eq-eqb, ne_eqb}
use Rattle.lexis.specs.Lexer.{Token}
use Rattle.syntax.specs.Read.{Parsed}
use Rattle.syntax.specs.Read.Parsed.{Done, Fault}
use Rattle.lexis.specs.Symbol.{sym_of, is_literal, right_round, left_square, right_square, comma, minus, a_name, a_number}
use Rattle.syntax.specs.Tree.{unsigned, negated, Value}
use Rattle.syntax.specs.Tree.Value.{name, literal, array, tuple}
use Rattle.syntax.specs.Tree.Values.{more}
use Rattle.syntax.specs.Grammar.{Leaves, names, literals, both, takes_names, takes_literals}
use Rattle.syntax.specs.Parser.{Parse, Reader, expect, rest, row, values, commas, negative, value_step, array_items, tuple_items, bracketed, value}
use Rattle.syntax.specs.Parser.Parse.{ok, bad}
use Rattle.syntax.specs.Table.{place_of, parsed}
use Rattle.syntax.specs.Tokens.{from, answer}
use Rattle.syntax.specs.declared.tokens.Tokens.{Tokens}
use Rattle.syntax.specs.Inner.{the_end, lookahead, is_leaf, after_sign, opens}
use Rattle.syntax.proofs.Shrinks.{value-shrinks}
use Rattle.syntax.proofs.Tails.{expect-tails, value-tails}
use Rattle.syntax.proofs.Chain.{clash, chain, steps, mapped-same}
use Rattle.syntax.proofs.Symbols.{begun, end-not, begins-look, stands, stands_by, one_more, answer-rest}
use Rattle.syntax.proofs.Rows.{Sound}

pub value-sound : (m : Leaves) (b : ℕ) → Sound (value m b)
value-sound m b = record { small = value-shrinks m b; tails = value-tails m b }

-- ---- leaves

pub no-leaf : (m : Leaves) → is_leaf m the_end ≡ false
unfolding is_leaf
no-leaf names = refl
no-leaf literals = refl
no-leaf both = refl

-- ---- a value by its first token

module _ (e n : ℕ) where
  leaf-by : (t : Token) (us : List Token) (p q : Bool) (z : Parse Value) → (p || q) ≡ true
      → parsed e n (cond p (ok (name t) us) (cond q (ok (literal (unsigned t)) us) z)) ≡ Done (n - length us)
  leaf-by t us true q z h = refl
  leaf-by t us false true z h = refl
  leaf-by t us false false z h = clash h

  step-leaf : (m : Leaves) (opened : Token → Reader Value) (ts : List Token) → is_leaf m (lookahead ts) ≡ true
      → parsed e n (value_step m opened ts) ≡ Done (n - length (rest ts))
  unfolding value_step is_leaf
  step-leaf m opened [] h = clash (sym (no-leaf m) ∙ h)
  step-leaf m opened (t ∷ us) h = leaf-by t us (takes_names m && eqb (sym_of t) a_name) (takes_literals m && is_literal (sym_of t)) _ h

open_by : (t : Token) (us : List Token) (p q s r : Bool) (x y z : Parse Value) → (p || q) ≡ false → s ≡ false → r ≡ true
    → cond p (ok (name t) us) (cond q (ok (literal (unsigned t)) us) (cond s x (cond r y z))) ≡ y
open_by t us true q s r x y z h k l = clash (sym h)
open_by t us false true s r x y z h k l = clash (sym h)
open_by t us false false true r x y z h k l = clash (sym k)
open_by t us false false false true x y z h k l = refl
open_by t us false false false false x y z h k l = clash l

sign-not : (m : Leaves) (s : ℕ) → (s ≡ minus → ⊥) → (takes_literals m && eqb s minus) ≡ false
sign-not names s h = refl
sign-not literals s h = ne_eqb s minus h
sign-not both s h = ne_eqb s minus h

-- a bracket
step-open : (m : Leaves) (opened : Token → Reader Value) (ts : List Token) → is_leaf m (lookahead ts) ≡ false → opens (lookahead ts) ≡ true
    → value_step m opened ts ≡ begun opened ts
unfolding value_step is_leaf
step-open m opened [] h o = clash o
step-open m opened (t ∷ us) h o =
    open_by t us (takes_names m && eqb (sym_of t) a_name) (takes_literals m && is_literal (sym_of t)) (takes_literals m && eqb (sym_of t) minus)
    (opens (sym_of t)) (negative t us) (opened t us) (bad 9 (t ∷ us)) h (sign-not m (sym_of t) (λ z. clash (sym (ap opens z) ∙ o))) o

-- neither a leaf nor a bracket: a sign and a number, where literals may stand
module _ (e n : ℕ) where
  other-by : (t : Token) (us : List Token) (p q s r : Bool) (y : Parse Value) → (p || q) ≡ false → r ≡ false
      → parsed e n (cond p (ok (name t) us) (cond q (ok (literal (unsigned t)) us) (cond s (negative t us) (cond r y (bad 9 (t ∷ us))))))
      ≡ parsed e n (cond s (expect a_number us) (bad 9 (t ∷ us)))
  unfolding negative
  other-by t us true q s r y h k = clash (sym h)
  other-by t us false true s r y h k = clash (sym h)
  other-by t us false false true r y h k = mapped-same e n (λ x. literal (negated t x)) (expect a_number us)
  other-by t us false false false true y h k = clash (sym k)
  other-by t us false false false false y h k = refl

  step_other : (m : Leaves) (opened : Token → Reader Value) (ts : List Token) → is_leaf m (lookahead ts) ≡ false → opens (lookahead ts) ≡ false
      → parsed e n (value_step m opened ts) ≡ parsed e n (after_sign m ts)
  unfolding value_step is_leaf
  step_other m opened [] h o = rw (sign-not m the_end (λ z. omega arith))
  step_other m opened (t ∷ us) h o =
      other-by t us (takes_names m && eqb (sym_of t) a_name) (takes_literals m && is_literal (sym_of t)) (takes_literals m && eqb (sym_of t) minus)
      (opens (sym_of t)) (opened t us) h o

pub value-leaf : (m : Leaves) (e n b : ℕ) (ts : List Token) → is_leaf m (lookahead ts) ≡ true → parsed e n (value m b ts) ≡ Done (n - length (rest ts))
unfolding value
value-leaf m e n zero ts h = step-leaf e n m _ ts h
value-leaf m e n (suc b) ts h = step-leaf e n m _ ts h

module _ (m : Leaves) (e n : ℕ) (ts : List Token) (h : is_leaf m (lookahead ts) ≡ false) where
  pub value-other : (b : ℕ) → opens (lookahead ts) ≡ false → parsed e n (value m b ts) ≡ parsed e n (after_sign m ts)
  unfolding value
  value-other zero o = step_other e n m _ ts h o
  value-other (suc b) o = step_other e n m _ ts h o

  module _ (o : opens (lookahead ts) ≡ true) where
    value-deep : parsed e n (value m 0 ts) ≡ Fault 10 (place_of e ts)
    unfolding value
    value-deep = rw (step-open m _ ts h o) (deep ts o)
      where
        deep : (us : List Token) → opens (lookahead us) ≡ true → parsed {A = Value} e n (begun (λ t us. bad 10 (t ∷ us)) us) ≡ Fault 10 (place_of e us)
        deep [] o = clash o
        deep (t ∷ us) o = refl

    -- a bracket where none may be opened
    pub value-full : (b : ℕ) → b ≡ 0 → parsed e n (value m b ts) ≡ Fault 10 (place_of e ts)
    value-full b z = ap (λ (k : ℕ). parsed e n (value m k ts)) z ∙ value-deep

    module _ (b : ℕ) (room : b ≡ 0 → ⊥) where
      inside : parsed e n (value m b ts) ≡ parsed e n (begun (bracketed (λ ws. value m (b - 1) ws)) ts)
      unfolding value
      inside = let q : b ≡ suc (b - 1) = omega arith in ap (λ (k : ℕ). parsed e n (value m k ts)) q ∙ rw (step-open m _ ts h o)

      pub value-array : lookahead ts ≡ left_square → parsed e n (value m b ts) ≡ parsed e n (array_items (value m (b - 1)) (rest ts))
      unfolding bracketed
      value-array s = inside ∙ go ts s
        where
          go : (us : List Token) → lookahead us ≡ left_square
              → parsed e n (begun (bracketed (λ ws. value m (b - 1) ws)) us) ≡ parsed e n (array_items (value m (b - 1)) (rest us))
          go [] s = absurd (end-not left_square (omega arith) s)
          go (t ∷ us) s = simp (eq-eqb (sym_of t) left_square s) (mapped-same e n (array t) (array_items (value m (b - 1)) us))

      pub value-tuple : (lookahead ts ≡ left_square → ⊥) → parsed e n (value m b ts) ≡ parsed e n (tuple_items (value m (b - 1)) (rest ts))
      unfolding bracketed
      value-tuple s = inside ∙ go ts o s
        where
          go : (us : List Token) → opens (lookahead us) ≡ true → (lookahead us ≡ left_square → ⊥)
              → parsed e n (begun (bracketed (λ ws. value m (b - 1) ws)) us) ≡ parsed e n (tuple_items (value m (b - 1)) (rest us))
          go [] o s = clash o
          go (t ∷ us) o s = simp (ne_eqb (sym_of t) left_square s) (mapped-same e n (tuple t) (tuple_items (value m (b - 1)) us))

-- ---- brackets

module _ (val : Reader Value) (e n : ℕ) (ts : List Token) where
  pub array-close : lookahead ts ≡ right_square → parsed e n (array_items val ts) ≡ Done (n - length (rest ts))
  unfolding array_items
  array-close h = simp (begins-look right_square ts (omega arith), eq-eqb (lookahead ts) right_square h)

  pub array-items : (lookahead ts ≡ right_square → ⊥) → parsed e n (array_items val ts) ≡ parsed e n (row values (commas right_square) val ts)
  unfolding array_items
  array-items h = simp (begins-look right_square ts (omega arith), ne_eqb (lookahead ts) right_square h)

module _ (ts : Tokens) (i : ℕ) (m : Leaves) (b : ℕ) where
  pub tuple_is : answer ts (tuple_items (value m b)) i ≡ steps (answer ts (value m b) i)
      ((λ j. answer ts (expect comma) j) ∷ (λ j. answer ts (row values (commas right_round) (value m b)) j) ∷ [])
  unfolding tuple_items
  tuple_is =
      chain ts i _
      ((λ j. answer ts (expect comma) j) ∷ (λ j. answer ts (row values (commas right_round) (value m b)) j) ∷ [])
      (value-tails m b (from ts i)) (λ v j.
      chain ts j _ ((λ j. answer ts (row values (commas right_round) (value m b)) j) ∷ [])
      (expect-tails comma (from ts j)) (λ c k. mapped-same (length ts.text.now) ts.count (more v) (row values (commas right_round) (value m b) (from ts k))))

-- ---- the ways out of the code, by the terminal s at place i

module _ (ts : Tokens) (i : ℕ) {s : ℕ} (sees : s ≡ lookahead (from ts i)) where
  pub leaf-stands : (m : Leaves) → is_leaf m s ≡ true → i < ts.count
  leaf-stands m h = stands_by ts.text.now ts.table.now ts.count i (is_leaf m) (no-leaf m) sees h

  pub open-stands : opens s ≡ true → i < ts.count
  open-stands h = stands_by ts.text.now ts.table.now ts.count i opens refl sees h

  pub at-close : (val : Reader Value) → s ≡ right_square → Done (i + 1) ≡ answer ts (array_items val) i
  at-close val h =
      one_more ts i (stands ts.text.now ts.table.now ts.count i sees (omega arith))
      ∙ sym (array-close val (length ts.text.now) ts.count _ (sym sees ∙ h))

  pub at-items : (val : Reader Value) {r : Parsed} → (s ≡ right_square → ⊥) → r ≡ answer ts (row values (commas right_square) val) i
      → r ≡ answer ts (array_items val) i
  at-items val h p = p ∙ sym (array-items val (length ts.text.now) ts.count _ (λ z. h (sees ∙ z)))

  module _ (m : Leaves) (b : ℕ) where
    pub at_leaf : is_leaf m s ≡ true → Done (i + 1) ≡ answer ts (value m b) i
    at_leaf h = one_more ts i (leaf-stands m h) ∙ sym (value-leaf m (length ts.text.now) ts.count b _ (ap (is_leaf m) (sym sees) ∙ h))

    module _ (leaf : is_leaf m s ≡ false) where
      seen : is_leaf m (lookahead (from ts i)) ≡ false
      seen = ap (is_leaf m) (sym sees) ∙ leaf

      pub at_other : {r : Parsed} → opens s ≡ false → r ≡ answer ts (after_sign m) i → r ≡ answer ts (value m b) i
      at_other o p = p ∙ sym (value-other m (length ts.text.now) ts.count _ seen b (ap opens (sym sees) ∙ o))

      module _ (o : opens s ≡ true) where
        pub at-full : b ≡ 0 → Fault 10 (place_of (length ts.text.now) (from ts i)) ≡ answer ts (value m b) i
        at-full z = sym (value-full m (length ts.text.now) ts.count _ seen (ap opens (sym sees) ∙ o) b z)

        pub at-array : {r : Parsed} → (b ≡ 0 → ⊥) → s ≡ left_square → r ≡ answer ts (array_items (value m (b - 1))) (i + 1)
            → r ≡ answer ts (value m b) i
        at-array z q p =
            p ∙ answer-rest ts i (array_items (value m (b - 1)))
            ∙ sym (value-array m (length ts.text.now) ts.count _ seen (ap opens (sym sees) ∙ o) b z (sym sees ∙ q))

        pub at-tuple : {r : Parsed} → (b ≡ 0 → ⊥) → (s ≡ left_square → ⊥) → r ≡ answer ts (tuple_items (value m (b - 1))) (i + 1)
            → r ≡ answer ts (value m b) i
        at-tuple z q p =
            p ∙ answer-rest ts i (tuple_items (value m (b - 1)))
            ∙ sym (value-tuple m (length ts.text.now) ts.count _ seen (ap opens (sym sees) ∙ o) b z (λ w. q (sees ∙ w)))

  -- what begins with no sign; where literals may not stand; a sign, and what is asked of the token after it
  module _ (m : Leaves) where
    pub at-no-sign : (s ≡ minus → ⊥) → Fault 9 (place_of (length ts.text.now) (from ts i)) ≡ answer ts (after_sign m) i
    at-no-sign h = rw (sign-not m (lookahead (from ts i)) (λ z. h (sees ∙ z)))

    pub at-lost-sign : takes_literals m ≡ false → Fault 9 (place_of (length ts.text.now) (from ts i)) ≡ answer ts (after_sign m) i
    at-lost-sign t = rw t

    pub at_sign : {r : Parsed} → s ≡ minus → takes_literals m ≡ true → r ≡ answer ts (expect a_number) (i + 1)
        → r ≡ answer ts (after_sign m) i
    at_sign h t p =
        rw (t, eq-eqb (lookahead (from ts i)) minus (sym sees ∙ h))
        (p ∙ answer-rest ts i (expect a_number))
