-- What the readers of list items answer at each of their ways out. Assumes nothing.
use mathlib.Core.Path.{◌≡◌, refl, sym, ap, ◌∙◌}
use mathlib.Core.Bool.{Bool, true, false, cond, ◌&&◌, ◌||◌}
use mathlib.Core.Option.{some}
use mathlib.Core.Option.{none as nothing}
use Prim.Native.Nat.{ℕ, zero, suc, ◌+◌, ◌<◌, ◌≤◌}
use native.Mathlib.Omega.{arith}
use mathlib.Core.List.{List, [], ◌∷◌}
use lib.Dec.{eqb}
use borrow.Author.Tests.{eq-eqb, ne_eqb, eqb-true}
use Rattle.lexis.specs.Sizes.{max_brackets}
use lib.ListN.{length}
use Rattle.lexis.specs.Lexer.{Token}
use Rattle.syntax.specs.Read.{Parsed}
use Rattle.syntax.specs.Read.Parsed.{Done}
use Rattle.syntax.specs.declared.list.Item.{Item}
use Rattle.syntax.specs.declared.list.Item.TheVariants.{Name, Parameter, Result, Argument}
use Rattle.lexis.specs.Symbol.{sym_of, is_literal, left_round, right_round, left_square, colon, equal, a_name, minus, a_number}
use Rattle.syntax.specs.Tree.{Literal, unsigned, negated, Value, Values}
use Rattle.syntax.specs.Tree.Value.{name, literal, array, tuple}
use Rattle.syntax.specs.Tree.Arg.{named}
use Rattle.syntax.specs.Grammar.{literals, both}
use Rattle.syntax.specs.Parser.{Parse, then, mapped, expect, begins, rest, row, plain, commas, negative, value_step, bracketed, array_items}
use Rattle.syntax.specs.Parser.{tuple_items, value, type, default, param, typed_name, labelled, argument}
use Rattle.syntax.specs.Parser.Parse.{ok, bad}
use Rattle.syntax.specs.Table.{toks, parsed}
use Rattle.syntax.specs.Tokens.{from, answer}
use Rattle.syntax.specs.declared.tokens.Tokens.{Tokens}
use Rattle.syntax.specs.Inner.{lookahead, is_label, reader}
use Rattle.syntax.proofs.Row.{cond_has}
use Rattle.syntax.proofs.Shrinks.{expect-shrinks, param-shrinks, result-shrinks, argument-shrinks}
use Rattle.syntax.proofs.Tails.{expect-tails, type-tails, param-tails, result-tails, argument-tails}
use Rattle.syntax.proofs.Table.{toks-rest}
use Rattle.syntax.proofs.Chain.{outcome, onwards, clash, chain, steps, steps-append, mapped-same}
use Rattle.syntax.proofs.Symbols.{begins-look, stands, none_more, answer-rest}
use Rattle.syntax.proofs.Rows.{Sound}

pub item-sound : (w : Item) → Sound (reader w)
item-sound Name = record { small = expect-shrinks a_name; tails = expect-tails a_name }
item-sound Parameter = record { small = param-shrinks max_brackets; tails = param-tails max_brackets }
item-sound Result = record { small = result-shrinks max_brackets; tails = result-tails max_brackets }
item-sound Argument = record { small = argument-shrinks max_brackets; tails = argument-tails max_brackets }

-- a terminal, and a list, from the place j on
abbrev pub word : Tokens → ℕ → ℕ → Parsed
word ts s j = answer ts (expect s) j

abbrev pub listed : Tokens → Item → ℕ → Parsed
listed ts w j = answer ts (row plain (commas right_round) (reader w)) j

-- ---- results and parameters

default_none : (b : ℕ) (ts : List Token) → (lookahead ts ≡ equal → ⊥) → default b ts ≡ ok nothing ts
unfolding default
default_none b ts h = simp (begins-look equal ts (omega arith), ne_eqb (lookahead ts) equal h)

default-some : (e n b : ℕ) (ts : List Token) → lookahead ts ≡ equal → parsed e n (default b ts) ≡ parsed e n (value literals b (rest ts))
unfolding default
default-some e n b ts h = simp (begins-look equal ts (omega arith), eq-eqb (lookahead ts) equal h) (mapped-same e n (λ v. some v) (value literals b (rest ts)))

module _ (ts : Tokens) (i b : ℕ) where
  abbrev typed : ℕ → Parsed
  typed j = answer ts (type b) j

  abbrev defaults : ℕ → Parsed
  defaults j = answer ts (default b) j

  pub result-is : answer ts (typed_name b) i ≡ steps (word ts a_name i) (word ts colon ∷ typed ∷ [])
  unfolding typed_name
  result-is =
      chain ts i _ (word ts colon ∷ typed ∷ []) (expect-tails a_name (from ts i)) (λ m j.
      chain ts j _ (typed ∷ []) (expect-tails colon (from ts j)) (λ c k.
      mapped-same (length ts.text.now) ts.count (λ u. record { name = m; ty = u }) (type b (from ts k))))

  pub param_is : answer ts (param b) i ≡ onwards (answer ts (typed_name b) i) defaults
  unfolding param
  param_is =
      chain ts i _ (word ts colon ∷ typed ∷ defaults ∷ []) (expect-tails a_name (from ts i)) (λ m j.
      chain ts j _ (typed ∷ defaults ∷ []) (expect-tails colon (from ts j)) (λ c k.
      chain ts k _ (defaults ∷ []) (type-tails b (from ts k)) (λ u l.
      mapped-same (length ts.text.now) ts.count (λ d. record { name = m; ty = u; default = d }) (default b (from ts l)))))
      ∙ steps-append (word ts a_name i) (word ts colon ∷ typed ∷ []) (defaults ∷ [])
      ∙ ap (λ (z : Parsed). onwards z defaults) (sym result-is)

-- ---- arguments

-- what was read is no name
data Plain : Parse Value → Type 0 where
  a-fault : {c : ℕ} {us : List Token} → Plain (bad c us)
  a-literal : {l : Literal} {us : List Token} → Plain (ok (literal l) us)
  an-array : {t : Token} {vs : Values} {us : List Token} → Plain (ok (array t vs) us)
  a-tuple : {t : Token} {vs : Values} {us : List Token} → Plain (ok (tuple t vs) us)

array_plain : (t : Token) (p : Parse Values) → Plain (mapped (array t) p)
array_plain t (ok vs us) = an-array
array_plain t (bad c us) = a-fault

tuple_plain : (t : Token) (p : Parse Values) → Plain (mapped (tuple t) p)
tuple_plain t (ok vs us) = a-tuple
tuple_plain t (bad c us) = a-fault

negative-plain : (t : Token) (us : List Token) → Plain (negative t us)
unfolding negative
negative-plain t us = go (expect a_number us)
  where
    go : (p : Parse Token) → Plain (mapped (λ n. literal (negated t n)) p)
    go (ok n us) = a-literal
    go (bad c us) = a-fault

plain_by : (t : Token) (us : List Token) (p q s r : Bool) (x : Parse Value) → p ≡ false → Plain x
    → Plain (cond p (ok (name t) us) (cond q (ok (literal (unsigned t)) us) (cond s (negative t us) (cond r x (bad 9 (t ∷ us))))))
plain_by t us true q s r x h y = clash (sym h)
plain_by t us false true s r x h y = a-literal
plain_by t us false false true r x h y = negative-plain t us
plain_by t us false false false true x h y = y
plain_by t us false false false false x h y = a-fault

value-plain : (b : ℕ) (t : Token) (us : List Token) → eqb (sym_of t) a_name ≡ false → Plain (value both b (t ∷ us))
unfolding value value_step bracketed
value-plain zero t us h =
    plain_by t us (eqb (sym_of t) a_name) (is_literal (sym_of t)) (eqb (sym_of t) minus) (eqb (sym_of t) left_square || eqb (sym_of t) left_round) _ h a-fault
value-plain (suc b) t us h =
    plain_by t us (eqb (sym_of t) a_name) (is_literal (sym_of t)) (eqb (sym_of t) minus) (eqb (sym_of t) left_square || eqb (sym_of t) left_round) _ h
    (cond_has (λ p. Plain p) (eqb (sym_of t) left_square) (array_plain t (array_items (λ ws. value both b ws) us))
    (tuple_plain t (tuple_items (λ ws. value both b ws) us)))

value-name : (b : ℕ) (t : Token) (us : List Token) → eqb (sym_of t) a_name ≡ true → value both b (t ∷ us) ≡ ok (name t) us
unfolding value value_step
value-name zero t us h = simp h
value-name (suc b) t us h = simp h

plain-same : (e n b : ℕ) {p : Parse Value} → Plain p → parsed e n (then p (λ v us. labelled v (begins equal us) b us)) ≡ parsed e n p
plain-same e n b a-fault = refl
plain-same e n b a-literal = refl
plain-same e n b an-array = refl
plain-same e n b a-tuple = refl

module _ (e n b : ℕ) (t : Token) (us : List Token) where
  label-by : (p q : Bool) → eqb (sym_of t) a_name ≡ p → eqb (lookahead us) equal ≡ q → (p && q) ≡ true
      → parsed e n (argument b (t ∷ us)) ≡ parsed e n (value both b (rest us))
  unfolding argument
  label-by true true h k z = simp (value-name b t us h, begins-look equal us (omega arith), k) (mapped-same e n (named t) (value both b (rest us)))
  label-by true false h k z = clash z
  label-by false q h k z = clash z

  other-by : (p q : Bool) → eqb (sym_of t) a_name ≡ p → eqb (lookahead us) equal ≡ q → (p && q) ≡ false
      → parsed e n (argument b (t ∷ us)) ≡ parsed e n (value both b (t ∷ us))
  unfolding argument
  other-by true true h k z = clash (sym z)
  other-by true false h k z = simp (value-name b t us h, begins-look equal us (omega arith), k)
  other-by false q h k z = plain-same e n b (value-plain b t us h)

argument-label : (e n b : ℕ) (ts : List Token) → is_label ts ≡ true → parsed e n (argument b ts) ≡ parsed e n (value both b (rest (rest ts)))
argument-label e n b [] h = clash h
argument-label e n b (t ∷ us) h = label-by e n b t us _ _ refl refl h

argument-other : (e n b : ℕ) (ts : List Token) → is_label ts ≡ false → parsed e n (argument b ts) ≡ parsed e n (value both b ts)
unfolding argument value value_step
argument-other e n zero [] h = refl
argument-other e n (suc b) [] h = refl
argument-other e n zero (t ∷ us) h = other-by e n zero t us _ _ refl refl h
argument-other e n (suc b) (t ∷ us) h = other-by e n (suc b) t us _ _ refl refl h

-- ---- the ways out of the code, by the terminal s at place i

module _ (ts : Tokens) (i : ℕ) {s : ℕ} (sees : s ≡ lookahead (from ts i)) where
  pub no_label : (s ≡ a_name → ⊥) → eqb s a_name ≡ is_label (from ts i)
  no_label h = ne_eqb s a_name h ∙ simp (ne_eqb (lookahead (from ts i)) a_name (λ z. h (sees ∙ z)))

  pub name-label : {s' : ℕ} → s' ≡ lookahead (from ts (i + 1)) → s ≡ a_name → eqb s' equal ≡ is_label (from ts i)
  name-label w h =
      ap (λ (k : ℕ). eqb k equal) (w ∙ ap lookahead (sym (toks-rest ts.text.now ts.table.now ts.count i)))
      ∙ simp (eq-eqb (lookahead (from ts i)) a_name (sym sees ∙ h))

  module _ (b : ℕ) where
    pub at_none : i ≤ ts.count → (s ≡ equal → ⊥) → Done i ≡ answer ts (default b) i
    at_none l h = none_more ts i l ∙ sym (ap (outcome ts) (default_none b _ (λ z. h (sees ∙ z))))

    pub at_default : {r : Parsed} → s ≡ equal → r ≡ answer ts (value literals b) (i + 1) → r ≡ answer ts (default b) i
    at_default h p =
        p ∙ answer-rest ts i (value literals b) ∙ sym (default-some (length ts.text.now) ts.count b _ (sym sees ∙ h))

module _ (text table : List ℕ) (n i : ℕ) where
  -- where a label stands there are two tokens
  pub label-stands : is_label (toks text table n i) ≡ true → i + 1 < n
  label-stands h = go _ _ refl refl h
    where
      go : (p q : Bool) → eqb (lookahead (toks text table n i)) a_name ≡ p → eqb (lookahead (rest (toks text table n i))) equal ≡ q → (p && q) ≡ true
          → i + 1 < n
      go true true x y z =
          stands text table n (i + 1) (sym (eqb-true _ _ (sym (ap (λ (ts : List Token). eqb (lookahead ts) equal) (toks-rest text table n i)) ∙ y)))
          (omega arith)
      go true false x y z = clash z
      go false q x y z = clash z

module _ (ts : Tokens) (i b : ℕ) {r : Parsed} where
  pub at_label : is_label (from ts i) ≡ true → r ≡ answer ts (value both b) (i + 2)
      → r ≡ answer ts (argument b) i
  at_label h p =
      let q : i + 2 ≡ i + 1 + 1 = omega arith in
      p ∙ ap (λ (k : ℕ). answer ts (value both b) k) q
      ∙ answer-rest ts (i + 1) (value both b)
      ∙ answer-rest ts i (λ ws. value both b (rest ws))
      ∙ sym (argument-label (length ts.text.now) ts.count b _ h)

  pub at_other : is_label (from ts i) ≡ false → r ≡ answer ts (value both b) i
      → r ≡ answer ts (argument b) i
  at_other h p = p ∙ sym (argument-other (length ts.text.now) ts.count b _ h)
