-- Every reader is local under any bracket limit: what it gives depends on the tokens that it takes and on the first one after them.
-- `Local` says what that means and has the laws. Assumes nothing.
use mathlib.Core.Path.{◌≡◌, refl, ap}
use mathlib.Core.Bool.{Bool, true, false, cond, ◌&&◌, ◌||◌}
use mathlib.Core.List.{List, [], ◌∷◌}
use mathlib.Core.Option.{Option, some}
use mathlib.Core.Option.{none as nothing}
use Prim.Native.Nat.{ℕ, zero, suc, ◌<◌}
use native.Mathlib.Nat.{le_refl}
use native.Mathlib.Omega.{arith}
use lib.Dec.{eqb}
use lib.ListN.{length}
use Rattle.lexis.specs.Lexer.{Token}
use Rattle.lexis.specs.Symbol.{sym_of, is_literal, left_round, left_square, right_square, left_curly, colon, equal, comma, semicolon, arrow, a_name, a_number}
use Rattle.lexis.specs.Symbol.{version, minus, graph, fragment}
use Rattle.syntax.specs.Tree.{unsigned, negated, Value, Ty}
use Rattle.syntax.specs.Tree.Value.{name, literal, array, tuple}
use Rattle.syntax.specs.Tree.Ty.{array_of}
use Rattle.syntax.specs.Tree.Arg.{positional}
use Rattle.syntax.specs.Grammar.{Leaves, names, literals, both, takes_names, takes_literals}
use Rattle.syntax.specs.Parser.{Parse, Reader, then, expect, begins, rest, negative, value_step, array_items, tuple_items, bracketed, value, type_name, dims}
use Rattle.syntax.specs.Parser.{tuple_types, named-type, base_step, type, default, param, typed_name, header, operations, labelled, argument, left, call}
use Rattle.syntax.specs.Parser.{at_end, document}
use Rattle.syntax.specs.Parser.Parse.{ok, bad}
use Rattle.syntax.proofs.Row.{Shrinks, left-ok}
use Rattle.syntax.proofs.Shrinks.{expect-shrinks, value-shrinks, type-shrinks, param-shrinks, result-shrinks, header-shrinks, argument-shrinks}
use Rattle.syntax.proofs.Shrinks.{call-shrinks}
use Rattle.syntax.proofs.Local.{Fixed, Local, look-fixed, end-fixed, token-fixed, ok-local, nine-local, ten-local, rest-fixed, cond-fixed, begins-alike}
use Rattle.syntax.proofs.Local.{begins-local, expect-local, then-fixed, then-local, mapped-local, row-local}

-- a reader of the tokens after the first one, t, is local as a reader of them all; it may leave t too
abbrev LocalAfter : {A : Type 0} → (Token → Reader A) → Type 0
LocalAfter f = (t : Token) (ts : List Token) → Fixed (λ ws. f t (rest ws)) (t ∷ ts) (f t ts)

too-deep : {A : Type 0} → LocalAfter {A = A} (λ t us. bad 10 (t ∷ us))
too-deep t ts = token-fixed (λ us. refl) (ten-local (t ∷ ts))

-- ---- values

negative-local : (t : Token) → Local (negative t)
unfolding negative
negative-local t = mapped-local (λ n. literal (negated t n)) (expect-local a_number)

value-step-local : (m : Leaves) (opened : Token → Reader Value) → LocalAfter opened → Local (value_step m opened)
unfolding value_step
value-step-local m opened h [] = end-fixed refl (nine-local [])
value-step-local m opened h (t ∷ ts) =
    token-fixed (λ us. refl)
    (cond-fixed (takes_names m && eqb (sym_of t) a_name) (rest-fixed (t ∷ ts) (ok-local (name t) ts))
    (cond-fixed (takes_literals m && is_literal (sym_of t)) (rest-fixed (t ∷ ts) (ok-local (literal (unsigned t)) ts))
    (cond-fixed (takes_literals m && eqb (sym_of t) minus) (rest-fixed (t ∷ ts) (negative-local t ts))
    (cond-fixed (eqb (sym_of t) left_square || eqb (sym_of t) left_round) (h t ts) (nine-local (t ∷ ts))))))

module _ (val : Reader Value) (small : Shrinks val) (h : Local val) where
  array-local : Local (array_items val)
  unfolding array_items
  array-local = begins-local right_square (λ ts. rest-fixed ts (ok-local _ (rest ts))) (row-local _ _ val small h)

  tuple-local : Local (tuple_items val)
  unfolding tuple_items
  tuple-local = then-local h (λ v. then-local (expect-local comma) (λ c. mapped-local _ (row-local _ _ val small h)))

  bracketed-local : LocalAfter (bracketed val)
  unfolding bracketed
  bracketed-local t ts =
      rest-fixed (t ∷ ts) (cond-fixed (eqb (sym_of t) left_square) (mapped-local (array t) array-local ts) (mapped-local (tuple t) tuple-local ts))

pub value-local : (m : Leaves) (b : ℕ) → Local (value m b)
unfolding value
value-local m zero = value-step-local m _ too-deep
value-local m (suc b) = value-step-local m _ (bracketed-local (value m b) (value-shrinks m b) (value-local m b))

-- ---- types

-- to go on after a choice is to choose how to go on
then-cond : {A B : Type 0} (x y : Parse A) (k : A → Reader B) (c : Bool) → then (cond c x y) k ≡ cond c (then x k) (then y k)
then-cond x y k true = refl
then-cond x y k false = refl

-- one pair of square brackets, and the others
pub dims-is : (may : Bool) (u : Ty) (o : Token) (ts : List Token) →
    dims may u (o ∷ ts) ≡ cond (eqb (sym_of o) left_square) (cond may (then (expect right_square ts) (λ c us. dims may (array_of u) us)) (bad 10 (o ∷ ts)))
    (ok u (o ∷ ts))
unfolding dims expect
dims-is may u o [] = refl
dims-is may u o (c ∷ ts) = rw then-cond

dims-fixed : (n : ℕ) (may : Bool) (u : Ty) (ts : List Token) → length ts < n → Fixed (dims may u) ts (dims may u ts)
unfolding dims
dims-fixed zero may u ts p = absurd (omega arith)
dims-fixed (suc n) may u [] p = end-fixed refl (ok-local u [])
dims-fixed (suc n) may u (o ∷ ts) p =
    rw (dims-is may u o ts) (token-fixed (dims-is may u o)
    (cond-fixed (eqb (sym_of o) left_square)
    (cond-fixed may (rest-fixed (o ∷ ts) (then-fixed (expect right_square ts) (expect-local right_square ts) (λ c us e.
    let q = left-ok (rw e at (expect-shrinks right_square ts)) in
    dims-fixed n may (array_of u) us (omega arith)))) (ten-local (o ∷ ts)))
    (ok-local u (o ∷ ts))))

pub dims-local : (may : Bool) (u : Ty) → Local (dims may u)
dims-local may u ts = dims-fixed (suc (length ts)) may u ts (le_refl (suc (length ts)))

tuple-types-local : (ty : Reader Ty) → Shrinks ty → Local ty → Local (tuple_types ty)
unfolding tuple_types
tuple-types-local ty small h = then-local h (λ u. then-local (expect-local comma) (λ c. mapped-local _ (row-local _ _ ty small h)))

named-type-local : (o : Option Ty) → LocalAfter (named-type o)
named-type-local (some u) t ts = rest-fixed (t ∷ ts) (ok-local u ts)
named-type-local nothing t ts = token-fixed (λ us. refl) (nine-local (t ∷ ts))

base-step-local : (opened : Token → Reader Ty) → LocalAfter opened → Local (base_step opened)
unfolding base_step
base-step-local opened h [] = end-fixed refl (nine-local [])
base-step-local opened h (t ∷ ts) = token-fixed (λ us. refl) (cond-fixed (eqb (sym_of t) left_round) (h t ts) (named-type-local (type_name (sym_of t)) t ts))

pub type-local : (b : ℕ) → Local (type b)
unfolding type
type-local zero = then-local (base-step-local _ too-deep) (dims-local false)
type-local (suc b) =
    then-local (base-step-local _ (λ t ts. rest-fixed (t ∷ ts) (tuple-types-local (type b) (type-shrinks b) (type-local b) ts))) (dims-local true)

-- ---- operation lists

pub default-local : (b : ℕ) → Local (default b)
unfolding default
default-local b = begins-local equal (λ ts. rest-fixed ts (mapped-local some (value-local literals b) (rest ts))) (ok-local nothing)

pub param-local : (b : ℕ) → Local (param b)
unfolding param
param-local b =
    then-local (expect-local a_name) (λ n.
    then-local (expect-local colon) (λ c.
    then-local (type-local b) (λ u.
    mapped-local _ (default-local b))))

pub result-local : (b : ℕ) → Local (typed_name b)
unfolding typed_name
result-local b =
    then-local (expect-local a_name) (λ n.
    then-local (expect-local colon) (λ c.
    mapped-local _ (type-local b)))

pub header-local : (b : ℕ) → Local (header b)
unfolding header
header-local b =
    then-local (expect-local fragment) (λ f.
    then-local (expect-local a_name) (λ n.
    then-local (expect-local left_round) (λ o.
    then-local (row-local _ _ _ (param-shrinks b) (param-local b)) (λ ps.
    then-local (expect-local arrow) (λ a.
    then-local (expect-local left_round) (λ o.
    mapped-local _ (row-local _ _ _ (result-shrinks b) (result-local b))))))))

pub operations-local : (b : ℕ) → Local (operations b)
unfolding operations
operations-local b [] = end-fixed refl (ok-local [] [])
operations-local b (t ∷ ts) = token-fixed (λ us. refl) (row-local _ _ _ (header-shrinks b) (header-local b) (t ∷ ts))

-- ---- documents

labelled-local : (v : Value) (e : Bool) (b : ℕ) → Local (labelled v e b)
labelled-local (name t) true b = λ ts. rest-fixed ts (mapped-local _ (value-local both b) (rest ts))
labelled-local (name t) false b = ok-local (positional (name t))
labelled-local (literal l) e b = ok-local (positional (literal l))
labelled-local (array t vs) e b = ok-local (positional (array t vs))
labelled-local (tuple t vs) e b = ok-local (positional (tuple t vs))

pub argument-local : (b : ℕ) → Local (argument b)
unfolding argument
argument-local b =
    then-local (value-local both b) (λ v us.
    look-fixed (λ ws al. ap (λ e. labelled v e b ws) (begins-alike equal al)) (labelled-local v (begins equal us) b us))

pub left-local : (b : ℕ) → Local (left b)
unfolding left
left-local b [] = end-fixed refl (nine-local [])
left-local b (t ∷ ts) =
    token-fixed (λ us. refl) (then-local (value-local names b) (λ v.
    begins-local equal (λ us. rest-fixed us (ok-local v (rest us)))
    (then-local (expect-local comma) (λ c. mapped-local _ (row-local _ _ _ (value-shrinks names b) (value-local names b)))))
    (t ∷ ts))

semicolon-local : {A : Type 0} (a : A) → Local (λ us. ok a (cond (begins semicolon us) (rest us) us))
semicolon-local a us = look-fixed (λ ws al. ap (λ c. ok a (cond c (rest ws) ws)) (begins-alike semicolon al)) (go (begins semicolon us) us)
  where
    go : (c : Bool) → Local (λ us. ok a (cond c (rest us) us))
    go true us = rest-fixed us (ok-local a (rest us))
    go false us = ok-local a us

pub call-local : (b : ℕ) → Local (call b)
unfolding call
call-local b =
    then-local (left-local b) (λ v.
    then-local (expect-local a_name) (λ n.
    then-local (expect-local left_round) (λ o.
    then-local (row-local _ _ _ (argument-shrinks b) (argument-local b)) (λ xs.
    semicolon-local _))))

at-end-local : {A : Type 0} (a : A) → Local (at_end a)
at-end-local a [] = end-fixed refl (ok-local a [])
at-end-local a (t ∷ ts) = token-fixed (λ us. refl) (nine-local (t ∷ ts))

pub document-local : (b : ℕ) → Local (document b)
unfolding document
document-local b =
    then-local (expect-local version) (λ v.
    then-local (expect-local a_number) (λ l.
    then-local (expect-local graph) (λ g.
    then-local (expect-local a_name) (λ n.
    then-local (expect-local left_round) (λ o.
    then-local (row-local _ _ _ (expect-shrinks a_name) (expect-local a_name)) (λ is.
    then-local (expect-local arrow) (λ a.
    then-local (expect-local left_round) (λ o.
    then-local (row-local _ _ _ (expect-shrinks a_name) (expect-local a_name)) (λ os.
    then-local (expect-local left_curly) (λ q.
    then-local (row-local _ _ _ (call-shrinks b) (call-local b)) (λ cs.
    at-end-local _)))))))))))
