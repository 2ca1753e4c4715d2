-- Every reader leaves fewer tokens than it was given; one that may take nothing leaves no more. So each can be the item of a row.
-- Assumes nothing.
use mathlib.Core.Bool.{Bool, true, false, cond, ◌&&◌, ◌||◌}
use mathlib.Core.List.{List, [], ◌∷◌}
use mathlib.Core.Option.{Option, some}
use mathlib.Core.Option.{none as nothing}
use Prim.Native.Nat.{ℕ, zero, suc, ◌<◌}
use native.Mathlib.Nat.{le_refl, le_trans, le_of_lt}
use native.Mathlib.Omega.{arith}
use lib.Dec.{eqb}
use lib.ListN.{length}
use Rattle.lexis.specs.Lexer.{Token}
use Rattle.lexis.specs.Symbol.{sym_of, is_literal, left_round, left_square, right_square, colon, equal, comma, semicolon, arrow, a_name, fragment}
use Rattle.lexis.specs.Symbol.{minus, a_number}
use Rattle.syntax.specs.Tree.{Value, Ty}
use Rattle.syntax.specs.Tree.Value.{name, literal, array, tuple}
use Rattle.syntax.specs.Tree.Ty.{array_of}
use Rattle.syntax.specs.Grammar.{Leaves, names, literals, both, takes_names, takes_literals}
use Rattle.syntax.specs.Parser.{Parse, Reader, expect, begins, rest, negative, value_step, array_items, tuple_items, bracketed, value, type_name, dims}
use Rattle.syntax.specs.Parser.{tuple_types, named-type, base_step, type, default, param, typed_name, header, labelled, argument, left, call}
use Rattle.syntax.specs.Parser.Parse.{ok}
use Rattle.syntax.proofs.Row.{cond_has, Left, Shrinks, then-left, mapped-left, left_le, row-shrinks}
use Rattle.syntax.proofs.Row.Left.{fewer, fault}

-- no more tokens are left than were given
abbrev pub NoLonger : {A : Type 0} → Reader A → Type 0
NoLonger item = (ts : List Token) → Left (suc (length ts)) (item ts)

-- a choice between two readers
cond-left : {A : Type 0} {n : ℕ} {x y : Parse A} (c : Bool) → Left n x → Left n y → Left n (cond c x y)
cond-left {n = n} c p q = cond_has (λ z. Left n z) c p q

-- a reader that shrinks, where fewer than n tokens are left
still : {A : Type 0} {n : ℕ} {item : Reader A} {us : List Token} → Shrinks item → length us < n → Left n (item us)
still {us = us} h p = left_le (le_of_lt p) (h us)

keeps : {A : Type 0} {n : ℕ} {x : Parse A} → Left n x → Left (suc n) x
keeps h = left_le (omega arith) h

nothing-taken : {A : Type 0} {a : A} (ts : List Token) → Left (suc (length ts)) (ok a ts)
nothing-taken ts = fewer (le_refl (suc (length ts)))

rest_lt : (ts : List Token) → length (rest ts) < suc (length ts)
rest_lt [] = omega arith
rest_lt (t ∷ ts) = omega arith

pub expect-shrinks : (s : ℕ) → Shrinks (expect s)
unfolding expect
expect-shrinks s [] = fault
expect-shrinks s (t ∷ ts) = cond-left (eqb (sym_of t) s) (fewer (omega arith)) fault

-- ---- values

negative-shrinks : (t : Token) → Shrinks (negative t)
unfolding negative
negative-shrinks t ts = mapped-left _ (expect-shrinks a_number ts)

value-step-shrinks : (m : Leaves) (opened : Token → Reader Value) → ((t : Token) → NoLonger (opened t)) → Shrinks (value_step m opened)
unfolding value_step
value-step-shrinks m opened h [] = fault
value-step-shrinks m opened h (t ∷ ts) =
    cond-left (takes_names m && eqb (sym_of t) a_name) (fewer (omega arith))
    (cond-left (takes_literals m && is_literal (sym_of t)) (fewer (omega arith))
    (cond-left (takes_literals m && eqb (sym_of t) minus) (keeps (negative-shrinks t ts))
    (cond-left (eqb (sym_of t) left_square || eqb (sym_of t) left_round) (h t ts) fault)))

module _ (val : Reader Value) (h : Shrinks val) where
  array-shrinks : Shrinks (array_items val)
  unfolding array_items
  array-shrinks [] = row-shrinks _ _ val h []
  array-shrinks (t ∷ ts) = cond-left (eqb (sym_of t) right_square) (fewer (omega arith)) (row-shrinks _ _ val h (t ∷ ts))

  tuple-shrinks : Shrinks (tuple_items val)
  unfolding tuple_items
  tuple-shrinks ts =
      then-left (h ts) (λ v us p.
      then-left (still (expect-shrinks comma) p) (λ c us p.
      mapped-left _ (still (row-shrinks _ _ val h) p)))

  bracketed-keeps : (t : Token) → NoLonger (bracketed val t)
  unfolding bracketed
  bracketed-keeps t ts = keeps (cond-left (eqb (sym_of t) left_square) (mapped-left _ (array-shrinks ts)) (mapped-left _ (tuple-shrinks ts)))

pub value-shrinks : (m : Leaves) (b : ℕ) → Shrinks (value m b)
unfolding value
value-shrinks m zero ts = value-step-shrinks m _ (λ t us. fault) ts
value-shrinks m (suc b) ts = value-step-shrinks m _ (bracketed-keeps (value m b) (λ us. value-shrinks m b us)) ts

-- ---- types

pub dims-keeps : (may : Bool) (u : Ty) → NoLonger (dims may u)
unfolding dims
dims-keeps may u [] = nothing-taken []
dims-keeps may u (o ∷ []) = cond-left (eqb (sym_of o) left_square) (cond-left may fault fault) (fewer (omega arith))
dims-keeps may u (o ∷ c ∷ ts) =
    cond-left (eqb (sym_of o) left_square)
    (cond-left may (cond-left (eqb (sym_of c) right_square) (left_le (omega arith) (dims-keeps may (array_of u) ts)) fault) fault)
    (fewer (omega arith))

tuple-types-shrinks : (ty : Reader Ty) → Shrinks ty → Shrinks (tuple_types ty)
unfolding tuple_types
tuple-types-shrinks ty h ts =
    then-left (h ts) (λ u us p.
    then-left (still (expect-shrinks comma) p) (λ c us p.
    mapped-left _ (still (row-shrinks _ _ ty h) p)))

named-type-left : (o : Option Ty) (t : Token) → NoLonger (named-type o t)
named-type-left (some u) t ts = nothing-taken ts
named-type-left nothing t ts = fault

base-step-shrinks : (opened : Token → Reader Ty) → ((t : Token) → NoLonger (opened t)) → Shrinks (base_step opened)
unfolding base_step
base-step-shrinks opened h [] = fault
base-step-shrinks opened h (t ∷ ts) = cond-left (eqb (sym_of t) left_round) (h t ts) (named-type-left (type_name (sym_of t)) t ts)

pub type-shrinks : (b : ℕ) → Shrinks (type b)
unfolding type
type-shrinks zero ts = then-left (base-step-shrinks _ (λ t us. fault) ts) (λ u us p. left_le p (dims-keeps false u us))
type-shrinks (suc b) ts =
    then-left (base-step-shrinks _ (λ t us. keeps (tuple-types-shrinks (type b) (λ ws. type-shrinks b ws) us)) ts) (λ u us p. left_le p (dims-keeps true u us))

-- ---- operation lists

pub default-keeps : (b : ℕ) → NoLonger (default b)
unfolding default
default-keeps b ts = cond-left (begins equal ts) (mapped-left _ (still (value-shrinks literals b) (rest_lt ts))) (nothing-taken ts)

pub param-shrinks : (b : ℕ) → Shrinks (param b)
unfolding param
param-shrinks b ts =
    then-left (expect-shrinks a_name ts) (λ n us p.
    then-left (still (expect-shrinks colon) p) (λ c us p.
    then-left (still (type-shrinks b) p) (λ u us p.
    mapped-left _ (left_le p (default-keeps b us)))))

pub result-shrinks : (b : ℕ) → Shrinks (typed_name b)
unfolding typed_name
result-shrinks b ts =
    then-left (expect-shrinks a_name ts) (λ n us p.
    then-left (still (expect-shrinks colon) p) (λ c us p.
    mapped-left _ (still (type-shrinks b) p)))

pub header-shrinks : (b : ℕ) → Shrinks (header b)
unfolding header
header-shrinks b ts =
    then-left (expect-shrinks fragment ts) (λ f us p.
    then-left (still (expect-shrinks a_name) p) (λ n us p.
    then-left (still (expect-shrinks left_round) p) (λ o us p.
    then-left (still (row-shrinks _ _ _ (param-shrinks b)) p) (λ ps us p.
    then-left (still (expect-shrinks arrow) p) (λ a us p.
    then-left (still (expect-shrinks left_round) p) (λ o us p.
    mapped-left _ (still (row-shrinks _ _ _ (result-shrinks b)) p)))))))

-- ---- documents

labelled-keeps : (v : Value) (e : Bool) (b : ℕ) → NoLonger (labelled v e b)
labelled-keeps (name t) true b us = mapped-left _ (still (value-shrinks both b) (rest_lt us))
labelled-keeps (name t) false b us = nothing-taken us
labelled-keeps (literal l) e b us = nothing-taken us
labelled-keeps (array t vs) e b us = nothing-taken us
labelled-keeps (tuple t vs) e b us = nothing-taken us

pub argument-shrinks : (b : ℕ) → Shrinks (argument b)
unfolding argument
argument-shrinks b ts = then-left (value-shrinks both b ts) (λ v us p. left_le p (labelled-keeps v (begins equal us) b us))

pub left-shrinks : (b : ℕ) → Shrinks (left b)
unfolding left
left-shrinks b [] = fault
left-shrinks b (t ∷ ts) =
    then-left (value-shrinks names b (t ∷ ts)) (λ v us p.
    cond-left (begins equal us) (fewer (le_trans (rest_lt us) p))
    (then-left (still (expect-shrinks comma) p) (λ c us p.
    mapped-left _ (still (row-shrinks _ _ _ (value-shrinks names b)) p))))

pub call-shrinks : (b : ℕ) → Shrinks (call b)
unfolding call
call-shrinks b ts =
    then-left (left-shrinks b ts) (λ v us p.
    then-left (still (expect-shrinks a_name) p) (λ n us p.
    then-left (still (expect-shrinks left_round) p) (λ o us p.
    then-left (still (row-shrinks _ _ _ (argument-shrinks b)) p) (λ xs us p.
    fewer (cond_has (λ (ws : List Token). length ws < length ts) (begins semicolon us) (le_trans (rest_lt us) p) p)))))
