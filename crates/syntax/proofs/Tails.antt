-- What every reader leaves is an end of the tokens that it was given, and so are the tokens from its fault on. Assumes nothing.
use mathlib.Core.Bool.{Bool, true, false, cond, ◌&&◌, ◌||◌}
use mathlib.Core.List.{List, [], ◌∷◌}
use mathlib.Core.Option.{Option, some}
use mathlib.Core.Option.{none as nothing}
use Prim.Native.Nat.{ℕ, zero, suc}
use lib.Dec.{eqb}
use lib.ListN.{length}
use Rattle.lexis.specs.Lexer.{Token}
use Rattle.lexis.specs.Symbol.{sym_of, is_literal, left_round, left_square, right_square, colon, equal, comma, semicolon, arrow, a_name, a_number}
use Rattle.lexis.specs.Symbol.{minus, fragment}
use Rattle.syntax.specs.Tree.{Value, Ty}
use Rattle.syntax.specs.Tree.Value.{name, literal, array, tuple}
use Rattle.syntax.specs.Tree.Ty.{array_of}
use Rattle.syntax.specs.Grammar.{Leaves, names, literals, both, takes_names, takes_literals}
use Rattle.syntax.specs.Parser.{Parse, Reader, Row, Follow, Lists, then, mapped, expect, begins, rest, follow, onward, row_f, row, negative}
use Rattle.syntax.specs.Parser.{value_step, array_items}
use Rattle.syntax.specs.Parser.{tuple_items, bracketed, value, type_name, dims, tuple_types, named-type, base_step, type, default, param, typed_name, header}
use Rattle.syntax.specs.Parser.{labelled, argument, left, call}
use Rattle.syntax.specs.Parser.Parse.{ok, bad}
use Rattle.syntax.specs.Parser.Row.{commas, closed, to_the_end}
use Rattle.syntax.specs.Parser.Follow.{again, done, neither}
use Rattle.syntax.specs.Inner.{base_of}
use Rattle.syntax.proofs.Row.{cond_has}

-- us is an end of ts
pub data Suffix : List Token → List Token → Type 0 where
  all : {ts : List Token} → Suffix ts ts
  past : {t : Token} {ts us : List Token} → Suffix ts us → Suffix (t ∷ ts) us

suffix_trans : {ts us ws : List Token} → Suffix ts us → Suffix us ws → Suffix ts ws
suffix_trans all q = q
suffix_trans (past p) q = past (suffix_trans p q)

past-rest : {ts : List Token} (us : List Token) → Suffix ts us → Suffix ts (rest us)
past-rest [] p = p
past-rest (t ∷ us) p = suffix_trans p (past all)

to-nil : (ts : List Token) → Suffix ts []
to-nil [] = all
to-nil (t ∷ ts) = past (to-nil ts)

-- what was read, or the fault, leaves an end of ts
pub data Takes {A : Type 0} (ts : List Token) : Parse A → Type 0 where
  took : {a : A} {us : List Token} → Suffix ts us → Takes ts (ok a us)
  fault : {c : ℕ} {us : List Token} → Suffix ts us → Takes ts (bad c us)

abbrev pub Tails : {A : Type 0} → Reader A → Type 0
Tails item = (ts : List Token) → Takes ts (item ts)

-- ---- the combinators

pub then-takes : {A B : Type 0} {ts : List Token} {x : Parse A} {k : A → Reader B} → Takes ts x
    → ((a : A) (us : List Token) → Suffix ts us → Takes ts (k a us)) → Takes ts (then x k)
then-takes (took h) f = f _ _ h
then-takes (fault h) f = fault h

mapped-takes : {A B : Type 0} {ts : List Token} {x : Parse A} (f : A → B) → Takes ts x → Takes ts (mapped f x)
mapped-takes f (took h) = took h
mapped-takes f (fault h) = fault h

-- a reader of an end of ts
pub further : {A : Type 0} {ts us : List Token} {x : Parse A} → Suffix ts us → Takes us x → Takes ts x
further p (took h) = took (suffix_trans p h)
further p (fault h) = fault (suffix_trans p h)

cond-takes : {A : Type 0} {ts : List Token} {x y : Parse A} (c : Bool) → Takes ts x → Takes ts y → Takes ts (cond c x y)
cond-takes {ts = ts} c p q = cond_has (λ z. Takes ts z) c p q

pub expect-tails : (s : ℕ) → Tails (expect s)
unfolding expect
expect-tails s [] = fault all
expect-tails s (t ∷ ts) = cond-takes (eqb (sym_of t) s) (took (past all)) (fault all)

-- ---- rows

data Behind (us : List Token) : Follow → Type 0 where
  next : {ws : List Token} → Suffix us ws → Behind us (again ws)
  last : {ws : List Token} → Suffix us ws → Behind us (done ws)
  stop : Behind us neither

follow-behind : (r : Row) (us : List Token) → Behind us (follow r us)
unfolding follow
follow-behind (commas close) [] = stop
follow-behind (commas close) (t ∷ us) =
    cond_has (λ f. Behind (t ∷ us) f) (eqb (sym_of t) comma) (next (past all)) (cond_has (λ f. Behind (t ∷ us) f) (eqb (sym_of t) close) (last (past all)) stop)
follow-behind (closed close) [] = stop
follow-behind (closed close) (t ∷ us) = cond_has (λ f. Behind (t ∷ us) f) (eqb (sym_of t) close) (last (past all)) (next all)
follow-behind to_the_end [] = last all
follow-behind to_the_end (t ∷ us) = next all

onward-takes : {A : Type 0} {us : List Token} {f : Follow} {k j : List Token → Parse A} → Behind us f → ((ws : List Token) → Takes ws (k ws))
    → ((ws : List Token) → Takes ws (j ws)) → Takes us (onward f us k j)
onward-takes (next h) p q = further h (p _)
onward-takes (last h) p q = further h (q _)
onward-takes stop p q = fault all

module _ {A L : Type 0} (l : Lists A L) (r : Row) (item : Reader A) (h : Tails item) where
  row-takes : (f : ℕ) → Tails (row_f f l r item)
  unfolding row_f
  row-takes zero ts = fault (to-nil ts)
  row-takes (suc f) ts = then-takes (h ts) (λ a us p. further p (onward-takes (follow-behind r us) (λ ws. mapped-takes _ (row-takes f ws)) (λ ws. took all)))

  pub row-tails : Tails (row l r item)
  unfolding row
  row-tails ts = row-takes (suc (length ts)) ts

-- ---- values

negative-tails : (t : Token) → Tails (negative t)
unfolding negative
negative-tails t ts = mapped-takes _ (expect-tails a_number ts)

value-step-tails : (m : Leaves) (opened : Token → Reader Value) → ((t : Token) (us : List Token) → Takes (t ∷ us) (opened t us)) → Tails (value_step m opened)
unfolding value_step
value-step-tails m opened h [] = fault all
value-step-tails m opened h (t ∷ ts) =
    cond-takes (takes_names m && eqb (sym_of t) a_name) (took (past all))
    (cond-takes (takes_literals m && is_literal (sym_of t)) (took (past all))
    (cond-takes (takes_literals m && eqb (sym_of t) minus) (further (past all) (negative-tails t ts))
    (cond-takes (eqb (sym_of t) left_square || eqb (sym_of t) left_round) (h t ts) (fault all))))

module _ (val : Reader Value) (h : Tails val) where
  pub array-tails : Tails (array_items val)
  unfolding array_items
  array-tails ts = cond-takes (begins right_square ts) (took (past-rest ts all)) (row-tails _ _ val h ts)

  tuple-tails : Tails (tuple_items val)
  unfolding tuple_items
  tuple-tails ts =
      then-takes (h ts) (λ v us p.
      then-takes (further p (expect-tails comma us)) (λ c us p.
      mapped-takes _ (further p (row-tails _ _ val h us))))

  bracketed-tails : (t : Token) → Tails (bracketed val t)
  unfolding bracketed
  bracketed-tails t ts = cond-takes (eqb (sym_of t) left_square) (mapped-takes _ (array-tails ts)) (mapped-takes _ (tuple-tails ts))

pub value-tails : (m : Leaves) (b : ℕ) → Tails (value m b)
unfolding value
value-tails m zero ts = value-step-tails m _ (λ t us. fault all) ts
value-tails m (suc b) ts = value-step-tails m _ (λ t us. further (past all) (bracketed-tails (value m b) (λ ws. value-tails m b ws) t us)) ts

-- ---- types

dims-tails : (may : Bool) (u : Ty) → Tails (dims may u)
unfolding dims
dims-tails may u [] = took all
dims-tails may u (o ∷ []) = cond-takes (eqb (sym_of o) left_square) (cond-takes may (fault (past all)) (fault all)) (took all)
dims-tails may u (o ∷ c ∷ ts) =
    cond-takes (eqb (sym_of o) left_square)
    (cond-takes may (cond-takes (eqb (sym_of c) right_square) (further (past (past all)) (dims-tails may (array_of u) ts)) (fault (past all))) (fault all))
    (took all)

tuple-types-tails : (ty : Reader Ty) → Tails ty → Tails (tuple_types ty)
unfolding tuple_types
tuple-types-tails ty h ts =
    then-takes (h ts) (λ u us p.
    then-takes (further p (expect-tails comma us)) (λ c us p.
    mapped-takes _ (further p (row-tails _ _ ty h us))))

named-type-takes : (o : Option Ty) (t : Token) (ts : List Token) → Takes (t ∷ ts) (named-type o t ts)
named-type-takes (some u) t ts = took (past all)
named-type-takes nothing t ts = fault all

base-step-tails : (opened : Token → Reader Ty) → ((t : Token) (us : List Token) → Takes (t ∷ us) (opened t us)) → Tails (base_step opened)
unfolding base_step
base-step-tails opened h [] = fault all
base-step-tails opened h (t ∷ ts) = cond-takes (eqb (sym_of t) left_round) (h t ts) (named-type-takes (type_name (sym_of t)) t ts)

pub type-tails : (b : ℕ) → Tails (type b)
unfolding type
type-tails zero ts = then-takes (base-step-tails _ (λ t us. fault all) ts) (λ u us p. further p (dims-tails false u us))
type-tails (suc b) ts =
    then-takes (base-step-tails _ (λ t us. further (past all) (tuple-types-tails (type b) (λ ws. type-tails b ws) us)) ts)
    (λ u us p. further p (dims-tails true u us))

pub base-tails : (b : ℕ) → Tails (base_of b)
unfolding base_of
base-tails zero ts = base-step-tails _ (λ t us. fault all) ts
base-tails (suc b) ts = base-step-tails _ (λ t us. further (past all) (tuple-types-tails (type b) (type-tails b) us)) ts

-- ---- operation lists

default-tails : (b : ℕ) → Tails (default b)
unfolding default
default-tails b ts = cond-takes (begins equal ts) (mapped-takes _ (further (past-rest ts all) (value-tails literals b (rest ts)))) (took all)

pub param-tails : (b : ℕ) → Tails (param b)
unfolding param
param-tails b ts =
    then-takes (expect-tails a_name ts) (λ n us p.
    then-takes (further p (expect-tails colon us)) (λ c us p.
    then-takes (further p (type-tails b us)) (λ u us p.
    mapped-takes _ (further p (default-tails b us)))))

pub result-tails : (b : ℕ) → Tails (typed_name b)
unfolding typed_name
result-tails b ts =
    then-takes (expect-tails a_name ts) (λ n us p.
    then-takes (further p (expect-tails colon us)) (λ c us p.
    mapped-takes _ (further p (type-tails b us))))

pub header-tails : (b : ℕ) → Tails (header b)
unfolding header
header-tails b ts =
    then-takes (expect-tails fragment ts) (λ f us p.
    then-takes (further p (expect-tails a_name us)) (λ n us p.
    then-takes (further p (expect-tails left_round us)) (λ o us p.
    then-takes (further p (row-tails _ _ _ (param-tails b) us)) (λ ps us p.
    then-takes (further p (expect-tails arrow us)) (λ a us p.
    then-takes (further p (expect-tails left_round us)) (λ o us p.
    mapped-takes _ (further p (row-tails _ _ _ (result-tails b) us))))))))

-- ---- documents

labelled-tails : (v : Value) (e : Bool) (b : ℕ) → Tails (labelled v e b)
labelled-tails (name t) true b us = mapped-takes _ (further (past-rest us all) (value-tails both b (rest us)))
labelled-tails (name t) false b us = took all
labelled-tails (literal l) e b us = took all
labelled-tails (array t vs) e b us = took all
labelled-tails (tuple t vs) e b us = took all

pub argument-tails : (b : ℕ) → Tails (argument b)
unfolding argument
argument-tails b ts = then-takes (value-tails both b ts) (λ v us p. further p (labelled-tails v (begins equal us) b us))

pub left-tails : (b : ℕ) → Tails (left b)
unfolding left
left-tails b [] = fault all
left-tails b (t ∷ ts) =
    then-takes (value-tails names b (t ∷ ts)) (λ v us p.
    cond-takes (begins equal us) (took (past-rest us p))
    (then-takes (further p (expect-tails comma us)) (λ c us p.
    mapped-takes _ (further p (row-tails _ _ _ (value-tails names b) us)))))

pub call-tails : (b : ℕ) → Tails (call b)
unfolding call
call-tails b ts =
    then-takes (left-tails b ts) (λ v us p.
    then-takes (further p (expect-tails a_name us)) (λ n us p.
    then-takes (further p (expect-tails left_round us)) (λ o us p.
    then-takes (further p (row-tails _ _ _ (argument-tails b) us)) (λ xs us p.
    took (cond_has (λ (ws : List Token). Suffix ts ws) (begins semicolon us) (past-rest us p) p)))))
