-- A higher bracket limit changes what a reader gives only where it gave a fault of code 10: first the notion and its laws, then the
-- readers, each under the limits b and b' with b ≤ b'. Assumes nothing.
use mathlib.Core.Bool.{Bool, true, false, cond, ◌&&◌, ◌||◌}
use mathlib.Core.List.{List, [], ◌∷◌}
use Prim.Native.Nat.{ℕ, zero, suc, ◌≤◌}
use native.Mathlib.Nat.{le_of_suc-le-suc}
use native.Mathlib.Omega.{arith}
use lib.Dec.{eqb}
use lib.ListN.{length}
use Rattle.lexis.specs.Lexer.{Token}
use Rattle.lexis.specs.Symbol.{sym_of, is_literal, left_round, right_round, left_square, right_square, left_curly, colon, equal, comma, arrow, a_name}
use Rattle.lexis.specs.Symbol.{a_number, minus, version, graph, fragment}
use Rattle.syntax.specs.Tree.{Value, Ty}
use Rattle.syntax.specs.Tree.Value.{name, literal, array, tuple}
use Rattle.syntax.specs.Grammar.{Leaves, names, literals, both, takes_names, takes_literals}
use Rattle.syntax.specs.Parser.{Parse, Reader, Row, Follow, Lists, then, mapped, expect, begins, rest, follow, onward, row_f, row, plain, negative}
use Rattle.syntax.specs.Parser.{value_step}
use Rattle.syntax.specs.Parser.{array_items, tuple_items, bracketed, value, dims, tuple_types, base_step, type, default, param, typed_name, header, operations}
use Rattle.syntax.specs.Parser.{labelled, argument, left, call, document}
use Rattle.syntax.specs.Parser.Parse.{ok, bad}
use Rattle.syntax.specs.Parser.Row.{commas}
use Rattle.syntax.specs.Parser.Follow.{again, done, neither}

-- ---- the notion and its laws

-- what is given under the lower limit, and what under the higher
pub data Raised {A : Type 0} : Parse A → Parse A → Type 0 where
  same-tree : {a : A} {us : List Token} → Raised (ok a us) (ok a us)
  same-fault : {c : ℕ} {us : List Token} → Raised (bad c us) (bad c us)
  was-ten : {us : List Token} {y : Parse A} → Raised (bad 10 us) y

abbrev pub Raises : {A : Type 0} → Reader A → Reader A → Type 0
Raises f g = (ts : List Token) → Raised (f ts) (g ts)

pub same : {A : Type 0} (x : Parse A) → Raised x x
same (ok a us) = same-tree
same (bad c us) = same-fault

then-raised : {A B : Type 0} {x y : Parse A} {k k' : A → Reader B} → Raised x y → ((a : A) → Raises (k a) (k' a)) → Raised (then x k) (then y k')
then-raised same-tree h = h _ _
then-raised same-fault h = same-fault
then-raised was-ten h = was-ten

-- both begin with the same reader
past : {A B : Type 0} {k k' : A → Reader B} (x : Parse A) → ((a : A) → Raises (k a) (k' a)) → Raised (then x k) (then x k')
past x h = then-raised (same x) h

mapped-raised : {A B : Type 0} {x y : Parse A} (f : A → B) → Raised x y → Raised (mapped f x) (mapped f y)
mapped-raised f h = then-raised h (λ a us. same-tree)

cond-raised : {A : Type 0} {x x' y y' : Parse A} (c : Bool) → Raised x x' → Raised y y' → Raised (cond c x y) (cond c x' y')
cond-raised true p q = p
cond-raised false p q = q

onward-raised : {A : Type 0} {k k' : Reader A} (f : Follow) (us : List Token) (j : Reader A) → Raises k k' → Raised (onward f us k j) (onward f us k' j)
onward-raised (again ws) us j h = h ws
onward-raised (done ws) us j h = same (j ws)
onward-raised neither us j h = same-fault

module _ {A L : Type 0} (l : Lists A L) (r : Row) {item item' : Reader A} (h : Raises item item') where
  -- the fuel is the same under both limits
  row_f-raised : (f : ℕ) → Raises (row_f f l r item) (row_f f l r item')
  unfolding row_f
  row_f-raised zero ts = same-fault
  row_f-raised (suc f) ts = then-raised (h ts) (λ a us. onward-raised (follow r us) us _ (λ ws. mapped-raised (l.cons a) (row_f-raised f ws)))

  row-raised : Raises (row l r item) (row l r item')
  unfolding row
  row-raised ts = row_f-raised (suc (length ts)) ts

-- ---- values

value-step-raised : (m : Leaves) (f g : Token → Reader Value) → ((t : Token) → Raises (f t) (g t)) → Raises (value_step m f) (value_step m g)
unfolding value_step
value-step-raised m f g h [] = same-fault
value-step-raised m f g h (t ∷ ts) =
    cond-raised (takes_names m && eqb (sym_of t) a_name) same-tree
    (cond-raised (takes_literals m && is_literal (sym_of t)) same-tree
    (cond-raised (takes_literals m && eqb (sym_of t) minus) (same (negative t ts))
    (cond-raised (eqb (sym_of t) left_square || eqb (sym_of t) left_round) (h t ts) same-fault)))

bracketed-raised : (f g : Reader Value) → Raises f g → (t : Token) → Raises (bracketed f t) (bracketed g t)
unfolding bracketed array_items tuple_items
bracketed-raised f g h t ts =
    cond-raised (eqb (sym_of t) left_square)
    (mapped-raised (array t) (cond-raised (begins right_square ts) same-tree (row-raised _ _ h ts)))
    (mapped-raised (tuple t) (then-raised (h ts) (λ v us. past (expect comma us) (λ c us. mapped-raised _ (row-raised _ _ h us)))))

pub value-raised : (m : Leaves) (b b' : ℕ) → b ≤ b' → Raises (value m b) (value m b')
unfolding value
value-raised m zero zero l ts = same _
value-raised m zero (suc b') l ts = value-step-raised m _ _ (λ t us. was-ten) ts
value-raised m (suc b) zero l ts = absurd (omega arith)
value-raised m (suc b) (suc b') l ts = value-step-raised m _ _ (bracketed-raised _ _ (value-raised m b b' (le_of_suc-le-suc l))) ts

-- ---- types

dims-raised : (u : Ty) → Raises (dims false u) (dims true u)
unfolding dims
dims-raised u [] = same-tree
dims-raised u (o ∷ []) = cond-raised (eqb (sym_of o) left_square) was-ten same-tree
dims-raised u (o ∷ c ∷ ts) = cond-raised (eqb (sym_of o) left_square) was-ten same-tree

base-step-raised : (f g : Token → Reader Ty) → ((t : Token) → Raises (f t) (g t)) → Raises (base_step f) (base_step g)
unfolding base_step
base-step-raised f g h [] = same-fault
base-step-raised f g h (t ∷ ts) = cond-raised (eqb (sym_of t) left_round) (h t ts) (same _)

tuple-types-raised : (f g : Reader Ty) → Raises f g → Raises (tuple_types f) (tuple_types g)
unfolding tuple_types
tuple-types-raised f g h ts = then-raised (h ts) (λ u us. past (expect comma us) (λ c us. mapped-raised _ (row-raised _ _ h us)))

pub type-raised : (b b' : ℕ) → b ≤ b' → Raises (type b) (type b')
unfolding type
type-raised zero zero l ts = same _
type-raised zero (suc b') l ts = then-raised (base-step-raised _ _ (λ t us. was-ten) ts) dims-raised
type-raised (suc b) zero l ts = absurd (omega arith)
type-raised (suc b) (suc b') l ts =
    then-raised (base-step-raised _ _ (λ t. tuple-types-raised _ _ (type-raised b b' (le_of_suc-le-suc l))) ts) (λ u us. same _)

module _ (b b' : ℕ) (l : b ≤ b') where
  -- ---- operation lists

  default-raised : Raises (default b) (default b')
  unfolding default
  default-raised ts = cond-raised (begins equal ts) (mapped-raised _ (value-raised literals b b' l (rest ts))) same-tree

  param-raised : Raises (param b) (param b')
  unfolding param
  param-raised ts =
      past (expect a_name ts) (λ n us.
      past (expect colon us) (λ c us.
      then-raised (type-raised b b' l us) (λ u us.
      mapped-raised _ (default-raised us))))

  result-raised : Raises (typed_name b) (typed_name b')
  unfolding typed_name
  result-raised ts =
      past (expect a_name ts) (λ n us.
      past (expect colon us) (λ c us.
      mapped-raised _ (type-raised b b' l us)))

  header-raised : Raises (header b) (header b')
  unfolding header
  header-raised ts =
      past (expect fragment ts) (λ f us.
      past (expect a_name us) (λ n us.
      past (expect left_round us) (λ o us.
      then-raised (row-raised _ _ param-raised us) (λ ps us.
      past (expect arrow us) (λ a us.
      past (expect left_round us) (λ o us.
      mapped-raised _ (row-raised _ _ result-raised us)))))))

  pub operations-raised : Raises (operations b) (operations b')
  unfolding operations
  operations-raised [] = same-tree
  operations-raised (t ∷ ts) = row-raised _ _ header-raised (t ∷ ts)

  -- ---- documents

  labelled-raised : (v : Value) (e : Bool) → Raises (labelled v e b) (labelled v e b')
  labelled-raised (name t) true us = mapped-raised _ (value-raised both b b' l (rest us))
  labelled-raised (name t) false us = same-tree
  labelled-raised (literal l) e us = same-tree
  labelled-raised (array t vs) e us = same-tree
  labelled-raised (tuple t vs) e us = same-tree

  argument-raised : Raises (argument b) (argument b')
  unfolding argument
  argument-raised ts = then-raised (value-raised both b b' l ts) (λ v us. labelled-raised v (begins equal us) us)

  left-raised : Raises (left b) (left b')
  unfolding left
  left-raised [] = same-fault
  left-raised (t ∷ ts) =
      then-raised (value-raised names b b' l (t ∷ ts)) (λ v us.
      cond-raised (begins equal us) same-tree
      (past (expect comma us) (λ c us. mapped-raised _ (row-raised _ _ (value-raised names b b' l) us))))

  call-raised : Raises (call b) (call b')
  unfolding call
  call-raised ts =
      then-raised (left-raised ts) (λ v us.
      past (expect a_name us) (λ n us.
      past (expect left_round us) (λ o us.
      then-raised (row-raised _ _ argument-raised us) (λ xs us. same-tree))))

  pub document-raised : Raises (document b) (document b')
  unfolding document
  document-raised ts =
      past (expect version ts) (λ v us.
      past (expect a_number us) (λ d us.
      past (expect graph us) (λ g us.
      past (expect a_name us) (λ n us.
      past (expect left_round us) (λ o us.
      past (row plain (commas right_round) (expect a_name) us) (λ is us.
      past (expect arrow us) (λ a us.
      past (expect left_round us) (λ o us.
      past (row plain (commas right_round) (expect a_name) us) (λ os us.
      past (expect left_curly us) (λ q us.
      then-raised (row-raised _ _ call-raised us) (λ cs us. same _)))))))))))
