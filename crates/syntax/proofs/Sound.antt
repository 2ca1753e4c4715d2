-- Every reader is right about its phrase of the grammar: what it reads is that phrase, and what it read before a fault begins one.
-- Assumes nothing.
use mathlib.Core.Path.{◌≡◌, refl}
use mathlib.Core.Bool.{Bool, true, false, cond, ◌&&◌, ◌||◌}
use mathlib.Core.List.{List, [], ◌∷◌, ◌++◌}
use mathlib.Core.Option.{Option, some}
use mathlib.Core.Option.{none as nothing}
use Prim.Native.Nat.{ℕ, zero, suc, ◌≤◌}
use native.Mathlib.Omega.{arith}
use lib.Dec.{eqb}
use borrow.Author.Tests.{eqb-true}
use Rattle.lexis.specs.Lexer.{Token}
use Rattle.lexis.specs.Symbol.{sym_of, is_literal, left_round, right_round, left_square, right_square, left_curly, right_curly, colon, equal, comma, semicolon}
use Rattle.lexis.specs.Symbol.{a_name, minus, tensor_word, extent_word, scalar_word, logical_word, string_word}
use Rattle.syntax.specs.Tree.{unsigned, negated, Value, Values, Ty, Header, Call, Document}
use Rattle.syntax.specs.Tree.Value.{name, literal, array, tuple}
use Rattle.syntax.specs.Tree.Values.{none, more}
use Rattle.syntax.specs.Tree.Ty.{scalar, array_of, tuple_of}
use Rattle.syntax.specs.Tree.Tys.{a-type}
use Rattle.syntax.specs.Tree.Arg.{positional, named}
use Rattle.syntax.specs.Grammar.{Separated, Leaves, takes_names, takes_literals, Spells, Items, IsTypeName, Dims, IsType, IsTypes, IsDefault, IsParam}
use Rattle.syntax.specs.Grammar.{IsResult, IsHeader, IsList, IsName, IsArg, IsLeft, IsEnd, IsCall, IsBody, IsDocument}
use Rattle.syntax.specs.Grammar.Separated.{last, next}
use Rattle.syntax.specs.Grammar.Leaves.{names, literals, both}
use Rattle.syntax.specs.Grammar.IsLiteral.{no_sign, a-sign}
use Rattle.syntax.specs.Grammar.Spells.{a-name, a-literal, an-empty-array, an-array, a-tuple}
use Rattle.syntax.specs.Grammar.Items.{last-item, next-item}
use Rattle.syntax.specs.Grammar.IsTypeName.{is-tensor, is-extent, is-scalar, is-logical, is-string}
use Rattle.syntax.specs.Grammar.Dims.{no-pair, a_pair}
use Rattle.syntax.specs.Grammar.IsType.{a-plain, a-tuple-type}
use Rattle.syntax.specs.Grammar.IsTypes.{last-type, next-type}
use Rattle.syntax.specs.Grammar.IsDefault.{no_default, a-default}
use Rattle.syntax.specs.Grammar.IsParam.{a-param}
use Rattle.syntax.specs.Grammar.IsResult.{a-result}
use Rattle.syntax.specs.Grammar.IsHeader.{a-header}
use Rattle.syntax.specs.Grammar.IsList.{no_header, a-header-more}
use Rattle.syntax.specs.Grammar.IsName.{the-name}
use Rattle.syntax.specs.Grammar.IsArg.{a-positional, a-named}
use Rattle.syntax.specs.Grammar.IsLeft.{one-pattern, a-bare-tuple}
use Rattle.syntax.specs.Grammar.IsEnd.{no-semicolon, a-semicolon}
use Rattle.syntax.specs.Grammar.IsCall.{a_call}
use Rattle.syntax.specs.Grammar.IsBody.{last-call, next-call}
use Rattle.syntax.specs.Grammar.IsDocument.{a-document}
use Rattle.syntax.specs.Parser.{Parse, then, mapped, Reader, expect, begins, rest, plain, values, types, row, negative, value_step, array_items, tuple_items}
use Rattle.syntax.specs.Parser.{bracketed, value, type_name, dims, tuple_types, named-type, base_step, type, default, param, typed_name, header, operations}
use Rattle.syntax.specs.Parser.{labelled, argument, left, call, at_end, document}
use Rattle.syntax.specs.Parser.Parse.{ok, bad}
use Rattle.syntax.specs.Parser.Row.{commas, closed, to_the_end}
use Rattle.syntax.proofs.Row.{Shrinks}
use Rattle.syntax.proofs.Row.Left.{fault}
use Rattle.syntax.proofs.Shrinks.{expect-shrinks, value-shrinks, type-shrinks, param-shrinks, result-shrinks, header-shrinks, argument-shrinks}
use Rattle.syntax.proofs.Shrinks.{call-shrinks}
use Rattle.syntax.proofs.Samples.{mark, arrow-token, name-token, number-token, version-token, graph-token, fragment-token, scalar-token}
use Rattle.syntax.proofs.Right.{Phrase, Completes, Right, Reads, choice, made, glue, also, Reaches, After, begun, from-right, after, finish, into, Past}
use Rattle.syntax.proofs.Right.{shift, expects, if-begins, Inside, opened, deeper, Last, Next, rows}
use Rattle.syntax.proofs.Right.Right.{good, nine, ten}
use Rattle.syntax.proofs.Right.Between.{a-comma, closed_on, on-to-the-end}
use Rattle.syntax.proofs.Right.Ending.{a-closer, a-last, the_end}

-- a reader that always faults is right, and so a phrase made of it has a sample
module _ {A : Type 0} where
  abbrev faults : Reader A
  faults ts = bad 9 ts

  faults-reads : {R : Phrase A} {b : ℕ} → Completes R b [] → Reads R b faults
  faults-reads q = record { each = λ ts. nine [] refl q; some = q }

  faults-shrinks : Shrinks faults
  faults-shrinks ts = fault

both_true : (x y : Bool) → x && y ≡ true → (x ≡ true) × (y ≡ true)
both_true true y e = (refl, e)
both_true false true e = (e, refl)
both_true false false e = (e, e)

-- ---- rows

module _ {A : Type 0} (R : Phrase A) (close : ℕ) where
  abbrev Row-of : Phrase (List A)
  Row-of b = Separated (R b) close

  separated-last : Last plain (commas close) R Row-of
  separated-last b ts a m us h (a-closer e) = last h e

  separated-next : Next plain (commas close) R Row-of
  separated-next b ts a m us x ws h (a-comma e) s = next h e s

  pub separated-reads : {b : ℕ} {item : Reader A} → Shrinks item → Reads R b item → Reads Row-of b (row plain (commas close) item)
  separated-reads s h = rows plain (commas close) R Row-of separated-last separated-next ((mark close).token ∷ []) (a-closer (mark close).is) s h

-- ---- values

module _ (m : Leaves) (close : ℕ) where
  items-last : Last values (commas close) (Spells m) (Items m close)
  items-last b ts v q us h (a-closer e) = last-item h e

  items-next : Next values (commas close) (Spells m) (Items m close)
  items-next b ts v q us vs ws h (a-comma e) s = next-item h e s

  items-reads : {b : ℕ} {val : Reader Value} → Shrinks val → Reads (Spells m) b val → Reads (Items m close) b (row values (commas close) val)
  items-reads s h = rows values (commas close) (Spells m) (Items m close) items-last items-next ((mark close).token ∷ []) (a-closer (mark close).is) s h

a-leaf : (m : Leaves) {b : ℕ} → Completes (Spells m) b []
a-leaf names = record { tokens = name-token.token ∷ []; tree = name name-token.token; reaches = λ c ws k. a-name refl name-token.is }
a-leaf literals =
    record {
      tokens = number-token.token
          ∷ [];
      tree = literal (unsigned number-token.token);
      reaches = λ c ws k. a-literal refl (no_sign {t = number-token.token} (rw number-token.is));
    }
a-leaf both = record { tokens = name-token.token ∷ []; tree = name name-token.token; reaches = λ c ws k. a-name refl name-token.is }

data Opens (t : Token) : Type 0 where
  square : sym_of t ≡ left_square → Opens t
  round : sym_of t ≡ left_round → Opens t

opens : (t : Token) → (eqb (sym_of t) left_square || eqb (sym_of t) left_round) ≡ true → Opens t
opens t e = go (eqb (sym_of t) left_square) refl e
  where
    go : (x : Bool) → eqb (sym_of t) left_square ≡ x → (x || eqb (sym_of t) left_round) ≡ true → Opens t
    go true f e = square (eqb-true _ _ f)
    go false f e = round (eqb-true _ _ e)

-- a first token that opens a bracket, with the bracket open
behind : {B : Type 0} {T : Phrase B} {b : ℕ} {t : Token} → Completes (Past (Inside T) t) b [] → Completes T (suc b) (t ∷ [])
behind {T = T} {t = t} q = opened T (record { tokens = q.tokens; tree = q.tree; reaches = q.reaches })

-- inside a bracket t
module _ (m : Leaves) {b : ℕ} {val : Reader Value} (s : Shrinks val) (h : Reads (Spells m) b val) (t : Token) where
  abbrev InArray : Phrase Values
  InArray b us vs ws = Spells m (suc b) (t ∷ us) (array t vs) ws

  abbrev InTuple : Phrase Values
  InTuple b us vs ws = Spells m (suc b) (t ∷ us) (tuple t vs) ws

  array-reads : sym_of t ≡ left_square → Reads InArray b (array_items val)
  unfolding array_items
  array-reads e =
      if-begins InArray right_square (λ c f. finish none (λ b us. an-empty-array e f))
      (also (Items m right_square) InArray (items-reads m right_square s h) (λ c us vs ws i. an-array e i))

  tuple-reads : sym_of t ≡ left_round → Reads InTuple b (tuple_items val)
  unfolding tuple_items
  tuple-reads e =
      after (Spells m) InTuple h (λ v.
      expects (After (Spells m) InTuple v) (mark comma) (λ c f.
      into (Items m right_round) _ (more v) (items-reads m right_round s h) (λ b us vs ws i ts g. a-tuple e g f i)))

  bracketed-reads : Opens t → Reads (Past (Inside (Spells m)) t) b (bracketed val t)
  unfolding bracketed
  bracketed-reads (square e) = rw (e, bracketed) (into InArray _ (array t) (array-reads e) (λ b us vs ws h. h))
  bracketed-reads (round e) = rw (e, bracketed) (into InTuple _ (tuple t) (tuple-reads e) (λ b us vs ws h. h))

-- after the sign t
negative-reads : (m : Leaves) {b : ℕ} (t : Token) → takes_literals m ≡ true → sym_of t ≡ minus → Reads (Past (Spells m) t) b (negative t)
unfolding negative
negative-reads m t p e = expects (Past (Spells m) t) number-token (λ n f. finish (literal (negated t n)) (λ b us. a-literal p (a-sign e f)))

value-step-right : (m : Leaves) {b : ℕ} (k : Token → Reader Value) →
    ((t : Token) (us : List Token) → Opens t → Right (Spells m) b (t ∷ us) (k t us)) → (ts : List Token) → Right (Spells m) b ts (value_step m k ts)
unfolding value_step
value-step-right m k f [] = nine [] refl (a-leaf m)
value-step-right m {b} k f (t ∷ us) =
    choice (Right (Spells m) b (t ∷ us)) (takes_names m && eqb (sym_of t) a_name) (λ e.
    let p = both_true (takes_names m) (eqb (sym_of t) a_name) e in
    good (t ∷ []) refl (λ c ws k. a-name p.0 (eqb-true _ _ p.1))) (λ _.
    choice (Right (Spells m) b (t ∷ us)) (takes_literals m && is_literal (sym_of t)) (λ e.
    let p = both_true (takes_literals m) (is_literal (sym_of t)) e in
    good (t ∷ []) refl (λ c ws k. a-literal p.0 (no_sign p.1))) (λ _.
    choice (Right (Spells m) b (t ∷ us)) (takes_literals m && eqb (sym_of t) minus) (λ e.
    let p = both_true (takes_literals m) (eqb (sym_of t) minus) e in
    shift (Spells m) t ((negative-reads m t p.0 (eqb-true _ _ p.1)).each us)) (λ _.
    choice (Right (Spells m) b (t ∷ us)) (eqb (sym_of t) left_square || eqb (sym_of t) left_round) (λ e. f t us (opens t e)) (λ _. nine [] refl (a-leaf m)))))

pub value-reads : (m : Leaves) (b : ℕ) → Reads (Spells m) b (value m b)
unfolding value
value-reads m zero =
    record {
      each = value-step-right m _ (λ t us o. ten [] refl (a-leaf m) (behind (bracketed-reads m faults-shrinks (faults-reads (a-leaf m)) t o).some));
      some = a-leaf m;
    }
value-reads m (suc b) =
    record {
      each =
          value-step-right m _
          (λ t us o. shift (Spells m) t (deeper (Past (Spells m) t) ((bracketed-reads m (value-shrinks m b) (value-reads m b) t o).each us)));
      some = a-leaf m;
    }

-- ---- types

types-last : Last types (commas right_round) IsType IsTypes
types-last b ts u q us h (a-closer e) = last-type h e

types-next : Next types (commas right_round) IsType IsTypes
types-next b ts u q us vs ws h (a-comma e) s = next-type h e s

types-reads : {b : ℕ} {f : Reader Ty} → Shrinks f → Reads IsType b f → Reads IsTypes b (row types (commas right_round) f)
types-reads s h = rows types (commas right_round) IsType IsTypes types-last types-next ((mark right_round).token ∷ []) (a-closer (mark right_round).is) s h

-- a type's name
data Named (s : ℕ) : Option Ty → Type 0 where
  is-named : {u : Ty} → IsTypeName s u → Named s (some u)
  no_name : Named s nothing

name-or : {s : ℕ} {u : Ty} {o : Option Ty} (k : ℕ) → IsTypeName k u → Named s o → Named s (cond (eqb s k) (some u) o)
name-or {s} {u} k h n = choice (Named s) (eqb s k) (λ e. is-named (rw (eqb-true s k e) h)) (λ _. n)

type-named : (s : ℕ) → Named s (type_name s)
unfolding type_name
type-named s =
    name-or tensor_word is-tensor
    (name-or extent_word is-extent (name-or scalar_word is-scalar (name-or logical_word is-logical (name-or string_word is-string no_name))))

-- pairs of square brackets after the type w
abbrev Pairs : Ty → Phrase Ty
Pairs w b us u ws = Dims b us w u ws

no_pairs : {w : Ty} {b : ℕ} → Completes (Pairs w) b []
no_pairs {w} = record { tokens = []; tree = w; reaches = λ c ws k. no-pair }

pair : {b : ℕ} {o c : Token} {ts us : List Token} {w u : Ty} (b' : ℕ) → suc b ≤ b' → sym_of o ≡ left_square → sym_of c ≡ right_square
    → Dims b' ts (array_of w) u us → Dims b' (o ∷ c ∷ ts) w u us
pair zero k e f h = absurd (omega arith)
pair (suc b') k e f h = a_pair e f h

half-pair : {w : Ty} {b : ℕ} {o : Token} → sym_of o ≡ left_square → Completes (Pairs w) (suc b) (o ∷ [])
half-pair {w} {b} e = record { tokens = (mark right_square).token ∷ []; tree = array_of w; reaches = λ c ws k. pair c k e (mark right_square).is no-pair }

too_many : (w : Ty) (o : Token) (ts : List Token) → Right (Pairs w) zero (o ∷ ts) (cond (eqb (sym_of o) left_square) (bad 10 (o ∷ ts)) (ok w (o ∷ ts)))
too_many w o ts =
    choice (Right (Pairs w) zero (o ∷ ts)) (eqb (sym_of o) left_square) (λ e. ten [] refl no_pairs (half-pair (eqb-true _ _ e)))
    (λ _. good [] refl (λ c ws k. no-pair))

no-dims-right : (w : Ty) (ts : List Token) → Right (Pairs w) zero ts (dims false w ts)
unfolding dims
no-dims-right w [] = good [] refl (λ c ws k. no-pair)
no-dims-right w (o ∷ []) = too_many w o []
no-dims-right w (o ∷ c ∷ ts) = too_many w o (c ∷ ts)

dims-right : {b : ℕ} (w : Ty) (ts : List Token) → Right (Pairs w) (suc b) ts (dims true w ts)
unfolding dims
dims-right w [] = good [] refl (λ c ws k. no-pair)
dims-right {b} w (o ∷ []) =
    choice (Right (Pairs w) (suc b) (o ∷ [])) (eqb (sym_of o) left_square) (λ e. nine (o ∷ []) refl (half-pair (eqb-true _ _ e)))
    (λ _. good [] refl (λ c ws k. no-pair))
dims-right {b} w (o ∷ c ∷ ts) =
    let again = dims-right (array_of w) ts in
    choice (Right (Pairs w) (suc b) (o ∷ c ∷ ts)) (eqb (sym_of o) left_square) (λ e.
    choice (Right (Pairs w) (suc b) (o ∷ c ∷ ts)) (eqb (sym_of c) right_square) (λ f.
    glue (Pairs (array_of w)) (Pairs w) (o ∷ c ∷ []) refl (λ b' us a ws k h. pair b' k (eqb-true _ _ e) (eqb-true _ _ f) h) again) (λ _.
    nine (o ∷ []) refl (half-pair (eqb-true _ _ e)))) (λ _.
    good [] refl (λ c ws k. no-pair))

-- a type without its pairs of square brackets
abbrev Base : Phrase Ty
Base b ts w us = (u : Ty) (xs : List Token) → Dims b us w u xs → IsType b ts u xs

is_base : {b : ℕ} {t : Token} {ts us : List Token} {u : Ty} → sym_of t ≡ scalar_word → Dims b ts scalar u us → IsType b (t ∷ ts) u us
is_base {t = t} e d = a-plain {t = t} {w = scalar} (rw e is-scalar) d

a-base : {b : ℕ} → Completes Base b []
a-base = record { tokens = scalar-token.token ∷ []; tree = scalar; reaches = λ c ws k u xs d. is_base scalar-token.is d }

a-type-sample : {b : ℕ} → Completes IsType b []
a-type-sample = record { tokens = scalar-token.token ∷ []; tree = scalar; reaches = λ c ws k. is_base scalar-token.is no-pair }

tuple-types-reads : {b : ℕ} {f : Reader Ty} → Shrinks f → Reads IsType b f → (t : Token) → sym_of t ≡ left_round
    → Reads (Past (Inside Base) t) b (tuple_types f)
unfolding tuple_types
tuple-types-reads s h t e =
    after IsType _ h (λ w.
    expects _ (mark comma) (λ c f.
    into IsTypes _ (λ vs. tuple_of (a-type w vs)) (types-reads s h) (λ b us vs ws i ts g u xs d. a-tuple-type e g f i d)))

base-named : {b : ℕ} (t : Token) (ts : List Token) {o : Option Ty} → Named (sym_of t) o → Right Base b (t ∷ ts) (named-type o t ts)
base-named t ts (is-named h) = good (t ∷ []) refl (λ c ws k u xs d. a-plain h d)
base-named t ts no_name = nine [] refl a-base

base-right : {b : ℕ} (k : Token → Reader Ty) → ((t : Token) (us : List Token) → sym_of t ≡ left_round → Right Base b (t ∷ us) (k t us)) → (ts : List Token)
    → Right Base b ts (base_step k ts)
unfolding base_step
base-right k f [] = nine [] refl a-base
base-right {b} k f (t ∷ us) =
    choice (Right Base b (t ∷ us)) (eqb (sym_of t) left_round) (λ e. f t us (eqb-true _ _ e)) (λ _. base-named t us (type-named (sym_of t)))

-- a type is its base and its pairs
type-of : {b : ℕ} {f : Reader Ty} {g : Ty → Reader Ty} →
    ((ts : List Token) → Right Base b ts (f ts)) → ((w : Ty) (ts : List Token) → Right (Pairs w) b ts (g w ts)) → Reads IsType b (λ ts. then (f ts) g)
type-of h k =
    after Base IsType (record { each = h; some = a-base }) (λ w.
    also (Pairs w) _ (record { each = k w; some = no_pairs }) (λ c us u ws d ts q. q u ws d))

pub type_reads : (b : ℕ) → Reads IsType b (type b)
unfolding type
type_reads zero =
    type-of (base-right _ (λ t us e. ten [] refl a-base (behind (tuple-types-reads faults-shrinks (faults-reads a-type-sample) t e).some))) no-dims-right
type_reads (suc b) =
    type-of (base-right _ (λ t us e. shift Base t (deeper (Past Base t) ((tuple-types-reads (type-shrinks b) (type_reads b) t e).each us)))) dims-right

-- ---- operation lists

pub default-reads : (b : ℕ) → Reads IsDefault b (default b)
unfolding default
default-reads b =
    if-begins IsDefault equal (λ e s. into (Spells literals) (Past IsDefault e) some (value-reads literals b) (λ c us v ws h. a-default s h))
    (finish nothing (λ c us. no_default))

pub param-reads : (b : ℕ) → Reads IsParam b (param b)
unfolding param
param-reads b =
    expects IsParam name-token (λ n sn.
    expects _ (mark colon) (λ c sc.
    after IsType _ (type_reads b) (λ u.
    into IsDefault _ _ (default-reads b) (λ b us d ws h ts g. a-param sn sc g h))))

pub result-reads : (b : ℕ) → Reads IsResult b (typed_name b)
unfolding typed_name
result-reads b =
    expects IsResult name-token (λ n sn.
    expects _ (mark colon) (λ c sc.
    into IsType _ _ (type_reads b) (λ b us u ws h. a-result sn sc h)))

pub header-reads : (b : ℕ) → Reads IsHeader b (header b)
unfolding header
header-reads b =
    expects IsHeader fragment-token (λ f sf.
    expects _ name-token (λ n sn.
    expects _ (mark left_round) (λ o so.
    after _ _ (separated-reads IsParam right_round (param-shrinks b) (param-reads b)) (λ ps.
    expects _ arrow-token (λ a sa.
    expects _ (mark left_round) (λ p sp.
    into _ _ _ (separated-reads IsResult right_round (result-shrinks b) (result-reads b)) (λ b us rs ws h ts g. a-header sf sn so g sa sp h)))))))

-- headers, and the end after them
abbrev pub Listed : Phrase (List Header)
Listed b ts hs us = us ≡ [] → IsList b ts hs

listed-last : Last plain to_the_end IsHeader Listed
listed-last b ts h m us g the_end e = a-header-more {hs = []} g (rw e no_header)

listed_next : Next plain to_the_end IsHeader Listed
listed_next b ts h m us hs ws g on-to-the-end l e = a-header-more g (l e)

pub operations-right : (b : ℕ) (ts : List Token) → Right Listed b ts (operations b ts)
unfolding operations
operations-right b [] = good {a = []} [] refl (λ c ws k e. rw e no_header)
operations-right b (t ∷ ts) = (rows plain to_the_end IsHeader Listed listed-last listed_next [] the_end (header-shrinks b) (header-reads b)).each (t ∷ ts)

-- ---- documents

abbrev Name : Phrase Token
Name b = IsName

name-reads : (b : ℕ) → Reads Name b (expect a_name)
unfolding expect
name-reads b = record { each = go; some = q }
  where
    q : Completes Name b []
    q = record { tokens = name-token.token ∷ []; tree = name-token.token; reaches = λ c ws k. the-name name-token.is }

    go : (ts : List Token) → Right Name b ts (expect a_name ts)
    go [] = nine [] refl q
    go (t ∷ ts) = choice (Right Name b (t ∷ ts)) (eqb (sym_of t) a_name) (λ e. good (t ∷ []) refl (λ c ws k. the-name (eqb-true _ _ e))) (λ _. nine [] refl q)

-- a name with `=` and a value behind it
renamed : {b : ℕ} {n e : Token} {ts us ws : List Token} {v : Value} →
    Spells both b ts (name n) (e ∷ us) → sym_of e ≡ equal → Spells both b us v ws → IsArg b ts (named n v) ws
renamed (a-name h s) f g = a-named s f g

label-right : (b : ℕ) (n : Token) (us : List Token) → Right (After (Spells both) IsArg (name n)) b us (labelled (name n) (begins equal us) b us)
label-right b n [] = good [] refl (λ c ws k ts h. a-positional h)
label-right b n (e ∷ us) = go (eqb (sym_of e) equal) refl
  where
    go : (x : Bool) → eqb (sym_of e) equal ≡ x → Right (After (Spells both) IsArg (name n)) b (e ∷ us) (labelled (name n) x b (e ∷ us))
    go true s = made (Spells both) _ (e ∷ []) (named n) refl (λ c us v ws k g ts h. renamed h (eqb-true _ _ s) g) ((value-reads both b).each us)
    go false s = good [] refl (λ c ws k ts h. a-positional h)

alone : {b : ℕ} (v : Value) → Reads (After (Spells both) IsArg v) b (λ us. ok (positional v) us)
alone v = finish (positional v) (λ c us ts h. a-positional h)

label-reads : (b : ℕ) (v : Value) → Reads (After (Spells both) IsArg v) b (λ us. labelled v (begins equal us) b us)
label-reads b (name n) = record { each = label-right b n; some = (alone (name n)).some }
label-reads b (literal l) = alone (literal l)
label-reads b (array t vs) = alone (array t vs)
label-reads b (tuple t vs) = alone (tuple t vs)

pub argument-reads : (b : ℕ) → Reads IsArg b (argument b)
unfolding argument
argument-reads b = after (Spells both) IsArg (value-reads both b) (λ v. label-reads b v)

-- a left side, behind its first pattern v, which begins with t
abbrev FromFirst : Token → Value → Phrase Value
FromFirst t v b us x ws = (ts : List Token) → Spells names b (t ∷ ts) v us → IsLeft b (t ∷ ts) x ws

left-from-first : {b : ℕ} (t : Token) (v : Value) → Reads (FromFirst t v) b (λ us.
    cond (begins equal us) (ok v (rest us))
    (then (expect comma us) (λ c ws. mapped (λ vs. tuple t (more v vs)) (row values (commas equal) (value names b) ws))))
left-from-first {b} t v =
    if-begins (FromFirst t v) equal (λ e s. finish v (λ c us ts g. one-pattern g s))
    (expects (FromFirst t v) (mark comma) (λ c s.
    into (Items names equal) _ _ (items-reads names equal (value-shrinks names b) (value-reads names b)) (λ b us vs ws i ts g. a-bare-tuple g s i)))

spells-none : {m : Leaves} {b : ℕ} {v : Value} {us : List Token} → Spells m b [] v us → ⊥
spells-none h = go [] refl h
  where
    clash : ◌≡◌ {A = ℕ} 0 1 → ⊥
    clash z = omega arith

    go : {m : Leaves} {b : ℕ} {v : Value} {us : List Token} (ts : List Token) → ts ≡ [] → Spells m b ts v us → ⊥
    go ts e (a-name p q) = clash cc
    go ts e (a-literal p (no_sign q)) = clash cc
    go ts e (a-literal p (a-sign q r)) = clash cc
    go ts e (an-empty-array p q) = clash cc
    go ts e (an-array p q) = clash cc
    go ts e (a-tuple p q r s) = clash cc

left-from : (b : ℕ) (t : Token) (ts : List Token) (v : Value) (us q : List Token) {x : Parse Value} →
    t ∷ ts ≡ q ++ us → Reaches (Spells names) b q v → Right (FromFirst t v) b us x → Right IsLeft b (t ∷ ts) x
left-from b t ts v us [] e h r = absurd (spells-none (h b [] (omega arith)))
left-from b t ts v us (t' ∷ q) e h r =
    let same : t ≡ t' = cc in
    glue (FromFirst t v) IsLeft (t' ∷ q) e (λ c us x ws l j. (rw same at j) (q ++ us) (h c us l)) r

-- a pattern is a left side with `=`
is-left : {b : ℕ} (v : Value) → Completes (After (Spells names) IsLeft v) b []
is-left v = record { tokens = (mark equal).token ∷ []; tree = v; reaches = λ c ws k ts h. one-pattern h (mark equal).is }

a-left : {b : ℕ} → Completes IsLeft b []
a-left = begun (Spells names) IsLeft (a-leaf names) is-left

left-right : (b : ℕ) (ts : List Token) → Right IsLeft b ts (left b ts)
unfolding left
left-right b [] = nine [] refl a-left
left-right b (t ∷ ts) =
    from-right (Spells names) IsLeft _ ((value-reads names b).each (t ∷ ts)) is-left
    (λ v us q d e h. left-from b t ts v us q e h ((left-from-first t v).each us))

pub left-reads : (b : ℕ) → Reads IsLeft b (left b)
left-reads b = record { each = left-right b; some = a-left }

-- a call and its semicolon
end_reads : {A : Type 0} {T : Phrase A} {b : ℕ} (a : A) → ((c : ℕ) (us ws : List Token) → IsEnd us ws → T c us a ws)
    → Reads T b (λ us. ok a (cond (begins semicolon us) (rest us) us))
end_reads {A} {T} {b} a h = record { each = go; some = none_more.some }
  where
    none_more : Reads T b (λ us. ok a us)
    none_more = finish a (λ c us. h c us us no-semicolon)

    go : (us : List Token) → Right T b us (ok a (cond (begins semicolon us) (rest us) us))
    go [] = none_more.each []
    go (t ∷ us) =
        choice (λ x. Right T b (t ∷ us) (ok a x)) (eqb (sym_of t) semicolon)
        (λ e. good (t ∷ []) refl (λ c ws k. h c (t ∷ ws) ws (a-semicolon (eqb-true _ _ e))))
        (λ _.
        none_more.each (t ∷ us))

pub call-reads : (b : ℕ) → Reads IsCall b (call b)
unfolding call
call-reads b =
    after IsLeft _ (left-reads b) (λ v.
    expects _ name-token (λ n sn.
    expects _ (mark left_round) (λ o so.
    after _ _ (separated-reads IsArg right_round (argument-shrinks b) (argument-reads b)) (λ xs.
    end_reads _ (λ c us ws e ts h ts' g. a_call g sn so h e)))))

body-last : Last plain (closed right_curly) IsCall IsBody
body-last b ts x m us h (a-last e) = last-call h e

body-next : Next plain (closed right_curly) IsCall IsBody
body-next b ts x m us xs ws h closed_on s = next-call h s

pub body_reads : (b : ℕ) → Reads IsBody b (row plain (closed right_curly) (call b))
body_reads b =
    rows plain (closed right_curly) IsCall IsBody body-last body-next ((mark right_curly).token ∷ []) (a-last (mark right_curly).is) (call-shrinks b)
    (call-reads b)

-- a document, and the end after it
abbrev pub Documented : Phrase Document
Documented b ts d us = us ≡ [] → IsDocument b ts d

-- the end
at-end-reads : {A : Type 0} {T : Phrase A} {b : ℕ} (a : A) → ((c : ℕ) (us : List Token) → T c us a us) → Reads T b (at_end a)
at-end-reads {A} {T} {b} a h = record { each = go; some = (finish a h).some }
  where
    go : (us : List Token) → Right T b us (at_end a us)
    go [] = (finish a h).each []
    go (t ∷ us) = nine [] refl (finish a h).some

body_end : {b : ℕ} {ts us : List Token} {xs : List Call} → us ≡ [] → IsBody b ts xs us → IsBody b ts xs []
body_end {b} {ts} {us} {xs} e h = rw e at h

pub document-reads : (b : ℕ) → Reads Documented b (document b)
unfolding document
document-reads b =
    expects Documented version-token (λ v sv.
    expects _ number-token (λ l sl.
    expects _ graph-token (λ g sg.
    expects _ name-token (λ n sn.
    expects _ (mark left_round) (λ o so.
    after _ _ (separated-reads Name right_round (expect-shrinks a_name) (name-reads b)) (λ is.
    expects _ arrow-token (λ a sa.
    expects _ (mark left_round) (λ p sp.
    after _ _ (separated-reads Name right_round (expect-shrinks a_name) (name-reads b)) (λ os.
    expects _ (mark left_curly) (λ q sq.
    after _ _ (body_reads b) (λ xs.
    at-end-reads _ (λ c us ts h ts' h' ts'' h'' e. a-document sv sl sg sn so h'' sa sp h' sq (body_end e h)))))))))))))
