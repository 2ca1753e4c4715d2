-- The directory as the code reads it: the parameter of a number, the operation of a name, and the records that the code may read.
-- Relies on `Faultless` for what a list without faults says.
use mathlib.Core.Path.{◌≡◌, refl, sym, ap, subst, ◌∙◌}
use mathlib.Core.Bool.{Bool, true, false, cond, false≢true, and-eq-true_iff}
use mathlib.Core.List.{List, [], ◌∷◌, ◌++◌, flat_map}
use mathlib.Core.Option.{some}
use mathlib.Core.Option.{none as nothing}
use Prim.Native.Nat.{ℕ, zero, suc, ◌+◌, ◌-◌, ◌*◌, ◌<◌, ◌≤◌}
use native.Mathlib.Omega.{arith}
use lib.Dec.{ltb}
use lib.ListN.{length}
use borrow.Author.Tests.{ltb-true}
use Rattle.spellings.specs.Comparison.{same_bytes}
use Rattle.lexis.specs.Sizes.{max_operations}
use Rattle.lexis.specs.Lexer.{Token}
use Rattle.syntax.specs.Tree.{Param, Header}
use Rattle.lists.specs.Fault.{first}
use Rattle.lists.specs.Reading.{is_some}
use Rattle.lists.specs.Found.{operation_of, find, index_of}
use Rattle.lists.specs.Lists.{header_faults}
use Rattle.lists.specs.Directory.{operation_word, parameter_word, first_parameter, parameter_words, ParameterAt, ParametersAt, OperationAt, OperationsAt}
use Rattle.lists.specs.Directory.ParametersAt.{no-parameter, a-parameter}
use Rattle.lists.specs.Directory.OperationsAt.{no-operation, an-operation}
use Rattle.lists.proofs.First.{first-append}
use Rattle.lists.proofs.Faultless.{neither, few-params, apart-params}
use Rattle.syntax.specs.declared.tokens.Tokens.{Tokens}
use Rattle.documents.specs.declared.operation.Operation.{Operation}
use Rattle.documents.specs.declared.callee.Callee.{Callee}
use Rattle.documents.specs.Callees.{Called, Takes}
use Rattle.documents.specs.Tallies.{operation_in, ParamsRecorded, NamesBelow, Declares, Nth, spelt_at, is_guessed, NumberOf}
use Rattle.documents.specs.Tallies.Nth.{nth-first, after}
use Rattle.documents.specs.Judged.{Readable}

-- ---- parameters

-- there is a parameter of each number below their count
pub record Numbered (i : ℕ) (ps : List Param) : Type 0 where
  pub param : Param
  pub nth : Nth i param ps

pub numbered : (i : ℕ) (ps : List Param) → i < length ps → Numbered i ps
numbered i [] l = absurd (omega arith)
numbered zero (p ∷ ps) l = record { param = p; nth = nth-first }
numbered (suc i) (p ∷ ps) l = let r = numbered i ps (omega arith) in record { param = r.param; nth = after r.nth }

pub nth-below : {i : ℕ} {p : Param} {ps : List Param} → Nth i p ps → i < length ps
nth-below nth-first = omega arith
nth-below (after n) = let l = nth-below n in omega arith

module _ {text table words : List ℕ} {n : ℕ} where
  pub nth-at : {j i : ℕ} {p : Param} {ps : List Param} → ParametersAt text table words n j ps → Nth i p ps → ParameterAt text table words n (j + i) p
  nth-at {j} no-parameter k = elim k [ ]
  nth-at {j} (a-parameter p r) nth-first = let e : j + 0 ≡ j = omega arith in rw e p
  nth-at {j} (a-parameter p r) (after {j = i} k) = let e : j + suc i ≡ suc j + i = omega arith in rw e (nth-at r k)

  module _ {o : Operation} {ps : List Param} (d : Declares text table words n o ps) where
    pub parameter-at : {i : ℕ} {p : Param} → Nth i p ps → ParameterAt text table words n (o.first + i) p
    parameter-at k = nth-at d.params k

    -- its name is spelt as the directory says
    pub spelt-as : {i : ℕ} {p : Param} (w : List ℕ) → Nth i p ps → same_bytes p.name.bytes w ≡ spelt_at text table words (o.first + i) w
    spelt-as w k = ap (λ (t : Token). same_bytes t.bytes w) (sym (parameter-at k).name)

    pub number_of : (i : ℕ) → i < o.count → Numbered i ps
    number_of i l = numbered i ps (rw d.count at l)

-- ---- the number of a name

pub guessed-below : (text table words : List ℕ) (o : Operation) (w : List ℕ) (r : ℕ) → is_guessed text table words o w r ≡ true → r < o.count
unfolding is_guessed
guessed-below text table words o w r e = ltb-true r o.count ((and-eq-true_iff (ltb r o.count) (spelt_at text table words (o.first + r) w)).0 e).0

module _ {text table words : List ℕ} {o : Operation} {w : List ℕ} {r : ℕ} where
  pub number-here : r < o.count → spelt_at text table words (o.first + r) w ≡ true → NumberOf text table words o w r
  number-here l e = record { within = omega arith; spelt = λ m. e; none = λ m. absurd (omega arith) }

  pub number-guessed : is_guessed text table words o w r ≡ true → NumberOf text table words o w r
  unfolding is_guessed
  number-guessed e =
      let p = (and-eq-true_iff (ltb r o.count) (spelt_at text table words (o.first + r) w)).0 e in
      number-here (ltb-true r o.count p.0) p.1

  pub number-none : r ≤ o.count → o.count ≤ r → ((i : ℕ) → i < r → spelt_at text table words (o.first + i) w ≡ false) → NumberOf text table words o w r
  number-none l k f = record { within = l; spelt = λ m. absurd (omega arith); none = λ m i z. f i (omega arith) }

pub number-as : {text table words : List ℕ} {o : Operation} {v w : List ℕ} {r : ℕ} → v ≡ w → NumberOf text table words o v r → NumberOf text table words o w r
number-as {text} {table} {words} {o} {r = r} e f = subst (λ (z : List ℕ). NumberOf text table words o z r) e f

-- ---- operations

-- a name that is declared has its index among the headers
pub index_below : (hs : List Header) (t : Token) → is_some (find hs t) ≡ true → index_of hs t < length hs
unfolding operation_of index_of
index_below [] t e = absurd (false≢true e)
index_below (h ∷ hs) t e = go (same_bytes h.name.bytes t.bytes) e (index_below hs t)
  where
    go : (b : Bool) → is_some (cond b (some h) (find hs t)) ≡ true → (is_some (find hs t) ≡ true → index_of hs t < length hs)
        → cond b 0 (suc (index_of hs t)) < suc (length hs)
    go true q ih = omega arith
    go false q ih = let l = ih q in omega arith

-- the operation of a name, by its number
pub record OperationOf (text table words : List ℕ) (n k : ℕ) (hs : List Header) (t : Token) : Type 0 where
  pub head : Header
  pub is : find hs t ≡ some head
  pub stands : OperationAt text table words n k head
  pub own : first (flat_map header_faults hs) ≡ nothing → first (header_faults head) ≡ nothing

pub operation-of : {text table words : List ℕ} {n j : ℕ} {hs : List Header} (t : Token) → OperationsAt text table words n j hs → is_some (find hs t) ≡ true
    → OperationOf text table words n (j + index_of hs t) hs t
unfolding operation_of index_of flat_map
operation-of t no-operation e = absurd (false≢true e)
operation-of {text} {table} {words} {n} {j} t (an-operation {h = h} {hs = hs} o r) e = go (same_bytes h.name.bytes t.bytes) refl e (operation-of t r)
  where
    sides : first (header_faults h ++ flat_map header_faults hs) ≡ nothing → (first (header_faults h) ≡ nothing) × (first (flat_map header_faults hs) ≡ nothing)
    sides z = neither _ _ (sym (first-append (header_faults h) (flat_map header_faults hs)) ∙ z)

    go : (b : Bool) → same_bytes h.name.bytes t.bytes ≡ b → is_some (cond (same_bytes h.name.bytes t.bytes) (some h) (find hs t)) ≡ true
        → (is_some (find hs t) ≡ true → OperationOf text table words n (suc j + index_of hs t) hs t)
        → OperationOf text table words n (j + cond (same_bytes h.name.bytes t.bytes) 0 (suc (index_of hs t))) (h ∷ hs) t
    go true p q ih =
        let e : j + 0 ≡ j = omega arith in
        record {
          head = h;
          is = ap (λ (c : Bool). cond c (some h) (find hs t)) p;
          stands = subst (λ (i : ℕ). OperationAt text table words n i h) (sym (ap (λ (c : Bool). j + cond c 0 (suc (index_of hs t))) p ∙ e)) o;
          own = λ z. (sides z).0;
        }
    go false p q ih =
        let i = ih (sym (ap (λ (c : Bool). is_some (cond c (some h) (find hs t))) p) ∙ q) in
        let e : j + suc (index_of hs t) ≡ suc j + index_of hs t = omega arith in
        record {
          head = i.head;
          is = ap (λ (c : Bool). cond c (some h) (find hs t)) p ∙ i.is;
          stands = subst (λ (m : ℕ). OperationAt text table words n m i.head) (sym (ap (λ (c : Bool). j + cond c 0 (suc (index_of hs t))) p ∙ e)) i.stands;
          own = λ z. i.own (sides z).1;
        }

-- ---- the records of one operation

-- the parameters of a header without faults can be read
pub readable : {text table words : List ℕ} {n k : ℕ} {h : Header} → OperationAt text table words n k h → first (header_faults h) ≡ nothing → k < max_operations
    → first_parameter + operation_word words k 2 * parameter_words ≤ length words → Readable words n k
readable {text} {table} {words} {n} {k} {h} o c l r =
    let e = o.ends in
    let f = few-params h c in
    record {
      number = l;
      room = r;
      ordered = omega arith;
      few = omega arith;
      names = λ j a b.
          let i = numbered (j - operation_word words k 1) h.params (omega arith) in
          let w : operation_word words k 1 + (j - operation_word words k 1) ≡ j = omega arith in
          let p = named-inside i.param (nth-at o.params i.nth) w in
          omega arith;
    }
  where
    named-inside : (p : Param) {i : ℕ} → ParameterAt text table words n i p → {j : ℕ} → i ≡ j → parameter_word words j 0 + 2 < n
    named-inside p a e = rw e at a.inside

module _ {words : List ℕ} {k : ℕ} {o : Operation} (c : o ≡ operation_in words k) where
  pub recorded : {n : ℕ} → Readable words n k → ParamsRecorded words o
  recorded r =
      let a = r.few in
      let b = r.ordered in
      let d = r.room in
      rw c (record { few = omega arith; room = omega arith })

  pub names-below : {n : ℕ} → Readable words n k → NamesBelow words n o
  names-below r =
      let b = r.ordered in
      rw c (record { below = λ i l. r.names (operation_word words k 1 + i) (omega arith) (omega (arith, l)) })

  pub declares : {text table : List ℕ} {n : ℕ} {h : Header} → OperationAt text table words n k h → first (header_faults h) ≡ nothing
      → Declares text table words n o h.params
  declares {h = h} a f = rw c (record { params = a.params; count = omega (arith, a.ends); few = few-params h f; apart = apart-params h f })

-- the same of the callee that is made of it
pub takes : {ts : Tokens} {ws : List ℕ} {k : ℕ} {c : Callee} {h : Header} → Called ts ws k c → OperationAt ts.text.now ts.table.now ws ts.count k h
    → first (header_faults h) ≡ nothing → Takes c h.params
takes g a f = rw (g.list, g.words) (declares g.operation a f)
