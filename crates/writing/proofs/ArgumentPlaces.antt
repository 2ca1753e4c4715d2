-- Where the value of each parameter stands. In order: what an argument is for; the slots after one argument more; the walk over the arguments of a call; the
-- two ways in which a parameter has a value.
use mathlib.Core.Path.{◌≡◌, refl, sym, ap, subst, ◌∙◌}
use mathlib.Core.Bool.{Bool, true, false, cond, ◌&&◌, and-false}
use mathlib.Core.List.{List, [], ◌∷◌}
use mathlib.Core.Option.{Option, some}
use mathlib.Core.Option.{none as nothing}
use Prim.Native.Nat.{ℕ, zero, suc, ◌+◌, ◌<◌, ◌≤◌}
use native.Mathlib.Omega.{arith}
use native.Mathlib.Numerals.{add-one}
use borrow.Author.Tests.{eq-eqb, ne_eqb, eqb-true, eqb-false, lt-ltb, leb-true, leb-false}
use lib.Dec.{eqb, leb, ltb}
use lib.ListN.{length, get_or, set, replicate}
use lib.Seq.{get_or-set_same, get_or-set_other}
use Rattle.spellings.specs.Comparison.{same_bytes}
use Rattle.lexis.specs.Sizes.{max_brackets}
use Rattle.lexis.specs.Lexer.{Token}
use Rattle.lexis.specs.Symbol.{comma, right_round}
use Rattle.syntax.specs.Tree.{Value, Param, Arg}
use Rattle.syntax.specs.Tree.Arg.{positional, named}
use Rattle.syntax.specs.Grammar.{both}
use Rattle.syntax.specs.Parser.{rest, row, plain, commas, value, argument}
use Rattle.syntax.specs.Parser.Parse.{ok}
use Rattle.syntax.specs.Tokens.{from}
use Rattle.syntax.specs.declared.tokens.Tokens.{Tokens}
use Rattle.syntax.specs.Table.{token_at, toks}
use Rattle.syntax.specs.Inner.{lookahead, is_label}
use Rattle.syntax.proofs.Table.{toks-rest}
use Rattle.syntax.proofs.Shrinks.{argument-shrinks}
use Rattle.lists.specs.Reading.{Val, bind, read_at}
use Rattle.documents.specs.declared.operation.Operation.{Operation}
use Rattle.documents.specs.Binding.{or_else}
use Rattle.documents.specs.Tallies.{Declares, Nth, NumberOf, EndsAt}
use Rattle.documents.specs.Tallies.Nth.{nth-first, after}
use Rattle.documents.proofs.Sought.{Only, alike, none-nth, only-nth}
use Rattle.documents.proofs.Sought.Only.{here, there}
use Rattle.documents.proofs.DirectoryEntries.{nth-below, spelt-as, number_of}
use Rattle.documents.proofs.RowParses.{Rowed, row_ok}
use Rattle.documents.proofs.RowParses.Rowed.{next, last}
use Rattle.documents.proofs.Items.{clash, token-there}
use Rattle.documents.proofs.ArgumentCalls.{with-label, without-label}
use Rattle.writing.specs.Plan.{value_for}
use Rattle.writing.specs.declared.argument.Walk.{Walk}
use Rattle.writing.specs.declared.argument.Aim.{Aim}
use Rattle.documents.specs.Callees.{Takes}
use Rattle.documents.specs.declared.callee.Callee.{Callee}
use Rattle.writing.specs.Writing.{argument_for, ValueAt, Slotted, slot_set, AimsAt, Aims, BindsAll}
use Rattle.writing.specs.Writing.ValueAt.{no_value, a-value}

-- ---- what an argument is for

-- the only parameter of a name, and any other
only_here : {t : Token} {j : ℕ} {p q : Param} {ps : List Param} → Only t j p ps → Nth j q ps → alike q t ≡ true
only_here (here h n) nth-first = h
only_here (there h o) (after m) = only_here o m

only-else : {t : Token} {j k : ℕ} {p q : Param} {ps : List Param} → Only t j p ps → Nth k q ps → (j ≡ k → ⊥) → alike q t ≡ false
only-else (here h n) nth-first w = absurd (w refl)
only-else (here h n) (after m) w = none-nth n m
only-else (there h o) nth-first w = h
only-else (there h o) (after m) w = only-else o m (λ e. w (ap suc e))

-- a label is the name of the parameter of its number, and of no other
label-for : {text table words : List ℕ} {n : ℕ} {o : Operation} {ps : List Param} → Declares text table words n o ps → (t : Token) {r : ℕ}
    → NumberOf text table words o t.bytes r → (k : ℕ) (p : Param) → Nth k p ps → same_bytes p.name.bytes t.bytes ≡ eqb r k
label-for {o = o} {ps = ps} d t {r} f k p m = go (leb o.count r) refl
  where
    known : r < o.count → (b : Bool) → eqb r k ≡ b → same_bytes p.name.bytes t.bytes ≡ b
    known l true e =
        let i = number_of d r l in
        let only = only-nth {t = t} d.apart (spelt-as d t.bytes i.nth ∙ f.spelt l) i.nth in
        only_here only (subst (λ (j : ℕ). Nth j p ps) (sym (eqb-true r k e)) m)
    known l false e =
        let i = number_of d r l in
        only-else (only-nth {t = t} d.apart (spelt-as d t.bytes i.nth ∙ f.spelt l) i.nth) m (eqb-false r k e)

    go : (b : Bool) → leb o.count r ≡ b → same_bytes p.name.bytes t.bytes ≡ eqb r k
    go true e =
        let l = leb-true o.count r e in
        let i : k < o.count = omega (arith, nth-below m, d.count) in
        spelt-as d t.bytes m ∙ f.none l k i ∙ sym (ne_eqb r k (λ (z : r ≡ k). omega arith))
    go false e = known (leb-false o.count r e) (eqb r k) refl

module _ (text table : List ℕ) (n i : ℕ) {x : Arg} {us : List Token} (h : argument max_brackets (toks text table n i) ≡ ok x us) where
  pub aims-named : {ltext ltable words : List ℕ} {ln : ℕ} {o : Operation} {ps : List Param} → Declares ltext ltable words ln o ps
      → is_label (toks text table n i) ≡ true → (j r : ℕ) → NumberOf ltext ltable words o (token_at text table i).bytes r
      → AimsAt text table n ps j x us (record { number = r; value = i + 2 })
  unfolding argument_for
  aims-named d l j r f =
      let w = with-label text table n i max_brackets h l in
      record {
        tree = w.tree;
        reads = w.reads;
        binds = λ k p m. ap (λ (y : Arg). argument_for j k p (y ∷ [])) w.is
            ∙ ap (λ (b : Bool). cond b (some w.tree) nothing) (label-for d (token_at text table i) f k p m);
      }

  pub aims-placed : (ps : List Param) → is_label (toks text table n i) ≡ false → (j : ℕ) → AimsAt text table n ps j x us (record { number = j; value = i })
  unfolding argument_for
  aims-placed ps l j =
      let w = without-label text table n i max_brackets h l in
      record { tree = w.tree; reads = w.reads; binds = λ k p m. ap (λ (y : Arg). argument_for j k p (y ∷ [])) w.is }

-- ---- the slots after one argument more

if-else : (b : Bool) (v : Value) (o : Option Value) → cond b (some v) o ≡ or_else (cond b (some v) nothing) o
if-else true v o = refl
if-else false v o = refl

-- the first argument, else those after it
argument-first : (j k : ℕ) (q : Param) (x : Arg) (xs : List Arg) → argument_for j k q (x ∷ xs) ≡ or_else (argument_for j k q (x ∷ []))
    (argument_for (suc j) k q xs)
unfolding argument_for
argument-first j k q (positional v) xs = if-else (eqb j k) v (argument_for (suc j) k q xs)
argument-first j k q (named t v) xs = if-else (same_bytes q.name.bytes t.bytes) v (argument_for (suc j) k q xs)

or-none : (o : Option Value) → or_else o nothing ≡ o
or-none nothing = refl
or-none (some v) = refl

-- slots that keep what they hold
slot-other : (slots : List ℕ) (count p v k : ℕ) → (p ≡ k → ⊥) → get_or (slot_set slots count p v) k 0 ≡ get_or slots k 0
unfolding slot_set
slot-other slots count p v k w = go (ltb p count && eqb (get_or slots p 0) 0)
  where
    go : (b : Bool) → get_or (cond b (set slots p v) slots) k 0 ≡ get_or slots k 0
    go true = get_or-set_other slots p k v 0 (λ e. w (sym e))
    go false = refl

slot_kept : (slots : List ℕ) (count p v : ℕ) → (get_or slots p 0 ≡ 0 → ⊥) → slot_set slots count p v ≡ slots
unfolding slot_set
slot_kept slots count p v w = simp (ne_eqb (get_or slots p 0) 0 w, and-false (ltb p count))

slot-new : (slots : List ℕ) (count p v : ℕ) → p < count → count ≤ length slots → get_or slots p 0 ≡ 0 → get_or (slot_set slots count p v) p 0 ≡ v
unfolding slot_set
slot-new slots count p v l m e = rw (lt-ltb p count l, eq-eqb (get_or slots p 0) 0 e) (get_or-set_same slots p v 0 (omega arith))

-- slots that hold nothing
pub empty-slots : (n k : ℕ) → ◌≡◌ {A = ℕ} (get_or (replicate n 0) k 0) 0
empty-slots zero k = refl
empty-slots (suc n) zero = refl
empty-slots (suc n) (suc k) = empty-slots n k

-- no value stands at place 0, and one at any other that is held
pub value_none : {text table : List ℕ} {n i : ℕ} {o : Option Value} → ValueAt text table n i o → i ≡ 0 → o ≡ nothing
value_none no_value e = refl
value_none (a-value l h) e = absurd (omega arith)

pub record Found (text table : List ℕ) (n i : ℕ) (o : Option Value) : Type 0 where
  pub tree : Value
  pub is : o ≡ some tree
  pub rest : List Token
  pub reads : value both max_brackets (toks text table n i) ≡ ok tree rest

pub value-some : {text table : List ℕ} {n i : ℕ} {o : Option Value} → ValueAt text table n i o → (i ≡ 0 → ⊥) → Found text table n i o
value-some no_value w = absurd (w refl)
value-some (a-value {v = v} {us = us} l h) w = record { tree = v; is = refl; rest = us; reads = h }

module _ (text table : List ℕ) (n : ℕ) (xs : List Arg) where
  -- the slot of parameter p, number k, holds what the arguments passed have for it; those left are ys, the first of which is number j
  pub record Filled (slots : List ℕ) (j : ℕ) (ys : List Arg) (k : ℕ) (p : Param) : Type 0 where
    pub held : Option Value
    pub at : ValueAt text table n (get_or slots k 0) held
    pub same : argument_for 0 k p xs ≡ or_else held (argument_for j k p ys)

  module _ {ps : List Param} {slots : List ℕ} {j : ℕ} {x : Arg} {ys : List Arg} {us : List Token} {a : Aim} (aims : AimsAt text table n ps j x us a)
      (count : ℕ) (room : count ≤ length slots) (all : length ps ≤ count) (positive : 0 < a.value) (k : ℕ) (p : Param) (m : Nth k p ps)
      (f : Filled slots j (x ∷ ys) k p) where
    -- as far as the argument decides it
    split : {b : Bool} → eqb a.number k ≡ b
        → argument_for 0 k p xs ≡ or_else f.held (or_else (cond b (some aims.tree) nothing) (argument_for (suc j) k p ys))
    split e =
        f.same
        ∙ ap (or_else f.held) (argument-first j k p x ys
        ∙ ap (λ (o : Option Value). or_else o (argument_for (suc j) k p ys)) (aims.binds k p m ∙ ap (λ (b : Bool). cond b (some aims.tree) nothing) e))

    -- it binds this parameter, which is bound already or not
    own : a.number ≡ k → (s : ℕ) → get_or slots k 0 ≡ s → Filled (slot_set slots count a.number a.value) (suc j) ys k p
    own e s z = by (eqb s 0) refl
      where
        here-is : argument_for 0 k p xs ≡ or_else f.held (some aims.tree)
        here-is = split (eq-eqb a.number k e)

        by : (b : Bool) → eqb s 0 ≡ b → Filled (slot_set slots count a.number a.value) (suc j) ys k p
        by true q =
            let empty : get_or slots k 0 ≡ 0 = z ∙ eqb-true s 0 q in
            let l : k < count = omega (arith, nth-below m) in
            let new : get_or (slot_set slots count a.number a.value) k 0 ≡ a.value =
            ap (λ (i : ℕ). get_or (slot_set slots count i a.value) k 0) e ∙ slot-new slots count k a.value l room empty in
            record {
              held = some aims.tree;
              at = subst (λ (i : ℕ). ValueAt text table n i (some aims.tree)) (sym new) (a-value positive aims.reads);
              same = here-is ∙ ap (λ (o : Option Value). or_else o (some aims.tree)) (value_none f.at empty);
            }
        by false q =
            let full : get_or slots k 0 ≡ 0 → ⊥ = λ (w : get_or slots k 0 ≡ 0). eqb-false s 0 q (sym z ∙ w) in
            let t = value-some f.at full in
            let kept : slot_set slots count a.number a.value ≡ slots =
            ap (λ (i : ℕ). slot_set slots count i a.value) e ∙ slot_kept slots count k a.value full in
            let some_is : argument_for 0 k p xs ≡ or_else f.held (argument_for (suc j) k p ys) =
            here-is ∙ ap (λ (o : Option Value). or_else o (some aims.tree)) t.is
            ∙ sym (ap (λ (o : Option Value). or_else o (argument_for (suc j) k p ys)) t.is) in
            record { held = f.held; at = subst (λ (ss : List ℕ). ValueAt text table n (get_or ss k 0) f.held) (sym kept) f.at; same = some_is }

    pub filled_more : Filled (slot_set slots count a.number a.value) (suc j) ys k p
    filled_more = go (eqb a.number k) refl
      where
        go : (b : Bool) → eqb a.number k ≡ b → Filled (slot_set slots count a.number a.value) (suc j) ys k p
        go true e = own (eqb-true a.number k e) (get_or slots k 0) refl
        go false e =
            record {
              held = f.held;
              at = subst (λ (i : ℕ). ValueAt text table n i f.held) (sym (slot-other slots count a.number a.value k (eqb-false a.number k e)))
                  f.at;
              same = split e;
            }

-- ---- the walk over the arguments

module _ (doc : Tokens) (callee : Callee) (args : ℕ) (before : List ℕ) where
  -- the slots with what an argument binds
  abbrev pub bound : List ℕ → Aim → List ℕ
  bound slots a = slot_set slots callee.operation.count a.number a.value

  abbrev Row : ℕ → List Arg → List Token → Type 0
  Row i xs us = row plain (commas right_round) (argument max_brackets) (from doc i) ≡ ok xs us

  -- the slots hold what the arguments passed bind; those left are read from the walk's place on
  pub record Passed (ps : List Param) (xs : List Arg) (us : List Token) (slots : List ℕ) (w : Walk) : Type 0 where
    pub left : List Arg
    pub reads : Row w.at left us
    pub filled : (k : ℕ) (p : Param) → Nth k p ps → Filled doc.text.now doc.table.now doc.count xs slots w.index left k p

  abbrev pub Passes : List ℕ → Walk → Type 0
  Passes slots w =
      (ps : List Param) (xs : List Arg) (us : List Token) → Takes callee ps → Row args xs us → ((k : ℕ) → get_or before k 0 ≡ 0)
      → Passed ps xs us slots w

  pub passes_none : (guess : ℕ) → Passes before (record { at = args; index = 0; guess = guess })
  passes_none guess ps xs us d h z = record {
    left = xs;
    reads = h;
    filled = λ k p m. record { held = nothing; at = subst (λ (i : ℕ). ValueAt doc.text.now doc.table.now doc.count i nothing) (sym (z k)) no_value; same = refl };
  }

  module _ (slots : List ℕ) (w : Walk) (walk : Passes slots w) (room : callee.operation.count ≤ length slots) {a : Aim}
      (aims : Aims doc callee w a)
      (positive : 0 < a.value) (end : ℕ) {sees : ℕ} (ends : EndsAt doc.text.now doc.table.now doc.count a.value end) (looks : sees ≡ lookahead (from doc end)) where
    -- the arguments end
    pub passes-ended : (sees ≡ comma → ⊥) → BindsAll doc args callee before (bound slots a) end
    unfolding argument_for
    passes-ended stop ps xs us d h z =
        let v = walk ps xs us d h z in
        go v refl (row_ok right_round (argument max_brackets) (argument-shrinks max_brackets) (from doc w.at) v.reads)
      where
        go : (v : Passed ps xs us slots w) {ys : List Arg} → v.left ≡ ys → Rowed right_round (argument max_brackets) (from doc w.at) us ys
            → Slotted doc.text.now doc.table.now doc.count ps xs (bound slots a) × (us ≡ from doc (end + 1)) × (end < doc.count)
        go v e (last {a = x} {c = c} k q) =
            let t = aims ps x (c ∷ us) d k in
            let f = ends t.tree (c ∷ us) t.reads in (
              λ i p m.
                  let g = filled_more doc.text.now doc.table.now doc.count xs t callee.operation.count room (omega (arith, d.count)) positive i p m
                  (subst (λ (ys : List Arg). Filled doc.text.now doc.table.now doc.count xs slots w.index ys i p) e (v.filled i p m)) in
                  subst (ValueAt doc.text.now doc.table.now doc.count (get_or (bound slots a) i 0)) (sym (g.same ∙ or-none g.held)) g.at,
              ap rest f ∙ toks-rest doc.text.now doc.table.now doc.count end,
              token-there doc.text.now doc.table.now doc.count end (sym f),
            )
        go v e (next {a = x} {c = c} {us = vs} k q m) =
            let t = aims ps x (c ∷ vs) d k in
            let f = ends t.tree (c ∷ vs) t.reads in
            absurd (stop (looks ∙ ap lookahead (sym f) ∙ q))

    -- another argument follows the comma
    pub passes_on : sees ≡ comma → (guess : ℕ) → Passes (bound slots a) (record { at = end + 1; index = w.index + 1; guess = guess })
    passes_on goes guess ps xs us d h z =
        let v = walk ps xs us d h z in
        go v refl (row_ok right_round (argument max_brackets) (argument-shrinks max_brackets) (from doc w.at) v.reads)
      where
        go : (v : Passed ps xs us slots w) {ys : List Arg} → v.left ≡ ys → Rowed right_round (argument max_brackets) (from doc w.at) us ys
            → Passed ps xs us (bound slots a) (record { at = end + 1; index = w.index + 1; guess = guess })
        go v e (last {a = x} {c = c} k q) =
            let t = aims ps x (c ∷ us) d k in
            let f = ends t.tree (c ∷ us) t.reads in
            let r : comma ≡ right_round = sym goes ∙ looks ∙ ap lookahead (sym f) ∙ q in
            absurd (omega arith)
        go v e (next {a = x} {c = c} {us = vs} {xs = ys} k q m) =
            let t = aims ps x (c ∷ vs) d k in
            let f : vs ≡ from doc (end + 1) = ap rest (ends t.tree (c ∷ vs) t.reads) ∙ toks-rest doc.text.now doc.table.now doc.count end in
            record {
              left = ys;
              reads = rw f at m;
              filled = λ i p n.
                  let g = filled_more doc.text.now doc.table.now doc.count xs t callee.operation.count room (omega (arith, d.count)) positive i p n
                  (subst (λ (zs : List Arg). Filled doc.text.now doc.table.now doc.count xs slots w.index zs i p) e (v.filled i p n)) in
                  rw (add-one w.index) g;
            }

-- ---- the value of a parameter

-- it is bound, or it is the default
pub bound-value : (q : Param) {o : Option Value} {v : Value} {w : Val} → o ≡ some v → value_for (record { param = q; value = o }) ≡ some w
    → read_at v q.ty ≡ some w
unfolding value_for
bound-value q e h = rw e at h

pub record Default (q : Param) (w : Val) : Type 0 where
  pub tree : Value
  pub is : q.default ≡ some tree
  pub reads : read_at tree q.ty ≡ some w

pub default-value : (q : Param) {o : Option Value} {w : Val} → o ≡ nothing → value_for (record { param = q; value = o }) ≡ some w → Default q w
unfolding value_for
default-value q {w = w} e h = go q.default refl (rw e at h)
  where
    go : (d : Option Value) → q.default ≡ d → bind d (λ v. read_at v q.ty) ≡ some w → Default q w
    go nothing f k = clash cc
    go (some v) f k = record { tree = v; is = f; reads = k }
