-- The arguments of a call, put one after the other: one argument; then the walk over the parameters.
use mathlib.Core.Path.{◌≡◌, refl, sym, ap, subst, ◌∙◌}
use mathlib.Core.List.{List, [], ◌∷◌}
use mathlib.Core.Option.{Option, some}
use Prim.Native.Nat.{ℕ, suc, ◌+◌, ◌<◌, ◌≤◌}
use native.Mathlib.Omega.{arith}
use native.Mathlib.Numerals.{add-one}
use native.Mathlib.Nat.{zero-add}
use lib.ListN.{length, get_or}
use Rattle.lexis.specs.Ascii.{ascii}
use Rattle.lexis.specs.Kind as Kind
use Rattle.lexis.specs.Lexer.{Token}
use Rattle.syntax.specs.Tree.{Value, Param, Arg}
use Rattle.syntax.specs.Grammar.{literals}
use Rattle.syntax.specs.Parser.{value}
use Rattle.syntax.specs.Parser.Parse.{ok}
use Rattle.syntax.specs.Table.{token_at, toks}
use Rattle.lexis.specs.Sizes.{max_brackets}
use Rattle.lists.specs.Reading.{Val}
use Rattle.lists.specs.Directory.{parameter_word, ParameterAt, DefaultAt}
use Rattle.lists.specs.Directory.DefaultAt.{no_default, a-default}
use Rattle.documents.specs.declared.operation.Operation.{Operation}
use Rattle.documents.specs.Binding.{slots, misplaced}
use Rattle.documents.specs.Tallies.{Declares, Nth}
use Rattle.documents.specs.Tallies.Nth.{nth-first, after}
use Rattle.documents.proofs.DirectoryEntries.{parameter-at}
use Rattle.documents.proofs.Items.{clash}
use Rattle.writing.specs.Plan.{values_for}
use Rattle.writing.specs.declared.writer.Writer.{Writer}
use Rattle.syntax.specs.declared.tokens.Tokens.{Tokens}
use Rattle.writing.specs.Layout.{mark, pieces, argument_pieces, more_arguments_pieces, arguments_pieces}
use Rattle.documents.specs.Callees.{Takes}
use Rattle.documents.specs.declared.callee.Callee.{Callee}
use Rattle.writing.specs.Writing.{Puts, PutsWord, argument_for, Slotted, PutsArgument, PutsSlots}
use Rattle.writing.proofs.Putting.{puts_then, puts_none}
use Rattle.writing.proofs.Arguments.{filled_from, slots_filled, values-more}

-- ---- one argument

-- the parameter's name, `=`, and the value
pub argument-put : (text table words : List ℕ) (n j : ℕ) {q : Param} {i : ℕ} (w : Val) {a b c d : Writer}
    → ParameterAt text table words n j q → i ≡ parameter_word words j 0
    → PutsWord (token_at text table i).bytes a b → PutsWord (ascii "=") b c → Puts (pieces w) c d → Puts (argument_pieces q w) a d
argument-put text table words n j {q} {i} w p e x y z =
    let name : token_at text table i ≡ q.name = ap (token_at text table) e ∙ p.name in
    puts_then (rw name at (x Kind.name)) (puts_then (y Kind.syntactic) z)

-- the default stands at its place
pub record DefaultRead (text table : List ℕ) (n d : ℕ) (v : Value) : Type 0 where
  pub after : List Token
  pub reads : value literals max_brackets (toks text table n d) ≡ ok v after

pub default-read : {text table : List ℕ} {n d : ℕ} {o : Option Value} {v : Value} → DefaultAt text table n d o → o ≡ some v → DefaultRead text table n d v
default-read no_default e = clash cc
default-read {text} {table} {n} {d} {v = v} (a-default {v = x} {us = us} l h) e =
    let z : x ≡ v = cc in
    record { after = us; reads = h ∙ ap (λ (y : Value). ok y us) z }

-- ---- the walk over the parameters

-- a comma, and the arguments of the parameters that are left
comma-then : (xs : List Arg) (k : ℕ) (qs : List Param) → 0 < length qs → (vs : List Val) → values_for (filled_from xs k qs) ≡ some vs
    → {a b c : Writer} → Puts (λ r. mark (ascii ",") ∷ r) a b → Puts (arguments_pieces qs vs) b c
    → Puts (more_arguments_pieces qs vs) a c
unfolding arguments_pieces more_arguments_pieces
comma-then xs k [] e vs h x y = absurd (omega arith)
comma-then xs k (q ∷ qs) e [] h x y = let w = (values-more xs k q qs h).whole in clash cc
comma-then xs k (q ∷ qs) e (v ∷ vs) h x y = puts_then x y

module _ (doc : Tokens) (places : List ℕ) (callee : Callee) (before : Writer) where
  -- the parameters left, the first of them being number i; where their arguments are put from here on, all are put
  pub record Left (ps : List Param) (xs : List Arg) (vs : List Val) (out : Writer) (i : ℕ) : Type 0 where
    pub left : List Param
    pub values : List Val
    pub size : i + length left ≡ length ps
    pub nth : (k : ℕ) (p : Param) → Nth k p left → Nth (i + k) p ps
    pub valued : values_for (filled_from xs i left) ≡ some values
    pub whole : (a : Writer) → Puts (arguments_pieces left values) out a → Puts (arguments_pieces ps vs) before a

  abbrev pub PutsLeft : Writer → ℕ → Type 0
  PutsLeft out i =
      (ps : List Param) (xs : List Arg) (vs : List Val) → Takes callee ps → Slotted doc.text.now doc.table.now doc.count ps xs places → misplaced ps xs ≡ []
      → values_for (slots ps xs) ≡ some vs → Left ps xs vs out i

  pub puts-start : PutsLeft before 0
  puts-start ps xs vs d f m v =
      record {
        left = ps;
        values = vs;
        size = zero-add (length ps);
        nth = λ k p n. subst (λ (i : ℕ). Nth i p ps) (sym (zero-add k)) n;
        valued = ap values_for (sym (slots_filled ps xs m)) ∙ v;
        whole = λ a q. q;
      }

  -- an operation of no parameters
  pub puts-nothing : callee.operation.count ≡ 0 → PutsSlots doc places callee before before
  unfolding arguments_pieces
  puts-nothing e [] xs vs d f m v = puts_none
  puts-nothing e (p ∷ ps) xs vs d f m v = absurd (omega (arith, d.count))

  module _ (out : Writer) (i : ℕ) (walk : PutsLeft out i) (inside : i < callee.operation.count) {b : Writer}
      (one : PutsArgument doc (get_or places i 0) callee i out b) where
    -- the first parameter that is left has its argument put
    record Next (ps : List Param) (xs : List Arg) (vs : List Val) : Type 0 where
      first : Param
      others : List Param
      value : Val
      values : List Val
      size : i + suc (length others) ≡ length ps
      nth : (k : ℕ) (p : Param) → Nth k p others → Nth (i + suc k) p ps
      valued : values_for (filled_from xs (suc i) others) ≡ some values
      put : Puts (argument_pieces first value) out b
      whole : (a : Writer) → Puts (arguments_pieces (first ∷ others) (value ∷ values)) out a → Puts (arguments_pieces ps vs) before a

    next : (ps : List Param) (xs : List Arg) (vs : List Val) → Takes callee ps → Slotted doc.text.now doc.table.now doc.count ps xs places
        → Left ps xs vs out i → Next ps xs vs
    next ps xs vs d f l = go l.left refl
      where
        go : (qs : List Param) → l.left ≡ qs → Next ps xs vs
        go [] e =
            let z : length l.left ≡ 0 = ap length e in
            absurd (omega (arith, l.size, z, d.count, inside))
        go (q ∷ qs) e =
            let w = values-more xs i q qs (ap (λ (rs : List Param). values_for (filled_from xs i rs)) (sym e) ∙ l.valued) in
            let n = subst (λ (rs : List Param). (k : ℕ) (p : Param) → Nth k p rs → Nth (i + k) p ps) e l.nth in
            let zero_more : i + 0 ≡ i = omega arith in
            let m : Nth i q ps = subst (λ (k : ℕ). Nth k q ps) zero_more (n 0 q nth-first) in
            record {
              first = q;
              others = qs;
              value = w.one;
              values = w.others;
              size = ap (λ (rs : List Param). i + length rs) (sym e) ∙ l.size;
              nth = λ k p j. n (suc k) p (after j);
              valued = w.rest;
              put = one q (argument_for 0 i q xs) w.one (parameter-at d m) (f i q m) w.this;
              whole = λ a y. l.whole a (rw (e, w.whole) y);
            }

    pub puts-last : callee.operation.count ≤ i + 1 → PutsSlots doc places callee before b
    unfolding arguments_pieces more_arguments_pieces
    puts-last end ps xs vs d f m v = go (next ps xs vs d f (walk ps xs vs d f m v))
      where
        go : Next ps xs vs → Puts (arguments_pieces ps vs) before b
        go r = by r.others refl
          where
            by : (qs : List Param) → r.others ≡ qs → Puts (arguments_pieces ps vs) before b
            by [] e = r.whole b (rw e r.put)
            by (q ∷ qs) e =
                let z : length r.others ≡ suc (length qs) = ap length e in
                absurd (omega (arith, r.size, z, d.count, end))

    pub puts-on : i + 1 < callee.operation.count → {c : Writer} → Puts (λ r. mark (ascii ",") ∷ r) b c → PutsLeft c (i + 1)
    unfolding arguments_pieces
    puts-on more {c} comma ps xs vs d f m v =
        let r = next ps xs vs d f (walk ps xs vs d f m v) in
        let j : i + 1 ≡ suc i = add-one i in
        let some_left : 0 < length r.others = omega (arith, r.size, d.count, more) in
        record {
          left = r.others;
          values = r.values;
          size = omega (arith, r.size);
          nth = λ k p n. let e : i + suc k ≡ i + 1 + k = omega arith in subst (λ (x : ℕ). Nth x p ps) e (r.nth k p n);
          valued = ap (λ (x : ℕ). values_for (filled_from xs x r.others)) j ∙ r.valued;
          whole = λ a y. r.whole a (puts_then r.put (comma-then xs (suc i) r.others some_left r.values r.valued comma y));
        }
