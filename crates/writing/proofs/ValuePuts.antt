-- What each way through the code that puts a value has put, whatever stands in the two tables. In order: pieces; a value by its first
-- token; items one by one, whatever they are read at; the items of an array; those of a tuple, beside their types; a value and a type
-- as the readers read them. Assumes nothing.
use mathlib.Core.Path.{◌≡◌, refl, sym, ap, subst, ◌∙◌}
use mathlib.Core.Bool.{Bool, true, false}
use mathlib.Core.List.{List, ◌∷◌}
use mathlib.Core.Option.{some}
use Prim.Native.Nat.{ℕ, ◌+◌, ◌-◌, ◌<◌, ◌≤◌}
use native.Mathlib.Nat.{add-zero}
use native.Mathlib.Omega.{arith}
use borrow.Author.Tests.{ne_eqb}
use lib.Dec.{eqb}
use lib.ListN.{get_or}
use Rattle.lexis.specs.Ascii.{ascii}
use Rattle.lexis.specs.Kind as Kind
use Rattle.lexis.specs.Lexer.{Token}
use Rattle.lexis.specs.Symbol.{left_round, right_round, left_square, right_square, comma, minus, is_literal, a_name}
use Rattle.syntax.specs.Tree.{unsigned, negated, Value, Values, Ty, Tys}
use Rattle.syntax.specs.Tree.Values.{none, more}
use Rattle.syntax.specs.Tree.Tys.{no-type}
use Rattle.syntax.specs.Grammar.{Leaves, Spells, Items, IsType}
use Rattle.syntax.specs.Grammar.IsLiteral.{no_sign, a-sign}
use Rattle.syntax.specs.Grammar.Spells.{a-name, a-literal, an-empty-array, an-array, a-tuple}
use Rattle.syntax.specs.Grammar.Items.{last-item, next-item}
use Rattle.syntax.specs.Parser.{value, type}
use Rattle.syntax.specs.Parser.Parse.{ok}
use Rattle.syntax.specs.Table.{toks, Holds}
use Rattle.syntax.specs.Inner.{lookahead}
use Rattle.syntax.proofs.Table.{toks-none, toks-rest}
use Rattle.lists.specs.Reading.{Val, Vals, v_array, v_tuple, no-val, a-val, read_at, read_all, read_each}
use Rattle.lists.specs.Fitting.{stacked, IsBase, NoPair, Shaped, Columns, InArray}
use Rattle.lists.specs.Fitting.Columns.{last-column, next-column}
use Rattle.lists.specs.Fitting.InArray.{no_items, some-items}
use Rattle.lists.proofs.Phrases.{value-is, type-is}
use Rattle.lists.proofs.Leaves.{first_byte}
use Rattle.lists.specs.Types.{pairs_of}
use Rattle.lists.proofs.TypeTokens.{base-none}
use Rattle.lists.proofs.TypeTokens.{shape as shape_of}
use Rattle.lists.proofs.Answers.{Seen, seen, look, literal-look, behind, round-no-pair, comma-no-pair}
use Rattle.lists.proofs.Answers.{array-flat as flat-no-fit}
use Rattle.lists.proofs.Answers.Seen.{a-name-seen, a-literal-seen, a-sign-seen, an-array-seen, a-tuple-seen}
use Rattle.documents.proofs.Items.{token-there, token-is}
use Rattle.writing.specs.declared.writer.Writer.{Writer}
use Rattle.writing.specs.Layout.{mark, pieces, items, more_items}
use Rattle.writing.specs.Writing.{Puts, PutsWord, leaf_at, PutsLeaf, signs_of, PutsValue, PutsArray, PutsTuple}
use Rattle.writing.proofs.Putting.{puts_then}
use Rattle.writing.proofs.ReadParts.{unread, Parted, all-parts, each-parts, OneOrMore, all-some, each-some, array-items, TupleRead, tuple-items}
use Rattle.writing.proofs.ReadParts.{leaf-word, name-leaf, literal-leaf}
use Rattle.writing.proofs.ReadParts.Parted.{parted}
use Rattle.writing.proofs.ReadParts.OneOrMore.{one-or-more}
use Rattle.writing.proofs.ReadParts.TupleRead.{tuple-read}

clash : ◌≡◌ {A = ℕ} 0 1 → ⊥
clash z = omega arith

-- ---- pieces

array-pieces : (ws : Vals) {a b c : Writer} → PutsWord (ascii "[") a b → Puts (λ r. items ws (mark (ascii "]") ∷ r)) b c
    → Puts (pieces (v_array ws)) a c
unfolding pieces
array-pieces ws p q = puts_then (p Kind.syntactic) q

tuple-pieces : (ws : Vals) {a b c : Writer} → PutsWord (ascii "(") a b → Puts (λ r. items ws (mark (ascii ")") ∷ r)) b c
    → Puts (pieces (v_tuple ws)) a c
unfolding pieces
tuple-pieces ws p q = puts_then (p Kind.syntactic) q

none-pieces : (close : List ℕ) {a b : Writer} → PutsWord close a b → Puts (λ r. items no-val (mark close ∷ r)) a b
unfolding items
none-pieces close p = p Kind.syntactic

last-pieces : (w : Val) (close : List ℕ) {a b c : Writer} → Puts (pieces w) a b → PutsWord close b c
    → Puts (λ r. items (a-val w no-val) (mark close ∷ r)) a c
unfolding items more_items
last-pieces w close p q = puts_then p (q Kind.syntactic)

next-pieces : (w : Val) {ws : Vals} (close : List ℕ) {a b c d : Writer}
    → Puts (pieces w) a b → PutsWord (ascii ",") b c → OneOrMore ws → Puts (λ r. items ws (mark close ∷ r)) c d
    → Puts (λ r. items (a-val w ws) (mark close ∷ r)) a d
unfolding items more_items
next-pieces w close p q one-or-more f = puts_then p (puts_then (q Kind.syntactic) f)

-- ---- a value by its first token

-- what begins neither an array nor a tuple begins a leaf, whose terminal is no byte
leaf-range : {m : Leaves} {ts us : List Token} {v : Value} {s : ℕ} → Seen m ts v us → s ≡ lookahead ts → (s ≡ left_square → ⊥) → (s ≡ left_round → ⊥)
    → a_name ≤ s
leaf-range (a-name-seen p f) e x y = let z = look p f e in omega arith
leaf-range (a-literal-seen p f) e x y = omega (arith, (literal-look p f e).0)
leaf-range (a-sign-seen p f g) e x y = let z = look p f e in omega arith
leaf-range (an-array-seen p f h) e x y = absurd (x (look p f e))
leaf-range (a-tuple-seen p f h) e x y = absurd (y (look p f e))

-- the value at place i of one table, the base at place t of another, under k pairs
module _ (text table : List ℕ) (n i : ℕ) (ttext ttable : List ℕ) (tn t k s : ℕ) (sees : s ≡ lookahead (toks text table n i)) where
  abbrev PutsHere : Writer → Writer → ℕ → Type 0
  PutsHere out out' r = PutsValue text table n i (toks ttext ttable tn t) k out out' r

  pub array-flat : (out out' : Writer) (r : ℕ) → s ≡ left_square → k ≡ 0 → PutsHere out out' r
  array-flat out out' r e z m b v us c u ws w g h q =
      absurd (unread v (stacked k u) (flat-no-fit text table n i ttext ttable tn t k s sees e z m b v us c u ws g h) q)

  pub array-deep : {out mid out' : Writer} (r : ℕ) → s ≡ left_square → (k ≡ 0 → ⊥)
      → PutsWord (ascii "[") out mid → PutsArray text table n (i + 1) (toks ttext ttable tn t) (k - 1) mid out' r → PutsHere out out' r
  array-deep {out} {out' = out'} r e z p f m b v us c u ws w g h q = go (seen g) q
    where
      go : {v : Value} {us : List Token} → Seen m (toks text table n i) v us → read_at v (stacked k u) ≡ some w
          → Puts (pieces w) out out' × (us ≡ toks text table n r)
      go (a-name-seen p f) q = absurd (omega (arith, look p f sees))
      go (a-literal-seen p f) q = absurd (omega (arith, (literal-look p f sees).0))
      go (a-sign-seen p f g) q = absurd (omega (arith, look p f sees))
      go {us = us} (an-array-seen {b = b} {o = o} {vs = vs} d l x) q =
          let y = array-items k u o vs z q in
          let j = f m b vs us c u ws y.0 (subst (λ (xs : List Token). InArray m b xs vs us) (behind d ∙ toks-rest text table n i) x) h y.1 in
          (subst (λ (w : Val). Puts (pieces w) out out') y.2 (array-pieces y.0 p j.0), j.1)
      go (a-tuple-seen p f x) q = absurd (omega (arith, look p f sees))

  pub tuple-each : {out mid out' : Writer} (r : ℕ) → s ≡ left_round
      → PutsWord (ascii "(") out mid → PutsTuple text table n (i + 1) (toks ttext ttable tn (t + 1)) mid out' r → PutsHere out out' r
  tuple-each {out} {out' = out'} r e p f m b v us c u ws w g h q = go (seen g) q
    where
      go : {v : Value} {us : List Token} → Seen m (toks text table n i) v us → read_at v (stacked k u) ≡ some w
          → Puts (pieces w) out out' × (us ≡ toks text table n r)
      go (a-name-seen p f) q = absurd (omega (arith, look p f sees))
      go (a-literal-seen p f) q = absurd (omega (arith, (literal-look p f sees).0))
      go (a-sign-seen p f g) q = absurd (omega (arith, look p f sees))
      go (an-array-seen p f x) q = absurd (omega (arith, look p f sees))
      go {us = us} (a-tuple-seen {b = b} {o = o} {vs = vs} d l x) q = each (tuple-items k o vs h q)
        where
          each : TupleRead (toks ttext ttable tn t) vs w → Puts (pieces w) out out' × (us ≡ toks text table n r)
          each (tuple-read {c = c} {cs = cs} {xs = xs} y z) =
              let j = f m b vs us c cs xs z.0 (subst (λ (xs : List Token). Items m right_round b xs vs us) (behind d ∙ toks-rest text table n i) x)
              (subst (λ (ts : List Token). Columns 0 c ts cs xs) (toks-rest ttext ttable tn t) y) z.1 in
              (subst (λ (w : Val). Puts (pieces w) out out') z.2 (tuple-pieces z.0 p j.0), j.1)

  pub no-type-there : (out out' : Writer) (r : ℕ) → tn ≤ t → PutsHere out out' r
  no-type-there out out' r e m b v us c u ws w g h q = absurd (base-none (toks-none ttext ttable tn t e) h)

  -- a leaf: a name, a literal, or a sign and a number
  pub leaf-there : {out out' : Writer} (r : ℕ) (o : ℕ) → (s ≡ left_square → ⊥) → (s ≡ left_round → ⊥) → ((j : ℕ) → get_or text j 0 < 256)
      → Holds text table n → o ≡ lookahead (toks ttext ttable tn t) → PutsLeaf text table n (i + signs_of s) (eqb s minus) o out out' r → PutsHere out out' r
  leaf-there {out} {out'} r o e d bytes holds type-sees put m b v us c u ws w g h q = go (seen g) q
    where
      placed : (j : ℕ) (negative : Bool) → signs_of s ≡ j → eqb s minus ≡ negative → PutsLeaf text table n (i + j) negative o out out' r
      placed j negative p f =
          subst (λ (k : ℕ). PutsLeaf text table n (i + k) negative o out out' r) p
          (subst (λ (b : Bool). PutsLeaf text table n (i + signs_of s) b o out out' r) f put)

      there : (j : ℕ) (negative : Bool) {x : Token} {us : List Token} → signs_of s ≡ j → eqb s minus ≡ negative → toks text table n (i + j) ≡ x ∷ us
          → leaf_at (stacked k u) negative x ≡ some w → Puts (pieces w) out out' × (us ≡ toks text table n r)
      there j negative {x} p f z l =
          let y = leaf-word k negative x h l in
          let at = token-is text table n (i + j) z in
          let g = placed j negative p f u w (token-there text table n (i + j) z) (rw (sym type-sees) at y.0) (rw at at y.1) in
          (g.0, behind z ∙ (toks-rest text table n (i + j) ∙ ap (λ (k : ℕ). toks text table n k) (sym g.1)))

      here : {us : List Token} → toks text table n i ≡ us → toks text table n (i + 0) ≡ us
      here z = ap (λ (k : ℕ). toks text table n k) (add-zero i) ∙ z

      unsigned-here : (s ≡ minus → ⊥) → {x : Token} {us : List Token} → toks text table n i ≡ x ∷ us
          → leaf_at (stacked k u) false x ≡ some w → Puts (pieces w) out out' × (us ≡ toks text table n r)
      unsigned-here e z l = let f = ne_eqb s minus e in there 0 false (simp f) f (here z) l

      go : {v : Value} {us : List Token} → Seen m (toks text table n i) v us → read_at v (stacked k u) ≡ some w
          → Puts (pieces w) out out' × (us ≡ toks text table n r)
      go (a-name-seen {t = x} p f) q =
          let l = token-there text table n i p in
          unsigned-here (λ z. omega (arith, look p f sees)) p
          (name-leaf x (stacked k u) (rw (token-is text table n i p) (first_byte text table n i holds l bytes)) f ∙ q)
      go (a-literal-seen {t = x} p f) q =
          unsigned-here (λ z. omega (arith, (literal-look p f sees).1)) p (literal-leaf (unsigned x) (stacked k u) f ∙ q)
      go (a-sign-seen {x = x} {t = y} p f g) q =
          let z = look p f sees in
          there 1 true (rw z) (rw z) (sym (behind p ∙ toks-rest text table n i)) (literal-leaf (negated x y) (stacked k u) (ap is_literal g) ∙ q)
      go (an-array-seen p f x) q = absurd (e (look p f sees))
      go (a-tuple-seen p f x) q = absurd (d (look p f sees))

-- ---- items one by one

-- items from place i on, up to a terminal, whose values are read so
abbrev pub PutsRow : (Values → Vals → Type 0) → ℕ → List ℕ → List ℕ → List ℕ → ℕ → ℕ → Writer → Writer → ℕ → Type 0
PutsRow Read close word text table n i out out' r =
    (m : Leaves) (b : ℕ) (vs : Values) (us : List Token) (ws : Vals) → Items m close b (toks text table n i) vs us → Read vs ws
    → Puts (λ r. items ws (mark word ∷ r)) out out' × (us ≡ toks text table n r)

-- the first item was put; the others, if any, are read so
pub data First (Rest : Values → Vals → Type 0) (out mid : Writer) : Values → Vals → Type 0 where
  alone : {w : Val} → Puts (pieces w) out mid → First Rest out mid none (a-val w no-val)
  followed : {v : Value} {vs : Values} {w : Val} {ws : Vals} → Puts (pieces w) out mid → OneOrMore ws → Rest (more v vs) ws
      → First Rest out mid (more v vs) (a-val w ws)

items-some : {m : Leaves} {close b : ℕ} {ts us : List Token} {vs : Values} → Items m close b ts vs us → vs ≡ none → ⊥
items-some (last-item g f) e = clash (cc)
items-some (next-item g f h) e = clash (cc)

-- so it is with whatever items stand from place i on, and the first ends before place x .next
pub record Begun (Read Rest : Values → Vals → Type 0) (text table : List ℕ) (n i : ℕ) (out mid : Writer) (x : ℕ) : Type 0 where
  pub begins : {m : Leaves} {b : ℕ} {v : Value} {vs : Values} {us : List Token} {ws : Vals} → Spells m b (toks text table n i) v us → Read (more v vs) ws
      → First Rest out mid vs ws × (us ≡ toks text table n x)

module _ {Read Rest : Values → Vals → Type 0} (close : ℕ) (word : List ℕ) {text table : List ℕ} {n i : ℕ} {out mid : Writer} {x : ℕ}
    (first : Begun Read Rest text table n i out mid x) (s : ℕ) (sees : s ≡ lookahead (toks text table n x)) (no-comma : close ≡ comma → ⊥) where
  pub row_last : {out' : Writer} → s ≡ close → PutsWord word mid out'
      → PutsRow Read close word text table n i out out' (x + 1)
  row_last {out'} e p m b vs us ws (last-item g f) q = let y = first.begins g q in (go y.0, behind (sym y.1) ∙ toks-rest text table n x)
    where
      go : {ws : Vals} → First Rest out mid none ws → Puts (λ r. items ws (mark word ∷ r)) out out'
      go (alone {w = w} z) = last-pieces w word z p
  row_last e p m b vs us ws (next-item g f h) q = absurd (no-comma (sym e ∙ look (sym (first.begins g q).1) f sees))

  pub row_next : {mid' out' : Writer} (r : ℕ) → s ≡ comma → PutsWord (ascii ",") mid mid'
      → PutsRow Rest close word text table n (x + 1) mid' out' r → PutsRow Read close word text table n i out out' r
  row_next r e p t m b vs us ws (last-item g f) q = absurd (no-comma (sym (look (sym (first.begins g q).1) f sees) ∙ e))
  row_next {out' = out'} r e p t m b vs us ws (next-item {vs = vs'} g f h) q =
      let y = first.begins g q in
      go (subst (λ (xs : List Token). Items m close b xs vs' us) (behind (sym y.1) ∙ toks-rest text table n x) h) y.0
    where
      go : {vs : Values} {ws : Vals} → Items m close b (toks text table n (x + 1)) vs us → First Rest out mid vs ws
          → Puts (λ r. items ws (mark word ∷ r)) out out' × (us ≡ toks text table n r)
      go h (alone z) = absurd (items-some h refl)
      go h (followed {v = v} {vs = vs} {w = w} {ws = ws} z k j) = let y = t m b (more v vs) us ws h j in (next-pieces w word z p k y.0, y.1)

  pub row-neither : (out' : Writer) (r : ℕ) → (s ≡ close → ⊥) → (s ≡ comma → ⊥) → PutsRow Read close word text table n i out out' r
  row-neither out' r e d m b vs us ws (last-item g f) q = absurd (e (look (sym (first.begins g q).1) f sees))
  row-neither out' r e d m b vs us ws (next-item g f h) q = absurd (d (look (sym (first.begins g q).1) f sees))

-- ---- the items of an array

-- all read at the base that begins ts, under k pairs
pub data AllRead (ts : List Token) (k : ℕ) (vs : Values) (ws : Vals) : Type 0 where
  all_read : {c : ℕ} {u : Ty} {xs : List Token} → IsBase c ts u xs → read_all vs (stacked k u) ≡ some ws → AllRead ts k vs ws

all_others : {ts : List Token} {k : ℕ} {out mid : Writer} {w : Val} (vs : Values) {c : ℕ} {u : Ty} {xs : List Token} {ws : Vals}
    → Puts (pieces w) out mid → IsBase c ts u xs → read_all vs (stacked k u) ≡ some ws → First (AllRead ts k) out mid vs (a-val w ws)
unfolding read_all
all_others {ts} {k} {out} {mid} {w} none {ws = ws} p h e =
    let q : no-val ≡ ws = cc in subst (λ (y : Vals). First (AllRead ts k) out mid none (a-val w y)) q (alone p)
all_others {k = k} (more v vs) {u = u} p h e = followed p (all-some v vs (stacked k u) e) (all_read h e)

module _ (text table : List ℕ) (n i : ℕ) (ts : List Token) (k : ℕ) where
  pub array-empty : {out out' : Writer} (s : ℕ) → s ≡ lookahead (toks text table n i) → s ≡ right_square
      → PutsWord (ascii "]") out out' → PutsArray text table n i ts k out out' (i + 1)
  unfolding read_all
  array-empty {out} {out'} s sees e p m b vs us c u xs ws g h q = go refl g q
    where
      started : {m : Leaves} {b : ℕ} {v : Value} {ys us : List Token} → toks text table n i ≡ ys → Spells m b ys v us → ⊥
      started d x = let y = leaf-range (seen x) (sees ∙ ap lookahead d) (λ z. omega arith) (λ z. omega arith) in omega (arith, y)

      go : {ys : List Token} {vs : Values} {us : List Token} → toks text table n i ≡ ys → InArray m b ys vs us → read_all vs (stacked k u) ≡ some ws
          → Puts (λ r. items ws (mark (ascii "]") ∷ r)) out out' × (us ≡ toks text table n (i + 1))
      go d (no_items f) q =
          let y : no-val ≡ ws = cc in
          (subst (λ (ws : Vals). Puts (λ r. items ws (mark (ascii "]") ∷ r)) out out') y (none-pieces (ascii "]") p), behind d ∙ toks-rest text table n i)
      go d (some-items (last-item x f)) q = absurd (started d x)
      go d (some-items (next-item x f y)) q = absurd (started d x)

  pub array-some : {out out' : Writer} (r : ℕ) (s : ℕ) → s ≡ lookahead (toks text table n i) → (s ≡ right_square → ⊥)
      → PutsRow (AllRead ts k) right_square (ascii "]") text table n i out out' r → PutsArray text table n i ts k out out' r
  array-some {out} {out'} r s sees e f m b vs us c u xs ws g h q = go refl g q
    where
      go : {ys : List Token} {vs : Values} {us : List Token} → toks text table n i ≡ ys → InArray m b ys vs us → read_all vs (stacked k u) ≡ some ws
          → Puts (λ r. items ws (mark (ascii "]") ∷ r)) out out' × (us ≡ toks text table n r)
      go d (no_items x) q = absurd (e (sees ∙ (ap lookahead d ∙ x)))
      go {vs = vs} {us = us} d (some-items x) q = f m b vs us ws (subst (λ (ys : List Token). Items m right_square b ys vs us) (sym d) x) (all_read h q)

  pub array-begun : {out mid : Writer} {x : ℕ} → PutsValue text table n i ts k out mid x
      → Begun (AllRead ts k) (AllRead ts k) text table n i out mid x
  array-begun {out} {mid} {x} one = record { begins = begins }
    where
      begins : {m : Leaves} {b : ℕ} {v : Value} {vs : Values} {us : List Token} {ws : Vals} → Spells m b (toks text table n i) v us
          → AllRead ts k (more v vs) ws
          → First (AllRead ts k) out mid vs ws × (us ≡ toks text table n x)
      begins {m} {b} {v} {vs} {us} g (all_read {c} {u} {xs} h q) = go (all-parts v vs (stacked k u) q)
        where
          go : {ws : Vals} → Parted (read_at v (stacked k u)) (read_all vs (stacked k u)) ws
              → First (AllRead ts k) out mid vs ws × (us ≡ toks text table n x)
          go (parted {w = w} y z) = let p = one m b v us c u xs w g h y in (all_others vs p.0 h z, p.1)

-- ---- the items of a tuple, beside their types

-- each read at its own of the types that begin ts
pub data EachRead (ts : List Token) (vs : Values) (ws : Vals) : Type 0 where
  each_read : {c : ℕ} {cs : Tys} {xs : List Token} → Columns 0 c ts cs xs → read_each vs cs ≡ some ws → EachRead ts vs ws

pub tuple-row : (text table : List ℕ) (n i : ℕ) (ts : List Token) {out out' : Writer} (r : ℕ)
    → PutsRow (EachRead ts) right_round (ascii ")") text table n i out out' r → PutsTuple text table n i ts out out' r
tuple-row text table n i ts r f m b vs us c cs xs ws g h q = f m b vs us ws g (each_read h q)

-- after the last type there is no item more; before another type there is
last-others : {ts : List Token} {out mid : Writer} {w : Val} (vs : Values) {ws : Vals} → Puts (pieces w) out mid
    → read_each vs no-type ≡ some ws → First (EachRead ts) out mid vs (a-val w ws)
unfolding read_each
last-others {ts} {out} {mid} {w} none {ws} p e =
    let q : no-val ≡ ws = cc in subst (λ (y : Vals). First (EachRead ts) out mid none (a-val w y)) q (alone p)
last-others (more v vs) p e = absurd (clash (cc))

too_few : {c : ℕ} {ts xs : List Token} {cs : Tys} {ws : Vals} → Columns 0 c ts cs xs → read_each none cs ≡ some ws → ⊥
unfolding read_each
too_few (last-column h d) e = clash (cc)
too_few (next-column h d g) e = clash (cc)

next-others : {ts : List Token} {out mid : Writer} {w : Val} (vs : Values) {c : ℕ} {cs : Tys} {xs : List Token} {ws : Vals}
    → Puts (pieces w) out mid → Columns 0 c ts cs xs → read_each vs cs ≡ some ws → First (EachRead ts) out mid vs (a-val w ws)
next-others none p h e = absurd (too_few h e)
next-others (more v vs) {cs = cs} p h e = followed p (each-some v vs cs e) (each_read h e)

-- the value at place i was put, read at the type at place j, which has k pairs and ends at place e
module _ (text table : List ℕ) (n i : ℕ) (ttext ttable : List ℕ) (tn j k e : ℕ)
    (shape : (b : ℕ) (u : Ty) (us : List Token) → IsType b (toks ttext ttable tn j) u us → NoPair us
    → Shaped b (toks ttext ttable tn j) u k × (us ≡ toks ttext ttable tn e))
    {out mid : Writer} (x : ℕ) (one : PutsValue text table n i (toks ttext ttable tn j) k out mid x) where
  at-type : {m : Leaves} {b c : ℕ} {v : Value} {u : Ty} {w : Val} {us ws : List Token} → Spells m b (toks text table n i) v us
      → IsType c (toks ttext ttable tn j) u ws → NoPair ws → read_at v u ≡ some w
      → Puts (pieces w) out mid × (us ≡ toks text table n x) × (ws ≡ toks ttext ttable tn e)
  at-type {m} {b} {c} {v} {u} {w} {us} {ws} g h f q =
      let y = shape c u ws h f in
      let p = one m b v us c y.0.base y.0.after w g y.0.is_base (ap (read_at v) (sym y.0.under) ∙ q) in
      (p.0, p.1, y.1)

  pub tuple-begun : Begun (EachRead (toks ttext ttable tn j)) (EachRead (toks ttext ttable tn (e + 1))) text table n i out mid x
  tuple-begun = record { begins = begins }
    where
      begins : {m : Leaves} {b : ℕ} {v : Value} {vs : Values} {us : List Token} {ws : Vals} → Spells m b (toks text table n i) v us
          → EachRead (toks ttext ttable tn j) (more v vs) ws
          → First (EachRead (toks ttext ttable tn (e + 1))) out mid vs ws × (us ≡ toks text table n x)
      begins {v = v} {vs = vs} {us = us} g (each_read (last-column {u = u} h d) q) = go (each-parts v vs u no-type q)
        where
          go : {ws : Vals} → Parted (read_at v u) (read_each vs no-type) ws
              → First (EachRead (toks ttext ttable tn (e + 1))) out mid vs ws × (us ≡ toks text table n x)
          go (parted y z) = let p = at-type g h (round-no-pair d) y in (last-others vs p.0 z, p.1)
      begins {v = v} {vs = vs} {us = us} g (each_read {c = c} {xs = xs} (next-column {u = u} {vs = cs} h d t) q) = go (each-parts v vs u cs q)
        where
          go : {ws : Vals} → Parted (read_at v u) (read_each vs cs) ws
              → First (EachRead (toks ttext ttable tn (e + 1))) out mid vs ws × (us ≡ toks text table n x)
          go (parted y z) =
              let p = at-type g h (comma-no-pair d) y in
              (next-others vs p.0 (subst (λ (ys : List Token). Columns 0 c ys cs xs) (behind (sym p.2) ∙ toks-rest ttext ttable tn e) t) z, p.1)

-- a value and a type, as the readers read them
pub value-put : (text table : List ℕ) (n i : ℕ) (ttext ttable : List ℕ) (tn j k : ℕ) {out mid : Writer} (x : ℕ)
    → PutsValue text table n i (toks ttext ttable tn j) k out mid x
    → (m : Leaves) (b : ℕ) (v : Value) (us : List Token) (c : ℕ) (u : Ty) (ws : List Token) (w : Val) → value m b (toks text table n i) ≡ ok v us
    → type c (toks ttext ttable tn j) ≡ ok u ws → k ≡ pairs_of u → read_at v u ≡ some w → Puts (pieces w) out mid
value-put text table n i ttext ttable tn j k x one m b v us c u ws w f g e q =
    let y = subst (Shaped c (toks ttext ttable tn j) u) (sym e) (shape_of (type-is c (toks ttext ttable tn j) g)) in
    (one m b v us c y.base y.after w (value-is m b (toks text table n i) f) y.is_base (ap (read_at v) (sym y.under) ∙ q)).0

-- where a value is read there is one
pub value-inside : (text table : List ℕ) (n i : ℕ) (m : Leaves) (b : ℕ) {v : Value} {us : List Token} → value m b (toks text table n i) ≡ ok v us → i < n
value-inside text table n i m b h = go (value-is m b (toks text table n i) h) refl
  where
    go : {b : ℕ} {ts us : List Token} {v : Value} → Spells m b ts v us → toks text table n i ≡ ts → i < n
    go (a-name q e) z = token-there text table n i z
    go (a-literal q (no_sign e)) z = token-there text table n i z
    go (a-literal q (a-sign e f)) z = token-there text table n i z
    go (an-empty-array e f) z = token-there text table n i z
    go (an-array e f) z = token-there text table n i z
    go (a-tuple e f g r) z = token-there text table n i z
