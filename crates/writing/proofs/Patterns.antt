-- Left sides. In order: the pieces that tokens make, one part after another; which values are read as which; patterns and their items, by
-- the grammar; left sides; the places at which they stand in a table, in brackets or not; what the code's tests and its loop give.
-- Assumes nothing.
use mathlib.Core.Path.{◌≡◌, refl, sym, ap, ap₂, ◌∙◌}
use mathlib.Core.Bool.{true, false, and-eq-true_iff}
use mathlib.Core.List.{List, [], ◌∷◌, ◌++◌, append_assoc}
use mathlib.Core.Logic.{◌↔◌}
use mathlib.Core.Option.{Option, some}
use mathlib.Core.Option.{none as nothing}
use Prim.Native.Nat.{ℕ, ◌+◌, ◌-◌, ◌<◌, ◌≤◌}
use native.Mathlib.Omega.{arith}
use lib.Dec.{eqb}
use lib.ListN.{length, length-append, take}
use lib.Seq.{take-append_seam}
use borrow.Author.Tests.{eqb-true, eq-eqb, ne_eqb}
use Rattle.lexis.specs.Ascii.{ascii}
use Rattle.lexis.specs.Bytes.{among}
use Rattle.lexis.specs.Sizes.{max_brackets}
use Rattle.lexis.specs.Kind as Kind
use Rattle.lexis.specs.Lexer.{Token}
use Rattle.syntax.specs.Read.{Parsed}
use Rattle.syntax.specs.Read.Parsed.{Done, Fault}
use Rattle.lexis.specs.Symbol.{sym_of, left_round, right_round, left_square, right_square, comma, equal}
use Rattle.lexis.specs.Symbol.{a_name as name_symbol}
use Rattle.syntax.specs.Tree.{Literal, Value, Values, Ty, Tys}
use Rattle.syntax.specs.Tree.Value.{name, literal, array, tuple}
use Rattle.syntax.specs.Tree.Values.{none, more}
use Rattle.syntax.specs.Tree.Ty.{tensor, extent, scalar, logical, string, array_of, tuple_of}
use Rattle.syntax.specs.Tree.Tys.{no-type, a-type}
use Rattle.syntax.specs.Grammar.{Leaves, names, Spells, Items, IsLeft}
use Rattle.syntax.specs.Grammar.Spells.{a-name, a-literal, an-empty-array, an-array, a-tuple}
use Rattle.syntax.specs.Grammar.Items.{last-item, next-item}
use Rattle.syntax.specs.Grammar.IsLeft.{one-pattern, a-bare-tuple}
use Rattle.syntax.specs.Parser.{Parse, value, left}
use Rattle.syntax.specs.Parser.Parse.{ok, bad}
use Rattle.syntax.specs.Table.{token_at, toks, parsed}
use Rattle.syntax.specs.Inner.{lookahead}
use Rattle.syntax.proofs.Table.{toks-none, toks_more, toks-length}
use Rattle.syntax.proofs.Row.{left-ok}
use Rattle.syntax.proofs.Shrinks.{value-shrinks}
use Rattle.syntax.proofs.Complete.{value-complete}
use Rattle.lists.specs.Reading.{Val, Vals, v_name, v_array, v_tuple, no-val, a-val, name_at, bind, read_at, read_all, read_each}
use Rattle.lists.proofs.Parts.{toks-split, first_of}
use Rattle.lists.proofs.Phrases.{left_is}
use Rattle.documents.proofs.Items.{clash}
use Rattle.writing.specs.declared.writer.Writer.{Writer}
use Rattle.writing.specs.Pieces.{Piece}
use Rattle.writing.specs.Layout.{mark, name_piece, pieces, items, more_items, left_pieces}
use Rattle.writing.specs.Writing.{Puts, PutsWord, pattern_piece, pattern_pieces, ends_at, is_bracketed}
use Rattle.writing.proofs.Putting.{puts_none, puts_then, puts-same}

-- ---- pieces of tokens

mark-piece : (t : Token) (s : ℕ) → sym_of t ≡ s → among (ascii ",[]()") s ≡ true → pattern_piece t ≡ mark (s ∷ [])
unfolding pattern_piece
mark-piece t s h m = rw (h, m)

word_piece : (t : Token) → among (ascii ",[]()") (sym_of t) ≡ false → pattern_piece t ≡ name_piece t.bytes
unfolding pattern_piece
word_piece t m = rw m

name-piece : (t : Token) → sym_of t ≡ name_symbol → pattern_piece t ≡ name_piece t.bytes
name-piece t h = word_piece t (rw h)

pieces-append : (ts us : List Token) (r : List Piece) → pattern_pieces (ts ++ us) r ≡ pattern_pieces ts (pattern_pieces us r)
unfolding pattern_pieces
pieces-append [] us r = refl
pieces-append (t ∷ ts) us r = ap (λ (x : List Piece). pattern_piece t ∷ x) (pieces-append ts us r)

-- the tokens from ts up to us make the pieces of a part
record Makes (ts us : List Token) (part : List Piece → List Piece) : Type 0 where
  tokens : List Token
  whole : ts ≡ tokens ++ us
  are : (r : List Piece) → pattern_pieces tokens r ≡ part r

makes_one : (t : Token) (us : List Token) {p : Piece} → pattern_piece t ≡ p → Makes (t ∷ us) us (λ r. p ∷ r)
unfolding pattern_pieces
makes_one t us e = record { tokens = t ∷ []; whole = refl; are = λ r. ap (λ (x : Piece). x ∷ r) e }

makes-then : {ts us ws : List Token} {P Q : List Piece → List Piece} → Makes ts us P → Makes us ws Q → Makes ts ws (λ r. P (Q r))
makes-then {ws = ws} {Q = Q} p q = record {
  tokens = p.tokens ++ q.tokens;
  whole = p.whole ∙ ap (λ (x : List Token). p.tokens ++ x) q.whole ∙ sym (append_assoc p.tokens q.tokens ws);
  are = λ r. pieces-append p.tokens q.tokens r ∙ ap (pattern_pieces p.tokens) (q.are r) ∙ p.are (Q r);
}

makes-same : {ts us : List Token} {P Q : List Piece → List Piece} → ((r : List Piece) → P r ≡ Q r) → Makes ts us P → Makes ts us Q
makes-same e p = record { tokens = p.tokens; whole = p.whole; are = λ r. p.are r ∙ e r }

-- the same, before a closing terminal
record Closed (close : ℕ) (ts us : List Token) (part : List Piece → List Piece) : Type 0 where
  token : Token
  is : sym_of token ≡ close
  makes : Makes ts (token ∷ us) part

closed-mark : {close : ℕ} {ts us : List Token} {P : List Piece → List Piece} → among (ascii ",[]()") close ≡ true → Closed close ts us P
    → Makes ts us (λ r. P (mark (close ∷ []) ∷ r))
closed-mark {close} {us = us} m p = makes-then p.makes (makes_one p.token us (mark-piece p.token close p.is m))

-- ---- what is read

mutual
  -- an array and a tuple are read item by item
  data IsRead : Value → Val → Type 0 where
    name-read : {t : Token} → IsRead (name t) (v_name t.bytes)
    literal-read : {l : Literal} {w : Val} → IsRead (literal l) w
    array-read : {t : Token} {vs : Values} {ws : Vals} → AreRead vs ws → IsRead (array t vs) (v_array ws)
    tuple-read : {t : Token} {vs : Values} {ws : Vals} → AreRead vs ws → IsRead (tuple t vs) (v_tuple ws)

  data AreRead : Values → Vals → Type 0 where
    none_read : AreRead none no-val
    more-read : {v : Value} {vs : Values} {w : Val} {ws : Vals} → IsRead v w → AreRead vs ws → AreRead (more v vs) (a-val w ws)

name-is : (t : Token) (u : Ty) (w : Val) → name_at u t.bytes ≡ some w → IsRead (name t) w
name-is t tensor w e = let z : v_name t.bytes ≡ w = cc in rw (← z) name-read
name-is t extent w e = clash cc
name-is t scalar w e = clash cc
name-is t logical w e = clash cc
name-is t string w e = clash cc
name-is t (array_of u) w e = clash cc
name-is t (tuple_of us) w e = clash cc

made-is : (v : Value) (k : Vals → Val) (o : Option Vals) (w : Val) → ((ws : Vals) → o ≡ some ws → IsRead v (k ws)) → bind o (λ ws. some (k ws)) ≡ some w
    → IsRead v w
made-is v k nothing w f e = clash cc
made-is v k (some ws) w f e = let z : k ws ≡ w = cc in rw (← z) (f ws refl)

more-is : (v : Value) (vs : Values) (o : Option Val) (p : Option Vals) (ws : Vals) → ((w : Val) → o ≡ some w → IsRead v w)
    → ((xs : Vals) → p ≡ some xs → AreRead vs xs)
    → bind o (λ w. bind p (λ xs. some (a-val w xs))) ≡ some ws → AreRead (more v vs) ws
more-is v vs nothing p ws f g e = clash cc
more-is v vs (some w) nothing ws f g e = clash cc
more-is v vs (some w) (some xs) ws f g e = let z : a-val w xs ≡ ws = cc in rw (← z) (more-read (f w refl) (g xs refl))

array-is : (t : Token) (vs : Values) (u : Ty) (w : Val) → ((x : Ty) (ws : Vals) → read_all vs x ≡ some ws → AreRead vs ws) → read_at (array t vs) u ≡ some w
    → IsRead (array t vs) w
unfolding read_at
array-is t vs (array_of u) w f e = made-is (array t vs) v_array (read_all vs u) w (λ ws h. array-read (f u ws h)) e
array-is t vs tensor w f e = clash cc
array-is t vs extent w f e = clash cc
array-is t vs scalar w f e = clash cc
array-is t vs logical w f e = clash cc
array-is t vs string w f e = clash cc
array-is t vs (tuple_of us) w f e = clash cc

tuple_is : (t : Token) (vs : Values) (u : Ty) (w : Val) → ((xs : Tys) (ws : Vals) → read_each vs xs ≡ some ws → AreRead vs ws)
    → read_at (tuple t vs) u ≡ some w → IsRead (tuple t vs) w
unfolding read_at
tuple_is t vs (tuple_of us) w f e = made-is (tuple t vs) v_tuple (read_each vs us) w (λ ws h. tuple-read (f us ws h)) e
tuple_is t vs tensor w f e = clash cc
tuple_is t vs extent w f e = clash cc
tuple_is t vs scalar w f e = clash cc
tuple_is t vs logical w f e = clash cc
tuple_is t vs string w f e = clash cc
tuple_is t vs (array_of u) w f e = clash cc

none_each : (us : Tys) (ws : Vals) → read_each none us ≡ some ws → AreRead none ws
unfolding read_each
none_each no-type ws e = let z : no-val ≡ ws = cc in rw (← z) none_read
none_each (a-type u us) ws e = clash cc

more-each : (v : Value) (vs : Values) (us : Tys) (ws : Vals) → ((u : Ty) (w : Val) → read_at v u ≡ some w → IsRead v w)
    → ((xs : Tys) (ys : Vals) → read_each vs xs ≡ some ys → AreRead vs ys)
    → read_each (more v vs) us ≡ some ws → AreRead (more v vs) ws
unfolding read_each
more-each v vs no-type ws f g e = clash cc
more-each v vs (a-type u us) ws f g e = more-is v vs (read_at v u) (read_each vs us) ws (f u) (g us) e

mutual
  unfolding read_at read_all

  read_is : (v : Value) (u : Ty) (w : Val) → read_at v u ≡ some w → IsRead v w
  read_is (name t) u w e = name-is t u w e
  read_is (literal l) u w e = literal-read
  read_is (array t vs) u w e = array-is t vs u w (λ x ws h. all_read vs x ws h) e
  read_is (tuple t vs) u w e = tuple_is t vs u w (λ xs ws h. each_read vs xs ws h) e

  all_read : (vs : Values) (u : Ty) (ws : Vals) → read_all vs u ≡ some ws → AreRead vs ws
  all_read none u ws e = let z : no-val ≡ ws = cc in rw (← z) none_read
  all_read (more v vs) u ws e = more-is v vs (read_at v u) (read_all vs u) ws (λ w h. read_is v u w h) (λ xs h. all_read vs u xs h) e

  each_read : (vs : Values) (us : Tys) (ws : Vals) → read_each vs us ≡ some ws → AreRead vs ws
  each_read none us ws e = none_each us ws e
  each_read (more v vs) us ws e = more-each v vs us ws (λ u w h. read_is v u w h) (λ xs ys h. each_read vs xs ys h) e

-- ---- patterns

after-comma : {m : Leaves} {close b : ℕ} {ts us : List Token} {vs : Values} {ws : Vals} → Items m close b ts vs us → AreRead vs ws → (r : List Piece)
    → mark (ascii ",") ∷ items ws r ≡ more_items ws r
unfolding items more_items
after-comma (last-item s e) (more-read p q) r = refl
after-comma (next-item s e i) (more-read p q) r = refl

-- an item, a comma, and the items after it
joined : {m : Leaves} {close b : ℕ} {c : Token} {ts us ws : List Token} {vs : Values} {xs : Vals} (x : Val)
    → Makes ts (c ∷ us) (pieces x) → sym_of c ≡ comma → Items m close b us vs ws → AreRead vs xs → Closed close us ws (items xs)
    → Closed close ts ws (items (a-val x xs))
unfolding items
joined {c = c} {us = us} x p e i q k = record {
  token = k.token;
  is = k.is;
  makes = makes-same (λ r. ap (pieces x) (after-comma i q r)) (makes-then p (makes-then (makes_one c us (mark-piece c comma e refl)) k.makes));
}

mutual
  unfolding pieces items more_items

  pattern-makes : {b : ℕ} {ts us : List Token} {v : Value} {w : Val} → Spells names b ts v us → IsRead v w → Makes ts us (pieces w)
  pattern-makes (a-name {t = t} {ts = ts} p h) name-read = makes_one t ts (name-piece t h)
  pattern-makes (a-literal p h) literal-read = clash cc
  pattern-makes (an-empty-array {o = o} {c = c} {ts = ts} p q) (array-read none_read) =
      makes-then (makes_one o (c ∷ ts) (mark-piece o left_square p refl)) (makes_one c ts (mark-piece c right_square q refl))
  pattern-makes (an-array {o = o} {ts = ts} p i) (array-read r) =
      makes-then (makes_one o ts (mark-piece o left_square p refl)) (closed-mark refl (items-make i r))
  pattern-makes (a-tuple {o = o} {ts = ts} p s e i) (tuple-read (more-read {w = w} q r)) =
      makes-then (makes_one o ts (mark-piece o left_round p refl)) (closed-mark refl (joined w (pattern-makes s q) e i r (items-make i r)))

  items-make : {close b : ℕ} {ts us : List Token} {vs : Values} {ws : Vals} → Items names close b ts vs us → AreRead vs ws → Closed close ts us (items ws)
  items-make (last-item {c = c} s e) (more-read q none_read) = record { token = c; is = e; makes = pattern-makes s q }
  items-make (next-item s e i) (more-read {w = w} q r) = joined w (pattern-makes s q) e i r (items-make i r)

-- ---- left sides

-- a left side, up to its `=`: a tuple in brackets; another pattern alone; a bare tuple, whose first item ends before
data Side (b : ℕ) (ts us : List Token) (part : List Piece → List Piece) : Type 0 where
  in-brackets : {o e : Token} {xs : List Token} {v : Value} → ts ≡ o ∷ xs → sym_of o ≡ left_round → value names b ts ≡ ok v (e ∷ us)
      → Closed right_round xs (e ∷ us) part → Side b ts us part
  alone : eqb (lookahead ts) left_round ≡ false → Closed equal ts us part → Side b ts us part
  bare : {v : Value} {xs : List Token} → value names b ts ≡ ok v xs → 1 + length us < length xs → Closed equal ts us part → Side b ts us part

one_side : {b : ℕ} {e : Token} {ts us : List Token} {v : Value} {w : Val} → Spells names b ts v (e ∷ us) → sym_of e ≡ equal → IsRead v w
    → Makes ts (e ∷ us) (pieces w) → Side b ts us (left_pieces w)
unfolding left_pieces
one_side {e = e} (a-name p h) f name-read m = alone (rw h) (record { token = e; is = f; makes = m })
one_side (a-literal p h) f literal-read m = clash cc
one_side {e = e} (an-empty-array p q) f (array-read r) m = alone (rw p) (record { token = e; is = f; makes = m })
one_side {e = e} (an-array p i) f (array-read r) m = alone (rw p) (record { token = e; is = f; makes = m })
one_side (a-tuple p s c i) f (tuple-read (more-read {w = w} q r)) m =
    in-brackets refl p (value-complete (a-tuple p s c i)) (joined w (pattern-makes s q) c i r (items-make i r))

side : {b : ℕ} {ts us : List Token} {v : Value} {w : Val} → IsLeft b ts v us → IsRead v w → Side b ts us (left_pieces w)
unfolding left_pieces
side (one-pattern s e) r = one_side s e r (pattern-makes s r)
side {us = ws} (a-bare-tuple s c i) (tuple-read (more-read {w = w} q r)) =
    let k = items-make i r in
    let l = ap (λ (x : List Token). length x) k.makes.whole ∙ length-append k.makes.tokens (k.token ∷ ws) in
    bare (value-complete s) (omega arith) (joined w (pattern-makes s q) c i r k)

-- ---- in a table

module _ (text table : List ℕ) (n : ℕ) where
  -- what stands before the last n - j tokens is what stands up to place j
  front : (i j : ℕ) (ts us : List Token) → toks text table n i ≡ ts ++ us → length us ≡ n - j → j < n → ts ≡ toks text table j i
  front i j ts us e b h =
      let l = sym (toks-length text table n i) ∙ ap (λ (x : List Token). length x) e ∙ length-append ts us in
      let s = sym e ∙ toks-split text table n i j (omega arith) (omega arith) in
      let k : length ts ≡ length (toks text table j i) = omega (arith, toks-length text table j i) in
      sym (take-append_seam ts us) ∙ ap₂ (λ (x : ℕ) (y : List Token). take x y) k s ∙ take-append_seam (toks text table j i) (toks text table n j)

  closed-pieces : {close : ℕ} (i j : ℕ) {ts us : List Token} {P : List Piece → List Piece} → toks text table n i ≡ ts → Closed close ts us P
      → 1 + length us ≡ n - j → j < n
      → (r : List Piece) → pattern_pieces (toks text table j i) r ≡ P r
  closed-pieces i j {us = us} e k l h r =
      let m = k.makes in
      let b : length (k.token ∷ us) ≡ n - j = omega arith in
      ap (λ (x : List Token). pattern_pieces x r) (sym (front i j m.tokens (k.token ∷ us) (e ∙ m.whole) b h)) ∙ m.are r

  module _ (at end : ℕ) where
    value-less : {v : Value} {xs : List Token} → value names max_brackets (toks text table n at) ≡ ok v xs → length xs < n - at
    value-less q = omega (arith, left-ok (rw q at (value-shrinks names max_brackets (toks text table n at))), toks-length text table n at)

    brackets-are : is_bracketed text table n at end ≡ true ↔
        ((eqb (lookahead (toks text table n at)) left_round ≡ true) × (ends_at n end (value names max_brackets (toks text table n at)) ≡ true))
    unfolding is_bracketed
    brackets-are = and-eq-true_iff (eqb (lookahead (toks text table n at)) left_round) (ends_at n end (value names max_brackets (toks text table n at)))

    -- brackets end past the place at which they begin
    pub brackets-past : is_bracketed text table n at end ≡ true → at < end
    brackets-past h = go (value names max_brackets (toks text table n at)) refl (brackets-are.0 h).1
      where
        go : (p : Parse Value) → value names max_brackets (toks text table n at) ≡ p → ends_at n end p ≡ true → at < end
        go (ok v xs) q e = omega (arith, value-less q, eqb-true (n - length xs) end e)
        go (bad c xs) q e = clash cc

    module _ {us : List Token} (after : us ≡ toks text table n (end + 1)) (inside : end < n) where
      after-length : 1 + length us ≡ n - end
      after-length = omega (arith, ap (λ (x : List Token). length x) after, toks-length text table n (end + 1))

      -- inside the brackets, and without any
      side-inner : {P : List Piece → List Piece} → is_bracketed text table n at end ≡ true → Side max_brackets (toks text table n at) us P → (r : List Piece)
          → pattern_pieces (toks text table (end - 1) (at + 1)) r ≡ P r
      side-inner h (in-brackets {o = o} {xs = xs} w p q k) =
          closed-pieces (at + 1) (end - 1) (first_of text table n at o xs w).rest k (omega (arith, after-length, brackets-past h)) (omega arith)
      side-inner h (alone f k) = let t = (brackets-are.0 h).0 in clash cc
      side-inner h (bare {xs = xs} q l k) =
          let t = eqb-true (n - length xs) end (sym (ap (ends_at n end) q) ∙ (brackets-are.0 h).1) in
          absurd (omega (arith, after-length, value-less q))

      side-whole : {P : List Piece → List Piece} → is_bracketed text table n at end ≡ false → Side max_brackets (toks text table n at) us P → (r : List Piece)
          → pattern_pieces (toks text table end at) r ≡ P r
      side-whole h (in-brackets {e = e} w p q k) =
          let t = brackets-are.1 (rw (w, p), ap (ends_at n end) q ∙ eq-eqb (n - length (e ∷ us)) end (omega (arith, after-length))) in
          clash cc
      side-whole h (alone f k) = closed-pieces at end refl k after-length inside
      side-whole h (bare q l k) = closed-pieces at end refl k after-length inside

      module _ {v : Value} (u : Ty) {w : Val} (reads : left max_brackets (toks text table n at) ≡ ok v us) (read : read_at v u ≡ some w) where
        a-side : Side max_brackets (toks text table n at) us (left_pieces w)
        a-side = side (left_is max_brackets (toks text table n at) reads) (read_is v u w read)

        pub left-inner : {out out' : Writer} → is_bracketed text table n at end ≡ true
            → Puts (pattern_pieces (toks text table (end - 1) (at + 1))) out out' → Puts (left_pieces w) out out'
        left-inner h p = puts-same (side-inner h a-side) p

        pub left-whole : {out out' : Writer} → is_bracketed text table n at end ≡ false
            → Puts (pattern_pieces (toks text table end at)) out out' → Puts (left_pieces w) out out'
        left-whole h p = puts-same (side-whole h a-side) p

-- ---- the code's tests

module _ (text table : List ℕ) (n i : ℕ) (inside : i < n) {c : ℕ} (sees : c ≡ lookahead (toks text table n i)) where
  symbol-is : c ≡ sym_of (token_at text table i)
  symbol-is = sees ∙ ap lookahead (toks_more text table n i inside)

  -- a bracket or a comma, and any other token
  pub mark-put : {out out' : Writer} (x : ℕ) → among (ascii ",[]()") x ≡ true → c ≡ x → PutsWord (x ∷ []) out out'
      → Puts (λ r. pattern_piece (token_at text table i) ∷ r) out out'
  mark-put x m e p = rw (mark-piece (token_at text table i) x (sym symbol-is ∙ e) m) (p Kind.syntactic)

  pub word-put : {out out' : Writer} → (c ≡ comma → ⊥) → (c ≡ left_square → ⊥) → (c ≡ right_square → ⊥) → (c ≡ left_round → ⊥)
      → (c ≡ right_round → ⊥)
      → PutsWord (token_at text table i).bytes out out' → Puts (λ r. pattern_piece (token_at text table i) ∷ r) out out'
  word-put f g h k l p =
      rw
      (word_piece (token_at text table i)
      (rw (← symbol-is, ne_eqb c comma f, ne_eqb c left_square g, ne_eqb c right_square h, ne_eqb c left_round k, ne_eqb c right_round l)))
      (p Kind.name)

module _ (text table : List ℕ) (n at end : ℕ) {c : ℕ} (sees : c ≡ lookahead (toks text table n at)) where
  pub not_round : (c ≡ left_round → ⊥) → false ≡ is_bracketed text table n at end
  unfolding is_bracketed
  not_round f = sym (rw (← sees, ne_eqb c left_round f))

  module _ (e : ℕ) {x : Parsed} (round : c ≡ left_round) (reads : x ≡ parsed e n (value names max_brackets (toks text table n at))) where
    round_is : is_bracketed text table n at end ≡ ends_at n end (value names max_brackets (toks text table n at))
    unfolding is_bracketed
    round_is = rw (← sees, eq-eqb c left_round round)

    pub round-ends : {j : ℕ} → x ≡ Done j → eqb j end ≡ is_bracketed text table n at end
    round-ends {j} d = go (value names max_brackets (toks text table n at)) (sym d ∙ reads) ∙ sym round_is
      where
        go : (p : Parse Value) → Done j ≡ parsed e n p → eqb j end ≡ ends_at n end p
        go (ok v us) z = let y : j ≡ n - length us = cc in ap (λ (k : ℕ). eqb k end) y
        go (bad k us) z = clash cc

    pub round-fault : {k q : ℕ} → x ≡ Fault k q → false ≡ is_bracketed text table n at end
    round-fault {k} {q} d = go (value names max_brackets (toks text table n at)) (sym d ∙ reads) ∙ sym round_is
      where
        go : (p : Parse Value) → Fault k q ≡ parsed e n p → false ≡ ends_at n end p
        go (ok v us) z = clash cc
        go (bad k us) z = refl

-- ---- the tokens between two places, one after another

module _ (text table : List ℕ) (to i : ℕ) where
  pub parts_none : {out : Writer} → to ≤ i → Puts (pattern_pieces (toks text table to i)) out out
  unfolding pattern_pieces
  parts_none h = rw (toks-none text table to i h) puts_none

  pub parts_more : {a b c : Writer} → i < to → Puts (λ r. pattern_piece (token_at text table i) ∷ r) a b
      → Puts (pattern_pieces (toks text table to (i + 1))) b c → Puts (pattern_pieces (toks text table to i)) a c
  unfolding pattern_pieces
  parts_more h p q = rw (toks_more text table to i h) (puts_then p q)
