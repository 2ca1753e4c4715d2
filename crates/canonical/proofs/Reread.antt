-- Values are read back: the tokens of a value's pieces, wherever they are placed and whatever follows, spell a tree that reads as the value.
-- In order: placed pieces, and what they come to; leaves; the items after a first one; values.
use mathlib.Core.Path.{◌≡◌, refl, ap}
use mathlib.Core.Bool.{Bool, true, false}
use mathlib.Core.List.{List, ◌∷◌}
use mathlib.Core.Option.{some}
use Prim.Native.Nat.{ℕ, suc, ◌+◌, ◌-◌}
use native.Mathlib.Omega.{arith}
use lib.Dec.{eqb}
use lib.ListN.{length, length-append, get_or}
use lib.Seq.{take-append_seam}
use lib.IntN.{ℤ, pos, negsuc, nat_abs}
use Rattle.spellings.specs.Comparison.{same_bytes}
use Rattle.lexis.specs.Ascii.{ascii}
use Rattle.lexis.specs.Kind as Kind
use Rattle.lexis.specs.Lexer.{Token}
use Rattle.lexis.specs.Symbol.{sym_of, symbol_of, is_literal, a_number}
use Rattle.syntax.specs.Tree.{unsigned, negated, Value, Values, Ty, Tys}
use Rattle.syntax.specs.Tree.Value.{name, literal, array, tuple}
use Rattle.syntax.specs.Tree.Values.{none, more}
use Rattle.syntax.specs.Tree.Ty.{array_of}
use Rattle.syntax.specs.Grammar.{Leaves, takes_literals, no_sign, a-sign, Spells, a-name, a-literal, an-empty-array, an-array, a-tuple, Items, last-item}
use Rattle.syntax.specs.Grammar.{next-item}
use Rattle.lists.specs.Reading.{Val, Vals, v_array, a-val, content_of, literal_at, read_at, read_all, read_each}
use Rattle.writing.specs.Spelling.{decimal, spell_number, quote_for, quoted, spell_string, spell_truth}
use Rattle.writing.specs.Pieces.{Piece, tokens_at}
use Rattle.writing.specs.Layout.{piece, name_piece, mark, sign_pieces, unsigned_of, pieces, items, more_items}
use Rattle.writing.specs.Fit.{Fits, fit-name, fit-number, fit-scalar, fit-extent, fit-string, fit-logical, fit-truth, fit-array, fit-tuple}
use Rattle.writing.proofs.Signs.{is_negative, signed-again}
use Rattle.canonical.proofs.Digits.{value-digits}
use Rattle.canonical.proofs.Numbers.{read_number}
use Rattle.writing.specs.Fit.{FitsAll, all_none, all_more, FitsEach, each_none, each_more}

-- ---- placed pieces

-- a piece as a token, and the position after it
abbrev pub placed : ℕ → Piece → Token
placed at p = record { kind = p.kind; start = at; bytes = p.bytes }

abbrev pub past : ℕ → Piece → ℕ
past at p = at + length p.bytes + length p.space

-- the pieces ps, placed at `at`, spell a tree that reads as v, and the tokens of r are left
pub record Back (m : Leaves) (b : ℕ) (u : Ty) (v : Val) (at : ℕ) (ps r : List Piece) : Type 0 where
  pub tree : Value
  pub after : ℕ
  pub spells : Spells m b (tokens_at at ps) tree (tokens_at after r)
  pub reads : read_at tree u ≡ some v

-- the pieces ps, placed at `at` behind a first item, are the other items, of which `Reads` holds, and the closing piece; the tokens of r are left
pub record OthersBack (m : Leaves) (b : ℕ) (close : List ℕ) (Reads : Values → Type 0) (at : ℕ) (ps r : List Piece) : Type 0 where
  pub trees : Values
  pub after : ℕ
  pub spells : {ts : List Token} {w : Value} → Spells m b ts w (tokens_at at ps) → Items m (get_or close 0 0) b ts (more w trees) (tokens_at after r)
  pub reads : Reads trees

-- ---- leaves

literal-back : {m : Leaves} {b : ℕ} {u : Ty} {v : Val} (k : ℕ) (w : List ℕ) (at : ℕ) (r : List Piece)
    → takes_literals m ≡ true → is_literal (symbol_of k w) ≡ true → literal_at u false k w ≡ some v → Back m b u v at (piece k w ∷ r) r
unfolding tokens_at sym_of read_at
literal-back k w at r t i e =
    record { tree = literal (unsigned (placed at (piece k w))); after = past at (piece k w); spells = a-literal t (no_sign i); reads = e }

-- a number after its sign
signed_back : {m : Leaves} {b : ℕ} {u : Ty} {v : Val} (z : ℤ) (k : ℕ) (w : List ℕ) (at : ℕ) (r : List Piece)
    → takes_literals m ≡ true → symbol_of k w ≡ a_number → literal_at u (is_negative z) k w ≡ some v → Back m b u v at (sign_pieces z (piece k w ∷ r)) r
unfolding tokens_at sym_of symbol_of same_bytes read_at sign_pieces
signed_back (pos n) k w at r t i e = literal-back k w at r t (ap is_literal i) e
signed_back (negsuc n) k w at r t i e =
    let s = piece Kind.operator (ascii "-") in
    record {
      tree = literal (negated (placed at s) (placed (past at s) (piece k w)));
      after = past (past at s) (piece k w);
      spells = a-literal t (a-sign refl i);
      reads = e;
    }

content-again : (q : ℕ) (s : List ℕ) → content_of (quoted q s) ≡ s
content-again q s =
    let e : suc (length s + 1) - 2 ≡ length s = omega arith in
    simp (length-append, e, take-append_seam)

truth-again : (x : Bool) → eqb (length (spell_truth x)) 4 ≡ x
truth-again true = refl
truth-again false = refl

-- ---- the items after a first one

module _ {m : Leaves} {b : ℕ} (close : List ℕ) (at : ℕ) (r : List Piece) where
  no-others : {Reads : Values → Type 0} → Reads none → OthersBack m b close Reads at (mark close ∷ r) r
  unfolding tokens_at sym_of symbol_of
  no-others e = record { trees = none; after = past at (mark close); spells = λ s. last-item s refl; reads = e }

  another : {u : Ty} {v : Val} {ps qs : List Piece} {Reads More : Values → Type 0} (x : Back m b u v (past at (mark (ascii ","))) ps qs)
      → OthersBack m b close Reads x.after qs r → ((ws : Values) → Reads ws → More (more x.tree ws))
      → OthersBack m b close More at (mark (ascii ",") ∷ ps) r
  unfolding tokens_at sym_of symbol_of
  another x y f =
      record { trees = more x.tree y.trees; after = y.after; spells = λ s. next-item s refl (y.spells x.spells); reads = f y.trees y.reads }

-- ---- values

mutual
  unfolding tokens_at pieces items more_items read_at read_all read_each sym_of symbol_of spell_string

  pub value-back : {m : Leaves} {b : ℕ} {u : Ty} {v : Val} → Fits m b u v → (at : ℕ) (r : List Piece) → Back m b u v at (pieces v r) r
  value-back (fit-name {w = w} t n) at r = record { tree = name (placed at (name_piece w)); after = past at (name_piece w); spells = a-name t refl; reads = refl }
  value-back (fit-number {n = n} t h) at r =
      let x = unsigned_of n in
      signed_back n.mantissa Kind.real (spell_number x) at r t refl (simp (read_number x h.lowest, signed-again n.mantissa))
  value-back (fit-scalar {n = n} t h) at r =
      let x = unsigned_of n in
      signed_back n.mantissa Kind.real (spell_number x) at r t refl (simp (read_number x h.lowest, signed-again n.mantissa))
  value-back (fit-extent {z = z} t h) at r =
      signed_back z Kind.whole (decimal (nat_abs z)) at r t refl (simp (value-digits (nat_abs z), signed-again z, h))
  value-back (fit-string {s = s} t h) at r = literal-back Kind.string (spell_string s) at r t refl (simp (content-again (quote_for s) s))
  value-back (fit-logical {x = x} t) at r = literal-back Kind.truth (spell_truth x) at r t refl (simp (truth-again x))
  value-back (fit-truth {x = x} t) at r = literal-back Kind.truth (spell_truth x) at r t refl (simp (truth-again x))
  value-back (fit-array f) at r = array_back f at r
  value-back (fit-tuple {w = w} {vs = vs} f g h) at r =
      let o = mark (ascii "(") in
      let q = mark (ascii ")") ∷ r in
      let x = value-back f (past at o) (more_items (a-val w vs) q) in
      let y = value-back g (past x.after (mark (ascii ","))) (more_items vs q) in
      let z = each_back h (ascii ")") y.after r in
      record {
        tree = tuple (placed at o) (more x.tree (more y.tree z.trees));
        after = z.after;
        spells = a-tuple refl x.spells refl (z.spells y.spells);
        reads = simp (x.reads, y.reads, z.reads);
      }

  array_back : {m : Leaves} {b : ℕ} {u : Ty} {vs : Vals} → FitsAll m b u vs → (at : ℕ) (r : List Piece)
      → Back m (suc b) (array_of u) (v_array vs) at (pieces (v_array vs) r) r
  array_back all_none at r =
      let o = mark (ascii "[") in
      record { tree = array (placed at o) none; after = past (past at o) (mark (ascii "]")); spells = an-empty-array refl refl; reads = refl }
  array_back (all_more {vs = vs} f g) at r =
      let o = mark (ascii "[") in
      let x = value-back f (past at o) (more_items vs (mark (ascii "]") ∷ r)) in
      let y = all_back g (ascii "]") x.after r in
      record {
        tree = array (placed at o) (more x.tree y.trees);
        after = y.after;
        spells = an-array refl (y.spells x.spells);
        reads = simp (x.reads, y.reads);
      }

  all_back : {m : Leaves} {b : ℕ} {u : Ty} {vs : Vals} → FitsAll m b u vs → (close : List ℕ) (at : ℕ) (r : List Piece)
      → OthersBack m b close (λ ws. read_all ws u ≡ some vs) at (more_items vs (mark close ∷ r)) r
  all_back all_none close at r = no-others close at r refl
  all_back (all_more {vs = vs} f g) close at r =
      let x = value-back f (past at (mark (ascii ","))) (more_items vs (mark close ∷ r)) in
      another close at r x (all_back g close x.after r) (λ ws e. simp (x.reads, e))

  pub each_back : {m : Leaves} {b : ℕ} {us : Tys} {vs : Vals} → FitsEach m b us vs → (close : List ℕ) (at : ℕ) (r : List Piece)
      → OthersBack m b close (λ ws. read_each ws us ≡ some vs) at (more_items vs (mark close ∷ r)) r
  each_back each_none close at r = no-others close at r refl
  each_back (each_more {vs = vs} f g) close at r =
      let x = value-back f (past at (mark (ascii ","))) (more_items vs (mark close ∷ r)) in
      another close at r x (each_back g close x.after r) (λ ws e. simp (x.reads, e))
