-- The names of a list in the index: what a name that is entered makes of its number and its mark, and what a look-up finds. Relies on the theorems of the
-- index, and on `Directories` for what a search in a row of names finds.
use mathlib.Core.Path.{◌≡◌, refl, sym, ap, subst, ◌∙◌}
use mathlib.Core.Bool.{Bool, true, false, cond, not, ◌||◌}
use mathlib.Core.List.{List, [], ◌∷◌, ◌++◌, map}
use Prim.Native.Nat.{ℕ, zero, suc, ◌+◌, ◌-◌, ◌<◌, ◌≤◌}
use native.Mathlib.Omega.{arith}
use lib.Dec.{eqb}
use lib.ListN.{length, set, replicate}
use borrow.Author.Tests.{eqb-true, eqb-false, eq-eqb, ne_eqb}
use Rattle.spellings.specs.Comparison.{same_bytes}
use Rattle.spellings.proofs.Spellings.{same-is}
use Rattle.lexis.specs.Lexer.{Token}
use Rattle.syntax.specs.Tree.{Header}
use Rattle.syntax.specs.Table.{token_at}
use Rattle.index.specs.Layout.{name_words, word_place, word_at}
use Rattle.index.specs.Mapped.{EnteredAt, both, changed, kept_in, Enters, LooksUp}
use Rattle.index.proofs.Theorems.{empty-mapped, mapped-as, word-placed, first-set, second-set}
use Rattle.lists.specs.Names.{is_among}
use Rattle.lists.specs.Found.{found}
use Rattle.lists.specs.Lists.{lookup_from}
use Rattle.lists.specs.Headers.{lookup_number, Numbered, Names, Marks, Numbers}
use Rattle.std.specs.Prelude.{Option as Maybe, Some, None}
use Rattle.lists.proofs.Directories.{at-among, missing-among, names-found}

-- ---- one name more in a row

or-true : (a : Bool) → (a || true) ≡ true
or-true true = refl
or-true false = refl

or-false : (a : Bool) → (a || false) ≡ a
or-false true = refl
or-false false = refl

among-more : (ss : List Token) (s t : Token) → is_among (ss ++ (s ∷ [])) t ≡ (is_among ss t || same_bytes s.bytes t.bytes)
unfolding is_among
among-more [] s t = or-false (same_bytes s.bytes t.bytes)
among-more (x ∷ ss) s t = ap (λ (b : Bool). same_bytes x.bytes t.bytes || b) (among-more ss s t)
    ∙ step (same_bytes x.bytes t.bytes) (is_among ss t) (same_bytes s.bytes t.bytes)
  where
    step : (a b c : Bool) → (a || (b || c)) ≡ ((a || b) || c)
    step true b c = refl
    step false b c = refl

-- the first of two numbers that is not 0
abbrev or_else : ℕ → ℕ → ℕ
or_else zero b = b
or_else (suc a) b = suc a

number_more : (k : ℕ) (ss : List Token) (s t : Token)
    → lookup_number (lookup_from k (ss ++ (s ∷ [])) t) ≡ or_else (lookup_number (lookup_from k ss t)) (cond (same_bytes s.bytes t.bytes) (suc (k + length ss)) 0)
unfolding lookup_from
number_more k [] s t = let z : k ≡ k + 0 = omega arith in go (same_bytes s.bytes t.bytes) z
  where
    go : (b : Bool) {m : ℕ} → k ≡ m → lookup_number (cond b (Some k) None) ≡ cond b (suc m) 0
    go true e = ap suc e
    go false e = refl
number_more k (x ∷ ss) s t = go (same_bytes x.bytes t.bytes) (number_more (suc k) ss s t)
  where
    z : suc k + length ss ≡ k + suc (length ss)
    z = omega arith

    go : (b : Bool)
        → lookup_number (lookup_from (suc k) (ss ++ (s ∷ [])) t) ≡ or_else (lookup_number (lookup_from (suc k) ss t))
        (cond (same_bytes s.bytes t.bytes) (suc (suc k + length ss)) 0)
        → lookup_number (cond b (Some k) (lookup_from (suc k) (ss ++ (s ∷ [])) t))
        ≡ or_else (lookup_number (cond b (Some k) (lookup_from (suc k) ss t))) (cond (same_bytes s.bytes t.bytes) (suc (k + suc (length ss))) 0)
    go true e = refl
    go false e = e ∙ ap (λ (m : ℕ). or_else (lookup_number (lookup_from (suc k) ss t)) (cond (same_bytes s.bytes t.bytes) (suc m) 0)) z

-- a name has a number where it is among those numbered
numbered-among : (ss : List Token) (t : Token) (l : Maybe ℕ) → lookup_from 0 ss t ≡ l
    → (lookup_number l ≡ 0 → is_among ss t ≡ false) × ((lookup_number l ≡ 0 → ⊥) → is_among ss t ≡ true)
numbered-among ss t (Some k) e = ((λ z. absurd (omega arith)), λ z. at-among 0 k ss t e)
numbered-among ss t None e = ((λ z. missing-among 0 ss t e), λ z. absurd (z refl))

-- ---- an index of no names

pub names-start : (text table index : List ℕ) (m : ℕ) → index ≡ replicate m 0 → Numbered text table index 0 0 []
unfolding lookup_from
names-start text table index m e = record {
  below = 0;
  low = omega arith;
  number = λ w. 0;
  mark = λ w. 0;
  mapped = mapped-as (both (λ w. 0) (λ w. 0)) same (empty-mapped index m e text table 0);
  numbered = λ t. refl;
  older = λ w. omega arith;
}
  where
    same : (i : ℕ) (w : List ℕ) → i < name_words → both (λ w. 0) (λ w. 0) i w ≡ 0
    same zero w l = refl
    same (suc i) w l = refl

-- a later place, and a later header
pub later : {text table index : List ℕ} {at at' k : ℕ} {ops : List Token} → at ≤ at' → Numbered text table index at k ops → Numbered text table index at' k ops
later l m = record {
  below = m.below;
  low = let b = m.low in omega arith;
  number = m.number;
  mark = m.mark;
  mapped = m.mapped;
  numbered = m.numbered;
  older = m.older;
}

pub names-later : {text table index : List ℕ} {at at' k : ℕ} {ops ss : List Token} → at ≤ at' → Names text table index at k ops ss
    → Names text table index at' k ops ss
unfolding later
names-later l m = record { all = later l m.all; marked = m.marked }

-- ---- the name at place i is entered at place p

abbrev spelt : List ℕ → List ℕ → ℕ → List ℕ
spelt text table i = (token_at text table i).bytes

module _ (text table index index₁ : List ℕ) (i k p : ℕ) (entered : Enters text table index index₁ i p) where
  -- its mark is looked at and set
  module _ {r : Bool} {index' : List ℕ} (looked : r ≡ eqb (word_at index₁ p 1) k) (room : word_place p 1 < length index₁)
      (stored : index' ≡ set index₁ (word_place p 1) k) where
    pub marks : Marks text table index index' i k r
    marks = record {
      again = λ ops ss m. looked ∙ ap (λ (x : ℕ). eqb x k) (word-placed (at m.all) 1 (omega arith)) ∙ m.marked (token_at text table i);
      names = λ ops ss m. record {
        all = record {
          below = i + 1;
          low = omega arith;
          number = m.all.number;
          mark = changed m.all.mark (spelt text table i) k;
          mapped = rw stored (second-set (at m.all) k room).mapped;
          numbered = m.all.numbered;
          older = λ w. below (m.all.mark w) (same_bytes (spelt text table i) w) (m.all.older w);
        };
        marked = λ t. one ss t (m.all.mark t.bytes) (m.marked t);
      };
    }
      where
        at : {ops : List Token} (m : Numbered text table index i k ops) → EnteredAt text table index₁ (i + 1) (both m.number m.mark) (spelt text table i) p
        at m = entered m.below (both m.number m.mark) m.low m.mapped

        below : (x : ℕ) (b : Bool) → x ≤ k → cond b k x ≤ k
        below x true h = omega arith
        below x false h = h

        one : (ss : List Token) (t : Token) (x : ℕ) → eqb x k ≡ is_among ss t
            → eqb (cond (same_bytes (spelt text table i) t.bytes) k x) k ≡ is_among (ss ++ (token_at text table i ∷ [])) t
        one ss t x e = go (same_bytes (spelt text table i) t.bytes) ∙ sym (among-more ss (token_at text table i) t)
          where
            go : (b : Bool) → eqb (cond b k x) k ≡ (is_among ss t || b)
            go true = eq-eqb k k refl ∙ sym (or-true (is_among ss t))
            go false = e ∙ sym (or-false (is_among ss t))

  -- its number
  module _ {ops : List Token} (m : Numbered text table index i k ops) where
    there : EnteredAt text table index₁ (i + 1) (both m.number m.mark) (spelt text table i) p
    there = entered m.below (both m.number m.mark) m.low m.mapped

    number-there : word_at index₁ p 0 ≡ lookup_number (lookup_from 0 ops (token_at text table i))
    number-there = word-placed there 0 (omega arith) ∙ m.numbered (token_at text table i)

    -- a spelling that is that of the name has its number
    alike : (w : List ℕ) → same_bytes (spelt text table i) w ≡ true → m.number w ≡ word_at index₁ p 0
    alike w e = ap m.number (sym (same-is (spelt text table i) w e)) ∙ sym (word-placed there 0 (omega arith))

    none-marked : (w : List ℕ) → eqb (m.mark w) (k + 1) ≡ false
    none-marked w = let h = m.older w in ne_eqb (m.mark w) (k + 1) (λ z. omega arith)

  module _ (has : word_at index₁ p 0 ≡ 0 → ⊥) where
    known : Numbers text table index index₁ i k true
    unfolding is_among
    known = record {
      again = λ ops m. sym ((numbered-among ops (token_at text table i) (lookup_from 0 ops (token_at text table i)) refl).1 (λ z. has (number-there m ∙ z)));
      names = λ ops m l. record {
        all = record {
          below = i + 1;
          low = omega arith;
          number = m.number;
          mark = m.mark;
          mapped = (there m).mapped;
          numbered = λ t.
              kept m t (same_bytes (spelt text table i) t.bytes) refl
              ∙ ap (λ (x : ℕ). or_else x (cond (same_bytes (spelt text table i) t.bytes) (suc (0 + length ops)) 0)) (m.numbered t)
              ∙ sym (number_more 0 ops (token_at text table i) t);
          older = λ w. let h = m.older w in omega arith;
        };
        marked = λ t. none-marked m t.bytes;
      };
    }
      where
        first-kept : (x y : ℕ) → (x ≡ 0 → ⊥) → x ≡ or_else x y
        first-kept zero y h = absurd (h refl)
        first-kept (suc x) y h = refl

        zero-else : (x : ℕ) → x ≡ or_else x 0
        zero-else zero = refl
        zero-else (suc x) = refl

        kept : {ops : List Token} (m : Numbered text table index i k ops) (t : Token) (b : Bool) → same_bytes (spelt text table i) t.bytes ≡ b
            → m.number t.bytes ≡ or_else (m.number t.bytes) (cond b (suc (0 + length ops)) 0)
        kept m t true e = first-kept (m.number t.bytes) _ (λ z. has (sym (alike m t.bytes e) ∙ z))
        kept m t false e = zero-else (m.number t.bytes)

  module _ {index' : List ℕ} (lacks : word_at index₁ p 0 ≡ 0) (room : word_place p 0 < length index₁) (stored : index' ≡ set index₁ (word_place p 0) (k + 1)) where
    added : Numbers text table index index' i k false
    unfolding is_among
    added = record {
      again = λ ops m. sym ((numbered-among ops (token_at text table i) (lookup_from 0 ops (token_at text table i)) refl).0 (sym (number-there m) ∙ lacks));
      names = λ ops m l. record {
        all = record {
          below = i + 1;
          low = omega arith;
          number = changed m.number (spelt text table i) (k + 1);
          mark = m.mark;
          mapped = rw stored (first-set (there m) (k + 1) room).mapped;
          numbered = λ t.
              new m t (length ops) l (same_bytes (spelt text table i) t.bytes) refl
              ∙ ap (λ (x : ℕ). or_else x (cond (same_bytes (spelt text table i) t.bytes) (suc (0 + length ops)) 0)) (m.numbered t)
              ∙ sym (number_more 0 ops (token_at text table i) t);
          older = λ w. let h = m.older w in omega arith;
        };
        marked = λ t. none-marked m t.bytes;
      };
    }
      where
        zero-else : (x : ℕ) → x ≡ or_else x 0
        zero-else zero = refl
        zero-else (suc x) = refl

        new : {ops : List Token} (m : Numbered text table index i k ops) (t : Token) (l : ℕ) → l ≡ k → (b : Bool)
            → same_bytes (spelt text table i) t.bytes ≡ b
            → cond b (k + 1) (m.number t.bytes) ≡ or_else (m.number t.bytes) (cond b (suc (0 + l)) 0)
        new m t l q true e =
            let z : k + 1 ≡ suc (0 + l) = omega arith in
            z ∙ sym (ap (λ (x : ℕ). or_else x (suc (0 + l))) (alike m t.bytes e ∙ lacks))
        new m t l q false e = zero-else (m.number t.bytes)

  -- its number is looked at, and set where it has none
  module _ {r : Bool} {index' : List ℕ} (had : r ≡ not (eqb (word_at index₁ p 0) 0)) (room : word_place p 0 < length index₁)
      (kept : index' ≡ kept_in index₁ p 0 (k + 1)) where
    pub numbers : Numbers text table index index' i k r
    numbers = by (eqb (word_at index₁ p 0) 0) refl
      where
        left : (b : Bool) → eqb (word_at index₁ p 0) 0 ≡ b → index' ≡ cond b (set index₁ (word_place p 0) (k + 1)) index₁
        left b e = kept ∙ ap (λ (b : Bool). cond b (set index₁ (word_place p 0) (k + 1)) index₁) e

        by : (b : Bool) → eqb (word_at index₁ p 0) 0 ≡ b → Numbers text table index index' i k r
        by true e = subst (Numbers text table index index' i k) (sym (had ∙ ap not e)) (added (eqb-true _ 0 e) room (left true e))
        by false e =
            subst (Numbers text table index index' i k) (sym (had ∙ ap not e))
            (subst (λ (l : List ℕ). Numbers text table index l i k true) (sym (left false e)) (known (eqb-false _ 0 e)))

-- ---- what a look-up finds

pub looked-up : {text table index : List ℕ} {n k r : ℕ} (hs : List Header) (t : Token) → LooksUp text table index t.bytes 0 r
    → Numbered text table index n k (map (λ (h : Header). h.name) hs) → r ≡ lookup_number (found hs t)
looked-up hs t look m = look m.below (both m.number m.mark) m.mapped ∙ m.numbered t ∙ ap lookup_number (names-found hs t)

-- it is found where it is there, counted from 0
pub found-none : (l : Maybe ℕ) → 0 ≡ lookup_number l → None ≡ l
found-none None e = refl
found-none (Some k) e = absurd (omega arith)

pub found-some : (l : Maybe ℕ) (k : ℕ) → k ≡ lookup_number l → 0 < k → Some (k - 1) ≡ l
found-some None k e h = absurd (omega arith)
found-some (Some j) k e h = let z : k - 1 ≡ j = omega arith in ap Some z
