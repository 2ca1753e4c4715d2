-- The value of a leaf by its kind and its type word, as the code tells them apart, and that its piece was put.
use mathlib.Core.Path.{◌≡◌, refl, sym, ap₂, ◌∙◌}
use mathlib.Core.Bool.{Bool, true, false, cond, ◌&&◌, and-eq-true_iff}
use mathlib.Core.List.{List}
use mathlib.Core.Option.{some}
use Prim.Native.Nat.{ℕ}
use native.Mathlib.Omega.{arith}
use borrow.Author.Tests.{eqb-true, ne_eqb}
use lib.Dec.{eqb}
use lib.ListN.{length}
use Rattle.lexis.specs.Kind as Kind
use Rattle.lexis.specs.Number.{value_from, signed}
use Rattle.lexis.specs.Lexer.{Token}
use Rattle.lexis.specs.Symbol.{extent_word}
use Rattle.syntax.specs.Tree.{Ty}
use Rattle.syntax.specs.Grammar.{IsTypeName}
use Rattle.syntax.specs.Grammar.IsTypeName.{is-tensor, is-extent, is-scalar, is-logical, is-string}
use Rattle.lists.specs.Reading.{is_extent, Val, v_name, v_extent, v_string, where-true, name_at, literal_at, is_number, content_of, number_of, truth_of}
use Rattle.writing.specs.declared.writer.Writer.{Writer}
use Rattle.writing.specs.Spelling.{spell_string, spell_truth}
use Rattle.writing.specs.Layout.{pieces}
use Rattle.writing.specs.Writing.{Puts, PutsWord, leaf_at}

-- ---- the value

-- a value where the test holds
where-says : (b : Bool) {x v : Val} → where-true b x ≡ some v → (b ≡ true) × (v ≡ x)
where-says true e = (refl, cc)
where-says false e = (cc, cc)

name-is : {at : ℕ} {u : Ty} (w : List ℕ) {v : Val} → IsTypeName at u → name_at u w ≡ some v → v ≡ v_name w
name-is w is-tensor e = cc
name-is w is-extent e = cc
name-is w is-scalar e = cc
name-is w is-logical e = cc
name-is w is-string e = cc

string-is : {at : ℕ} {u : Ty} (n : Bool) (w : List ℕ) {v : Val} → IsTypeName at u → literal_at u n Kind.string w ≡ some v → v ≡ v_string (content_of w)
string-is n w is-tensor e = cc
string-is n w is-extent e = cc
string-is n w is-scalar e = cc
string-is n w is-logical e = cc
string-is n w is-string e = cc

truth-is : {at : ℕ} {u : Ty} (n : Bool) (w : List ℕ) {v : Val} → IsTypeName at u → literal_at u n Kind.truth w ≡ some v → v ≡ truth_of w
truth-is n w is-tensor e = cc
truth-is n w is-extent e = cc
truth-is n w is-scalar e = cc
truth-is n w is-logical e = cc
truth-is n w is-string e = cc

extent-is : {at : ℕ} {u : Ty} (n : Bool) (k : ℕ) (w : List ℕ) {v : Val} → at ≡ extent_word → IsTypeName at u → literal_at u n k w ≡ some v
    → (k ≡ Kind.whole) × (v ≡ v_extent (signed n (value_from 0 w)))
extent-is n k w q is-tensor e = absurd (omega arith)
extent-is n k w q is-extent e =
    let r = where-says (eqb k Kind.whole && is_extent (signed n (value_from 0 w))) e in
    (eqb-true k Kind.whole ((and-eq-true_iff (eqb k Kind.whole) _).0 r.0).0, r.1)
extent-is n k w q is-scalar e = absurd (omega arith)
extent-is n k w q is-logical e = absurd (omega arith)
extent-is n k w q is-string e = absurd (omega arith)

number_is : {at : ℕ} {u : Ty} (n : Bool) (k : ℕ) (w : List ℕ) {v : Val} → (k ≡ Kind.string → ⊥) → (k ≡ Kind.truth → ⊥) → (at ≡ extent_word → ⊥)
    → IsTypeName at u → literal_at u n k w ≡ some v → (is_number k ≡ true) × (v ≡ number_of n w)
number_is n k w s t q is-tensor e = where-says (is_number k) (simp (ne_eqb k Kind.truth t) at e)
number_is n k w s t q is-extent e = absurd (q refl)
number_is n k w s t q is-scalar e = where-says (is_number k) e
number_is n k w s t q is-logical e = absurd (t (eqb-true k Kind.truth (where-says (eqb k Kind.truth) e).0))
number_is n k w s t q is-string e = absurd (s (eqb-true k Kind.string (where-says (eqb k Kind.string) e).0))

-- ---- its piece

-- a leaf t at the type u of the word `at`, of kind k and bytes w, with a sign before it or without one
module _ {at : ℕ} {u : Ty} (negative : Bool) (k : ℕ) (w : List ℕ) (t : Token) {v : Val} (is : IsTypeName at u) (ek : t.kind ≡ k) (eb : t.bytes ≡ w)
    (e : leaf_at u negative t ≡ some v) where
  here : cond (eqb k Kind.name) (name_at u w) (literal_at u negative k w) ≡ some v
  here = sym (ap₂ (λ (j : ℕ) (s : List ℕ). cond (eqb j Kind.name) (name_at u s) (literal_at u negative j s)) ek eb) ∙ e

  literal : (k ≡ Kind.name → ⊥) → literal_at u negative k w ≡ some v
  literal n = simp (ne_eqb k Kind.name n) at here

  pub a-number : (k ≡ Kind.name → ⊥) → (k ≡ Kind.string → ⊥) → (k ≡ Kind.truth → ⊥) → (at ≡ extent_word → ⊥) → (is_number k ≡ true) × (v ≡ number_of negative w)
  a-number n s b x = number_is negative k w s b x is (literal n)

  module _ {out out' : Writer} where
    pub puts-name : k ≡ Kind.name → PutsWord w out out' → Puts (pieces v) out out'
    unfolding pieces
    puts-name n p = rw (name-is w is (rw n at here)) (p Kind.name)

    pub puts-string : k ≡ Kind.string → PutsWord (spell_string (content_of w)) out out' → Puts (pieces v) out out'
    unfolding pieces
    puts-string n p = rw (string-is negative w is (rw n at here)) (p Kind.string)

    pub puts-truth : k ≡ Kind.truth → PutsWord (spell_truth (eqb (length w) 4)) out out' → Puts (pieces v) out out'
    unfolding pieces
    puts-truth n p = rw (truth-is negative w is (rw n at here)) (p Kind.truth)

    pub puts-extent : (k ≡ Kind.name → ⊥) → at ≡ extent_word
        → (k ≡ Kind.whole → Puts (pieces (v_extent (signed negative (value_from 0 w)))) out out') → Puts (pieces v) out out'
    puts-extent n x p = let q = extent-is negative k w x is (literal n) in rw q.1 (p q.0)

    pub puts-number : (k ≡ Kind.name → ⊥) → (k ≡ Kind.string → ⊥) → (k ≡ Kind.truth → ⊥) → (at ≡ extent_word → ⊥)
        → (is_number k ≡ true → Puts (pieces (number_of negative w)) out out') → Puts (pieces v) out out'
    puts-number n c b x p = let q = a-number n c b x in rw q.1 (p q.0)
