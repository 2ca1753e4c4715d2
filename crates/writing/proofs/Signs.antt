-- Signs of numbers: where the code puts one, canonical text has one, and the digits after it are those of the number without it. Assumes
-- nothing.
use mathlib.Core.Path.{◌≡◌, refl, sym, subst}
use mathlib.Core.Bool.{Bool, true, false, cond}
use mathlib.Core.List.{List, ◌∷◌}
use Prim.Native.Nat.{ℕ, zero, suc, ◌≤◌}
use native.Mathlib.Omega.{arith}
use borrow.Author.Tests.{ne_eqb}
use lib.Dec.{eqb}
use lib.IntN.{ℤ, pos, negsuc, nat_abs}
use Rattle.std.specs.Int.{from_bool}
use Rattle.lexis.specs.Kind as Kind
use Rattle.lexis.specs.Number.{signed}
use Rattle.lexis.specs.Symbol.{minus}
use Rattle.lists.specs.Reading.{v_number, v_extent}
use Rattle.lists.proofs.Extents.{abs-signed}
use Rattle.writing.specs.declared.writer.Writer.{Writer}
use Rattle.writing.specs.Spelling.{decimal, spell_number}
use Rattle.writing.specs.Pieces.{Piece}
use Rattle.writing.specs.Layout.{piece, sign_pieces, pieces}
use Rattle.writing.specs.Writing.{Puts, PutsWord, sign_if, signs_of}
use Rattle.writing.proofs.Putting.{puts_then, puts-same}

-- at most one sign
pub signs-few : (c : ℕ) → signs_of c ≤ 1
signs-few c = go (eqb c minus)
  where
    go : (b : Bool) → cond b 1 0 ≤ 1
    go true = omega arith
    go false = omega arith

-- one where the terminal is a minus
pub signs-are : (c : ℕ) → from_bool (eqb c minus) ≡ signs_of c
signs-are c = go (eqb c minus)
  where
    go : (b : Bool) → from_bool b ≡ cond b 1 0
    go true = refl
    go false = refl

-- zero has none
sign-if : (negative x : Bool) (n : ℕ) (r : List Piece) → x ≡ eqb n 0 → sign_if negative x r ≡ sign_pieces (signed negative n) r
unfolding sign_pieces
sign-if false x n r e = refl
sign-if true x zero r e = rw e
sign-if true x (suc n) r e = rw (e, ne_eqb (suc n) 0 (λ z. omega arith))

-- a negative number; its sign, and the number without it, give it back
abbrev pub is_negative : ℤ → Bool
is_negative (pos n) = false
is_negative (negsuc n) = true

pub signed-again : (z : ℤ) → signed (is_negative z) (nat_abs z) ≡ z
signed-again (pos n) = refl
signed-again (negsuc n) = refl

-- a sign and the piece after it
module _ (negative x : Bool) (n : ℕ) (e : x ≡ eqb n 0) {a b c : Writer} (sign : Puts (sign_if negative x) a b) where
  puts-signed : (k : ℕ) {w : List ℕ} → PutsWord w b c → Puts (λ r. sign_pieces (signed negative n) (piece k w ∷ r)) a c
  puts-signed k {w} p = puts-same (λ r. sign-if negative x n (piece k w ∷ r) e) (puts_then sign (p k))

  pub puts-extent : PutsWord (decimal n) b c → Puts (pieces (v_extent (signed negative n))) a c
  unfolding pieces
  puts-extent p =
      subst (λ (m : ℕ). Puts (λ r. sign_pieces (signed negative n) (piece Kind.whole (decimal m) ∷ r)) a c) (sym (abs-signed negative n))
      (puts-signed Kind.whole p)

  pub puts-number : (z : ℤ) → PutsWord (spell_number (record { mantissa = n; exponent = z })) b c
      → Puts (pieces (v_number (record { mantissa = signed negative n; exponent = z }))) a c
  unfolding pieces
  puts-number z p =
      subst (λ (m : ℕ). Puts (λ r. sign_pieces (signed negative n) (piece Kind.real (spell_number (record { mantissa = m; exponent = z })) ∷ r)) a c)
      (sym (abs-signed negative n)) (puts-signed Kind.real p)
