-- The decimal digits of a number: they spell it, they are one digit or more and nothing else, and a small number has few.
use mathlib.Core.Path.{◌≡◌, refl}
use mathlib.Core.Bool.{Bool, true, false, cond, and-false}
use mathlib.Core.List.{List, [], ◌∷◌, ◌++◌}
use Prim.Native.Nat.{ℕ, zero, suc, ◌+◌, ◌^◌, ◌/◌, ◌%◌, ◌≤◌, ◌<◌}
use native.Mathlib.Nat.{le_refl}
use native.Mathlib.Omega.{arith}
use lib.Dec.{ltb}
use lib.ListN.{length, length-append}
use borrow.Author.Tests.{ltb-true, ltb-false, le-leb, lt-leb, ne_eqb}
use Rattle.lexis.specs.Ascii.{byte}
use Rattle.lexis.specs.Class as Class
use Rattle.lexis.specs.Bytes.{class_of, is_digit}
use Rattle.lexis.specs.Number.{value_from}
use Rattle.lexis.proofs.Caps.{value-snoc}
use Rattle.writing.specs.Spelling.{decimal_by, decimal}
use Rattle.writing.specs.Fit.{All, none, more}
use Rattle.writing.proofs.Runs.{all_append}

-- what holds of one digit, and of a number's digits where it holds of a tenth's, holds of all digits
module _ (P : ℕ → List ℕ → Type 0) (one : (n : ℕ) → n < 10 → P n ((byte "0" + n) ∷ []))
    (last : (n : ℕ) (s : List ℕ) → 10 ≤ n → P (n / 10) s → P n (s ++ ((byte "0" + n % 10) ∷ []))) where
  by-fuel : (fuel n : ℕ) → n ≤ fuel → P n (decimal_by fuel n)
  unfolding decimal_by
  by-fuel zero n h = one n (omega arith)
  by-fuel (suc fuel) n h = go (ltb n 10) refl (by-fuel fuel (n / 10))
    where
      go : (b : Bool) → ltb n 10 ≡ b → (n / 10 ≤ fuel → P (n / 10) (decimal_by fuel (n / 10)))
          → P n (cond b ((byte "0" + n) ∷ []) (decimal_by fuel (n / 10) ++ ((byte "0" + n % 10) ∷ [])))
      go true e ih = one n (ltb-true n 10 e)
      go false e ih = let l = ltb-false n 10 e in last n (decimal_by fuel (n / 10)) l (ih (omega arith))

  by_digits : (n : ℕ) → P n (decimal n)
  unfolding decimal
  by_digits n = by-fuel n n (le_refl n)

pub value-digits : (n : ℕ) → value_from 0 (decimal n) ≡ n
unfolding value_from
value-digits = by_digits (λ n s. value_from 0 s ≡ n) (λ n h. omega arith) (λ n s h ih. rw (value-snoc 0 s (byte "0" + n % 10), ih) (omega arith))

-- one digit or more, and nothing else
pub data IsDigits : List ℕ → Type 0 where
  some-digits : {c : ℕ} {s : List ℕ} → class_of c ≡ Class.digit → All is_digit s → IsDigits (c ∷ s)

pub all_digits : {s : List ℕ} → IsDigits s → All is_digit s
all_digits (some-digits {c} h a) = more {c = c} (rw h) a

class-digit : (n : ℕ) → n < 10 → class_of (byte "0" + n) ≡ Class.digit
unfolding class_of
class-digit n h =
    rw (
      lt-leb (byte "0" + n) 13 (omega arith),
      and-false,
      ne_eqb (byte "0" + n) 32 (λ e. omega arith),
      le-leb (byte "0") (byte "0" + n) (omega arith),
      le-leb (byte "0" + n) (byte "9") (omega arith),
    )

snoc-digits : {s : List ℕ} (d : ℕ) → IsDigits s → class_of d ≡ Class.digit → IsDigits (s ++ (d ∷ []))
snoc-digits d (some-digits h a) k = some-digits h (all_append is_digit a (more {c = d} (rw k) none))

pub are-digits : (n : ℕ) → IsDigits (decimal n)
are-digits =
    by_digits (λ n s. IsDigits s) (λ n h. some-digits (class-digit n h) none)
    (λ n s h ih. snoc-digits (byte "0" + n % 10) ih (class-digit (n % 10) (omega arith)))

-- a number below ten to the k + 1 has at most k + 1 digits
abbrev Few : ℕ → List ℕ → Type 0
Few n s = (k : ℕ) → n < 10 ^ suc k → length s ≤ suc k

few-last : (n : ℕ) (s : List ℕ) → 10 ≤ n → Few (n / 10) s → Few n (s ++ ((byte "0" + n % 10) ∷ []))
few-last n s h ih zero l = absurd (omega arith)
few-last n s h ih (suc k) l = rw length-append (omega (arith, ih k (omega arith)))

pub digits-length : (k n : ℕ) → n < 10 ^ suc k → length (decimal n) ≤ suc k
digits-length k n = by_digits Few (λ n h k l. omega arith) few-last n k
