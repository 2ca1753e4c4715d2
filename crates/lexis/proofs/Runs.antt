-- The laws of runs and gaps at a position of a text: one more byte, the last, the end. A loop over a run cites them, whatever its test.
use mathlib.Core.Path.{◌≡◌}
use mathlib.Core.Bool.{Bool, true, false, cond}
use mathlib.Core.List.{List}
use Prim.Native.Nat.{ℕ, suc, ◌+◌, ◌≤◌, ◌<◌}
use native.Mathlib.Nat.{add-zero}
use native.Mathlib.Numerals.{add-one}
use native.Mathlib.Omega.{arith}
use borrow.Author.Tests.{ne_eqb}
use lib.ListN.{length, drop, get_or, drop_of_length-le}
use lib.Seq.{drop-cons}
use Rattle.lexis.specs.Bytes.{class_of, span_len, gap_from}

module _ (f : ℕ → Bool) (s : List ℕ) (i : ℕ) where
  span-here : i < length s → (b : Bool) → f (get_or s i 0) ≡ b → span_len f (drop i s) ≡ cond b (suc (span_len f (drop (i + 1) s))) 0
  unfolding span_len
  span-here h b t = rw (add-one, drop-cons s i 0, t)

  pub span_more : i < length s → f (get_or s i 0) ≡ true → i + span_len f (drop i s) ≡ i + 1 + span_len f (drop (i + 1) s)
  span_more h t = omega (arith, span-here h true t)

  pub span-step : (j : ℕ) → j ≡ i + 1 → i < length s → f (get_or s i 0) ≡ true → i + span_len f (drop i s) ≡ j + span_len f (drop j s)
  span-step j e h t = rw e (span_more h t)

  pub span-stop : i < length s → f (get_or s i 0) ≡ false → i + span_len f (drop i s) ≡ i
  span-stop h t = omega (arith, span-here h false t)

  pub span-end : length s ≤ i → i + span_len f (drop i s) ≡ i
  unfolding span_len
  span-end h = rw (drop_of_length-le s h) (add-zero i)

module _ (s : List ℕ) (i : ℕ) where
  -- white space
  pub gap-space : (b : Bool) → i < length s → b ≡ false → class_of (get_or s i 0) ≡ 1 → i + gap_from b (drop i s) ≡ i + 1 + gap_from b (drop (i + 1) s)
  unfolding gap_from
  gap-space b h t e = rw (t, add-one, drop-cons s i 0, e) (omega arith)

  -- the sign that begins a comment
  pub gap-sign : (b : Bool) → i < length s → b ≡ false → class_of (get_or s i 0) ≡ 5 → i + gap_from b (drop i s) ≡ i + 1 + gap_from true (drop (i + 1) s)
  unfolding gap_from
  gap-sign b h t e = rw (t, add-one, drop-cons s i 0, e) (omega arith)

  -- a byte of a token
  pub gap-stop : (b : Bool) → i < length s → b ≡ false → (class_of (get_or s i 0) ≡ 5 → ⊥) → (class_of (get_or s i 0) ≡ 1 → ⊥) → i + gap_from b (drop i s) ≡ i
  unfolding gap_from
  gap-stop b h t n5 n1 = rw (t, drop-cons s i 0, ne_eqb _ 1 n1, ne_eqb _ 5 n5) (omega arith)
