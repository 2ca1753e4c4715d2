-- What holds of every comparison of two spellings, of whatever lengths.
use Prim.Native.Nat.{ℕ, ◌+◌, ◌<◌, ◌≤◌}
use mathlib.Core.Path.{◌≡◌}
use mathlib.Core.Bool.{true}
use mathlib.Core.List.{List, []}
use mathlib.Core.Logic.{◌↔◌, ◌⊎◌}
use native.Mathlib.Omega.{arith}
use lib.ListN.{length, get_or}
use Rattle.spellings.specs.Comparison.{same_bytes, last_byte, pairs, comparison, max_count, words_of, Agree}
use Rattle.spellings.proofs.Spellings.{same-is, same_of}
use Rattle.spellings.proofs.Pairs as Pairs
use Rattle.spellings.proofs.Outcomes as Outcomes

module _ (a b : List ℕ) where
  -- ---- the verdict

  -- spellings are the same exactly when they are equal
  pub same-exactly : (same_bytes a b ≡ true) ↔ (a ≡ b)
  same-exactly = (same-is a b, same_of a b)

  -- ---- the count

  -- no pair for unequal lengths
  pub pairs-lengths : (length a ≡ length b → ⊥) → pairs a b ≡ 0
  pairs-lengths = Pairs.pairs-lengths a b

  -- one for unequal last bytes
  pub pairs-last : length a ≡ length b → (last_byte a ≡ last_byte b → ⊥) → pairs a b ≡ 1
  pairs-last = Pairs.pairs-last a b

  -- else two more than the place of the first difference: the last pair once, and those from the front through that place
  pub pairs-front : length a ≡ length b → last_byte a ≡ last_byte b → (d : ℕ) → d < length a → Agree a b d → (get_or a d 0 ≡ get_or b d 0 → ⊥)
      → pairs a b ≡ d + 2
  pairs-front = Pairs.pairs-front a b

  -- the length for equal spellings
  pub pairs-same : a ≡ b → pairs a b ≡ length a
  pairs-same = Pairs.pairs-same a b

  -- at most the length
  pub pairs-most : (pairs a b ≤ length a) × (pairs a b ≤ length b)
  pairs-most = Outcomes.pairs-most a b

  -- none exactly where the lengths differ or both are empty
  pub pairs-none : (pairs a b ≡ 0) ↔ ((length a ≡ length b → ⊥) ⊎ ((a ≡ []) × (b ≡ [])))
  pairs-none = Outcomes.pairs-none a b

  -- the word that has the count has all of it, for spellings of at most 4,294,967,295 bytes
  pub pairs-word : length a ≤ max_count → (words_of (comparison a b)).pairs ≡ pairs a b
  unfolding comparison
  pairs-word h = let m = pairs-most in omega arith

  -- the order of the two does not matter
  pub swapped : comparison a b ≡ comparison b a
  swapped = Outcomes.swapped a b
