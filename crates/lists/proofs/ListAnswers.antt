-- From the stages of an operation list to the answer of `declarations` and the work area after it.
use mathlib.Core.Path.{◌≡◌, refl, ◌∙◌}
use mathlib.Core.Bool.{true, false}
use mathlib.Core.List.{List}
use Prim.Native.Nat.{ℕ}
use lib.Dec.{leb}
use lib.ListN.{length, replicate}
use Rattle.lexis.specs.Sizes.{max_text, work_words}
use Rattle.lexis.specs.Code as Code
use Rattle.lexis.specs.Answer.{answer}
use Rattle.lexis.specs.declared.Answer.{Answer}
use Rattle.lists.specs.Answer.{list_stages, stage_answer, declared, declarations_answer, work_after}
use Rattle.lists.proofs.Guards.{kept, cleared-after}
use Rattle.lists.proofs.Refusals.{list-codes}

module _ (list work : List ℕ) where
  -- what declarations ensures of its answer and of the work area afterwards
  abbrev Ensured : Answer → List ℕ → Type 0
  Ensured r work' = (r ≡ declarations_answer list (length work)) × (work' ≡ work_after r work)

  pub refused-room : {r : Answer} → leb work_words (length work) ≡ false → r ≡ answer Code.short_room 0 0 0 → Ensured r work
  unfolding declarations_answer declared
  refused-room e a = (rw e a, kept work refl a)

  pub refused-list : {r : Answer} → leb work_words (length work) ≡ true → leb (length list) max_text ≡ false → r ≡ answer Code.long_text 1 max_text 0
      → Ensured r work
  unfolding declarations_answer declared
  refused-list e f a = (rw (e, f) a, kept work refl a)

  -- the stages after the guards, then the work area is cleared
  pub ended : {r : Answer} {work' : List ℕ} {n : ℕ} → leb work_words (length work) ≡ true → leb (length list) max_text ≡ true
      → r ≡ stage_answer (list_stages list) length
      → work' ≡ replicate n 0 → n ≡ length work → Ensured r work'
  unfolding declarations_answer declared
  ended {n = n} e f a z l = (rw (e, f) a, z ∙ cleared-after (list_stages list) length (list-codes list) n work l a)
