-- The guards of an operation on a list and a document, and the work areas after it: once for every such operation. A guard refuses with
-- code 1 or 2 and leaves the work areas as they were; after stages whose refusals have other codes they are cleared.
use mathlib.Core.Path.{◌≡◌, refl, sym, ap, ◌∙◌}
use mathlib.Core.Bool.{Bool, true, false, ◌||◌}
use mathlib.Core.List.{List}
use Prim.Native.Nat.{ℕ, ◌≤◌}
use native.Mathlib.Omega.{arith}
use lib.Dec.{eqb, leb}
use lib.ListN.{length, replicate}
use borrow.Author.Tests.{ne_eqb}
use Rattle.lexis.specs.Sizes.{max_text}
use Rattle.lexis.specs.Code as Code
use Rattle.lexis.specs.Answer.{answer}
use Rattle.lexis.specs.declared.Answer.{Answer}
use Rattle.lists.specs.Answer.{Stage, pass, stop, guarded, stage_answer, work_after}

-- ---- the stages after the guards

module _ {A : Type 0} (list doc : List ℕ) (s : Stage A) where
  pub guard-room : {b : Bool} → b ≡ false → guarded b list doc s ≡ stop (answer Code.short_room 0 0 0)
  guard-room e = rw e

  pub guard-list : {b : Bool} → b ≡ true → leb (length list) max_text ≡ false → guarded b list doc s ≡ stop (answer Code.long_text 1 max_text 0)
  guard-list e f = rw (e, f)

  pub guard-document : {b : Bool} → b ≡ true → leb (length list) max_text ≡ true → leb (length doc) max_text ≡ false
      → guarded b list doc s ≡ stop (answer Code.long_text 2 max_text 0)
  guard-document e f g = rw (e, f, g)

  pub guard_none : {b : Bool} → b ≡ true → leb (length list) max_text ≡ true → leb (length doc) max_text ≡ true → guarded b list doc s ≡ s
  guard_none e f g = rw (e, f, g)

-- ---- the work areas

-- the codes of the guards
abbrev pub is_guard : ℕ → Bool
is_guard c = eqb c Code.short_room || eqb c Code.long_text

-- after a refusal by a guard a work area is as it was
pub kept : (work : List ℕ) {q r : Answer} → is_guard q.code ≡ true → r ≡ q → work ≡ work_after r work
unfolding work_after
kept work h e = sym (rw (e, h))

-- after stages whose refusals have other codes it is zero over its full length
pub cleared-after : {A : Type 0} (s : Stage A) (n : A → ℕ) → ((a : Answer) → s ≡ stop a → 3 ≤ a.code) → (k : ℕ) (work : List ℕ) {r : Answer}
    → k ≡ length work → r ≡ stage_answer s n
    → replicate k 0 ≡ work_after r work
unfolding work_after
cleared-after {A} s n h k work {r} l e = ap (λ (x : ℕ). replicate {A = ℕ} x 0) l ∙ go s h e
  where
    go : (s : Stage A) → ((a : Answer) → s ≡ stop a → 3 ≤ a.code) → r ≡ stage_answer s n → replicate (length work) 0 ≡ work_after r work
    go (pass a) h e = rw e
    go (stop q) h e = let c = h q refl in rw (e, ne_eqb q.code 1 (λ z. omega (arith, c, z)), ne_eqb q.code 2 (λ z. omega (arith, c, z)))
