use mathlib.Core.Path.{ap, ◌∙◌}
use mathlib.Core.List.{List}
use Prim.Native.Nat.{ℕ}
use native.Mathlib.Omega.{arith}
use Rattle.spellings.specs.Comparison.{same_bytes}
use Rattle.lexis.specs.Ascii.{ascii}
use Rattle.documents.proofs.body.is_external.Goals as goal

pub returns-then-tokens-i : goal.returns-then-tokens-i
returns-then-tokens-i c = λ h. absurd (omega (arith, h, c.if-tokens-i.true))

pub returns : goal.returns
returns c = λ h. c.same.ensures ∙ ap (λ (w : List ℕ). same_bytes w (ascii "external")) c.bytes_at.ensures
