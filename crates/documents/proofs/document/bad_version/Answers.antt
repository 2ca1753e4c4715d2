use mathlib.Core.Path.{ap, ap₂, ◌∙◌}
use mathlib.Core.Bool.{Bool, not}
use mathlib.Core.List.{List}
use Prim.Native.Nat.{ℕ}
use native.Mathlib.Omega.{arith}
use Rattle.spellings.specs.Comparison.{same_bytes}
use Rattle.lexis.specs.Ascii.{ascii}
use Rattle.syntax.specs.Table.{token_at}
use Rattle.lists.specs.Fault.{first, fault}
use Rattle.lists.specs.Walks.{when}
use Rattle.documents.proofs.CallUsage.{when-not}
use Rattle.documents.proofs.document.bad_version.Goals as goal

pub returns-then-tokens-le1 : goal.returns-then-tokens-le1
returns-then-tokens-le1 c = λ h. absurd (omega (arith, h, c.if-tokens-le1.true))

pub returns : goal.returns
unfolding token_at
returns c = λ h.
    let t = token_at c.args.tokens.now.text.now c.args.tokens.now.table.now 1 in
    let same = c.same-right.ensures ∙ ap (λ (w : List ℕ). same_bytes w (ascii "1.0")) c.bytes_at.ensures in
    c.refusal_if.ensures
    ∙ ap₂ (λ (x : Bool) (p : ℕ). first (when (not x) (fault 11 p))) same c.start_at.ensures
    ∙ ap first (when-not (same_bytes t.bytes (ascii "1.0")) (fault 11 t.start))
