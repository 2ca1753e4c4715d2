-- The name's bytes are compared.
use mathlib.Core.Path.{ap, ◌∙◌}
use Prim.Native.Nat.{ℕ}
use mathlib.Core.List.{List}
use Rattle.spellings.specs.Comparison.{same_bytes}
use Rattle.syntax.specs.Table.{token_at}
use Rattle.documents.proofs.callee.Callee.is_spelt.Goals as goal

pub returns : goal.returns
returns c = let name = c.bytes_at.ensures ∙ ap (λ (i : ℕ). (token_at c.args.self.now.list.text.now c.args.self.now.list.table.now i).bytes) c.name_of.ensures.value in
    c.same.ensures ∙ ap (λ (z : List ℕ). same_bytes z c.args.w.now) name
