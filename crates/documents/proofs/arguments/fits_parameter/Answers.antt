-- The type stands two tokens after the name, and its number has its kinds and its pairs.
use mathlib.Core.Path.{ap, ◌∙◌}
use Prim.Native.Nat.{ℕ, ◌+◌}
use Rattle.lexis.specs.Sizes.{max_brackets}
use Rattle.syntax.specs.Grammar.{both}
use Rattle.syntax.specs.Parser.{type}
use Rattle.syntax.specs.Table.{toks}
use Rattle.documents.proofs.arguments.fits_parameter.Goals as goal

pub returns : goal.returns
returns c = record {
  range = c.fits_item.ensures.range;
  meaning = λ p x us e h.
      c.fits_item.ensures.meaning both max_brackets x us max_brackets p.ty e.after h
      (ap (λ (k : ℕ). type max_brackets (toks c.args.callee.now.list.text.now c.args.callee.now.list.table.now c.args.callee.now.list.count (k + 2))) c.name_of-t.ensures.value ∙ e.typed)
      (c.kinds_in-kinds.ensures p.ty (c.code_of-code.ensures ∙ e.code)) (c.pairs_in-pairs.ensures p.ty (c.code_of-code.ensures ∙ e.code));
}
