use mathlib.Core.Path.{refl}
use Rattle.documents.proofs.DocumentWalks.{headed-is}
use Rattle.documents.proofs.document.header.Goals as goal

pub returns : goal.returns
returns c = record {
  walkable_2 = c.listed-outputs.ensures.walkable_2;
  headed = λ m.
      headed-is c.args.source.now.tokens.text.now c.args.source.now.tokens.table.now c.args.graph c.args.index.now _ _ (record { best = c.args.best; count = 0 })
      (record { best = c.listed-inputs.result.best; count = 0 }) c.listed-inputs.result c.listed-outputs.result c.requires.rising refl refl refl
      c.listed-inputs.ensures.lists_names c.listed-outputs.ensures.lists_names m;
}
