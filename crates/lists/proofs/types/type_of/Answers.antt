-- The word of the base gives the kinds; the pairs stand behind the base.
use mathlib.Core.Path.{ap, ◌∙◌}
use native.Mathlib.Omega.{arith}
use Rattle.lists.specs.Types.{word_kinds}
use Rattle.lists.proofs.TypeTokens.{typed}
use Rattle.lists.proofs.types.type_of.Goals as goal

pub returns : goal.returns
returns c =
    let s = c.args.tokens.now in
    record {
      range = record { kinds = c.kinds_of.ensures.0; pairs = omega (arith, c.pairs-k.ensures.range); end = c.pairs-k.ensures.range };
      meaning = λ d u us e.
          let q = typed s.text.now s.table.now s.count c.args.at c.base-b.result.at c.pairs-k.result c.base-b.result.tensor
          (c.base-b.ensures.meaning c.symbol_at-s.ensures) c.pairs-k.ensures.meaning d
          u us e in
          record { kinds = c.kinds_of.ensures.1 ∙ (ap word_kinds c.symbol_at-s.ensures ∙ q.0); pairs = q.1; tensor = q.2; end = q.3 };
    }
