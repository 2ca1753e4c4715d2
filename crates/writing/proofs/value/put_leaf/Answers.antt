-- The token that stands there, by its kind and bytes.
use mathlib.Core.Path.{refl, sym}
use Rattle.syntax.specs.Table.{token_at}
use Rattle.writing.proofs.value.put_leaf.Goals as goal

pub put_spelt-requires : goal.put_spelt-requires
put_spelt-requires c = record {
  as_lexed = rw (← c.bytes_at.ensures) at (c.requires.ranged.within c.args.i c.requires.i_lt_n);
}

pub returns : goal.returns
unfolding token_at
returns c = λ u v is e. c.put_spelt.ensures (token_at c.args.tokens.now.text.now c.args.tokens.now.table.now c.args.i) u v refl (sym c.bytes_at.ensures) is e
