-- The name, the type, and the two tests.
use mathlib.Core.Path.{refl}
use lib.Dec.{eqb}
use Rattle.lexis.specs.Sizes.{max_results}
use native.Mathlib.Omega.{arith}
use Rattle.lists.proofs.RowWalks.{two-tests, result-read}
use Rattle.lists.proofs.headers.result.Goals as goal

pub named-again-requires : goal.named-again-requires
named-again-requires c = record {
  i_lt_n = (
    c.requires.at_lt_n,
    c.requires.ready.small,
    omega
        (arith, c.requires.ready.numbered, c.requires.at_lt_n),
  );
  walkable_2 = c.requires.ready.names;
}

pub start_at-place-requires : goal.start_at-place-requires
start_at-place-requires c = omega (arith, c.args.tokens.now.holds.room, c.requires.at_lt_n)

pub overflow_add-result : goal.overflow_add-result
overflow_add-result c = omega (arith, c.requires.ready.counted, c.requires.ready.small, c.requires.at_lt_n)

pub returns : goal.returns
returns c = record {
  walkable = c.named-again.ensures.walkable;
  carried = record { params = refl; required = refl };
  meaning = result-read c.named-again.ensures.meaning c.type_of-ty.ensures.meaning
      (two-tests c.args.row.best c.or_refusal_if.result c.or_refusal_if-2.result (eqb c.args.row.index max_results)
      c.named-again.result c.or_refusal_if.ensures c.or_refusal_if-2.ensures c.start_at-place.ensures
      c.start_at-place.ensures);
}
