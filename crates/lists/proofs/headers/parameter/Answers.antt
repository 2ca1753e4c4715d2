-- The name, the type, the default, the record, the tests.
use mathlib.Core.Path.{ap, ◌∙◌}
use mathlib.Core.Option.{Option}
use native.Mathlib.Omega.{arith}
use lib.Dec.{eqb}
use Rattle.lexis.specs.Sizes.{max_parameters}
use Rattle.lists.specs.Fault.{Fault, earlier}
use Rattle.lists.specs.Best.{meant}
use Rattle.lists.proofs.RowWalks.{two-tests, parameter-read}
use Rattle.lists.proofs.headers.parameter.Goals as goal

pub named-again-requires : goal.named-again-requires
named-again-requires c = record {
  i_lt_n = (
    omega (arith, c.requires.at_bound),
    c.requires.ready.small,
    omega
        (arith, c.requires.ready.numbered, c.requires.at_bound),
  );
  walkable_2 = c.requires.ready.names;
}

pub overflow_add-at : goal.overflow_add-at
overflow_add-at c = omega (arith, c.requires.at_bound, c.requires.ready.small)

pub overflow_add-at-2 : goal.overflow_add-at-2
overflow_add-at-2 c = omega (arith, c.requires.at_bound, c.requires.ready.small)

pub default_of-d-requires : goal.default_of-d-requires
default_of-d-requires c = (c.requires.ready.short, c.type_of-ty.ensures.range.end, c.requires.ready.small)

pub overflow_cast-at : goal.overflow_cast-at
overflow_cast-at c = omega (arith, c.requires.at_bound, c.requires.ready.small)

pub code-requires : goal.code-requires
code-requires c = (c.type_of-ty.ensures.range.kinds, omega (arith, c.type_of-ty.ensures.range.pairs, c.requires.ready.small))

pub overflow_cast-unwrap_or : goal.overflow_cast-unwrap_or
overflow_cast-unwrap_or c = omega (arith, c.default_of-d.ensures.range, c.requires.ready.small)

pub store_parameter-requires : goal.store_parameter-requires
store_parameter-requires c = omega (arith, c.requires.roomy.room, c.requires.ready.few, c.requires.at_bound)

pub start_at-place-requires : goal.start_at-place-requires
start_at-place-requires c = omega (arith, c.args.tokens.now.holds.room, c.requires.at_bound)

pub overflow_add-result : goal.overflow_add-result
overflow_add-result c = omega (arith, c.requires.ready.counted, c.requires.ready.small, c.requires.at_bound)

pub overflow_add-result-2 : goal.overflow_add-result-2
overflow_add-result-2 c = omega (arith, c.requires.ready.few, c.requires.ready.small, c.requires.at_bound)

pub shape_of-index : goal.shape_of-index
shape_of-index c = c.named-again.auto.index

pub shape_of-words : goal.shape_of-words
shape_of-words c = c.store_parameter.auto.words

pub returns : goal.returns
returns c = record {
  walkable = c.named-again.ensures.walkable;
  meaning = parameter-read c.named-again.ensures.meaning c.type_of-ty.ensures.meaning c.default_of-d.ensures.meaning c.code.ensures
      (rw c.unwrap_or.ensures at c.store_parameter.ensures)
      c.requires.roomy c.requires.ready.few c.requires.at_bound _ c.is_none.ensures c.required.ensures
      (c.earlier.ensures
      ∙ ap (λ (o : Option Fault). earlier o (meant c.default_of-d.result.best))
      (two-tests c.args.row.best c.or_refusal_if.result c.or_refusal_if-best.result (eqb c.args.row.index max_parameters)
      c.named-again.result
      c.or_refusal_if.ensures c.or_refusal_if-best.ensures c.start_at-place.ensures c.start_at-place.ensures));
}
