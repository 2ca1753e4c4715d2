-- The operation's name, its parameters, its results, its record.
use mathlib.Core.Path.{◌∙◌}
use native.Mathlib.Omega.{arith}
use lib.Dec.{eqb}
use Rattle.lexis.specs.Sizes.{max_operations}
use Rattle.index.proofs.Theorems.{walks-wider}
use Rattle.lists.proofs.RowWalks.{two-tests}
use Rattle.lists.proofs.HeaderReads.{header-inside, params-ready, params-reads, results-inside, results-ready, results-reads, header-ready, header_read}
use Rattle.lists.proofs.headers.header.Goals as goal

pub overflow_add-q : goal.overflow_add-q
overflow_add-q c = omega (arith, c.requires.ready_2.inside, c.requires.ready_2.small)

pub operation-again-requires : goal.operation-again-requires
operation-again-requires c = record {
  i_lt_n = (
    omega (arith, header-inside c.requires.ready_2 c.requires.reads),
    c.requires.ready_2.small,
    omega
        (arith, c.requires.ready_2.numbered, c.requires.ready_2.inside),
  );
  walkable_2 = walks-wider (omega arith)
      c.requires.ready_2.names;
}

pub start_at-requires : goal.start_at-requires
start_at-requires c = omega (arith, c.args.tokens.now.holds.room, header-inside c.requires.ready_2 c.requires.reads)

pub start_at-requires-2 : goal.start_at-requires-2
start_at-requires-2 c = omega (arith, c.args.tokens.now.holds.room, header-inside c.requires.ready_2 c.requires.reads)

pub overflow_add-k : goal.overflow_add-k
overflow_add-k c = omega (arith, c.requires.ready_2.numbered, c.requires.ready_2.inside, c.requires.ready_2.small)

pub overflow_add-q-2 : goal.overflow_add-q-2
overflow_add-q-2 c = omega (arith, c.requires.ready_2.inside, c.requires.ready_2.small)

pub parameters-ps-requires : goal.parameters-ps-requires
parameters-ps-requires c = record {
  ready_2 = rw c.empty.ensures (params-ready c.requires.ready_2 c.requires.reads _ c.operation-again.ensures.walkable);
  roomy = c.requires.roomy;
  reads = rw c.empty.ensures
      (params-reads c.requires.ready_2 c.requires.reads);
}

pub overflow_add-from : goal.overflow_add-from
overflow_add-from c = let P = rw c.empty.ensures at c.parameters-ps.ensures.meaning in
    omega (arith, results-inside c.requires.ready_2 c.requires.reads c.parameters-ps.ensures.ready P, c.requires.ready_2.small)

pub overflow_add-k-2 : goal.overflow_add-k-2
overflow_add-k-2 c = omega (arith, c.requires.ready_2.numbered, c.requires.ready_2.inside, c.requires.ready_2.small)

pub results-rs-requires : goal.results-rs-requires
results-rs-requires c = let P = rw c.empty.ensures at c.parameters-ps.ensures.meaning in
    record {
      ready_2 = rw c.empty-2.ensures (results-ready c.requires.ready_2 c.requires.reads c.parameters-ps.ensures.ready P);
      reads = rw
          c.empty-2.ensures (results-reads c.requires.ready_2 c.requires.reads c.parameters-ps.ensures.ready P);
    }

pub result_code-code-requires : goal.result_code-code-requires
result_code-code-requires c = let P = rw c.empty.ensures at c.parameters-ps.ensures.meaning in
    (c.requires.ready_2.small, results-inside c.requires.ready_2 c.requires.reads c.parameters-ps.ensures.ready P)

pub overflow_cast-q : goal.overflow_cast-q
overflow_cast-q c = omega (arith, c.requires.ready_2.inside, c.requires.ready_2.small)

pub overflow_cast-row : goal.overflow_cast-row
overflow_cast-row c = omega (arith, c.requires.ready_2.few, c.requires.ready_2.inside, c.requires.ready_2.small)

pub overflow_cast-rs : goal.overflow_cast-rs
overflow_cast-rs c = omega (arith, c.results-rs.ensures.ready.few, c.results-rs.ensures.ready.inside, c.results-rs.ensures.ready.small)

pub overflow_cast-from : goal.overflow_cast-from
overflow_cast-from c = let P = rw c.empty.ensures at c.parameters-ps.ensures.meaning in
    omega (arith, results-inside c.requires.ready_2 c.requires.reads c.parameters-ps.ensures.ready P, c.requires.ready_2.small)

pub store_operation-requires : goal.store_operation-requires
store_operation-requires c = omega (arith, c.parameters-ps.auto.words, c.requires.roomy.room)

pub shape_of-index : goal.shape_of-index
shape_of-index c = c.results-rs.auto.index ∙ c.parameters-ps.auto.index ∙ c.operation-again.auto.index

pub shape_of-words : goal.shape_of-words
shape_of-words c = c.store_operation.auto.words ∙ c.parameters-ps.auto.words

pub returns : goal.returns
returns c = rw c.empty-3.ensures (record {
  ready = header-ready c.results-rs.result.best c.results-rs.ensures.ready;
  meaning = header_read c.args.tokens.now.text.now c.args.tokens.now.table.now c.args.index.now c.operation-again.new.index c.parameters-ps.new.index
      c.results-rs.new.index
      c.args.words.now c.parameters-ps.new.words c.store_operation.new.words c.args.tokens.now.count c.args.k c.args.row
      c.parameters-ps.result c.results-rs.result c.operation-again.result
      c.or_refusal_if-best.result c.result_code-code.result c.operation-again.ensures.meaning (rw c.empty.ensures at c.parameters-ps.ensures.meaning)
      (rw c.empty-2.ensures at c.results-rs.ensures.meaning)
      (rw c.empty-2.ensures at c.results-rs.ensures.carried) c.result_code-code.ensures c.store_operation.ensures
      (omega (arith, c.parameters-ps.auto.words, c.requires.roomy.room))
      (omega (arith, c.results-rs.ensures.ready.few, c.results-rs.ensures.ready.inside))
      (two-tests c.args.row.best c.or_refusal_if-beyond.result c.or_refusal_if-best.result (eqb c.args.k max_operations) c.operation-again.result
      c.or_refusal_if-beyond.ensures c.or_refusal_if-best.ensures c.start_at.ensures c.start_at-2.ensures);
})
