use native.Mathlib.Omega.{arith}
use Rattle.index.proofs.Theorems.{walks-wider}
use Rattle.lists.proofs.HeaderReads.{headers-start, header-reads, headers-again, headers-done, header-taken}
use Rattle.lists.proofs.headers.headers.Goals as goal

pub loop-r-init : goal.loop-r-init
loop-r-init c = rw (c.empty-r.ensures, c.none.ensures) (headers-start c.requires.ready c.requires.roomy c.requires.reads)

pub header-r-requires : goal.header-r-requires
header-r-requires c =
    let s = c.args.tokens.now in
    record {
      ready_2 = c.loop-r.invariant.ready;
      roomy = c.loop-r.invariant.roomy;
      reads = header-reads s.text.now s.table.now s.count _
          c.loop-r-test.true c.loop-r.invariant.list;
    }

pub overflow_add-k : goal.overflow_add-k
overflow_add-k c = omega (arith, c.loop-r.invariant.ready.numbered, c.loop-r.invariant.ready.inside, c.loop-r.invariant.ready.small)

pub loop-r-smaller : goal.loop-r-smaller
loop-r-smaller c = omega (
  arith,
  header-taken c.header-r.ensures.meaning c.loop-r-test.true c.loop-r.invariant.list c.header-r.ensures.ready.inside,
  c.header-r.ensures.ready.inside,
)

pub loop-r-preserved : goal.loop-r-preserved
loop-r-preserved c = headers-again c.loop-r.invariant c.loop-r-test.true c.header-r.ensures.meaning c.header-r.ensures.ready c.header-r.auto.index
    c.header-r.auto.words

pub shape_of-index : goal.shape_of-index
shape_of-index c = c.loop-r.invariant.index-size

pub shape_of-words : goal.shape_of-words
shape_of-words c = c.loop-r.invariant.words_size

pub returns : goal.returns
returns c = let e = rw (c.empty-r.ensures, c.none.ensures) at (headers-done c.loop-r.invariant c.loop-r-test.false) in
    record {
      walkable = walks-wider c.loop-r.invariant.ready.inside c.loop-r.invariant.ready.names;
      few = omega
          (arith, c.loop-r.invariant.ready.numbered, c.loop-r.invariant.ready.inside);
      meaning = e;
    }
