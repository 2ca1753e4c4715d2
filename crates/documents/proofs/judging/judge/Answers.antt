-- An undeclared operation gives 15 alone; of a declared one the record that is found is its header's.
use native.Mathlib.Omega.{arith}
use Prim.Native.Nat.{◌+◌}
use lib.ListN.{length}
use Rattle.syntax.specs.Table.{token_at}
use Rattle.documents.proofs.Judgements.{names-operation, arguments-are, arguments-inside}
use Rattle.documents.proofs.Judgements.{judges-unknown, found-operation, found-clean, found-within, judges-known}
use Rattle.documents.proofs.judging.judge.Goals as goal

pub returns-then-doc-equal : goal.returns-then-doc-equal
returns-then-doc-equal c = record { range = (tt, c.requires.at_lt_dn.1, omega arith); meaning = λ hs k d w. absurd (omega (arith, c.if-doc-equal.true, arguments-inside c.args.doc.now.text.now c.args.doc.now.table.now c.args.doc.now.count (c.args.equal + 3) (arguments-are w))) }

pub returns-in_default : goal.returns-in_default
returns-in_default c = record {
  range = (tt, omega (arith, c.closing.ensures.range.0, c.if-doc-equal.false), c.closing.ensures.range.1);
  meaning = λ hs k d w.
      judges-unknown hs k (token_at c.args.doc.now.text.now c.args.doc.now.table.now (c.args.equal + 1)) (names-operation w) (c.find-found.ensures (length hs) hs d.names)
      c.in_default.is (c.refusal_at.ensures (omega (arith, c.if-doc-equal.false))) c.closing.ensures.meaning;
}

pub declared-requires : goal.declared-requires
declared-requires c = let t = token_at c.args.doc.now.text.now c.args.doc.now.table.now (c.args.equal + 1) in
    let r = found-within c.args.directory.now.directed t (λ hs m. c.find-found.ensures (length hs) hs m) c.in-Some.is in
    record { readable = r; at_lt_dn = (c.requires.at_lt_dn.0, c.if-doc-equal.false) }

pub returns : goal.returns
returns c = let t = token_at c.args.doc.now.text.now c.args.doc.now.table.now (c.args.equal + 1) in
    record {
      range = (rw c.declared.ensures.range.0 (let r = found-within c.args.directory.now.directed t (λ hs m. c.find-found.ensures (length hs) hs m) c.in-Some.is in omega (arith, r.number)), c.declared.ensures.range.1, c.declared.ensures.range.2);
      meaning = λ hs k d w.
          let e = c.find-found.ensures (length hs) hs d.names in
          let o = found-operation d t e c.in-Some.is in
          judges-known d k t (names-operation w) e c.in-Some.is c.declared.ensures.range.0 (c.declared.ensures.meaning o.head o.stands (found-clean d t e c.in-Some.is)) w;
    }
