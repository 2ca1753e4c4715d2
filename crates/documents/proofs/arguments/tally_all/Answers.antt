use native.Mathlib.Omega.{arith}
use Rattle.syntax.proofs.Symbols.{stands}
use Rattle.documents.proofs.Tallying.{sums_none, sums-ended, sums_on}
use Rattle.documents.proofs.arguments.tally_all.Goals as goal

pub loop-t-init : goal.loop-t-init
loop-t-init c = (
  omega arith,
  c.requires.at_le_dn,
  omega arith,
  sums_none c.args.doc.now c.args.callee.now c.args.at 0 c.none.ensures,
)

pub returns-then-symbol_at-ne-COMMA : goal.returns-then-symbol_at-ne-COMMA
returns-then-symbol_at-ne-COMMA c = record {
  range = (omega (arith, c.with_argument-t.ensures.range.past, c.loop-t.invariant.2), c.with_argument-t.ensures.range.inside);
  meaning = sums-ended c.args.doc.now c.args.callee.now c.args.at
      c.loop-t.t c.with_argument-t.result c.loop-t.invariant.3 c.with_argument-t.ensures.meaning c.symbol_at.ensures c.if-symbol_at-ne-COMMA.true;
}

pub loop-t-smaller : goal.loop-t-smaller
loop-t-smaller c = let q = stands c.args.doc.now.text.now c.args.doc.now.table.now c.args.doc.now.count c.with_argument-t.result.at c.symbol_at.ensures (omega (arith, c.if-symbol_at-ne-COMMA.false)) in
    omega (arith, q, c.with_argument-t.ensures.range.past)

pub loop-t-preserved : goal.loop-t-preserved
loop-t-preserved c = let q = stands c.args.doc.now.text.now c.args.doc.now.table.now c.args.doc.now.count c.with_argument-t.result.at c.symbol_at.ensures (omega (arith, c.if-symbol_at-ne-COMMA.false)) in (
  omega (arith, q, c.with_argument-t.ensures.range.past, c.with_argument-t.ensures.range.index, c.loop-t.invariant.0),
  omega (arith, q),
  omega (arith, q, c.with_argument-t.ensures.range.past, c.loop-t.invariant.2),
  sums_on c.args.doc.now c.args.callee.now c.args.at
      c.loop-t.t c.with_argument-t.result c.loop-t.invariant.3 c.with_argument-t.ensures.meaning c.symbol_at.ensures c.if-symbol_at-ne-COMMA.false,
)
