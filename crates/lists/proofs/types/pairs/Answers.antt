use mathlib.Core.Path.{sym, ◌∙◌}
use Prim.Native.Nat.{◌+◌, ◌*◌}
use native.Mathlib.Omega.{arith}
use Rattle.syntax.proofs.Symbols.{stands}
use Rattle.lists.proofs.TypeTokens.{pairs-none, pairs-more, pairs-stop}
use Rattle.lists.proofs.types.pairs.Goals as goal

pub loop-k-init : goal.loop-k-init
loop-k-init c =
    let s = c.args.tokens.now in
    (omega (arith, c.requires.at_le_n), pairs-none s.text.now s.table.now s.count c.args.at)

pub loop-k-smaller : goal.loop-k-smaller
loop-k-smaller c =
    let s = c.args.tokens.now in
    let h = stands s.text.now s.table.now s.count (c.args.at + 2 * c.loop-k.k) (sym c.loop-k-test.true ∙ c.symbol_at.ensures) (omega arith) in
    omega (arith, h)

pub loop-k-preserved : goal.loop-k-preserved
loop-k-preserved c =
    let s = c.args.tokens.now in
    let h = stands s.text.now s.table.now s.count (c.args.at + 2 * c.loop-k.k) (sym c.loop-k-test.true ∙ c.symbol_at.ensures) (omega arith) in (
      omega (arith, h),
      pairs-more s.text.now s.table.now s.count c.args.at c.loop-k.k c.symbol_at.result c.symbol_at.ensures c.loop-k.invariant.1
          c.loop-k-test.true,
    )

pub returns : goal.returns
returns c =
    let s = c.args.tokens.now in
    record {
      range = c.loop-k.invariant.0;
      meaning = pairs-stop s.text.now s.table.now s.count c.args.at c.loop-k.k c.symbol_at.result
          c.symbol_at.ensures c.loop-k.invariant.1 c.loop-k-test.false;
    }
