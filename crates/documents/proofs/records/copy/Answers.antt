use mathlib.Core.Path.{◌≡◌, refl}
use native.Mathlib.Omega.{arith}
use Rattle.documents.proofs.Recording.{copied_next, copied-end}
use Rattle.documents.proofs.records.copy.Goals as goal

pub loop-i-preserved : goal.loop-i-preserved
loop-i-preserved c = (
  omega (arith, c.loop-i-test.true),
  copied_next c.args.records.now c.args.table.now c.loop-i.table c.args.from c.args.count c.loop-i.i _ refl
      (omega (arith, c.loop-i.invariant.1.same, c.requires.1, c.loop-i-test.true)) c.loop-i.invariant.1,
)

pub returns : goal.returns
returns c = let end : c.loop-i.i ≡ c.args.count = omega (arith, c.loop-i.invariant.0, c.loop-i-test.false) in
    record { table_len_unchanged = c.loop-i.invariant.1.same; by_index = λ xs e r. copied-end c.args.records.now c.args.table.now c.loop-i.table c.args.from c.args.count c.loop-i.i end c.requires.1 c.loop-i.invariant.1 xs e r }
