use Prim.Native.Nat.{suc, ◌+◌, ◌≤◌}
use mathlib.Core.Path.{◌≡◌, refl, sym, ◌∙◌}
use mathlib.Core.List.{◌++◌}
use native.Mathlib.Omega.{arith}
use lib.ListN.{length}
use Rattle.syntax.specs.Table.{token_at, toks}
use Rattle.lists.specs.Names.{all_assigned}
use Rattle.lists.specs.Scans.{uses_here}
use Rattle.documents.specs.Walks.{consuming}
use Rattle.documents.specs.Naming.{numbered, assigners}
use Rattle.documents.specs.NameWalks.{Uses}
use Rattle.documents.proofs.Walking.{using-start, using-next, using-end, here-some, here-none}
use Rattle.documents.proofs.NameTurns.{turn-none, no-wires}
use Rattle.documents.proofs.wiring.used.Goals as goal
use Rattle.documents.proofs.wiring.used.Goals.{then-is_use, else-is_use}

pub loop-i-init : goal.loop-i-init
loop-i-init c = (
  omega arith,
  omega arith,
  omega arith,
  refl,
  using-start c.args.source.now.tokens.text.now c.args.source.now.tokens.table.now c.args.records.now c.args.from c.args.to c.args.tally c.args.index.now c.args.k,
  omega arith,
)

pub loop-i-preserved : goal.loop-i-preserved
loop-i-preserved c = let here = token_at c.args.source.now.tokens.text.now c.args.source.now.tokens.table.now c.loop-i.i in
    let after = toks c.args.source.now.tokens.text.now c.args.source.now.tokens.table.now c.args.to (c.loop-i.i + 1) in
    let x : ((c.loop-i.sum.count ≤ c.if-is_use.sum.count) × (c.if-is_use.sum.count ≤ suc c.loop-i.sum.count))
    × (length c.if-is_use.records ≡ length c.loop-i.records)
    × Uses c.args.source.now.tokens.text.now c.args.source.now.tokens.table.now c.args.index.now c.loop-i.records c.if-is_use.records c.args.k (uses_here here after) c.loop-i.sum
    c.if-is_use.sum =
    elim c.if-is_use.branch [
      | then-is_use w ↦
          let counted = here-some here after (sym c.is_use.ensures ∙ w.if-is_use.true) in
          rw (w.records-is, w.sum-is, counted)
          (w.used_at-sum.ensures.count_le_count, w.used_at-sum.ensures.records_len_unchanged, w.used_at-sum.ensures.uses)
      | else-is_use w ↦
          let none = here-none here after (sym c.is_use.ensures ∙ w.if-is_use.false) in
          rw (w.records-is, w.sum-is) (
            (omega arith, omega arith),
            refl,
            λ b es ds ls ss h m k. turn-none (consuming (all_assigned ds)) ss c.loop-i.sum k none
                (no-wires (assigners ds ++ numbered (suc c.args.k) ls) c.args.k c.loop-i.records c.loop-i.sum.count none),
          )
    ] in (
      omega (arith, c.loop-i.invariant.0),
      omega (arith, x.0.1, c.loop-i.invariant.0, c.loop-i.invariant.1),
      omega (arith, c.loop-i-test.true),
      x.1 ∙ c.loop-i.invariant.3,
      using-next c.args.source.now.tokens.text.now c.args.source.now.tokens.table.now c.args.records.now c.args.from c.args.to c.args.tally c.loop-i.records _ c.loop-i.i c.loop-i.sum c.if-is_use.sum c.loop-i-test.true c.args.index.now
          c.args.k
          c.loop-i.invariant.4 x.2,
      omega (arith, x.0.0, c.loop-i.invariant.5),
    )

pub returns : goal.returns
returns c = record {
  count_le_count = (c.loop-i.invariant.5, omega (arith, c.loop-i.invariant.1, c.loop-i.invariant.2));
  records_len_unchanged = c.loop-i.invariant.3;
  uses = using-end c.args.source.now.tokens.text.now c.args.source.now.tokens.table.now c.args.records.now c.args.from c.args.to c.args.tally c.loop-i.records c.loop-i.i c.loop-i.sum c.args.index.now c.args.k
      c.loop-i-test.false c.loop-i.invariant.4;
}
