use Prim.Native.Nat.{ℕ, ◌+◌, ◌-◌}
use mathlib.Core.Path.{◌≡◌, ap, sym, subst, ◌∙◌}
use native.Mathlib.Omega.{arith}
use Rattle.spellings.specs.Comparison.{same_bytes}
use Rattle.index.specs.Indexed.{Seeks}
use Rattle.index.proofs.Chains.{seeks-end, seeks-here, seeks-next}
use Rattle.index.proofs.chain.seek.Goals as goal

pub loop-at-init : goal.loop-at-init
loop-at-init c = (omega arith, λ r s. s)

pub returns-then-same : goal.returns-then-same
returns-then-same c = let ts = c.args.tokens.now in
    let e = c.if-same.true in
    let t = c.loop-at-test.true in
    let z : c.loop-at.at - 1 + 1 ≡ c.loop-at.at = omega arith in
    record {
      seeks = c.loop-at.invariant.1 (c.loop-at.at - 1 + 1)
          (subst (λ (x : ℕ). Seeks ts.text.now ts.table.now c.args.index.now c.args.w.now c.loop-at.at x) (sym z)
          (seeks-here ts.text.now ts.table.now c.args.index.now c.args.w.now c.loop-at.at t
          (ap (λ x. same_bytes x c.args.w.now) (sym c.bytes_at.ensures) ∙ sym c.same.ensures ∙ e)));
      upper_bound = omega (arith, c.loop-at.invariant.0);
    }

pub loop-at-smaller : goal.loop-at-smaller
loop-at-smaller c = let l = c.loop-at in let f = c.requires.falling.falls (l.at - 1) (omega (arith, l.invariant.0, c.requires.first_le_n, c.loop-at-test.true)) in
    omega (arith, f, c.link-at.ensures, c.loop-at-test.true)

pub loop-at-preserved : goal.loop-at-preserved
loop-at-preserved c = let t = c.loop-at-test.true in let f = c.requires.falling.falls (c.loop-at.at - 1) (omega (arith, c.loop-at.invariant.0, c.requires.first_le_n, t)) in (
  omega (arith, f, c.link-at.ensures, c.loop-at.invariant.0, t),
  λ r q.
      c.loop-at.invariant.1 r
      (seeks-next c.args.tokens.now.text.now c.args.tokens.now.table.now c.args.index.now c.args.w.now c.loop-at.at t r
      (ap (λ x. same_bytes x c.args.w.now) (sym c.bytes_at.ensures) ∙ sym c.same.ensures ∙ c.if-same.false)
      (subst (λ (x : ℕ). Seeks c.args.tokens.now.text.now c.args.tokens.now.table.now c.args.index.now c.args.w.now x r) c.link-at.ensures q)),
)

pub returns : goal.returns
returns c = record { seeks = c.loop-at.invariant.1 0 (seeks-end c.args.tokens.now.text.now c.args.tokens.now.table.now c.args.index.now c.args.w.now c.loop-at.at (omega (arith, c.loop-at-test.false))); upper_bound = omega arith }
