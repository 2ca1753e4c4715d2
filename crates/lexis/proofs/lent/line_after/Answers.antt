-- Nothing between the places, or a first byte and the rest.
use mathlib.Core.Path.{◌≡◌, ap}
use Prim.Native.Nat.{ℕ, ◌-◌, ◌<◌}
use native.Mathlib.Omega.{arith}
use lib.ListN.{take, drop}
use Rattle.lexis.specs.Line.{line_feeds}
use Rattle.lexis.proofs.Lines.{feeds-feed, feeds-other, feeds-none}
use Rattle.lexis.proofs.lent.line_after.Goals as goal

pub returns-then-from-to : goal.returns-then-from-to
returns-then-from-to c = let none : c.args.to - c.args.from ≡ 0 = omega (arith, c.if-from-to.true) in
    omega (arith, ap (λ (d : ℕ). line_feeds (take d (drop c.args.from c.args.text.now))) none, feeds-none (drop c.args.from c.args.text.now))

pub returns-then-text-from-eq10 : goal.returns-then-text-from-eq10
returns-then-text-from-eq10 c = let some : c.args.from < c.args.to = omega (arith, c.requires.from_le_to.0, c.if-from-to.false) in
    omega (arith, c.line_at.ensures, feeds-feed c.args.text.now c.args.from c.args.to some c.requires.to_in_bounds.0 c.if-text-from-eq10.true)

pub returns : goal.returns
returns c = let some : c.args.from < c.args.to = omega (arith, c.requires.from_le_to.0, c.if-from-to.false) in
    omega (arith, c.line_at-2.ensures, feeds-other c.args.text.now c.args.from c.args.to some c.requires.to_in_bounds.0 c.if-text-from-eq10.false)
