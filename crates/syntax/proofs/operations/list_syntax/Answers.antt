use mathlib.Core.Path.{refl, ◌∙◌, sym}
use native.Mathlib.Omega.{arith}
use Rattle.lexis.specs.Sizes.{max_brackets}
use Rattle.syntax.proofs.Headers.{operations-is, operations-end}
use Rattle.syntax.proofs.Chain.{goes, stops, exits, passes}
use Rattle.syntax.proofs.Shrinks.{header-shrinks}
use Rattle.syntax.proofs.operations.list_syntax.Goals as goal

pub returns-in_err-i : goal.returns-in_err-i
returns-in_err-i c = exits c.args.tokens.now _ _ c.from_residual.ensures.1 (stops _ c.in_err-i.ensures)
    ∙ sym (operations-is c.args.tokens.now c.loop-i.i c.loop-i-test.true)
    ∙ sym c.loop-i.invariant

pub loop-i-smaller : goal.loop-i-smaller
loop-i-smaller c = omega (arith, passes (header-shrinks max_brackets) c.args.tokens.now c.in_ok-i.ensures, c.loop-i-test.true)

pub loop-i-preserved : goal.loop-i-preserved
loop-i-preserved c = c.loop-i.invariant ∙ operations-is c.args.tokens.now c.loop-i.i c.loop-i-test.true ∙ sym (goes _ c.in_ok-i.ensures refl)

pub returns : goal.returns
returns c = operations-end c.args.tokens.now c.loop-i.i c.loop-i-test.false ∙ sym c.loop-i.invariant
