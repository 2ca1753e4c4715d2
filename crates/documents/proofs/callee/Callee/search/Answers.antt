use mathlib.Core.Path.{sym, ◌∙◌}
use native.Mathlib.Omega.{arith}
use borrow.Author.Count.{below_more}
use Rattle.documents.proofs.DirectoryEntries.{number-here, number-none}
use Rattle.documents.proofs.callee.Callee.search.Goals as goal

pub returns-then-is_spelt : goal.returns-then-is_spelt
returns-then-is_spelt c = record { numbers = number-here c.loop-i-test.true (sym c.is_spelt.ensures ∙ c.if-is_spelt.true); upper_bound = c.loop-i-test.true }

pub loop-i-preserved : goal.loop-i-preserved
loop-i-preserved c = (omega (arith, c.loop-i-test.true), below_more _ _ c.loop-i.invariant.1 (sym c.is_spelt.ensures ∙ c.if-is_spelt.false))

pub returns : goal.returns
returns c = record { numbers = number-none (omega arith) (omega arith) (λ k l. c.loop-i.invariant.1 k (omega (arith, l, c.loop-i-test.false))); upper_bound = tt }
