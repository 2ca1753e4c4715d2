use mathlib.Core.Path.{◌∙◌, ap}
use native.Mathlib.Omega.{arith}
use lib.Dec.{leb}
use Rattle.lexis.specs.Number.{value_from}
use Rattle.lists.proofs.Extents.{bound-small, extent-bound, few-fit}
use Rattle.lists.proofs.fitting.is_extent.Goals as goal

pub returns-then-w-lt-SHORT : goal.returns-then-w-lt-SHORT
returns-then-w-lt-SHORT c = few-fit c.args.negative c.args.w.now (λ i. let q = c.shared_slice_known-1.given i in omega (arith, q))
    c.if-w-lt-SHORT.true

pub is_at_most-requires : goal.is_at_most-requires
is_at_most-requires c = bound-small c.args.negative _ c.extent_bound.ensures

pub returns : goal.returns
returns c = c.is_at_most.ensures ∙ (ap (leb (value_from 0 c.args.w.now)) c.extent_bound.ensures ∙ extent-bound c.args.negative
    (value_from 0 c.args.w.now))
