use Prim.Native.Nat.{◌+◌, ◌*◌, ◌-◌, ◌/◌}
use mathlib.Core.Path.{sym, ap, ◌∙◌}
use lib.ListN.{length}
use Rattle.index.specs.Hash.{mixed, mixes}
use Rattle.index.proofs.Hashes.{mixes-next, mixes-end}
use Rattle.index.proofs.hash.long_hash.Goals as goal

pub loop-k-preserved : goal.loop-k-preserved
loop-k-preserved c = let l = c.loop-k in let w = c.args.w.now in let m = (length w - 5) / 4 in
    l.invariant ∙ mixes-next w m l.h l.k c.loop-k-test.true
    ∙ ap (mixes (m - (l.k + 1)) w (4 + (l.k + 1) * 4)) (sym (c.mix-h.ensures ∙ ap (mixed l.h) c.four.ensures.value))

pub returns : goal.returns
returns c = let w = c.args.w.now in
    sym (c.loop-k.invariant ∙ mixes-end w ((length w - 5) / 4) c.loop-k.h c.loop-k.k c.loop-k-test.false)
