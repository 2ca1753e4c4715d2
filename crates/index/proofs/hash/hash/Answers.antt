use mathlib.Core.Path.{ap, ◌∙◌}
use Prim.Native.Nat.{◌-◌, ◌/◌}
use lib.ListN.{length}
use Rattle.index.specs.Hash.{mixes}
use Rattle.index.proofs.Hashes.{hash-empty, hash-short, hash-ends, hash-long, ends_is}
use Rattle.index.proofs.hash.hash.Goals as goal

pub returns-then-n-eq0 : goal.returns-then-n-eq0
returns-then-n-eq0 c = hash-empty c.args.w.now c.if-n-eq0.true

pub returns-then-n-lt4 : goal.returns-then-n-lt4
returns-then-n-lt4 c = c.short_hash.ensures ∙ hash-short c.args.w.now c.if-n-eq0.false c.if-n-lt4.true

pub returns-then-n-le8 : goal.returns-then-n-le8
returns-then-n-le8 c = let w = c.args.w.now in ends_is w _ _ _ _ c.four.ensures.value c.four-2.ensures.value c.mix.ensures c.mix-h.ensures
    ∙ hash-ends w c.if-n-eq0.false c.if-n-lt4.false c.if-n-le8.true

pub returns : goal.returns
returns c = let w = c.args.w.now in c.long_hash.ensures
    ∙ ap (mixes ((length w - 5) / 4) w 4)
    (ends_is w _ _ _ _ c.four.ensures.value c.four-2.ensures.value c.mix.ensures c.mix-h.ensures)
    ∙ hash-long w c.if-n-eq0.false c.if-n-lt4.false c.if-n-le8.false
