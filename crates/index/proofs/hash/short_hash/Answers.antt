use mathlib.Core.Path.{refl}
use Rattle.index.proofs.Hashes.{short-is}
use Rattle.index.proofs.hash.short_hash.Goals as goal

pub returns : goal.returns
returns c = let w = c.args.w.now in short-is w _ _ _ _ _ c.from.ensures c.from-2.ensures c.from-3.ensures refl c.mix.ensures
