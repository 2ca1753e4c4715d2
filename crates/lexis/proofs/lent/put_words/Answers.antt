-- Three stores, each of which has room.
use mathlib.Core.Path.{refl}
use native.Mathlib.Omega.{arith}
use lib.ListN.{length-set}
use Rattle.lexis.proofs.lent.put_words.Goals as goal

pub bounds-area-i-2 : goal.bounds-area-i-2
bounds-area-i-2 c = simp length-set (omega (arith, c.requires))

pub bounds-area-i-3 : goal.bounds-area-i-3
bounds-area-i-3 c = simp length-set (omega (arith, c.requires))

pub returns : goal.returns
returns c = refl
