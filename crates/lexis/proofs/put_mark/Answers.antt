-- Without the flag nothing is written; with it the mark has room.
use mathlib.Core.Path.{refl}
use native.Mathlib.Omega.{arith}
use Rattle.lexis.proofs.Laid.{mark-none, mark-some}
use Rattle.lexis.proofs.put_mark.Goals as goal

pub returns-then-not-marked : goal.returns-then-not-marked
returns-then-not-marked c = mark-none c.args.marked c.args.work.now c.args.i _ c.if-not-marked.true

pub overflow_add-work : goal.overflow_add-work
overflow_add-work c = record { fits = omega (arith, c.requires c.if-not-marked.false) }

pub offset_bounds-work-i : goal.offset_bounds-work-i
offset_bounds-work-i c = record { fits = omega (arith, c.requires c.if-not-marked.false) }

pub bounds-work-i : goal.bounds-work-i
bounds-work-i c = omega (arith, c.requires c.if-not-marked.false)

pub returns : goal.returns
returns c = mark-some c.args.marked c.args.work.now c.args.i _ _ c.if-not-marked.false refl
