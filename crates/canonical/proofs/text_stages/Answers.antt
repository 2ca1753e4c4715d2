-- By way of short words or long ones.
use native.Mathlib.Omega.{arith}
use Rattle.canonical.proofs.text_stages.Goals as goal

pub stages_by-requires-clause-served : goal.stages_by-requires-clause-served
stages_by-requires-clause-served c = record {
  index-room = omega (arith, c.if-list-le-SHORT_TEXT.true);
  words-room = omega (arith, c.if-list-le-SHORT_TEXT.true);
  short = (omega arith, omega arith);
}

pub stages_by-requires-2-clause-served : goal.stages_by-requires-2-clause-served
stages_by-requires-2-clause-served c = record { index-room = omega arith; words-room = omega arith; short = (omega arith, omega arith) }
