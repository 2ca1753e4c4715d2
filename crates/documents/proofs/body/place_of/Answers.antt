use native.Mathlib.Omega.{arith}
use Rattle.syntax.specs.Table.{token_at}
use Rattle.documents.proofs.body.place_of.Goals as goal

pub returns-then-source-i : goal.returns-then-source-i
returns-then-source-i c = record { upper_bound = omega arith; value = λ h. absurd (omega (arith, h, c.if-source-i.true)) }

pub returns : goal.returns
unfolding token_at
returns c = let w = c.args.source.now.tokens.holds.within c.args.i c.if-source-i.false in
    record { upper_bound = omega (arith, c.start_at.ensures, w.0, w.1, c.args.source.now.short); value = λ h. c.start_at.ensures }
