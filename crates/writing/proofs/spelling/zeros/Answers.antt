-- The last digit stays, whatever it is.
use native.Mathlib.Omega.{arith}
use mathlib.Core.Path.{◌≡◌}
use Rattle.writing.proofs.Spelled.{zeros-lead}
use Rattle.writing.proofs.spelling.zeros.Goals as goal

pub returns : goal.returns
returns c = record {
  within = omega (arith, c.min.ensures, c.leading.ensures.within);
  inside = λ h. omega (arith, h, c.min.ensures, c.saturating_sub.ensures);
  same = zeros-lead c.args.w.now c.min.result (omega (arith, c.min.ensures, c.leading.ensures.within))
      (λ k l. c.leading.ensures.zeros k (omega (arith, l, c.min.ensures)));
  leading = λ h e.
      let z : c.min.result ≡ c.leading.result = omega (arith, h, c.min.ensures, c.saturating_sub.ensures, c.leading.ensures.within) in
      c.leading.ensures.ended (omega (arith, h, z)) (rw z at e);
}
