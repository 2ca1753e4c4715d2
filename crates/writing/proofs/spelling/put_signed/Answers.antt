-- The sign, and the number after it.
use mathlib.Core.Path.{refl}
use mir.Facts.{to_z-of_z}
use Rattle.writing.proofs.Signs.{puts-number}
use Rattle.writing.proofs.spelling.put_signed.Goals as goal

pub returns : goal.returns
returns c = puts-number c.args.negative _ c.args.mantissa refl c.put_sign.ensures c.args.exponent
    (rw (to_z-of_z c.ranges.exponent) at c.put_reduced.ensures)
