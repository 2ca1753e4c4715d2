-- Mantissa, letter and exponent, one after another.
use mathlib.Core.List.{[], ◌∷◌}
use mir.Facts.{to_z-of_z}
use Rattle.lexis.specs.Ascii.{byte}
use Rattle.writing.specs.Spelling.{decimal, spell_exponent, spell_number}
use Rattle.writing.proofs.Putting.{wrote-then, puts_word}
use Rattle.writing.proofs.spelling.put_reduced.Goals as goal

pub returns : goal.returns
unfolding spell_number
returns c =
    let exponent = rw (to_z-of_z c.ranges.exponent) at c.put_exponent.ensures in
    let behind = wrote-then (byte "e" ∷ []) (spell_exponent c.args.exponent) c.put_byte.ensures exponent in
    puts_word _ (wrote-then (decimal c.args.mantissa) (byte "e" ∷ spell_exponent c.args.exponent) c.put_digits.ensures behind) c.end_token.ensures
