-- How the code reads the digits of a number: a mantissa without the zeros at its end, kept below a cap, and how many zeros those are.
-- `proofs/Reduction.antt` shows that this is `strip` of the number that the digits spell. Relies on `Sizes` for the cap.
use Rattle.std.specs.Prelude.{ℕ, ◌+◌, ◌-◌, ◌*◌, ◌^◌, min, cond, List, [], ◌∷◌, eqb}
use Rattle.lexis.specs.Ascii.{byte}
use Rattle.lexis.specs.Sizes.{mantissa_end}
use Rattle.lexis.specs.declared.mantissa.Mantissa.{Mantissa}

-- before the first digit
abbrev pub no_digits : Mantissa
no_digits = record { value = 0; zeros = 0 }

-- one digit more
unfoldable pub push : Mantissa → ℕ → Mantissa
push m b =
    cond (eqb b (byte "0")) (cond (eqb m.value 0) m (record { value = m.value; zeros = m.zeros + 1 }))
    (record { value = min (min (m.value * 10 ^ (m.zeros + 1)) mantissa_end + (b - byte "0")) mantissa_end; zeros = 0 })

-- the digits of a list, one after the other
unfoldable pub push_all : Mantissa → List ℕ → Mantissa
push_all m [] = m
push_all m (d ∷ ds) = push_all (push m d) ds
