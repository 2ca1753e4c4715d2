-- One digit, or those that are stored at the end of the buffer.
use native.Mathlib.Omega.{arith}
use Rattle.writing.proofs.Spelled.{digits-one}
use Rattle.writing.proofs.spelling.put_digits.Goals as goal

pub returns-then-n-lt10 : goal.returns-then-n-lt10
returns-then-n-lt10 c = rw (digits-one c.args.n c.if-n-lt10.true) c.put_byte.ensures

pub slice_bounds-put_bytes-count : goal.slice_bounds-put_bytes-count
slice_bounds-put_bytes-count c = omega (arith, c.fill-from.ensures.range)

pub slice_bounds-put_bytes-start : goal.slice_bounds-put_bytes-start
slice_bounds-put_bytes-start c = omega (arith, c.fill-from.ensures.range)

pub returns : goal.returns
returns c = rw c.fill-from.ensures.digits at c.put_bytes.ensures
