use mathlib.Core.Path.{sym, ap}
use native.Mathlib.Omega.{arith}
use Rattle.lists.specs.Types.{word_kinds}
use Rattle.lists.proofs.TypeTokens.{no-kinds}
use Rattle.lists.proofs.types.kinds_of.Goals as goal

pub returns-in-262 : goal.returns-in-262
unfolding word_kinds
returns-in-262 c = (omega arith, sym (ap word_kinds c.in-262.is))

pub returns-in-263 : goal.returns-in-263
unfolding word_kinds
returns-in-263 c = (omega arith, sym (ap word_kinds c.in-263.is))

pub returns-in-264 : goal.returns-in-264
unfolding word_kinds
returns-in-264 c = (omega arith, sym (ap word_kinds c.in-264.is))

pub returns-in-265 : goal.returns-in-265
unfolding word_kinds
returns-in-265 c = (omega arith, sym (ap word_kinds c.in-265.is))

pub returns-in-266 : goal.returns-in-266
unfolding word_kinds
returns-in-266 c = (omega arith, sym (ap word_kinds c.in-266.is))

pub returns-in_default : goal.returns-in_default
returns-in_default c = (
  omega arith,
  no-kinds c.args.s c.in_default.in_default-own.rest.0.0.0.0.1 c.in_default.in_default-own.rest.0.0.0.1
      c.in_default.in_default-own.rest.0.0.1 c.in_default.in_default-own.rest.0.1 c.in_default.in_default-own.rest.1,
)
