-- The word is compared with those of its first byte (`kind-by`); where there are none it is a name.
use mathlib.Core.Path.{sym, ◌∙◌}
use native.Mathlib.Omega.{arith}
use Rattle.lexis.specs.Words.{words, kind_in}
use Rattle.lexis.proofs.Words.{begun, keep, kind-by, none-else}
use Rattle.lexis.proofs.word.kind_of_word.Goals as goal

pub returns-in-103 : goal.returns-in-103
unfolding begun keep words kind_in
returns-in-103 c = c.kind_if.ensures ∙ sym (kind-by c.args.w.now 103 (sym c.byte_at.ensures ∙ c.in-103.is))

pub returns-in-114 : goal.returns-in-114
unfolding begun keep words kind_in
returns-in-114 c = c.kind_if-in-114.ensures ∙ sym (kind-by c.args.w.now 114 (sym c.byte_at.ensures ∙ c.in-114.is))

pub returns-in-118 : goal.returns-in-118
unfolding begun keep words kind_in
returns-in-118 c = c.kind_if-in-118.ensures ∙ sym (kind-by c.args.w.now 118 (sym c.byte_at.ensures ∙ c.in-118.is))

pub returns-in_default : goal.returns-in_default
returns-in_default c = none-else _ _ c.byte_at.ensures (λ e. omega arith) (λ e. omega arith) (λ e. omega arith) (λ e. omega arith) (λ e. omega arith) (λ e. omega arith) (λ e. omega arith) (λ e. omega arith) (λ e. omega arith)
