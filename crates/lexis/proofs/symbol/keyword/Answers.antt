-- The word is compared with those of its first byte (`symbol-by`); where there are none it has no terminal of its own (`symbol-none`).
use mathlib.Core.Path.{sym, ◌∙◌}
use native.Mathlib.Omega.{arith}
use Rattle.lexis.specs.Symbol.{terminals, symbol_in}
use Rattle.lexis.proofs.Terminals.{retain, leading, symbol-by, symbol-none}
use Rattle.lexis.proofs.symbol.keyword.Goals as goal

pub returns-then-same : goal.returns-then-same
unfolding leading retain terminals symbol_in
returns-then-same c = sym
    (symbol-by c.args.w.now _ 115 c.byte_at.ensures c.in-115.is ∙ rw (sym c.same.ensures ∙ c.if-same.true))

pub returns-in-116 : goal.returns-in-116
unfolding leading retain terminals symbol_in
returns-in-116 c = c.symbol_if.ensures ∙ sym (symbol-by c.args.w.now _ 116 c.byte_at.ensures c.in-116.is)

pub returns-in-101 : goal.returns-in-101
unfolding leading retain terminals symbol_in
returns-in-101 c = c.symbol_if-in-101.ensures ∙ sym (symbol-by c.args.w.now _ 101 c.byte_at.ensures c.in-101.is)

pub returns-else-same : goal.returns-else-same
unfolding leading retain terminals symbol_in
returns-else-same c = c.symbol_if-in-115.ensures
    ∙ sym
    (symbol-by c.args.w.now _ 115 c.byte_at.ensures c.in-115.is
    ∙ rw (sym c.same.ensures ∙ c.if-same.false))

pub returns-in-108 : goal.returns-in-108
unfolding leading retain terminals symbol_in
returns-in-108 c = c.symbol_if-in-108.ensures ∙ sym (symbol-by c.args.w.now _ 108 c.byte_at.ensures c.in-108.is)

pub returns-in-102 : goal.returns-in-102
unfolding leading retain terminals symbol_in
returns-in-102 c = c.symbol_if-in-102.ensures ∙ sym (symbol-by c.args.w.now _ 102 c.byte_at.ensures c.in-102.is)

pub returns-in-103 : goal.returns-in-103
unfolding leading retain terminals symbol_in
returns-in-103 c = c.symbol_if-in-103.ensures ∙ sym (symbol-by c.args.w.now _ 103 c.byte_at.ensures c.in-103.is)

pub returns-in-118 : goal.returns-in-118
unfolding leading retain terminals symbol_in
returns-in-118 c = c.symbol_if-in-118.ensures ∙ sym (symbol-by c.args.w.now _ 118 c.byte_at.ensures c.in-118.is)

pub returns-in_default : goal.returns-in_default
returns-in_default c = symbol-none _ _ c.byte_at.ensures (λ e. omega arith) (λ e. omega arith) (λ e. omega arith) (λ e. omega arith) (λ e. omega arith) (λ e. omega arith) (λ e. omega arith)
