-- A kind with one terminal, or the terminal of its spelling.
use mathlib.Core.Path.{sym, ap, ◌∙◌}
use Prim.Native.Nat.{◌-◌}
use lib.ListN.{take, drop}
use Rattle.lexis.specs.Kind.{kind_number}
use Rattle.lexis.specs.Symbol.{symbol_of}
use Rattle.lexis.specs.declared.kind.Kind.{Kind}
use Rattle.lexis.proofs.Terminals.{mark-is}
use Rattle.lexis.proofs.symbol.symbol_of.Goals as goal

pub returns-in-Keyword : goal.returns-in-Keyword
unfolding symbol_of
returns-in-Keyword c = c.keyword.ensures ∙ ap (λ (k : Kind). symbol_of (kind_number k) (take (c.args.end - c.args.start) (drop c.args.start c.args.text.now))) (sym c.in-Keyword.is)

pub returns-in-Operator : goal.returns-in-Operator
unfolding symbol_of
returns-in-Operator c = c.symbol_if.ensures ∙ ap (λ (k : Kind). symbol_of (kind_number k) (take (c.args.end - c.args.start) (drop c.args.start c.args.text.now))) (sym c.in-Operator.is)

pub returns-in-Syntactic : goal.returns-in-Syntactic
returns-in-Syntactic c = c.from.ensures ∙ mark-is c.args.text.now _ c.args.start c.args.end (ap kind_number c.in-Syntactic.is) c.requires.start_lt_end
