use mathlib.Core.Path.{sym, ◌∙◌}
use native.Mathlib.Omega.{arith}
use Rattle.syntax.specs.Tokens.{from}
use Rattle.syntax.proofs.Symbols.{stands}
use Rattle.lists.proofs.Matching.{no-bracket, bracket}
use borrow.Author.Rules.{rules}
use Rattle.lists.proofs.fitting.matches_bracketed.Goals as goal

pub returns-then-symbol_at-ne-LEFT_ROUND : goal.returns-then-symbol_at-ne-LEFT_ROUND
returns-then-symbol_at-ne-LEFT_ROUND c =
    let d = c.args.doc.now in
    λ k cs ws h. no-bracket d.text.now d.table.now d.count c.args.at c.symbol_at.result c.symbol_at.ensures cs c.if-symbol_at-ne-LEFT_ROUND.true

pub overflow_add-at : goal.overflow_add-at
overflow_add-at c =
    let d = c.args.doc.now in
    let h = stands d.text.now d.table.now d.count c.args.at (sym c.if-symbol_at-ne-LEFT_ROUND.false ∙ c.symbol_at.ensures) (omega arith) in
    search rules

pub fits_each-inner-requires : goal.fits_each-inner-requires
fits_each-inner-requires c = (omega arith, λ z. omega (arith, z), c.requires, omega arith)

pub returns : goal.returns
returns c =
    let d = c.args.doc.now in
    let ts = from c.args.list.now c.args.results in
    λ k cs ws h.
    bracket d.text.now d.table.now d.count c.args.at c.symbol_at.result c.symbol_at.ensures cs c.if-symbol_at-ne-LEFT_ROUND.false k ts ws 2 h
    c.fits_each-inner.result c.is_whole.result
    c.fits_each-inner.ensures.meaning c.is_whole.ensures
