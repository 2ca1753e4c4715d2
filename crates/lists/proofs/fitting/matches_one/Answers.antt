use mathlib.Core.Path.{sym, ◌∙◌}
use native.Mathlib.Omega.{arith}
use borrow.Author.Rules.{rules}
use Rattle.syntax.specs.Tokens.{from}
use Rattle.syntax.proofs.Symbols.{stands}
use Rattle.lists.specs.Fitting.{stacked}
use Rattle.lists.proofs.Answers.{fits-none, word-no-tuple, base-columns}
use Rattle.lists.proofs.Matching.{left-whole, left_word, left-each, whole-value, deep-no-tuple, stacked-none}
use Rattle.lists.proofs.fitting.matches_one.Goals as goal

pub returns-then-is_whole : goal.returns-then-is_whole
returns-then-is_whole c = λ k w ws h.
    let d = c.args.doc.now in
    let y = whole-value d.text.now d.table.now d.count c.args.at (from c.args.list.now c.args.t) c.args.kinds c.args.k c.fits_one-whole.result
    c.is_whole.result c.fits_one-whole.ensures.meaning c.is_whole.ensures k w ws h in
    left-whole d.text.now d.table.now d.count c.args.at (stacked c.args.k w) c.is_whole.result y c.if-is_whole.true

pub returns-then-k-ne0 : goal.returns-then-k-ne0
returns-then-k-ne0 c = λ k w ws h.
    let d = c.args.doc.now in
    let y = whole-value d.text.now d.table.now d.count c.args.at (from c.args.list.now c.args.t) c.args.kinds c.args.k c.fits_one-whole.result
    c.is_whole.result c.fits_one-whole.ensures.meaning c.is_whole.ensures k w ws h in
    left_word d.text.now d.table.now d.count c.args.at (stacked c.args.k w) c.is_whole.result y c.if-is_whole.false
    (deep-no-tuple c.args.k w c.if-k-ne0.true)

pub returns-then-symbol_at-ne-LEFT_ROUND : goal.returns-then-symbol_at-ne-LEFT_ROUND
returns-then-symbol_at-ne-LEFT_ROUND c = λ k w ws h.
    let d = c.args.doc.now in
    let no-tuple = word-no-tuple h.is_base c.symbol_at.ensures c.if-symbol_at-ne-LEFT_ROUND.true in
    let y = whole-value d.text.now d.table.now d.count c.args.at (from c.args.list.now c.args.t) c.args.kinds c.args.k c.fits_one-whole.result
    c.is_whole.result c.fits_one-whole.ensures.meaning c.is_whole.ensures k w ws h in
    left_word d.text.now d.table.now d.count c.args.at (stacked c.args.k w) c.is_whole.result y c.if-is_whole.false
    (λ t vs. fits-none _ c.args.k w c.if-k-ne0.false ∙ no-tuple t vs)

pub overflow_add-t : goal.overflow_add-t
overflow_add-t c =
    let l = c.args.list.now in
    let h = stands l.text.now l.table.now l.count c.args.t (sym c.if-symbol_at-ne-LEFT_ROUND.false ∙ c.symbol_at.ensures) (omega arith) in
    search rules

pub fits_each-requires : goal.fits_each-requires
fits_each-requires c =
    let l = c.args.list.now in
    let h = stands l.text.now l.table.now l.count c.args.t (sym c.if-symbol_at-ne-LEFT_ROUND.false ∙ c.symbol_at.ensures) (omega arith) in
    (omega arith, λ z. omega (arith, z), omega (arith, h), omega arith)

pub returns : goal.returns
returns c = λ k w ws h.
    let d = c.args.doc.now in
    let l = c.args.list.now in
    let q = base-columns l.text.now l.table.now l.count c.args.t h.is_base c.symbol_at.ensures c.if-symbol_at-ne-LEFT_ROUND.false in
    let e = stacked-none c.args.k w c.if-k-ne0.false ∙ q.2 in
    let y = whole-value d.text.now d.table.now d.count c.args.at (from l c.args.t) c.args.kinds c.args.k c.fits_one-whole.result
    c.is_whole.result c.fits_one-whole.ensures.meaning c.is_whole.ensures k w ws h in
    rw c.is_some.ensures (left-each d.text.now d.table.now d.count c.args.at (stacked c.args.k w) c.is_whole.result y c.if-is_whole.false
    q.1 e q.3 q.0 _ ws 0 q.4 c.fits_each.result c.fits_each.ensures.meaning)
