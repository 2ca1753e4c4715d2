use mathlib.Core.Path.{refl}
use native.Mathlib.Omega.{arith}
use Rattle.syntax.specs.Tree.Ty.{tuple_of}
use Rattle.syntax.specs.Tokens.{from}
use Rattle.lists.proofs.Matching.{left-whole, left-each}
use Rattle.lists.proofs.fitting.matches_several.Goals as goal

pub returns-then-matches_bracketed : goal.returns-then-matches_bracketed
returns-then-matches_bracketed c =
    let d = c.args.doc.now in
    λ k cs ws h m. left-whole d.text.now d.table.now d.count c.args.at (tuple_of cs) c.matches_bracketed.result
    (c.matches_bracketed.ensures k cs ws h) c.if-matches_bracketed.true

pub fits_each-requires : goal.fits_each-requires
fits_each-requires c = (omega arith, λ z. omega (arith, z), c.requires, omega arith)

pub returns : goal.returns
returns c =
    let d = c.args.doc.now in
    let ts = from c.args.list.now c.args.results in
    λ k cs ws h m.
    rw c.is_some.ensures (left-each d.text.now d.table.now d.count c.args.at (tuple_of cs) c.matches_bracketed.result
    (c.matches_bracketed.ensures k cs ws h) c.if-matches_bracketed.false cs refl m k ts ws 2 h c.fits_each.result
    c.fits_each.ensures.meaning)
