use mathlib.Core.Path.{sym, ap, ◌∙◌}
use Prim.Native.Nat.{◌+◌}
use native.Mathlib.Omega.{arith}
use Rattle.syntax.specs.Tokens.{from}
use Rattle.syntax.proofs.Table.{toks-none}
use Rattle.lists.specs.Reading.{fits, types_of}
use Rattle.lists.proofs.Phrases.{left_is, results-are, columns}
use Rattle.lists.proofs.TypeCodes.{tensor-code}
use Rattle.lists.proofs.Matching.{label-left, results-none, coded-several, coded-one, coded-tensor, one_left}
use Rattle.lists.proofs.fitting.matches.Goals as goal

pub returns-then-code-eq-TENSOR : goal.returns-then-code-eq-TENSOR
returns-then-code-eq-TENSOR c =
    let l = c.args.list.now in
    λ b v us k rs ws f g e.
    let r = results-are k (from l c.args.results) g in
    let q = coded-tensor l.text.now l.table.now l.count c.args.results c.args.code (c.if-code-eq-TENSOR.true ∙ sym tensor-code) r e in
    c.is_label.ensures ∙ label-left (left_is b _ f) ∙ ap (fits v) (sym q)

pub returns-then-list-results : goal.returns-then-list-results
returns-then-list-results c =
    let l = c.args.list.now in
    let none = toks-none l.text.now l.table.now l.count c.args.results c.if-list-results.true in
    λ b v us k rs ws f g e. absurd (results-none none (results-are k (from l c.args.results) g))

pub matches_several-requires : goal.matches_several-requires
matches_several-requires c = omega (arith, c.if-list-results.false)

pub returns-then-code-eq-SEVERAL : goal.returns-then-code-eq-SEVERAL
returns-then-code-eq-SEVERAL c =
    let l = c.args.list.now in
    λ b v us k rs ws f g e.
    let r = results-are k (from l c.args.results) g in
    let q = coded-several l.text.now l.table.now l.count c.args.results c.args.code c.if-code-eq-SEVERAL.true r e in
    c.matches_several.ensures k (types_of rs) ws (columns r) q.0 b v us (left_is b (from c.args.doc.now c.args.at) f) ∙ ap (fits v) (sym q.1)

pub returns : goal.returns
returns c =
    let d = c.args.doc.now in
    let l = c.args.list.now in
    λ b v us k rs ws f g e.
    let q = coded-one l.text.now l.table.now l.count c.args.results c.args.code c.if-code-eq-SEVERAL.false (results-are k (from l c.args.results) g)
    e in
    one_left d.text.now d.table.now d.count c.args.at (from l (c.args.results + 2)) c.kinds_in-kinds.result c.pairs_in.result c.matches_one.result
    c.matches_one.ensures
    q.0 (c.kinds_in-kinds.ensures _ q.1) (c.pairs_in.ensures _ q.1) b v us (left_is b (from d c.args.at) f)
