use mathlib.Core.Path.{refl, ap, ◌∙◌}
use Prim.Native.Nat.{◌+◌}
use Rattle.index.specs.Layout.{word_in}
use Rattle.index.proofs.Steps.{looked-none, looked-there}
use Rattle.index.proofs.look_up.Goals as goal

pub returns-in_err-p-clause-looks_up : goal.returns-in_err-p-clause-looks_up
returns-in_err-p-clause-looks_up c = let ts = c.args.tokens.now in
    λ k f m. ap word_in c.from_residual.ensures
    ∙ looked-none ts.text.now ts.table.now c.args.index.now c.args.w.now c.args.field 0 c.requires.field_lt_name_words c.in_err-p.ensures.finds refl k f m

pub returns-clause-looks_up : goal.returns-clause-looks_up
returns-clause-looks_up c = let ts = c.args.tokens.now in
    λ k f m. c.given.ensures.value
    ∙ looked-there ts.text.now ts.table.now c.args.index.now c.args.w.now c.args.field (c.in_ok-p.p + 1) c.requires.field_lt_name_words
    c.in_ok-p.ensures.finds c.in_ok-p.p refl c.word_of.result c.word_of.ensures k f m
