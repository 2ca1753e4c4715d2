use mathlib.Core.Path.{refl, sym, ◌∙◌}
use Rattle.lists.proofs.Leaves.{leaf-not-taken, leaf-taken, leaf-extent}
use borrow.Author.Rules.{rules}
use Rattle.lists.proofs.fitting.leaf_fits.Goals as goal

pub returns-then-not-takes : goal.returns-then-not-takes
returns-then-not-takes c = leaf-not-taken c.args.tokens.now.text.now c.args.tokens.now.table.now c.args.at c.args.kinds c.args.negative
    (sym c.takes.ensures ∙ c.if-not-takes.true)

pub returns-then-kinds-ne-EXTENT : goal.returns-then-kinds-ne-EXTENT
returns-then-kinds-ne-EXTENT c = leaf-taken c.args.tokens.now.text.now c.args.tokens.now.table.now c.args.at c.args.kinds c.args.negative
    (sym c.takes.ensures ∙ c.if-not-takes.false) c.if-kinds-ne-EXTENT.true

pub slice_bounds-is_extent-count : goal.slice_bounds-is_extent-count
slice_bounds-is_extent-count c = let w = c.args.tokens.now.holds.within c.args.at c.requires in
    search rules

pub slice_bounds-is_extent-start : goal.slice_bounds-is_extent-start
slice_bounds-is_extent-start c = let w = c.args.tokens.now.holds.within c.args.at c.requires in
    search rules

pub slice_bounds-is_extent-end : goal.slice_bounds-is_extent-end
slice_bounds-is_extent-end c = let w = c.args.tokens.now.holds.within c.args.at c.requires in
    search rules

pub returns : goal.returns
returns c = let taken = sym c.takes.ensures ∙ c.if-not-takes.false in
    c.is_extent.ensures
    ∙ leaf-extent c.args.tokens.now.text.now c.args.tokens.now.table.now c.args.at c.args.kinds c.args.negative taken c.if-kinds-ne-EXTENT.false _ _
    refl refl
