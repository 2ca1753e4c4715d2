-- One law of `Cursors` for each answer: the end, white space, a comment, a syntactic character, a fault, too many, a token.
use mathlib.Core.Path.{refl, sym, ap, ◌∙◌}
use native.Mathlib.Omega.{arith}
use borrow.Author.Tests.{ltb-true}
use Rattle.lexis.specs.Sizes.{max_tokens}
use Rattle.lexis.specs.Class.{class_number}
use Rattle.lexis.specs.declared.class.Class.TheVariants.{Space, Comment}
use Rattle.lexis.specs.Lexeme.{lexeme_told}
use Rattle.lexis.proofs.Table.{class-not}
use Rattle.lexis.proofs.Cursors.{step_end, step-spaces, step-comment, step-fault, step-many, step-next, token-in}
use Rattle.lexis.proofs.cursor.Cursor.next.Goals as goal

pub returns-then-text-at : goal.returns-then-text-at
returns-then-text-at c = step_end c.args.text.now c.args.self c.if-text-at.true

pub returns-in-Space : goal.returns-in-Space
returns-in-Space c = step-spaces c.args.text.now c.args.self c.if-text-at.false _ c.class_of-class.ensures _ (ap class_number c.in-Space.is)
    c.space_end-end.ensures

pub returns-in-Comment : goal.returns-in-Comment
returns-in-Comment c = step-comment c.args.text.now c.args.self c.if-text-at.false _ c.class_of-class.ensures _ (ap class_number c.in-Comment.is)
    c.comment_end-end.ensures

pub returns-then-not-token_fits : goal.returns-then-not-token_fits
returns-then-not-token_fits c = step-many c.args.text.now c.args.self c.if-text-at.false _ c.class_of-class.ensures (class-not _ Space c.in_default.not-Space) (class-not _ Comment c.in_default.not-Comment) _
    (c.is_mark.ensures c.if-is_mark.true) 8 1 refl (sym c.token_fits.ensures ∙ c.if-not-token_fits.true)

pub overflow_add-result : goal.overflow_add-result
overflow_add-result c = omega (arith, ltb-true c.args.self.count max_tokens (sym c.token_fits.ensures ∙ c.if-not-token_fits.false))

pub returns-then-is_mark : goal.returns-then-is_mark
returns-then-is_mark c = step-next c.args.text.now c.args.self c.if-text-at.false _ c.class_of-class.ensures (class-not _ Space c.in_default.not-Space) (class-not _ Comment c.in_default.not-Comment) _
    (c.is_mark.ensures c.if-is_mark.true) 8 1 refl (sym c.token_fits.ensures ∙ c.if-not-token_fits.false)

pub returns-in-Err : goal.returns-in-Err
returns-in-Err c = step-fault c.args.text.now c.args.self c.if-text-at.false _ c.class_of-class.ensures (class-not _ Space c.in_default.not-Space) (class-not _ Comment c.in_default.not-Comment) _
    c.token_at.ensures _ (ap lexeme_told c.in-Err.is)

pub returns-then-not-token_fits-2 : goal.returns-then-not-token_fits-2
returns-then-not-token_fits-2 c = step-many c.args.text.now c.args.self c.if-text-at.false _ c.class_of-class.ensures (class-not _ Space c.in_default.not-Space) (class-not _ Comment c.in_default.not-Comment) _
    c.token_at.ensures _ _ (ap lexeme_told c.in-Ok.is) (sym c.token_fits-2.ensures ∙ c.if-not-token_fits-2.true)

pub overflow_add-end : goal.overflow_add-end
overflow_add-end c = omega (arith, token-in c.args.text.now c.args.self _ _ _ c.if-text-at.false c.token_at.ensures (ap lexeme_told c.in-Ok.is))

pub overflow_add-result-2 : goal.overflow_add-result-2
overflow_add-result-2 c = omega (arith, ltb-true c.args.self.count max_tokens (sym c.token_fits-2.ensures ∙ c.if-not-token_fits-2.false))

pub returns : goal.returns
returns c = step-next c.args.text.now c.args.self c.if-text-at.false _ c.class_of-class.ensures (class-not _ Space c.in_default.not-Space) (class-not _ Comment c.in_default.not-Comment) _
    c.token_at.ensures _ _ (ap lexeme_told c.in-Ok.is) (sym c.token_fits-2.ensures ∙ c.if-not-token_fits-2.false)
