-- One law of `Marks` for each answer.
use mathlib.Core.Path.{sym, ap, ◌∙◌}
use mathlib.Core.Bool.{and-false}
use borrow.Author.Tests.{eq-eqb, ne_eqb}
use Rattle.lexis.specs.Class.{class_number}
use Rattle.lexis.specs.declared.class.Class.TheVariants.{Operator, Syntactic, Twice}
use Rattle.lexis.proofs.Table.{class-not}
use Rattle.lexis.proofs.Marks.{mark-same, mark-equal, mark-alone, mark-pair, mark-arrow, mark-single, mark-double, mark-lone, mark-none}
use Rattle.lexis.proofs.token.mark_of.Goals as goal
use Rattle.lexis.proofs.token.mark_of.Goals.{else-a-eq61-via-then-a-eq61+else-b-eq61, else-a-eq61-via-else-a-eq61, else-b-eq61-2-via-then-b-eq61-2+else-takes_equal, else-b-eq61-2-via-else-b-eq61-2, else-a-eq45-via-then-a-eq45+else-b-eq62, else-a-eq45-via-else-a-eq45}

pub returns-then-b-eq61 : goal.returns-then-b-eq61
returns-then-b-eq61 c = mark-same _ _ _ c.requires c.if-a-eq61.true c.if-b-eq61.true

pub returns-else-a-eq61 : goal.returns-else-a-eq61
returns-else-a-eq61 c = elim c.else-a-eq61.branch [
  | else-a-eq61-via-then-a-eq61+else-b-eq61 w ↦ mark-equal _ _ _ c.requires w.if-a-eq61.true w.if-b-eq61.false
  | else-a-eq61-via-else-a-eq61 w ↦ mark-alone _ _ _ c.requires (ap class_number c.in-Syntactic.is) w.if-a-eq61.false
]

pub returns-then-takes_equal : goal.returns-then-takes_equal
returns-then-takes_equal c = mark-pair _ _ _ c.requires (ap class_number c.in-Operator.is) c.if-b-eq61-2.true
    (sym c.takes_equal.ensures ∙ c.if-takes_equal.true)

pub returns-then-b-eq62 : goal.returns-then-b-eq62
returns-then-b-eq62 c = mark-arrow _ _ _ c.requires c.if-b-eq62.true c.if-a-eq45.true

pub returns-else-a-eq45 : goal.returns-else-a-eq45
returns-else-a-eq45 c = mark-single _ _ _ c.requires (ap class_number c.in-Operator.is)
    (elim c.else-b-eq61-2.branch [
      | else-b-eq61-2-via-then-b-eq61-2+else-takes_equal w ↦ rw (eq-eqb _ 61 w.if-b-eq61-2.true, ← w.takes_equal.ensures, w.if-takes_equal.false)
      | else-b-eq61-2-via-else-b-eq61-2 w ↦ rw (ne_eqb _ 61 w.if-b-eq61-2.false)
    ])
    (elim c.else-a-eq45.branch [
      | else-a-eq45-via-then-a-eq45+else-b-eq62 w ↦ rw (ne_eqb _ 62 w.if-b-eq62.false, and-false)
      | else-a-eq45-via-else-a-eq45 w ↦ rw (ne_eqb _ 45 w.if-a-eq45.false)
    ])

pub returns-then-a-b : goal.returns-then-a-b
returns-then-a-b c = mark-double _ _ _ c.requires (ap class_number c.in-Twice.is) (sym c.if-a-b.true)

pub returns-else-a-b : goal.returns-else-a-b
returns-else-a-b c = mark-lone _ _ _ c.requires (ap class_number c.in-Twice.is) (λ e. c.if-a-b.false (sym e))

pub returns-in_default : goal.returns-in_default
returns-in_default c = mark-none _ _ _ c.requires (class-not _ Syntactic c.in_default.not-Syntactic) (class-not _ Operator c.in_default.not-Operator)
    (class-not _ Twice c.in_default.not-Twice)
