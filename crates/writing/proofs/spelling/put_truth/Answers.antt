-- The test of the length is that of the truth value.
use borrow.Author.Tests.{eq-eqb, ne_eqb}
use Rattle.writing.proofs.spelling.put_truth.Goals as goal

pub returns-then-word-eq4 : goal.returns-then-word-eq4
returns-then-word-eq4 c = λ k. simp (eq-eqb _ 4 c.if-word-eq4.true) (c.put_word.ensures k)

pub returns : goal.returns
returns c = λ k. simp (ne_eqb _ 4 c.if-word-eq4.false) (c.put_word-2.ensures k)
