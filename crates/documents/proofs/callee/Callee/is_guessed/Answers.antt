-- The guess is below the count, and its parameter is spelt so.
use borrow.Author.Tests.{lt-ltb, le-ltb}
use Rattle.documents.specs.Tallies.{is_guessed}
use Rattle.documents.proofs.callee.Callee.is_guessed.Goals as goal

pub returns-then-self-guess : goal.returns-then-self-guess
unfolding is_guessed
returns-then-self-guess c = simp (le-ltb _ _ c.if-self-guess.true)

pub returns : goal.returns
unfolding is_guessed
returns c = simp (lt-ltb _ _ c.if-self-guess.false, c.is_spelt.ensures)
