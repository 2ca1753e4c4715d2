-- The guess is a number of the name, or the parameters are searched.
use mathlib.Core.Path.{sym, ◌∙◌}
use Rattle.documents.proofs.DirectoryEntries.{number-guessed, guessed-below}
use Rattle.documents.proofs.callee.Callee.number_of.Goals as goal

pub returns-then-is_guessed : goal.returns-then-is_guessed
returns-then-is_guessed c = let e = sym c.is_guessed.ensures ∙ c.if-is_guessed.true in
    record { numbers = number-guessed e; upper_bound = guessed-below _ _ _ _ _ _ e }
