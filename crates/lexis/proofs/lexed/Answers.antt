-- The lexer without marks; its records stand in front.
use mathlib.Core.Path.{sym, ◌∙◌}
use lib.ListN.{length}
use Rattle.lexis.specs.Lexer.{lex}
use Rattle.lexis.proofs.Answers.{room_of, held}
use Rattle.lexis.proofs.lexed.Goals as goal

pub returns : goal.returns
returns c = let e = c.lex_into.ensures in (
  e.value,
  λ n q.
      held (lex c.args.text.now) _ _ n (sym q ∙ e.value) e.recorded (room_of _ n (length c.args.work.now) q e.room),
)
