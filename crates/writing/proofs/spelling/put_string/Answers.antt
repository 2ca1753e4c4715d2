-- What stands between the quotes.
use Rattle.writing.proofs.Spelled.{content-short, content-long}
use Rattle.writing.proofs.spelling.put_string.Goals as goal

pub returns-then-word-lt2 : goal.returns-then-word-lt2
returns-then-word-lt2 c = λ k. rw (content-short _ c.if-word-lt2.true) (c.put_quoted.ensures k)

pub returns : goal.returns
returns c = λ k. rw (← content-long c.args.word.now) (c.put_quoted-2.ensures k)
