-- The tokens of a title, where a document begins with them.
use native.Mathlib.Omega.{arith}
use Rattle.lexis.specs.Kind as Kind
use Rattle.writing.proofs.Putting.{puts_then}
use Rattle.writing.proofs.Titles.{title}
use Rattle.writing.proofs.document.put_title.Goals as goal

pub returns-then-tokens-gt3 : goal.returns-then-tokens-gt3
returns-then-tokens-gt3 c = λ d e. rw (← (title c.args.tokens.now.text.now c.args.tokens.now.table.now c.args.tokens.now.count d e).graph)
    (puts_then (c.put_spaced.ensures Kind.keyword)
    (puts_then (c.put_spaced-then-tokens-gt3.ensures Kind.real)
    (puts_then (c.put_spaced-then-tokens-gt3-2.ensures Kind.keyword)
    (puts_then (c.put_token.ensures Kind.name) (c.put_mark.ensures Kind.syntactic)))))

pub returns-else-tokens-gt3 : goal.returns-else-tokens-gt3
returns-else-tokens-gt3 c = λ d e. absurd (omega (
  arith,
  c.if-tokens-gt3.false,
  (title c.args.tokens.now.text.now c.args.tokens.now.table.now
      c.args.tokens.now.count d e).inside,
))
