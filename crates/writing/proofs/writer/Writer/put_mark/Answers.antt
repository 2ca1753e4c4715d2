use Rattle.writing.proofs.Putting.{puts_word}
use Rattle.writing.proofs.writer.Writer.put_mark.Goals as goal

pub returns : goal.returns
returns c = puts_word _ c.put_byte.ensures c.end_token.ensures
