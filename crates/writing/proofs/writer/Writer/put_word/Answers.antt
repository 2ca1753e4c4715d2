use Rattle.writing.proofs.Putting.{puts_word}
use Rattle.writing.proofs.writer.Writer.put_word.Goals as goal

pub returns : goal.returns
returns c = puts_word _ c.put_bytes.ensures c.end_token.ensures
