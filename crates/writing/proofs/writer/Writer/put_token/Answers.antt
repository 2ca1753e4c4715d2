use Rattle.writing.proofs.writer.Writer.put_token.Goals as goal

pub returns : goal.returns
returns c = λ k. rw c.bytes_at.ensures at (c.put_word.ensures k)
