-- A quote, the content, and the quote again.
use mathlib.Core.List.{[], ◌∷◌, ◌++◌}
use Rattle.writing.specs.Spelling.{spell_string}
use Rattle.writing.proofs.Putting.{wrote-then, puts_word}
use Rattle.writing.proofs.spelling.put_quoted.Goals as goal

pub returns : goal.returns
unfolding spell_string
returns c =
    let q = c.quote_for-quote.result ∷ [] in
    let text = wrote-then q (c.args.content.now ++ q) c.put_byte.ensures (wrote-then c.args.content.now q c.put_bytes.ensures c.put_byte-2.ensures) in
    rw (← c.quote_for-quote.ensures) (puts_word _ text c.end_token.ensures)
