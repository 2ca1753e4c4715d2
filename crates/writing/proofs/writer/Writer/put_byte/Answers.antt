-- One byte more is passed; it is stored where the output reaches it.
use mathlib.Core.Path.{refl}
use Rattle.writing.specs.Writing.{passed, stored}
use Rattle.writing.proofs.Putting.{store-inside, store-beyond}
use Rattle.writing.proofs.writer.Writer.put_byte.Goals as goal
use Rattle.writing.proofs.writer.Writer.put_byte.Goals.{then-at-self, else-at-self}

pub returns : goal.returns
unfolding passed stored
returns c = elim c.if-at-self.branch [
  | then-at-self w ↦ rw w.self-is (record { same = refl; bytes = store-inside _ _ _ w.if-at-self.true; end = c.one_more-self.ensures; tokens = refl })
  | else-at-self w ↦ rw w.self-is (record { same = refl; bytes = store-beyond _ _ _ w.if-at-self.false; end = c.one_more-self.ensures; tokens = refl })
]
