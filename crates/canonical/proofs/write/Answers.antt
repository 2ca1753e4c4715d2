-- By one buffer or the other.
use Rattle.canonical.proofs.write.Goals as goal

pub returns-then-texts-le-SHORT_TEXT : goal.returns-then-texts-le-SHORT_TEXT
returns-then-texts-le-SHORT_TEXT c = c.write_by.ensures

pub returns : goal.returns
returns c = c.write_by-2.ensures
