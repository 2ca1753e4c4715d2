-- What the program writes: the canonical bytes, or the four numbers of a refusal.
use Rattle.std.specs.Prelude.{List, [], ◌∷◌, ◌++◌, ℕ}
use Rattle.lexis.specs.declared.Answer.{Answer}
use Rattle.lists.specs.Answer.{Stage, pass, stop}
use Rattle.writing.specs.Spelling.{decimal}

-- four numbers in decimal with one space between, and a line feed
unfoldable pub printed : Answer → List ℕ
printed r = decimal r.code ++ (32 ∷ decimal r.text ++ (32 ∷ decimal r.position ++ (32 ∷ decimal r.detail ++ (10 ∷ []))))

abbrev pub shown : Stage (List ℕ) → List ℕ
shown (pass bytes) = bytes
shown (stop r) = printed r
