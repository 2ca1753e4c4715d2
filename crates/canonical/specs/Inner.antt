-- What only the contracts of the code cite.
use Rattle.std.specs.Prelude.{ℕ, ◌≡◌, ◌+◌, ◌*◌, ◌/◌, ◌^◌, ◌<◌, ◌≤◌, min, List, [], ◌∷◌, ◌++◌, length}
use Rattle.lexis.specs.Sizes.{max_tokens}
use Rattle.index.specs.Layout.{index_words}
use Rattle.lists.specs.Directory.{first_parameter, parameter_words}
use Rattle.lexis.specs.declared.Answer.{Answer}
use Rattle.lists.specs.Answer.{Stage, stage_answer}
use Rattle.documents.specs.Stages.{BothKept}
use Rattle.writing.specs.Spelling.{decimal}
use Rattle.canonical.specs.declared.texts.Texts.{Texts}
use Rattle.canonical.specs.Answer.{output_after}

-- ---- canon

-- the answer and the output after these stages
pub record Wrote (s : Stage (List ℕ)) (out out' : List ℕ) (r : Answer) : Type 0 where
  pub answered : r ≡ stage_answer s length
  pub output : out' ≡ output_after s out

-- so many words for the names of a list of m bytes, and so many for its directory, are enough
pub record WordsServe (index words m : ℕ) : Type 0 where
  pub index-room : index_words (min m max_tokens) ≤ index
  pub words-room : first_parameter + min m max_tokens / 4 * parameter_words ≤ words
  pub short : (index < 2 ^ 20) × (words < 2 ^ 20)

-- ---- the program

-- a number in decimal and one byte after it
abbrev pub number_then : ℕ → ℕ → List ℕ
number_then n b = decimal n ++ (b ∷ [])

-- ---- both texts

-- both texts have passed their stages, and the directory of the list and the records of the document are left
pub record TextsKept (t : Texts) : Type 0 where
  pub index : List ℕ
  pub operations : ℕ
  pub uses : ℕ
  pub both : BothKept t.list.now.text.now t.doc.now.text.now t.list.now.table.now t.doc.now.table.now index t.words.now t.records.now
      (record { list = t.list.now.count; operations = operations; document = t.doc.now.count; calls = t.calls; uses = uses })
