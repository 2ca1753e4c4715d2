-- The words of an index: the heads of all chains, and for each place of the token table its link and two words that its name has.
use Rattle.std.specs.Prelude.{ℕ, ◌+◌, ◌*◌, List, get_or, Option, Some, None}

-- as many chains
abbrev pub chains : ℕ
chains = 1024

-- the words of a place: its link, and the words of its name
abbrev pub place_words : ℕ
place_words = 3

-- the words that a name has
abbrev pub name_words : ℕ
name_words = 2

-- the words of an index over n places
abbrev pub index_words : ℕ → ℕ
index_words n = chains + n * place_words

-- the head or link that leads to a place, or to none
abbrev pub link_to : Option ℕ → ℕ
link_to (Some p) = p + 1
link_to None = 0

-- the link of place p
abbrev pub link_at : List ℕ → ℕ → ℕ
link_at index p = get_or index (chains + p * place_words) 0

-- where word i of the name at place p stands, and that word
abbrev pub word_place : ℕ → ℕ → ℕ
word_place p i = chains + p * place_words + 1 + i

abbrev pub word_at : List ℕ → ℕ → ℕ → ℕ
word_at index p i = get_or index (word_place p i) 0

-- a word as it stands there: 0 where it was never given
abbrev pub word_in : Option ℕ → ℕ
word_in (Some x) = x
word_in None = 0
