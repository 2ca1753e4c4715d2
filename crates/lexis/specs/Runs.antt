-- What the runs of the code are made of, beside digits, the parts of a name and the content of a string. Relies on `Bytes`.
use Rattle.std.specs.Prelude.{ℕ, ◌<◌, ◌≡◌, Bool, not, eqb}
use Rattle.lexis.specs.Class as Class
use Rattle.lexis.specs.Bytes.{class_of}

-- white space
abbrev pub is_space : ℕ → Bool
is_space b = eqb (class_of b) Class.space

-- a byte of a comment
abbrev pub in_comment : ℕ → Bool
in_comment b = not (eqb b 10)

-- every call on a byte answers what the test does
abbrev pub Answers : (ℕ → Bool → Type 0) → (ℕ → Bool) → Type 0
Answers post test = (b : ℕ) (r : Bool) → b < 256 → post b r → r ≡ test b
