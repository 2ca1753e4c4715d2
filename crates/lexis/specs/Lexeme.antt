-- The token at the front of a text. Where several faults meet, the smallest code.
-- Relies on `Sizes`, `Code`, `Refusal` and `Kind` for the numbers, on `Bytes`, `Words` and `Number` for what a token is made of.
use Rattle.std.specs.Prelude.{ℕ, ◌+◌, Bool, cond, ◌&&◌, List, [], ◌∷◌, leb, eqb, take, get_or, Result, Ok, Err}
use Rattle.lexis.specs.Sizes.{max_name, max_string, max_number}
use Rattle.lexis.specs.Code as Code
use Rattle.lexis.specs.Kind as Kind
use Rattle.lexis.specs.Class as Class
use Rattle.lexis.specs.Ascii.{ascii, byte}
use Rattle.lexis.specs.Bytes.{among, class_of, is_name_part, is_content, span_len}
use Rattle.lexis.specs.Words.{kind_of_word}
use Rattle.lexis.specs.Number.{parts_of, parts_len, sticks, in_range}
use Rattle.lexis.specs.Kind.{kind_number}
use Rattle.lexis.specs.Refusal.{refusal_number}
use Rattle.lexis.specs.declared.refusal.Refusal.{Refusal}
use Rattle.lexis.specs.declared.token.Lexeme.{Lexeme as Found}

-- What stands at the front of a text: a token of this kind and length, or the code of its fault.
pub data Lexeme : Type 0 where
  Token : ℕ → ℕ → Lexeme
  Fault : ℕ → Lexeme

-- what an answer of the code says
abbrev pub lexeme_told : Result Found Refusal → Lexeme
lexeme_told (Ok l) = Token (kind_number l.kind) l.len
lexeme_told (Err r) = Fault (refusal_number r)

-- The longest number at the front of s. A letter, underscore or point right after it: code 4. More than 64 bytes: code 6. Out of range:
-- code 7. It is whole when it has neither point nor exponent.
unfoldable pub number_lexeme : List ℕ → Lexeme
number_lexeme s =
    let p = parts_of s in
    let n = parts_len p in
    cond (sticks (get_or s n 0)) (Fault Code.misspelt)
    (cond (leb n max_number)
    (cond (in_range (take n s) (parts_of (take n s))) (Token (cond (eqb n p.whole) Kind.whole Kind.real) n) (Fault Code.out_of_range)) (Fault Code.too_long))

-- the longest run of letters, underscores and digits: a name, keyword or truth value; more than 64 bytes: code 6
unfoldable pub word_lexeme : List ℕ → Lexeme
word_lexeme s =
    let n = span_len is_name_part s in
    cond (leb n max_name) (Token (kind_of_word (take n s)) n) (Fault Code.too_long)

-- A string, of which s is what follows the opening quote q. No closing quote after the longest content: code 5. More than 128 bytes of
-- content: code 6. Past the end of s stands 0, which is no quote.
unfoldable pub string_lexeme : ℕ → List ℕ → Lexeme
string_lexeme q s =
    let n = span_len (is_content q) s in
    cond (eqb (get_or s n 0) q) (cond (leb n max_string) (Token Kind.string (n + 2)) (Fault Code.too_long)) (Fault Code.bad_string)

-- a byte that makes an operator with `=` after it
unfoldable pub takes_equal : ℕ → Bool
takes_equal a = among (ascii "<>=!") a

-- the operators of two bytes: && || <= >= == !=
unfoldable pub is_pair : ℕ → ℕ → Bool
is_pair a b = cond (eqb (class_of a) Class.twice) (eqb b a) (eqb b (byte "=") && takes_equal a)

-- the syntactic character ->
unfoldable pub is_arrow : ℕ → ℕ → Bool
is_arrow a b = eqb a (byte "-") && eqb b (byte ">")

-- An operator or a syntactic character: a is the first byte, b the next, 0 where there is none. Two bytes come before one. Any other
-- byte, and & or | alone, begins no token: code 3.
unfoldable pub mark_lexeme : ℕ → ℕ → Lexeme
mark_lexeme a b =
    cond (is_pair a b) (Token Kind.operator 2)
    (cond (is_arrow a b) (Token Kind.syntactic 2)
    (cond (eqb (class_of a) Class.operator) (Token Kind.operator 1)
    (cond (eqb (class_of a) Class.syntactic) (Token Kind.syntactic 1) (Fault Code.no_token))))

-- what stands at the front of a text that begins with neither white space nor a comment
unfoldable pub lexeme : List ℕ → Lexeme
lexeme [] = Fault Code.no_token
lexeme (x ∷ s) =
    let number = number_lexeme (x ∷ s) in
    let a_word = word_lexeme (x ∷ s) in
    let string = string_lexeme x s in
    let mark = mark_lexeme x (get_or s 0 0) in
    cond (eqb (class_of x) Class.digit) number (cond (eqb (class_of x) Class.letter) a_word (cond (eqb (class_of x) Class.quote) string mark))
