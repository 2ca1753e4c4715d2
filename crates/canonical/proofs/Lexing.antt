-- A text of pieces is lexed back to their tokens where the lexer finds each piece before those that follow it (`lex-again`), which stand in
-- their places whatever their number (`chain-placed`); and it finds each sort of piece of canonical text: words, numbers, strings, marks.
use mathlib.Core.Path.{◌≡◌, refl, sym, ap, ◌∙◌}
use mathlib.Core.Bool.{Bool, true, false, and-false}
use mathlib.Core.List.{List, [], ◌∷◌, ◌++◌, append_assoc}
use Prim.Native.Nat.{ℕ, suc, ◌+◌, ◌≤◌, ◌<◌}
use native.Mathlib.Omega.{arith}
use lib.Dec.{eqb, ltb}
use lib.ListN.{length, take, drop, length-append}
use lib.Seq.{take-append_seam, drop-append_seam, drop-drop, get_or-append_seam}
use borrow.Author.Tests.{lt-ltb, ltb-true, le-leb, eq-eqb}
use Rattle.lexis.specs.Sizes.{max_name, max_string, max_tokens, mantissa_end}
use Rattle.lexis.specs.Code as Code
use Rattle.lexis.specs.Ascii.{ascii, byte}
use Rattle.lexis.specs.Class as Class
use Rattle.lexis.specs.Kind as Kind
use Rattle.lexis.specs.Bytes.{class_of, is_name_part, is_content, span_len, gap_from, gap_len}
use Rattle.lexis.specs.Words.{kind_of_word}
use Rattle.lexis.specs.Number.{Reduced, parts_of, frac_len, exp_len, sign_len, is_e, in_range, reduced_of, written_of, minus_of, is_small, is_near, strip, value_from}
use Rattle.lexis.specs.Number.{sticks}
use Rattle.lexis.specs.Lexeme.{number_lexeme, word_lexeme, string_lexeme, mark_lexeme, is_pair, is_arrow, takes_equal, lexeme}
use Rattle.lexis.specs.Lexer.{accepted, refused, prepend, lex_from, Placed}
use Rattle.lexis.specs.Lexer.{none as no-token, next as token}
use Rattle.lexis.specs.Lexeme.{Lexeme}
use Rattle.lexis.specs.Lexeme.Lexeme.{Token}
use Rattle.lexis.proofs.Lexer.{lex-nil, lex-gap, lex-token}
use Rattle.lexis.proofs.Marks.{mark-alone, mark-equal}
use Rattle.writing.specs.Spelling.{decimal, spell_exponent, spell_number, quoted}
use Rattle.writing.specs.Pieces.{Piece, text, tokens_at}
use Rattle.writing.specs.Fit.{All, none, more, IsWord, IsNumber}
use Rattle.writing.proofs.Runs.{next, span-again, differs}
use Rattle.canonical.proofs.Digits.{IsDigits, some-digits, are-digits}
use Rattle.canonical.proofs.Numbers.{Apart, number-again, whole_again}

-- ---- chains of pieces

abbrev pub is_space : ℕ → Bool
is_space b = eqb (class_of b) Class.space

-- the lexer finds the piece where r follows it
pub record Lexes (p : Piece) (r : List ℕ) : Type 0 where
  pub some : 0 < length p.bytes
  pub solid : gap_len (p.bytes ++ (p.space ++ r)) ≡ 0
  pub found : lexeme (p.bytes ++ (p.space ++ r)) ≡ Token p.kind (length p.bytes)
  pub spaces : All is_space p.space

-- it finds each piece before those that follow it
pub data Chain : List Piece → Type 0 where
  nil : Chain []
  link : {p : Piece} {ps : List Piece} → Lexes p (text ps) → Chain ps → Chain (p ∷ ps)

-- a chain begins with no gap, so that white space before it is a gap of its length
chain-solid : {ps : List Piece} → Chain ps → gap_len (text ps) ≡ 0
unfolding text gap_from
chain-solid nil = refl
chain-solid (link l c) = l.solid

space-gap : {s : List ℕ} (r : List ℕ) → All is_space s → gap_len r ≡ 0 → gap_len (s ++ r) ≡ length s
unfolding gap_from
space-gap r none h = h
space-gap r (more y a) h = simp (y, space-gap r a h)

lex-space : {s : List ℕ} (r : List ℕ) (n at : ℕ) → All is_space s → gap_len r ≡ 0 → lex_from 0 n at (s ++ r) ≡ lex_from 0 n (at + length s) r
lex-space {s} r n at a h = lex-gap n at (s ++ r) ∙ rw (space-gap r a h, drop-append_seam)

lex-piece : {p : Piece} {r : List ℕ} (n at : ℕ) → Lexes p r → n < max_tokens → gap_len r ≡ 0
    → lex_from 0 n at (p.bytes ++ (p.space ++ r)) ≡ prepend (record { kind = p.kind; start = at; bytes = p.bytes })
    (lex_from 0 (suc n) (at + length p.bytes + length p.space) r)
lex-piece {p} {r} n at l h z =
    lex-token n at (p.bytes ++ (p.space ++ r)) (simp length-append (omega (arith, l.some))) l.solid
    ∙ simp (l.found, lt-ltb n max_tokens h, take-append_seam, drop-append_seam, lex-space r (suc n) (at + length p.bytes) l.spaces z)

pub lex-again : {ps : List Piece} (n at : ℕ) → Chain ps → n + length ps ≤ max_tokens → lex_from 0 n at (text ps) ≡ accepted (tokens_at at ps)
unfolding text tokens_at
lex-again n at nil h = lex-nil 0 n at
lex-again n at (link {p} l c) h =
    lex-piece n at l (omega arith) (chain-solid c) ∙ simp (lex-again (suc n) (at + length p.bytes + length p.space) c (omega arith))

-- the tokens of a chain stand in their places, however many they are: at `at` of the whole text stand white space and the chain
pub chain-placed : (whole : List ℕ) (at : ℕ) {s : List ℕ} {ps : List Piece} → All is_space s → Chain ps → drop at whole ≡ s ++ text ps
    → at + length s + length (text ps) ≡ length whole → Placed whole at (tokens_at (at + length s) ps)
unfolding text tokens_at
chain-placed whole at a nil e n = no-token {at = at} (omega (arith, n, ap gap_len e ∙ space-gap (text []) a (chain-solid nil)))
chain-placed whole at {s} a (link {p} {ps} l c) e n =
    let t = at + length s in
    let r = p.bytes ++ (p.space ++ text ps) in
    let d : drop t whole ≡ r = sym (drop-drop (length s) at whole) ∙ ap (drop (length s)) e ∙ drop-append_seam s r in
    let f : drop (t + length p.bytes) whole ≡ p.space ++ text ps =
    sym (drop-drop (length p.bytes) t whole) ∙ ap (drop (length p.bytes)) d ∙ drop-append_seam p.bytes (p.space ++ text ps) in
    let m : t + length p.bytes + length p.space + length (text ps) ≡ length whole =
    omega (arith, n, length-append p.bytes (p.space ++ text ps), length-append p.space (text ps)) in
    let i : t + length p.bytes ≤ length whole = omega (arith, m) in
    token (ap (λ (k : ℕ). at + k) (sym (ap gap_len e ∙ space-gap r a l.solid))) (ap lexeme d ∙ l.found) l.some i
    (sym (take-append_seam p.bytes (p.space ++ text ps)) ∙ ap (take (length p.bytes)) (sym d))
    (chain-placed whole (t + length p.bytes) l.spaces c f m)

-- a chain of more pieces than a text may have tokens is refused with code 8
pub lex-too-many : {ps : List Piece} (n at : ℕ) → Chain ps → n ≤ max_tokens → max_tokens < n + length ps
    → (p : ℕ) × (lex_from 0 n at (text ps) ≡ refused Code.too_many p)
unfolding text
lex-too-many n at nil l h = absurd (omega (arith, l, h))
lex-too-many n at (link {p} {ps} l c) m h =
    go (ltb n max_tokens) refl (λ k. lex-too-many (suc n) (at + length p.bytes + length p.space) c k (omega (arith, h)))
  where
    go : (b : Bool) → ltb n max_tokens ≡ b
        → (suc n ≤ max_tokens → (q : ℕ) × (lex_from 0 (suc n) (at + length p.bytes + length p.space) (text ps) ≡ refused Code.too_many q))
        → (q : ℕ) × (lex_from 0 n at (p.bytes ++ (p.space ++ text ps)) ≡ refused Code.too_many q)
    go true e r = let k = ltb-true n max_tokens e in let x = r (omega (arith, k)) in (x.0, lex-piece n at l k (chain-solid c) ∙ rw x.1)
    go false e r = (at, lex-token n at (p.bytes ++ (p.space ++ text ps)) (simp length-append (omega (arith, l.some))) l.solid ∙ simp (l.found, e))

-- ---- by the first byte

-- the first byte has class j
pub data Begins (j : ℕ) : List ℕ → Type 0 where
  begins : {c : ℕ} {s : List ℕ} → class_of c ≡ j → Begins j (c ∷ s)

pub begins-append : {j : ℕ} {s : List ℕ} (r : List ℕ) → Begins j s → Begins j (s ++ r)
begins-append r (begins h) = begins h

pub digits-begin : {s : List ℕ} → IsDigits s → Begins Class.digit s
digits-begin (some-digits h a) = begins h

pub word-begins : (w : List ℕ) → IsWord w → Begins Class.letter w
unfolding class_of
word-begins [] h = let z : ◌≡◌ {A = ℕ} Class.other Class.letter = h.first in absurd (omega arith)
word-begins (c ∷ w) h = begins h.first

module _ {l : Lexeme} where
  by_number : {s : List ℕ} → Begins Class.digit s → number_lexeme s ≡ l → lexeme s ≡ l
  unfolding lexeme
  by_number (begins h) e = rw h e

  by_word : {s : List ℕ} → Begins Class.letter s → word_lexeme s ≡ l → lexeme s ≡ l
  unfolding lexeme
  by_word (begins h) e = rw h e

  by-string : (q : ℕ) (s : List ℕ) → class_of q ≡ Class.quote → string_lexeme q s ≡ l → lexeme (q ∷ s) ≡ l
  unfolding lexeme
  by-string q s h e = rw h e

  by-mark : (a : ℕ) (s : List ℕ) → class_of a ≡ Class.syntactic → mark_lexeme a (next s) ≡ l → lexeme (a ∷ s) ≡ l
  unfolding lexeme
  by-mark a s h e = rw h e

-- a piece whose first byte begins no gap
lexes : {j k : ℕ} {b : List ℕ} (sp r : List ℕ) → Begins j b → eqb j Class.space ≡ false → eqb j Class.comment ≡ false → All is_space sp
    → lexeme (b ++ (sp ++ r)) ≡ Token k (length b) → Lexes (record { kind = k; bytes = b; space = sp }) r
unfolding gap_from
lexes sp r (begins h) s c a found = record { some = omega arith; solid = rw (h, s, c); found = found; spaces = a }

-- ---- each sort of piece

-- a name, keyword or truth value
word-again : (w r : List ℕ) → IsWord w → Apart (next r) → word_lexeme (w ++ r) ≡ Token (kind_of_word w) (length w)
unfolding word_lexeme
word-again w r h end =
    let part : is_name_part (next r) ≡ false = rw end.letter end.digit in
    simp (span-again is_name_part r h.parts part, le-leb (length w) max_name h.short, take-append_seam)

pub word-lexes : {k : ℕ} (w sp r : List ℕ) → IsWord w → kind_of_word w ≡ k → All is_space sp → Apart (next (sp ++ r))
    → Lexes (record { kind = k; bytes = w; space = sp }) r
word-lexes w sp r h e a end =
    let first = word-begins w h in
    lexes sp r first refl refl a (by_word (begins-append (sp ++ r) first) (rw (← e) (word-again w (sp ++ r) h end)))

pub whole-lexes : (n : ℕ) (r : List ℕ) → n < mantissa_end → Apart (next r) → Lexes (record { kind = Kind.whole; bytes = decimal n; space = [] }) r
whole-lexes n r h end =
    let first = digits-begin (are-digits n) in
    lexes [] r first refl refl none (by_number (begins-append r first) (whole_again r end n h))

pub number-begins : (n : Reduced) → Begins Class.digit (spell_number n)
unfolding spell_number
number-begins n = begins-append (byte "e" ∷ spell_exponent n.exponent) (digits-begin (are-digits n.mantissa))

pub number-lexes : (n : Reduced) (r : List ℕ) → IsNumber n → Apart (next r) → Lexes (record { kind = Kind.real; bytes = spell_number n; space = [] }) r
number-lexes n r h end = lexes [] r (number-begins n) refl refl none (by_number (begins-append r (number-begins n)) (number-again r end n h))

-- a string between quotes q
string-again : (q : ℕ) (s r : List ℕ) → is_content q q ≡ false → All (is_content q) s → length s ≤ max_string
    → string_lexeme q (s ++ q ∷ r) ≡ Token Kind.string (length s + 2)
unfolding string_lexeme
string-again q s r h a short = simp (span-again (is_content q) (q ∷ r) a h, get_or-append_seam, eq-eqb q q refl, le-leb (length s) max_string short)

pub string-lexes : (q : ℕ) (s r : List ℕ) → class_of q ≡ Class.quote → is_content q q ≡ false → All (is_content q) s → length s ≤ max_string
    → Lexes (record { kind = Kind.string; bytes = quoted q s; space = [] }) r
string-lexes q s r c h a short =
    let len : length s + 2 ≡ length (quoted q s) = rw length-append (omega arith) in
    lexes [] r (begins c) refl refl none (by-string q ((s ++ (q ∷ [])) ++ r) c (rw (append_assoc, ← len) (string-again q s r h a short)))

-- a mark of one byte that begins no longer one
pub mark-lexes : (a : ℕ) (sp r : List ℕ) → class_of a ≡ Class.syntactic → (a ≡ byte "=" → ⊥) → All is_space sp
    → Lexes (record { kind = Kind.syntactic; bytes = a ∷ []; space = sp }) r
mark-lexes a sp r c n s = lexes sp r (begins c) refl refl s (by-mark a (sp ++ r) c (sym (mark-alone Class.syntactic a (next (sp ++ r)) (sym c) refl n)))

pub equals-lexes : (r : List ℕ) → (next r ≡ byte "=" → ⊥) → Lexes (record { kind = Kind.syntactic; bytes = ascii "="; space = [] }) r
unfolding class_of
equals-lexes r n = lexes [] r (begins refl) refl refl none (by-mark (byte "=") r refl (sym (mark-equal Class.syntactic (byte "=") (next r) refl refl n)))

pub arrow-lexes : (r : List ℕ) → Lexes (record { kind = Kind.syntactic; bytes = ascii "->"; space = [] }) r
unfolding class_of lexeme mark_lexeme is_pair is_arrow takes_equal
arrow-lexes r = lexes [] r (begins refl) refl refl none refl

-- a sign before a digit
pub sign-lexes : {r : List ℕ} → Begins Class.digit r → Lexes (record { kind = Kind.operator; bytes = ascii "-"; space = [] }) r
unfolding class_of lexeme mark_lexeme is_pair is_arrow takes_equal
sign-lexes (begins {c} {s} h) =
    lexes [] (c ∷ s) (begins refl) refl refl none
    (simp (and-false (eqb c (byte "=")), differs class_of (byte ">") c Class.operator Class.digit refl h (λ z. omega arith)))

-- `1.0` before a line feed
pub version-lexes : (r : List ℕ) → Lexes (record { kind = Kind.real; bytes = ascii "1.0"; space = 10 ∷ [] }) r
unfolding class_of lexeme number_lexeme parts_of frac_len exp_len sign_len is_e span_len in_range reduced_of written_of minus_of is_small is_near strip value_from sticks
version-lexes r = lexes (10 ∷ []) r (begins refl) refl refl (more refl none) refl
