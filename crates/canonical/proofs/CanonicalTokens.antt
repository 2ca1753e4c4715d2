-- The canonical text of a plan that fits is lexed to the tokens of its pieces (`lex-canonical`), which stand in their places whatever their
-- number (`placed-canonical`). In order: marks, words, values, names, arguments, left sides, calls, the document.
use mathlib.Core.Path.{◌≡◌, refl, sym, ap, ◌∙◌}
use mathlib.Core.Bool.{Bool, true, false, cond, and-true}
use mathlib.Core.List.{List, [], ◌∷◌}
use Prim.Native.Nat.{ℕ, suc, ◌≤◌, ◌<◌}
use native.Mathlib.Omega.{arith}
use lib.Dec.{eqb, leb}
use lib.IntN.{ℤ, pos, negsuc, nat_abs}
use lib.ListN.{length, take}
use borrow.Author.Tests.{eqb-false, leb-true}
use Rattle.spellings.specs.Comparison.{same_bytes}
use Rattle.lexis.specs.Sizes.{max_name, max_tokens, max_extent}
use Rattle.lexis.specs.Ascii.{ascii, byte}
use Rattle.lexis.specs.Class as Class
use Rattle.lexis.specs.Kind as Kind
use Rattle.lexis.specs.Bytes.{class_of, is_name_part, is_content, span_len}
use Rattle.lexis.specs.Words.{words, kind_in, kind_of_word}
use Rattle.lexis.specs.Number.{Reduced}
use Rattle.lexis.specs.Code as Code
use Rattle.lexis.specs.Lexer.{Token, accepted, refused, lex, Placed}
use Rattle.syntax.specs.Tree.{Ty, Tys, Param, Header}
use Rattle.syntax.specs.Grammar.{Leaves, both}
use Rattle.lists.specs.Reading.{is_extent, Val, Vals}
use Rattle.writing.specs.Plan.{Plan, PlanCall}
use Rattle.writing.specs.Spelling.{decimal, spell_number, holds_single, quote_for, spell_string, spell_truth}
use Rattle.writing.specs.Pieces.{Piece, text, tokens_at}
use Rattle.writing.specs.Layout.{piece, spaced, name_piece, mark, sign_pieces, unsigned_of, pieces, items, more_items, left_pieces, more_names_pieces}
use Rattle.writing.specs.Layout.{names_pieces, argument_pieces, more_arguments_pieces, arguments_pieces, call_pieces, calls_pieces, document_pieces, canonical}
use Rattle.writing.specs.Fit.{All, none, more, IsWord, IsName, IsNumber, IsText, Fits, fit-name, fit-number, fit-scalar, fit-extent, fit-string}
use Rattle.writing.specs.Fit.{fit-logical, fit-truth, fit-array, fit-tuple, FitsAll, all_none, all_more, FitsEach, each_none, each_more}
use Rattle.writing.proofs.Fit.{LeftFits}
use Rattle.writing.proofs.Fit.{alone, several, FitsParams, no-param, a-param, CallFits, CallsFit, one-call, more-calls, NamesFit, one_name}
use Rattle.writing.proofs.Fit.{more-names, PlanFits}
use Rattle.writing.proofs.Found.{params-found}
use Rattle.writing.proofs.Runs.{next, span-all, differs}
use Rattle.canonical.proofs.Digits.{are-digits}
use Rattle.canonical.proofs.Numbers.{Apart}
use Rattle.canonical.proofs.Lexing.{is_space, Lexes, Chain, nil, link, lex-again, chain-placed, lex-too-many, Begins, begins, begins-append, digits-begin}
use Rattle.canonical.proofs.Lexing.{word-begins, number-begins}
use Rattle.canonical.proofs.Lexing.{word-lexes, whole-lexes, number-lexes, string-lexes, mark-lexes, equals-lexes, sign-lexes, arrow-lexes}
use Rattle.canonical.proofs.Lexing.{version-lexes}

-- pieces that are lexed back, also right after a word or a number
record AfterWord (r : List Piece) : Type 0 where
  pub chain : Chain r
  pub apart : Apart (next (text r))

-- also right after an equal sign
record AfterEqual (r : List Piece) : Type 0 where
  pub chain : Chain r
  pub other : next (text r) ≡ byte "=" → ⊥

-- ---- marks

mark-apart : (a : ℕ) → class_of a ≡ Class.syntactic → Apart a
unfolding class_of
mark-apart a c = record { letter = rw c; digit = rw c; point = differs class_of (byte ".") a Class.other Class.syntactic refl c (λ z. omega arith) }

-- a mark of one byte other than the equal sign, and white space
plain : (a : ℕ) {sp : List ℕ} {r : List Piece} → class_of a ≡ Class.syntactic → eqb a (byte "=") ≡ false → All is_space sp → Chain r
    → AfterWord (record { kind = Kind.syntactic; bytes = a ∷ []; space = sp } ∷ r)
unfolding text
plain a {sp} {r} c n s k = record { chain = link (mark-lexes a sp (text r) c (eqb-false a (byte "=") n) s) k; apart = mark-apart a c }

opening : (a : ℕ) {r : List Piece} → class_of a ≡ Class.syntactic → eqb a (byte "=") ≡ false → Chain r → AfterEqual (mark (a ∷ []) ∷ r)
unfolding text
opening a c n k = record { chain = (plain a c n none k).chain; other = eqb-false a (byte "=") n }

comma : {r : List Piece} → Chain r → AfterWord (mark (ascii ",") ∷ r)
unfolding class_of
comma k = plain (byte ",") refl refl none k

equals : {r : List Piece} → AfterEqual r → AfterWord (mark (ascii "=") ∷ r)
unfolding text class_of
equals {r} a = record { chain = link (equals-lexes (text r) a.other) a.chain; apart = mark-apart (byte "=") refl }

-- ---- words and literals

leaf : {k j : ℕ} {b : List ℕ} {r : List Piece} → Begins j b → eqb j Class.syntactic ≡ false → Lexes (piece k b) (text r) → Chain r → AfterEqual (piece k b ∷ r)
unfolding text class_of
leaf {j} (begins h) n l k = record { chain = link l k; other = λ e. eqb-false j Class.syntactic n (sym h ∙ ap class_of e) }

a_word : {k : ℕ} (w : List ℕ) {r : List Piece} → IsWord w → kind_of_word w ≡ k → AfterWord r → AfterEqual (piece k w ∷ r)
a_word w {r} h e a = leaf (word-begins w h) refl (word-lexes w [] (text r) h e none a.apart) a.chain

a-name : {w : List ℕ} {r : List Piece} → IsName w → AfterWord r → AfterEqual (name_piece w ∷ r)
a-name {w} h a = a_word w h.word h.kind a

-- a word given by its bytes
is_word : (w : List ℕ) → class_of (next w) ≡ Class.letter → take (span_len is_name_part w) w ≡ w → leb (length w) max_name ≡ true → IsWord w
is_word w first parts short = record { first = first; parts = rw parts at (span-all is_name_part w); short = leb-true (length w) max_name short }

truth-word : (x : Bool) → IsWord (spell_truth x)
unfolding class_of span_len
truth-word true = is_word (spell_truth true) refl refl refl
truth-word false = is_word (spell_truth false) refl refl refl

truth-kind : (x : Bool) → kind_of_word (spell_truth x) ≡ Kind.truth
unfolding kind_in words same_bytes
truth-kind true = refl
truth-kind false = refl

a-truth : (x : Bool) {r : List Piece} → AfterWord r → AfterEqual (piece Kind.truth (spell_truth x) ∷ r)
a-truth x a = a_word (spell_truth x) (truth-word x) (truth-kind x) a

a-number : {n : Reduced} {r : List Piece} → IsNumber n → AfterWord r → AfterEqual (piece Kind.real (spell_number n) ∷ r)
a-number {n} {r} h a = leaf (number-begins n) refl (number-lexes n (text r) h a.apart) a.chain

extent-small : (z : ℤ) → is_extent z ≡ true → nat_abs z ≤ suc max_extent
unfolding is_extent
extent-small (pos n) h = omega (arith, leb-true n max_extent h)
extent-small (negsuc n) h = omega (arith, leb-true n max_extent (sym (and-true (leb n max_extent)) ∙ h))

an-extent : (z : ℤ) {r : List Piece} → is_extent z ≡ true → AfterWord r → AfterEqual (piece Kind.whole (decimal (nat_abs z)) ∷ r)
an-extent z {r} h a =
    leaf (digits-begin (are-digits (nat_abs z))) refl (whole-lexes (nat_abs z) (text r) (omega (arith, extent-small z h)) a.apart) a.chain

-- a number after its sign
signed : (z : ℤ) {k : ℕ} {b : List ℕ} {r : List Piece} → Begins Class.digit b → AfterEqual (piece k b ∷ r) → AfterEqual (sign_pieces z (piece k b ∷ r))
unfolding text sign_pieces
signed (pos n) h a = a
signed (negsuc n) {r = r} h a = record { chain = link (sign-lexes (begins-append (text r) h)) a.chain; other = λ z. omega arith }

-- either quote is of the class of quotes, and no content of its own strings
quotes : (s : List ℕ) → (class_of (quote_for s) ≡ Class.quote) × (is_content (quote_for s) (quote_for s) ≡ false)
unfolding quote_for class_of
quotes s = go (holds_single s)
  where
    go : (b : Bool)
        → (class_of (cond b (byte "\"") (byte "'")) ≡ Class.quote) × (is_content (cond b (byte "\"") (byte "'")) (cond b (byte "\"") (byte "'")) ≡ false)
    go true = (refl, refl)
    go false = (refl, refl)

a-string : {s : List ℕ} {r : List Piece} → IsText s → Chain r → AfterEqual (piece Kind.string (spell_string s) ∷ r)
unfolding spell_string
a-string {s} {r} h k = leaf (begins (quotes s).0) refl (string-lexes (quote_for s) s (text r) (quotes s).0 (quotes s).1 h.clean h.short) k

-- ---- values

mutual
  unfolding pieces items more_items class_of

  value : {m : Leaves} {b : ℕ} {u : Ty} {v : Val} {r : List Piece} → Fits m b u v → AfterWord r → AfterEqual (pieces v r)
  value (fit-name t h) a = a-name h a
  value (fit-number {n = n} t h) a = signed n.mantissa (number-begins (unsigned_of n)) (a-number h a)
  value (fit-scalar {n = n} t h) a = signed n.mantissa (number-begins (unsigned_of n)) (a-number h a)
  value (fit-extent {z = z} t h) a = signed z (digits-begin (are-digits (nat_abs z))) (an-extent z h a)
  value (fit-string t h) a = a-string h a.chain
  value (fit-logical {x} t) a = a-truth x a
  value (fit-truth {x} t) a = a-truth x a
  value (fit-array f) a = opening (byte "[") refl refl (all-items f (plain (byte "]") refl refl none a.chain))
  value (fit-tuple f g h) a = opening (byte "(") refl refl (value f (comma (value g (each_item h (plain (byte ")") refl refl none a.chain))).chain)).chain

  all-items : {m : Leaves} {b : ℕ} {u : Ty} {vs : Vals} {r : List Piece} → FitsAll m b u vs → AfterWord r → Chain (items vs r)
  all-items all_none a = a.chain
  all-items (all_more f g) a = (value f (all-more-items g a)).chain

  all-more-items : {m : Leaves} {b : ℕ} {u : Ty} {vs : Vals} {r : List Piece} → FitsAll m b u vs → AfterWord r → AfterWord (more_items vs r)
  all-more-items all_none a = a
  all-more-items (all_more f g) a = comma (value f (all-more-items g a)).chain

  each_item : {m : Leaves} {b : ℕ} {us : Tys} {vs : Vals} {r : List Piece} → FitsEach m b us vs → AfterWord r → AfterWord (more_items vs r)
  each_item each_none a = a
  each_item (each_more f g) a = comma (value f (each_item g a)).chain

-- ---- names

name-more : {ws : List (List ℕ)} {r : List Piece} → NamesFit ws → AfterWord r → AfterWord (more_names_pieces ws r)
unfolding more_names_pieces
name-more (one_name h) a = comma (a-name h a).chain
name-more (more-names h f) a = comma (a-name h (name-more f a)).chain

name-list : {ws : List (List ℕ)} {r : List Piece} → NamesFit ws → AfterWord r → Chain (names_pieces ws r)
unfolding names_pieces more_names_pieces
name-list (one_name h) a = (a-name h a).chain
name-list (more-names h f) a = (a-name h (name-more f a)).chain

-- ---- arguments

an-argument : {b : ℕ} (p : Param) {v : Val} {r : List Piece} → IsName p.name.bytes → Fits both b p.ty v → AfterWord r → Chain (argument_pieces p v r)
an-argument p h f a = (a-name h (equals (value f a))).chain

argument-more : {b : ℕ} {ps : List Param} {vs : List Val} {r : List Piece} → FitsParams b ps vs → AfterWord r → AfterWord (more_arguments_pieces ps vs r)
unfolding more_arguments_pieces
argument-more no-param a = a
argument-more (a-param {p} h f g) a = comma (an-argument p h f (argument-more g a))

argument-list : {b : ℕ} {ps : List Param} {vs : List Val} {r : List Piece} → FitsParams b ps vs → AfterWord r → Chain (arguments_pieces ps vs r)
unfolding arguments_pieces
argument-list no-param a = a.chain
argument-list (a-param {p} h f g) a = an-argument p h f (argument-more g a)

-- ---- calls

left-side : {b : ℕ} {u : Ty} {v : Val} {r : List Piece} → LeftFits b u v → AfterWord r → Chain (left_pieces v r)
unfolding left_pieces items more_items
left-side {r} (alone f bare) a = rw (bare r) (value f a).chain
left-side (several f g h) a = (value f (comma (value g (each_item h a)).chain)).chain

a_call : {hs : List Header} {c : PlanCall} {r : List Piece} → CallFits hs c → Chain r → Chain (call_pieces hs c r)
unfolding call_pieces class_of
a_call {hs} {c} f k =
    let t : Token = record { kind = Kind.name; start = 0; bytes = c.op } in
    let end = plain (byte ")") refl refl none (plain (byte ";") refl refl (more refl none) k).chain in
    rw (params-found hs t (f.found t refl))
    (left-side f.left (equals (a-name f.name (plain (byte "(") refl refl none (argument-list f.values end)))))

a_body : {hs : List Header} {cs : List PlanCall} {r : List Piece} → CallsFit hs cs → Chain r → Chain (calls_pieces hs cs r)
unfolding calls_pieces
a_body (one-call f) k = a_call f k
a_body (more-calls f g) k = a_call f (a_body g k)

-- ---- the document

-- a keyword and a space
a-keyword : (w : List ℕ) {r : List Piece} → IsWord w → kind_of_word w ≡ Kind.keyword → Chain r → Chain (spaced Kind.keyword w ∷ r)
unfolding class_of
a-keyword w {r} h e k = link (word-lexes w (32 ∷ []) (text r) h e (more refl none) (record { letter = refl; digit = refl; point = refl })) k

document-chain : {hs : List Header} {p : Plan} → PlanFits hs p → Chain (document_pieces hs p)
unfolding document_pieces class_of span_len kind_in words same_bytes
document-chain f =
    let line : All is_space (10 ∷ []) = more refl none in
    let body = plain (byte "{") refl refl line (a_body f.calls (plain (byte "}") refl refl line nil).chain) in
    let outputs = name-list f.outputs (plain (byte ")") refl refl line body.chain) in
    let results = link (arrow-lexes _) (plain (byte "(") refl refl none outputs).chain in
    let inputs = name-list f.inputs (plain (byte ")") refl refl none results) in
    let graph = a-name f.graph (plain (byte "(") refl refl none inputs) in
    a-keyword (ascii "version") (is_word (ascii "version") refl refl refl) refl
    (link (version-lexes _) (a-keyword (ascii "graph") (is_word (ascii "graph") refl refl refl) refl graph.chain))

pub lex-canonical : (hs : List Header) (p : Plan) → PlanFits hs p → length (document_pieces hs p) ≤ max_tokens
    → lex (canonical hs p) ≡ accepted (tokens_at 0 (document_pieces hs p))
unfolding canonical
lex-canonical hs p f h = lex-again 0 0 (document-chain f) (omega arith)

-- the tokens of its pieces stand in their places, however many they are
pub placed-canonical : (hs : List Header) (p : Plan) → PlanFits hs p → Placed (canonical hs p) 0 (tokens_at 0 (document_pieces hs p))
unfolding canonical
placed-canonical hs p f = chain-placed (text (document_pieces hs p)) 0 none (document-chain f) refl (omega arith)

-- where there are more pieces than a text may have tokens, it is refused with code 8
pub lex-over : (hs : List Header) (p : Plan) → PlanFits hs p → max_tokens < length (document_pieces hs p)
    → (q : ℕ) × (lex (canonical hs p) ≡ refused Code.too_many q)
unfolding canonical
lex-over hs p f h = lex-too-many 0 0 (document-chain f) (omega arith) (omega (arith, h))
