-- The table of codes, one constructor for each line: its code, the text that it names, the positions that it may have, its detail.
-- `docs/RULES.md` has the same table for users.
use Rattle.std.specs.Prelude.{ℕ, ◌≤◌, ◌<◌, ◌≡◌, List, ◌∷◌, ◌⊎◌, length}
use Rattle.lexis.specs.Sizes.{max_text, max_parameters}
use Rattle.lexis.specs.Code as Bytes
use Rattle.lexis.specs.Answer.{answer}
use Rattle.lexis.specs.declared.Answer.{Answer}
use Rattle.lexis.specs.Lexer.{Token, lex}
use Rattle.lexis.specs.Lexer.{accepted as lexed}
use Rattle.syntax.specs.Code as Syntax
use Rattle.lists.specs.Code as Lists
use Rattle.documents.specs.Code as Documents
use Rattle.orders.specs.Code as Orders
use Rattle.syntax.specs.Tree.{Header, Document}
use Rattle.lists.specs.Accepted.{AcceptedList, StartsToken}
use Rattle.documents.specs.Accepted.{AcceptedDocument}
use Rattle.canonical.specs.Code as Writing
use Rattle.writing.specs.Plan.{Plan}
use Rattle.writing.specs.Layout.{canonical}
use Rattle.canonical.specs.Demand.{HasPlan}

-- the texts that an operation is lent: the operation list, or the sole text, is number 1, the document number 2
pub data TextOf : List (List ℕ) → ℕ → List ℕ → Type 0 where
  first-text : {text : List ℕ} {more : List (List ℕ)} → TextOf (text ∷ more) 1 text
  second-text : {other text : List ℕ} {more : List (List ℕ)} → TextOf (other ∷ text ∷ more) 2 text

-- the positions of a line: a byte of the text; where one of its tokens starts; that, or its end
abbrev pub AByte : List ℕ → ℕ → Type 0
AByte text p = p < length text

abbrev pub AToken : List ℕ → ℕ → Type 0
AToken text p = StartsToken text p

abbrev pub ATokenOrEnd : List ℕ → ℕ → Type 0
ATokenOrEnd text p = StartsToken text p ⊎ (p ≡ length text)

-- An answer about these texts. `Count` says what acceptance counts. `Length` says how long a canonical text of them is: an operation that
-- writes none has no such length, and so neither of the lines 25 and 26. `Order` says which order is lent: an operation that takes none has
-- none of the lines 41 to 44.
pub data InTable (texts : List (List ℕ)) (Count Length : ℕ → Type 0) (Order : List ℕ → Type 0) : Answer → Type 0 where
  -- 0: acceptance, with its count
  accepted : {n : ℕ} → Count n → InTable texts Count Length Order (answer Bytes.accepted 0 0 n)
  -- 1: a lent table or work area is too short
  short-room : InTable texts Count Length Order (answer Bytes.short_room 0 0 0)
  -- 2: a text is too long; the position is the first byte beyond
  long-text : {n : ℕ} {text : List ℕ} → TextOf texts n text → max_text < length text → InTable texts Count Length Order (answer Bytes.long_text n max_text 0)
  -- 3: a byte begins no token
  no-token : {n p : ℕ} {text : List ℕ} → TextOf texts n text → AByte text p → InTable texts Count Length Order (answer Bytes.no_token n p 0)
  -- 4: a number is misspelt
  misspelt : {n p : ℕ} {text : List ℕ} → TextOf texts n text → AByte text p → InTable texts Count Length Order (answer Bytes.misspelt n p 0)
  -- 5: a string is unclosed, or holds a byte outside 32 to 126
  bad-string : {n p : ℕ} {text : List ℕ} → TextOf texts n text → AByte text p → InTable texts Count Length Order (answer Bytes.bad_string n p 0)
  -- 6: a name, string or number is too long
  too_long : {n p : ℕ} {text : List ℕ} → TextOf texts n text → AByte text p → InTable texts Count Length Order (answer Bytes.too_long n p 0)
  -- 7: a number is out of range
  out_of_range : {n p : ℕ} {text : List ℕ} → TextOf texts n text → AByte text p → InTable texts Count Length Order (answer Bytes.out_of_range n p 0)
  -- 8: there are too many tokens
  too_many : {n p : ℕ} {text : List ℕ} → TextOf texts n text → AByte text p → InTable texts Count Length Order (answer Bytes.too_many n p 0)
  -- 9: no valid text has this token here, or ends here
  syntax : {n p : ℕ} {text : List ℕ} → TextOf texts n text → ATokenOrEnd text p → InTable texts Count Length Order (answer Syntax.syntax n p 0)
  -- 10: a ninth bracket is opened
  bracket : {n p : ℕ} {text : List ℕ} → TextOf texts n text → AToken text p → InTable texts Count Length Order (answer Syntax.bracket n p 0)
  -- 11: the version is not spelt `1.0`
  wrong-version : {p : ℕ} {text : List ℕ} → TextOf texts 2 text → AToken text p → InTable texts Count Length Order (answer Documents.wrong_version 2 p 0)
  -- 12: a count is above its size
  over-size : {n p : ℕ} {text : List ℕ} → TextOf texts n text → AToken text p → InTable texts Count Length Order (answer Lists.over_size n p 0)
  -- 13: a name is repeated
  repeated-name : {n p : ℕ} {text : List ℕ} → TextOf texts n text → AToken text p → InTable texts Count Length Order (answer Lists.repeated_name n p 0)
  -- 14: a default does not fit
  bad-default : {p : ℕ} {text : List ℕ} → TextOf texts 1 text → AToken text p → InTable texts Count Length Order (answer Lists.bad_default 1 p 0)
  -- 15: an operation is not declared
  undeclared : {p : ℕ} {text : List ℕ} → TextOf texts 2 text → AToken text p → InTable texts Count Length Order (answer Documents.undeclared 2 p 0)
  -- 16: a positional argument after a named one, beyond the parameters, or for a parameter that is not all tensor
  misplaced : {p : ℕ} {text : List ℕ} → TextOf texts 2 text → AToken text p → InTable texts Count Length Order (answer Documents.misplaced 2 p 0)
  -- 17: a named argument is unknown or already bound
  misnamed : {p : ℕ} {text : List ℕ} → TextOf texts 2 text → AToken text p → InTable texts Count Length Order (answer Documents.misnamed 2 p 0)
  -- 18: a bound argument does not fit
  misfit : {p : ℕ} {text : List ℕ} → TextOf texts 2 text → AToken text p → InTable texts Count Length Order (answer Documents.misfit 2 p 0)
  -- 19: a parameter without default is not bound; the detail is its index, from 0
  unbound : {p k : ℕ} {text : List ℕ} → TextOf texts 2 text → AToken text p → k < max_parameters
      → InTable texts Count Length Order (answer Documents.unbound 2 p k)
  -- 20: a left side does not match the results
  unmatched : {p : ℕ} {text : List ℕ} → TextOf texts 2 text → AToken text p → InTable texts Count Length Order (answer Documents.unmatched 2 p 0)
  -- 21: an identifier is assigned again
  assigned-again : {p : ℕ} {text : List ℕ} → TextOf texts 2 text → AToken text p → InTable texts Count Length Order (answer Documents.assigned_again 2 p 0)
  -- 22: an identifier is used, and not assigned by an earlier call
  unassigned-use : {p : ℕ} {text : List ℕ} → TextOf texts 2 text → AToken text p → InTable texts Count Length Order (answer Documents.unassigned_use 2 p 0)
  -- 23: an input is not assigned by `external`, or another identifier is
  misfed : {p : ℕ} {text : List ℕ} → TextOf texts 2 text → AToken text p → InTable texts Count Length Order (answer Documents.misfed 2 p 0)
  -- 24: an output is never assigned
  unassigned-output : {p : ℕ} {text : List ℕ} → TextOf texts 2 text → AToken text p → InTable texts Count Length Order (answer Documents.unassigned_output 2 p 0)
  -- 25: the canonical text has too many bytes or tokens
  over-limits : {n : ℕ} → Length n → InTable texts Count Length Order (answer Writing.over_limits 0 0 0)
  -- 26: the output is shorter than the canonical text, which has so many bytes
  short-output : {n : ℕ} → Length n → n ≤ max_text → InTable texts Count Length Order (answer Writing.short_output 0 0 n)
  -- 41: an order has not as many numbers as there are calls
  wrong-length : {ks : List ℕ} → Order ks → InTable texts Count Length Order (answer Orders.wrong_length 0 0 0)
  -- 42: a number of it is that of no call; the position is its place
  no_call : {p : ℕ} {ks : List ℕ} → Order ks → p < length ks → InTable texts Count Length Order (answer Orders.out_of_range 0 p 0)
  -- 43: a number of it stands at an earlier place too
  repeated-call : {p : ℕ} {ks : List ℕ} → Order ks → p < length ks → InTable texts Count Length Order (answer Orders.repeated_call 0 p 0)
  -- 44: a call uses an identifier whose assigning call stands at no earlier place
  early-use : {p : ℕ} {ks : List ℕ} → Order ks → p < length ks → InTable texts Count Length Order (answer Orders.early_use 0 p 0)

-- ---- what the operations count

-- the tokens of a text
abbrev pub TokenCount : List ℕ → ℕ → Type 0
TokenCount text n = (ts : List Token) × ((lex text ≡ lexed ts) × (n ≡ length ts))

-- the operations of an accepted list
abbrev pub OperationCount : List ℕ → ℕ → Type 0
OperationCount list n = (hs : List Header) × (AcceptedList list hs × (n ≡ length hs))

-- the calls of a document that is accepted under an accepted list
abbrev pub CallCount : List ℕ → List ℕ → ℕ → Type 0
CallCount list doc n = (hs : List Header) × ((d : Document) × (AcceptedList list hs × (AcceptedDocument hs doc d × (n ≡ length d.calls))))

-- the bytes of the canonical text of a document that is accepted under an accepted list
abbrev pub CanonicalLength : List ℕ → List ℕ → ℕ → Type 0
CanonicalLength list doc n = (hs : List Header) × ((p : Plan) × (AcceptedList list hs × (HasPlan hs doc p × (n ≡ length (canonical hs p)))))

-- no canonical text, and no order; this order
abbrev pub NoText : ℕ → Type 0
NoText n = ⊥

abbrev pub NoOrder : List ℕ → Type 0
NoOrder ks = ⊥

abbrev pub TheOrder : List ℕ → List ℕ → Type 0
TheOrder ks js = js ≡ ks
