-- The layout of canonical text, as pieces, from a plan and the operation list alone. Every definition gives the pieces of its part, and
-- the pieces r after them.
use Rattle.std.specs.Prelude.{ℕ, List, [], ◌∷◌, ℤ, pos, negsuc, nat_abs}
use Rattle.std.proofs.Math.Option.{Option, some, none as nothing}
use Rattle.lexis.specs.Ascii.{ascii}
use Rattle.lexis.specs.Kind as Kind
use Rattle.lexis.specs.Number.{Reduced}
use Rattle.syntax.specs.Tree.{Param, Header}
use Rattle.lists.specs.Reading.{SignedNumber, Val, Vals, v_name, v_number, v_extent, v_string, v_logical, v_array, v_tuple, no-val, a-val}
use Rattle.lists.specs.Found.{operation_of}
use Rattle.writing.specs.Plan.{PlanCall, Plan}
use Rattle.writing.specs.Spelling.{decimal, spell_number, spell_string, spell_truth}
use Rattle.writing.specs.Pieces.{Piece, text}

-- ---- one piece: without white space after it, before a space, before a line feed

abbrev pub piece : ℕ → List ℕ → Piece
piece k w = record { kind = k; bytes = w; space = [] }

abbrev pub spaced : ℕ → List ℕ → Piece
spaced k w = record { kind = k; bytes = w; space = 32 ∷ [] }

abbrev pub lined : ℕ → List ℕ → Piece
lined k w = record { kind = k; bytes = w; space = 10 ∷ [] }

abbrev pub name_piece : List ℕ → Piece
name_piece w = piece Kind.name w

-- a syntactic character
abbrev pub mark : List ℕ → Piece
mark w = piece Kind.syntactic w

-- ---- values

-- the sign of a negative number (`negsuc n` is the number -1 - n); any other has none
unfoldable pub sign_pieces : ℤ → List Piece → List Piece
sign_pieces (pos n) r = r
sign_pieces (negsuc n) r = piece Kind.operator (ascii "-") ∷ r

-- a number without its sign
abbrev pub unsigned_of : SignedNumber → Reduced
unsigned_of n = record { mantissa = nat_abs n.mantissa; exponent = n.exponent }

-- a leaf by its spelling, after its sign; the items of an array and of a tuple parted by one comma
unfoldable mutual
  pub pieces : Val → List Piece → List Piece
  pieces (v_name w) r = name_piece w ∷ r
  pieces (v_number n) r = sign_pieces n.mantissa (piece Kind.real (spell_number (unsigned_of n)) ∷ r)
  pieces (v_extent z) r = sign_pieces z (piece Kind.whole (decimal (nat_abs z)) ∷ r)
  pieces (v_string s) r = piece Kind.string (spell_string s) ∷ r
  pieces (v_logical b) r = piece Kind.truth (spell_truth b) ∷ r
  pieces (v_array vs) r = mark (ascii "[") ∷ items vs (mark (ascii "]") ∷ r)
  pieces (v_tuple vs) r = mark (ascii "(") ∷ items vs (mark (ascii ")") ∷ r)

  pub items : Vals → List Piece → List Piece
  items no-val r = r
  items (a-val v vs) r = pieces v (more_items vs r)

  -- the items after the first, each after its comma
  pub more_items : Vals → List Piece → List Piece
  more_items no-val r = r
  more_items (a-val v vs) r = mark (ascii ",") ∷ pieces v (more_items vs r)

-- a left side: its top tuple is bare
unfoldable pub left_pieces : Val → List Piece → List Piece
left_pieces (v_tuple vs) r = items vs r
left_pieces (v_name w) r = pieces (v_name w) r
left_pieces (v_number n) r = pieces (v_number n) r
left_pieces (v_extent z) r = pieces (v_extent z) r
left_pieces (v_string s) r = pieces (v_string s) r
left_pieces (v_logical b) r = pieces (v_logical b) r
left_pieces (v_array vs) r = pieces (v_array vs) r

-- ---- names

-- the names after the first, each after its comma; all names
unfoldable pub more_names_pieces : List (List ℕ) → List Piece → List Piece
more_names_pieces [] r = r
more_names_pieces (w ∷ ws) r = mark (ascii ",") ∷ name_piece w ∷ more_names_pieces ws r

unfoldable pub names_pieces : List (List ℕ) → List Piece → List Piece
names_pieces [] r = r
names_pieces (w ∷ ws) r = name_piece w ∷ more_names_pieces ws r

-- ---- calls

-- an argument, with its parameter's name
abbrev pub argument_pieces : Param → Val → List Piece → List Piece
argument_pieces p v r = name_piece p.name.bytes ∷ mark (ascii "=") ∷ pieces v r

-- the arguments after the first, each after its comma; all arguments, one for each parameter in declared order
unfoldable pub more_arguments_pieces : List Param → List Val → List Piece → List Piece
more_arguments_pieces [] vs r = r
more_arguments_pieces (p ∷ ps) [] r = r
more_arguments_pieces (p ∷ ps) (v ∷ vs) r = mark (ascii ",") ∷ argument_pieces p v (more_arguments_pieces ps vs r)

unfoldable pub arguments_pieces : List Param → List Val → List Piece → List Piece
arguments_pieces [] vs r = r
arguments_pieces (p ∷ ps) [] r = r
arguments_pieces (p ∷ ps) (v ∷ vs) r = argument_pieces p v (more_arguments_pieces ps vs r)

-- the parameters of an operation that was looked up
abbrev pub params_in : Option Header → List Param
params_in nothing = []
params_in (some h) = h.params

-- the parameters of the operation of a name
abbrev pub params_of : List Header → List ℕ → List Param
params_of hs w = params_in (operation_of hs w)

-- a call, with its semicolon and a line feed
unfoldable pub call_pieces : List Header → PlanCall → List Piece → List Piece
call_pieces hs c r =
    left_pieces c.left
    (mark (ascii "=")
    ∷ name_piece c.op
    ∷ mark (ascii "(")
    ∷ arguments_pieces (params_of hs c.op) c.values
    (mark (ascii ")")
    ∷ lined Kind.syntactic (ascii ";")
    ∷ r))

unfoldable pub calls_pieces : List Header → List PlanCall → List Piece → List Piece
calls_pieces hs [] r = r
calls_pieces hs (c ∷ cs) r = call_pieces hs c (calls_pieces hs cs r)

-- ---- the whole

-- version 1.0, the graph's header, and the calls in braces, each on a line of its own
unfoldable pub document_pieces : List Header → Plan → List Piece
document_pieces hs p =
    spaced Kind.keyword (ascii "version")
    ∷ lined Kind.real (ascii "1.0")
    ∷ spaced Kind.keyword (ascii "graph")
    ∷ name_piece p.graph
    ∷ mark (ascii "(")
    ∷ names_pieces p.inputs
    (mark (ascii ")")
    ∷ mark (ascii "->")
    ∷ mark (ascii "(")
    ∷ names_pieces p.outputs
    (lined Kind.syntactic (ascii ")")
    ∷ lined Kind.syntactic (ascii "{")
    ∷ calls_pieces hs p.calls
    (lined Kind.syntactic (ascii "}")
    ∷ [])))

-- the canonical text of a plan
unfoldable pub canonical : List Header → Plan → List ℕ
canonical hs p = text (document_pieces hs p)
