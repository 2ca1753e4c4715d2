-- The canonical text of a plan is a head, a line for each call, and an end. In order: pieces before others; the pieces of a plan by its
-- calls; its text.
use mathlib.Core.Path.{◌≡◌, refl, sym, ap, ◌∙◌}
use mathlib.Core.List.{List, [], ◌∷◌, ◌++◌, flat_map, append_assoc}
use Prim.Native.Nat.{ℕ}
use lib.IntN.{ℤ, pos, negsuc, nat_abs}
use Rattle.lexis.specs.Ascii.{ascii}
use Rattle.lexis.specs.Kind as Kind
use Rattle.syntax.specs.Tree.{Param, Header}
use Rattle.lists.specs.Reading.{Val, Vals, v_name, v_number, v_extent, v_string, v_logical, v_array, v_tuple, no-val, a-val}
use Rattle.writing.specs.Plan.{PlanCall, Plan}
use Rattle.writing.specs.Pieces.{Piece, text}
use Rattle.writing.specs.Spelling.{decimal, spell_number}
use Rattle.writing.specs.Layout.{piece, spaced, lined, name_piece, mark, sign_pieces, unsigned_of, pieces, items, more_items, left_pieces, more_names_pieces}
use Rattle.writing.specs.Layout.{names_pieces, argument_pieces, more_arguments_pieces, arguments_pieces, params_of, call_pieces, calls_pieces, document_pieces}
use Rattle.writing.specs.Layout.{canonical}
use Rattle.canonical.specs.Arranged.{with_calls, call_text}

-- ---- pieces before others

-- f puts pieces before those that it is given, whatever they are
abbrev Leads : (List Piece → List Piece) → Type 0
Leads f = (s r : List Piece) → f (s ++ r) ≡ f s ++ r

abbrev put : Piece → List Piece → List Piece
put p r = p ∷ r

sign-leads : (z : ℤ) → Leads (sign_pieces z)
unfolding sign_pieces
sign-leads (pos n) s r = refl
sign-leads (negsuc n) s r = refl

mutual
  unfolding pieces items more_items

  value-leads : (v : Val) → Leads (pieces v)
  value-leads (v_name w) s r = refl
  value-leads (v_number n) s r = sign-leads n.mantissa (piece Kind.real (spell_number (unsigned_of n)) ∷ s) r
  value-leads (v_extent z) s r = sign-leads z (piece Kind.whole (decimal (nat_abs z)) ∷ s) r
  value-leads (v_string w) s r = refl
  value-leads (v_logical b) s r = refl
  value-leads (v_array vs) s r = ap (put (mark (ascii "["))) (items-lead vs (mark (ascii "]") ∷ s) r)
  value-leads (v_tuple vs) s r = ap (put (mark (ascii "("))) (items-lead vs (mark (ascii ")") ∷ s) r)

  items-lead : (vs : Vals) → Leads (items vs)
  items-lead no-val s r = refl
  items-lead (a-val v vs) s r = ap (pieces v) (more-items-lead vs s r) ∙ value-leads v (more_items vs s) r

  more-items-lead : (vs : Vals) → Leads (more_items vs)
  more-items-lead no-val s r = refl
  more-items-lead (a-val v vs) s r = ap (put (mark (ascii ","))) (ap (pieces v) (more-items-lead vs s r) ∙ value-leads v (more_items vs s) r)

left-leads : (v : Val) → Leads (left_pieces v)
unfolding left_pieces
left-leads (v_tuple vs) = items-lead vs
left-leads (v_name w) = value-leads (v_name w)
left-leads (v_number n) = value-leads (v_number n)
left-leads (v_extent z) = value-leads (v_extent z)
left-leads (v_string w) = value-leads (v_string w)
left-leads (v_logical b) = value-leads (v_logical b)
left-leads (v_array vs) = value-leads (v_array vs)

more-names-lead : (ws : List (List ℕ)) → Leads (more_names_pieces ws)
unfolding more_names_pieces
more-names-lead [] s r = refl
more-names-lead (w ∷ ws) s r = ap (λ (ps : List Piece). mark (ascii ",") ∷ name_piece w ∷ ps) (more-names-lead ws s r)

names-lead : (ws : List (List ℕ)) → Leads (names_pieces ws)
unfolding names_pieces
names-lead [] s r = refl
names-lead (w ∷ ws) s r = ap (put (name_piece w)) (more-names-lead ws s r)

argument-leads : (p : Param) (v : Val) → Leads (argument_pieces p v)
argument-leads p v s r = ap (λ (ps : List Piece). name_piece p.name.bytes ∷ mark (ascii "=") ∷ ps) (value-leads v s r)

more-arguments-lead : (ps : List Param) (vs : List Val) → Leads (more_arguments_pieces ps vs)
unfolding more_arguments_pieces
more-arguments-lead [] vs s r = refl
more-arguments-lead (p ∷ ps) [] s r = refl
more-arguments-lead (p ∷ ps) (v ∷ vs) s r =
    ap (put (mark (ascii ",")))
    (ap (argument_pieces p v) (more-arguments-lead ps vs s r) ∙ argument-leads p v (more_arguments_pieces ps vs s) r)

arguments-lead : (ps : List Param) (vs : List Val) → Leads (arguments_pieces ps vs)
unfolding arguments_pieces
arguments-lead [] vs s r = refl
arguments-lead (p ∷ ps) [] s r = refl
arguments-lead (p ∷ ps) (v ∷ vs) s r =
    ap (argument_pieces p v) (more-arguments-lead ps vs s r) ∙ argument-leads p v (more_arguments_pieces ps vs s) r

call-leads : (hs : List Header) (c : PlanCall) → Leads (call_pieces hs c)
unfolding call_pieces
call-leads hs c s r =
    let end : List Piece → List Piece = λ ps. mark (ascii ")") ∷ lined Kind.syntactic (ascii ";") ∷ ps in
    let args : List Piece → List Piece = λ ps. arguments_pieces (params_of hs c.op) c.values ps in
    let call : List Piece → List Piece = λ ps. mark (ascii "=") ∷ name_piece c.op ∷ mark (ascii "(") ∷ ps in
    ap (λ (ps : List Piece). left_pieces c.left (call ps)) (arguments-lead (params_of hs c.op) c.values (end s) r)
    ∙ left-leads c.left (call (args (end s))) r

-- ---- the pieces of a plan

-- the pieces of one call
abbrev pub line_pieces : List Header → PlanCall → List Piece
line_pieces hs c = call_pieces hs c []

calls-pieces : (hs : List Header) (cs : List PlanCall) (r : List Piece) → calls_pieces hs cs r ≡ flat_map (line_pieces hs) cs ++ r
unfolding calls_pieces flat_map
calls-pieces hs [] r = refl
calls-pieces hs (c ∷ cs) r =
    ap (call_pieces hs c) (calls-pieces hs cs r)
    ∙ call-leads hs c [] (flat_map (line_pieces hs) cs ++ r)
    ∙ sym (append_assoc (line_pieces hs c) (flat_map (line_pieces hs) cs) r)

-- before the calls, and after them
unfoldable pub head_pieces : Plan → List Piece
head_pieces p =
    spaced Kind.keyword (ascii "version")
    ∷ lined Kind.real (ascii "1.0")
    ∷ spaced Kind.keyword (ascii "graph")
    ∷ name_piece p.graph
    ∷ mark (ascii "(")
    ∷ names_pieces p.inputs
    (mark (ascii ")")
    ∷ mark (ascii "->")
    ∷ mark (ascii "(")
    ∷ names_pieces p.outputs
    (lined Kind.syntactic (ascii ")")
    ∷ lined Kind.syntactic (ascii "{")
    ∷ []))

abbrev pub end_pieces : List Piece
end_pieces = lined Kind.syntactic (ascii "}") ∷ []

pub pieces-by-calls : (hs : List Header) (p : Plan) (cs : List PlanCall)
    → document_pieces hs (with_calls p cs) ≡ head_pieces p ++ (flat_map (line_pieces hs) cs ++ end_pieces)
unfolding document_pieces head_pieces
pieces-by-calls hs p cs =
    let body = flat_map (line_pieces hs) cs ++ end_pieces in
    let brace : List Piece → List Piece = λ ps. lined Kind.syntactic (ascii ")") ∷ lined Kind.syntactic (ascii "{") ∷ ps in
    let results : List Piece → List Piece = λ ps. mark (ascii ")") ∷ mark (ascii "->") ∷ mark (ascii "(") ∷ names_pieces p.outputs ps in
    let start : List Piece → List Piece = λ ps.
    spaced Kind.keyword (ascii "version")
    ∷ lined Kind.real (ascii "1.0")
    ∷ spaced Kind.keyword (ascii "graph")
    ∷ name_piece p.graph
    ∷ mark (ascii "(")
    ∷ ps in
    ap (λ (ps : List Piece). start (names_pieces p.inputs (results (brace ps)))) (calls-pieces hs cs end_pieces)
    ∙ ap (λ (ps : List Piece). start (names_pieces p.inputs (mark (ascii ")") ∷ mark (ascii "->") ∷ mark (ascii "(") ∷ ps)))
    (names-lead p.outputs (brace []) body)
    ∙ ap start (names-lead p.inputs (results (brace [])) body)

-- ---- its text

text-append : (ps qs : List Piece) → text (ps ++ qs) ≡ text ps ++ text qs
unfolding text
text-append [] qs = refl
text-append (p ∷ ps) qs =
    ap (λ (s : List ℕ). p.bytes ++ (p.space ++ s)) (text-append ps qs)
    ∙ sym (append_assoc p.bytes (p.space ++ text ps) (text qs) ∙ ap (λ (s : List ℕ). p.bytes ++ s) (append_assoc p.space (text ps) (text qs)))

lines-text : (hs : List Header) (cs : List PlanCall) → text (flat_map (line_pieces hs) cs) ≡ flat_map (call_text hs) cs
unfolding text flat_map call_text
lines-text hs [] = refl
lines-text hs (c ∷ cs) = text-append (line_pieces hs c) (flat_map (line_pieces hs) cs) ∙ ap (λ (s : List ℕ). call_text hs c ++ s) (lines-text hs cs)

pub text-by-calls : (hs : List Header) (p : Plan)
    → (head : List ℕ) × ((cs : List PlanCall) → canonical hs (with_calls p cs) ≡ head ++ (flat_map (call_text hs) cs ++ ascii "}\n"))
unfolding canonical text
text-by-calls hs p = (
  text (head_pieces p),
  λ cs.
      let lines = flat_map (line_pieces hs) cs in
      ap text (pieces-by-calls hs p cs)
      ∙ text-append (head_pieces p) (lines ++ end_pieces)
      ∙ ap (λ (s : List ℕ). text (head_pieces p) ++ s)
      (text-append lines end_pieces ∙ ap (λ (s : List ℕ). s ++ text end_pieces) (lines-text hs cs)),
)
