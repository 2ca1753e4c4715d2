-- Worked examples, by computation: the table of the cases P1 to P12, of signs, of orders and of names that are compared, under one statement.
use Prim.Native.Nat.{ℕ}
use Prim.Native.String.{String}
use mathlib.Core.Path.{◌≡◌, refl}
use mathlib.Core.Bool.{Bool, true, false}
use mathlib.Core.List.{List, [], ◌∷◌, map, flat_map, flatten}
use lib.IntN.{ℤ, pos}
use Rattle.spellings.specs.declared.Comparison.{Comparison}
use Rattle.spellings.specs.Comparison.{same_bytes, through_difference, pairs, told, comparison}
use Rattle.lexis.specs.Sizes.{max_brackets, work_words, call_words, wire_words}
use Rattle.lexis.specs.Ascii.{ascii}
use Rattle.lexis.specs.Code as Code
use Rattle.lexis.specs.Kind as Kind
use Rattle.lexis.specs.Bytes.{class_of, span_len, gap_from}
use Rattle.lexis.specs.Words.{words, kind_in}
use Rattle.lexis.specs.Number.{frac_len, sign_len, is_e, exp_len, parts_of, sticks, value_from, written_of, minus_of, strip, reduced_of, is_near, is_small, in_range}
use Rattle.lexis.specs.Lexeme.{number_lexeme, word_lexeme, string_lexeme, takes_equal, is_pair, is_arrow, mark_lexeme, lexeme}
use Rattle.lexis.specs.Lexer.{Token, Lexed, accepted, refused, admit, lex_from, lex}
use Rattle.lexis.specs.Answer.{answer}
use Rattle.lexis.specs.declared.Answer.{Answer}
use Rattle.lexis.specs.Symbol.{terminals, symbol_in, symbol_of, sym_of}
use Rattle.syntax.specs.Tree.{Value, Ty}
use Rattle.syntax.specs.Grammar.{literals}
use Rattle.syntax.specs.Parser as P
use Rattle.syntax.specs.Parser.{Parse}
use Rattle.syntax.specs.Parser.Parse.{ok, bad}
use Rattle.lists.specs.Fault as F
use Rattle.lists.specs.Names as N
use Rattle.lists.specs.Reading as R
use Rattle.lists.specs.ListRules as L
use Rattle.lists.specs.Found.{operation_of}
use Rattle.lists.specs.Answer.{Stage, pass, stop, list_stages}
use Rattle.documents.specs.Binding as B
use Rattle.documents.specs.Wiring as W
use Rattle.documents.specs.DocumentRules as D
use Rattle.documents.specs.Answer as A
use Rattle.documents.specs.Answer.{check_answer}
use Rattle.documents.specs.Tables as T
use Rattle.orders.specs.Order as O
use Rattle.orders.specs.Answer as J
use Rattle.orders.specs.Answer.{order_answer}
use Rattle.writing.specs.Plan as Plan
use Rattle.writing.specs.Spelling as S
use Rattle.writing.specs.Pieces as Pieces
use Rattle.writing.specs.Layout as Layout
use Rattle.canonical.specs.Answer as C
use Rattle.canonical.specs.Answer.{written}

-- ---- P1 to P12

-- what a case gives: the four numbers of check or order; the kinds of a text's tokens; the code and the position of a fault; a reduced number;
-- whether a value fits a type; the bytes that canon writes, or its refusal; the comparison of two names
pub data Outcome : Type 0 where
  numbers : Answer → Outcome
  kinds : List ℕ → Outcome
  fault : ℕ → ℕ → Outcome
  reduced : ℕ → ℤ → Outcome
  fits : Bool → Outcome
  bytes : List ℕ → Outcome
  compared : Comparison → Outcome

pub record Case : Type 0 where
  pub gives : Outcome
  pub is : Outcome

-- the tokens of a text; none of one that is refused
tokens_of : Lexed → List Token
tokens_of (accepted ts) = ts
tokens_of (refused c p) = []

checks : String → String → Answer → Case
checks list doc r =
    record {
      gives = numbers (check_answer (ascii list) (ascii doc) (record { work₁ = work_words; work₂ = work_words; calls = call_words; wires = wire_words }));
      is = numbers r;
    }

outcome : Lexed → Outcome
outcome (accepted ts) = kinds (map (λ (t : Token). t.kind) ts)
outcome (refused c p) = fault c p

lexes : String → Outcome → Case
lexes text o = record { gives = outcome (lex (ascii text)); is = o }

reduces : String → ℕ → ℤ → Case
reduces text m e = let r = reduced_of (ascii text) (parts_of (ascii text)) in record { gives = reduced r.mantissa r.exponent; is = reduced m e }

fits_parsed : Parse Value → Parse Ty → Bool
fits_parsed (ok v us) (ok u ws) = R.fits v u
fits_parsed (ok v us) (bad c ws) = false
fits_parsed (bad c us) p = false

suits : String → String → Bool → Case
suits v u b =
    record { gives = fits (fits_parsed (P.value literals max_brackets (tokens_of (lex (ascii v)))) (P.type max_brackets (tokens_of (lex (ascii u))))); is = fits b }

bytes_of : Stage (List ℕ) → Outcome
bytes_of (pass w) = bytes w
bytes_of (stop r) = numbers r

-- lent an output of so many bytes
writes : String → String → ℕ → String → Case
writes list doc n text =
    record { gives = bytes_of (written (ascii list) (ascii doc) (record { work₁ = work_words; work₂ = work_words; out = n })); is = bytes (ascii text) }

-- the pair of the layout's example, whose second call uses what the first assigns, under an order
orders : List ℕ → Answer → Case
orders ks r =
    let list = ascii "fragment external(shape: extent[]) -> (output: tensor) fragment scale(x: tensor, by: scalar = 1) -> (y: tensor)" in
    let doc = ascii "version 1.0 graph win(px) -> (out) { px = external(shape=[01,9]); out = scale(px, by=0.50) }" in
    record { gives = numbers (order_answer list doc (record { work₁ = work_words; work₂ = work_words }) ks); is = numbers r }

compares : String → String → Bool → ℕ → Case
compares a b s n = record { gives = compared (comparison (ascii a) (ascii b)); is = compared (told s n) }

pub cases : List Case
cases =
    -- P1
    checks "" "" (answer 9 2 0 0)
    -- P2
    ∷ lexes "1." (fault Code.misspelt 0)
    -- P3
    ∷ lexes "1e2" (kinds (Kind.real ∷ []))
    -- P4
    ∷ lexes "a<=b" (kinds (Kind.name ∷ Kind.operator ∷ Kind.name ∷ []))
    -- P5
    ∷ lexes "'ab" (fault Code.bad_string 0)
    -- P6
    ∷ reduces "0.0500e3" 5 (pos 1)
    -- P7
    ∷ reduces "000" 0 (pos 0)
    -- P8
    ∷ suits "2147483647" "extent" true
    ∷ suits "2147483648" "extent" false
    ∷ suits "-2147483648" "extent" true
    ∷ suits "-2147483649" "extent" false
    -- P9
    ∷ suits "[]" "extent[][]" true
    -- P10
    ∷ suits "[1,2.5]" "scalar[]" true
    ∷ suits "[1,2.5]" "extent[]" false
    -- P11
    ∷ lexes "in" (kinds (Kind.keyword ∷ []))
    ∷ lexes "in_" (kinds (Kind.name ∷ []))
    -- P12
    ∷ writes
    "fragment external(shape: extent[]) -> (output: tensor) fragment scale(x: tensor, by: scalar = 1) -> (y: tensor)"
    "version 1.0 graph win(px) -> (out) { px = external(shape=[01,9]); out = scale(px, by=0.50) }"
    88
    "version 1.0\ngraph win(px)->(out)\n{\npx=external(shape=[1,9]);\nout=scale(x=px,by=5e-1);\n}\n"
    -- signs: of a default, before a space, of zero
    ∷ writes
    "fragment external(shape: extent[]) -> (output: tensor) fragment shift(x: tensor, by: extent = -1, to: scalar[]) -> (y: tensor)"
    "version 1.0 graph win(px) -> (out) { px = external(shape=[9]); out = shift(px, to=[- 0.50, -0]) }"
    99
    "version 1.0\ngraph win(px)->(out)\n{\npx=external(shape=[9]);\nout=shift(x=px,by=-1,to=[-5e-1,0e0]);\n}\n"
    -- orders: in order; of no number; of no call; a repeat; a use before its assignment, which its first place decides
    ∷ orders (0 ∷ 1 ∷ []) (answer 0 0 0 2)
    ∷ orders [] (answer 41 0 0 0)
    ∷ orders (0 ∷ 4294967295 ∷ []) (answer 42 0 1 0)
    ∷ orders (0 ∷ 0 ∷ []) (answer 43 0 1 0)
    ∷ orders (1 ∷ 1 ∷ []) (answer 44 0 0 0)
    -- names: of unequal lengths; with unequal last bytes; with a first difference at 0, and at 3; equal; both empty; of one byte
    ∷ compares "gain" "gain_1" false 0
    ∷ compares "gain_1" "gain_2" false 1
    ∷ compares "gain_1" "main_1" false 2
    ∷ compares "gain_1" "gait_1" false 5
    ∷ compares "gain_1" "gain_1" true 6
    ∷ compares "" "" true 0
    ∷ compares "x" "y" false 1
    ∷ compares "x" "x" true 1
    ∷ []

pub right : map (λ (c : Case). c.gives) cases ≡ map (λ (c : Case). c.is) cases
unfolding flatten flat_map same_bytes through_difference pairs comparison class_of span_len gap_from words kind_in frac_len sign_len is_e exp_len parts_of sticks
    value_from written_of minus_of strip reduced_of is_near is_small in_range number_lexeme word_lexeme string_lexeme takes_equal is_pair is_arrow mark_lexeme
    lexeme admit lex_from terminals symbol_in symbol_of sym_of P.expect P.follow P.row_f P.row P.negative P.value_step P.array_items P.tuple_items P.bracketed
    P.value P.type_name P.dims P.tuple_types P.base_step P.type P.default P.param P.typed_name P.header P.operations P.argument P.left P.call P.document
    R.is_extent R.read_at R.read_all R.read_each R.fits R.all_tensor R.all_tensors R.types_of R.result_type B.leading B.named_value B.slots_from operation_of
    Plan.value_for Plan.values_for Plan.plan_call Plan.plan_calls Plan.plan_of F.before F.first N.those N.is_among N.repeats_after N.names_in N.names_of N.used
    N.all_assigned N.all_used L.list_counts L.list_repeats L.bad_defaults L.list_faults B.labels B.taken B.misplaced_from B.misnamed B.misfits B.lacked
    W.again W.unwired_after W.misfed_by W.misfed W.unmade D.bad_version D.document_counts D.graph_repeats D.undeclared D.argument_faults D.unmatched
    D.document_faults list_stages A.document_stages A.both_stages T.assigner O.needs O.stands O.all_stand O.range_faults O.repeated_call O.early_use
    O.place_faults O.faults_from O.wrong_length O.order_faults J.order_stage J.order_stages J.judged J.order_answer A.checked A.check_answer S.decimal_by
    S.decimal S.spell_exponent S.spell_number S.holds_single S.quote_for S.spell_string Pieces.text Layout.sign_pieces Layout.pieces Layout.items
    Layout.more_items Layout.left_pieces Layout.more_names_pieces Layout.names_pieces Layout.more_arguments_pieces Layout.arguments_pieces Layout.call_pieces
    Layout.calls_pieces Layout.document_pieces C.layout_of C.writing_stages C.text_stages C.written cases tokens_of checks outcome lexes reduces fits_parsed
    suits bytes_of writes orders compares
right = refl
