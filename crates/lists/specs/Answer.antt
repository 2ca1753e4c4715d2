-- Stages and guards, of which every operation on a list or a document is made; what `declarations` answers, and lent words afterwards.
use Rattle.std.specs.Prelude.{ℕ, List, Bool, true, false, cond, ◌||◌, leb, eqb, length, replicate}
use Rattle.std.proofs.Math.Option.{Option, some, none as nothing}
use Rattle.std.proofs.lemmas.List.Edits.{sets}
use Rattle.lexis.specs.Sizes.{max_text, work_words}
use Rattle.lexis.specs.Lexer.{Token, Lexed, accepted, refused, lex}
use Rattle.lexis.specs.Code as Code
use Rattle.lexis.specs.Answer.{answer}
use Rattle.lexis.specs.declared.Answer.{Answer}
use Rattle.syntax.specs.Tree.{Header}
use Rattle.syntax.specs.Parser.{Parse, parse_list}
use Rattle.syntax.specs.Parser.Parse.{ok, bad}
use Rattle.syntax.specs.Table.{place_of}
use Rattle.lists.specs.Fault.{Fault, first}
use Rattle.lists.specs.ListRules.{list_faults}

-- ---- stages

-- what a stage comes to: something for the next one, or a refusal
pub data Stage (A : Type 0) : Type 0 where
  pass : A → Stage A
  stop : Answer → Stage A

abbrev pub and_then : {A B : Type 0} → Stage A → (A → Stage B) → Stage B
and_then (pass a) k = k a
and_then (stop r) k = stop r

abbrev pub guard : {A : Type 0} → Bool → Answer → Stage A → Stage A
guard true r s = s
guard false r s = stop r

-- of text n (1 the list, 2 the document): its bytes, codes 3 to 8; its syntax, codes 9 and 10; its rules, codes 11 to 24
abbrev pub bytes_stage : ℕ → Lexed → Stage (List Token)
bytes_stage n (accepted ts) = pass ts
bytes_stage n (refused c p) = stop (answer c n p 0)

abbrev pub syntax_stage : {A : Type 0} → ℕ → List ℕ → Parse A → Stage A
syntax_stage n text (ok a ts) = pass a
syntax_stage n text (bad c ts) = stop (answer c n (place_of (length text) ts) 0)

abbrev pub rules_stage : {A : Type 0} → ℕ → A → Option Fault → Stage A
rules_stage n a nothing = pass a
rules_stage n a (some x) = stop (answer x.code n x.at x.detail)

-- the three stages of a list
unfoldable pub list_stages : List ℕ → Stage (List Header)
list_stages list =
    and_then (bytes_stage 1 (lex list)) (λ ts.
    and_then (syntax_stage 1 list (parse_list ts)) (λ hs.
    rules_stage 1 hs (first (list_faults hs))))

-- ---- guards: the refusals that write nothing

-- code 1: too little room is lent
abbrev pub roomy : {A : Type 0} → Bool → Stage A → Stage A
roomy b s = guard b (answer Code.short_room 0 0 0) s

-- code 2: the text of this number is too long
abbrev pub short : {A : Type 0} → ℕ → List ℕ → Stage A → Stage A
short n text s = guard (leb (length text) max_text) (answer Code.long_text n max_text 0) s

-- the guards before the stages of both texts: the room, then the list, then the document
abbrev pub guarded : {A : Type 0} → Bool → List ℕ → List ℕ → Stage A → Stage A
guarded b list doc s = roomy b (short 1 list (short 2 doc s))

-- the answer of stages: acceptance is 0, 0, 0 and a count
abbrev pub stage_answer : {A : Type 0} → Stage A → (A → ℕ) → Answer
stage_answer (pass a) n = answer Code.accepted 0 0 (n a)
stage_answer (stop r) n = r

-- ---- declarations: from a list and the length of its work area

unfoldable pub declared : List ℕ → ℕ → Stage (List Header)
declared list work = roomy (leb work_words work) (short 1 list (list_stages list))

-- acceptance counts operations
unfoldable pub declarations_answer : List ℕ → ℕ → Answer
declarations_answer list work = stage_answer (declared list work) length

-- ---- lent words afterwards

-- a table: what acceptance writes from its first word on; beyond that, and after a refusal, as it was
abbrev pub table_after : {A : Type 0} → Stage A → (A → List ℕ) → List ℕ → List ℕ
table_after (pass a) f table = sets table 0 (f a)
table_after (stop r) f table = table

-- a work area: after code 1 or 2 as it was, after any other answer zero over its full length
unfoldable pub work_after : Answer → List ℕ → List ℕ
work_after r work = cond (eqb r.code Code.short_room || eqb r.code Code.long_text) work (replicate (length work) 0)
