-- What the walk over the headers of an operation list cites: what it relies on, the faults in the order in which it meets them, and what it comes to: a row
-- of items judged, their records stored, their names in the index.
use Rattle.std.specs.Prelude.{ℕ, suc, ◌+◌, ◌*◌, ◌/◌, ◌<◌, ◌≤◌, ◌≡◌, Bool, eqb, length, get_or}
use mathlib.Core.List.{List, [], ◌∷◌, ◌++◌, map, flat_map}
use Rattle.std.proofs.Math.Option.{Option, none as nothing}
use Rattle.lexis.specs.Sizes.{max_text, max_tokens, max_brackets, max_operations, max_parameters, max_results}
use Rattle.lexis.specs.Lexer.{Token}
use Rattle.lexis.specs.Symbol.{right_round}
use Rattle.syntax.specs.Tree.{Value, Ty, Param, Result, Header}
use Rattle.syntax.specs.Parser.{Reader, plain, commas, row, type, default, param, typed_name, header, operations}
use Rattle.syntax.specs.Parser.Parse.{ok}
use Rattle.syntax.specs.Table.{token_at, toks}
use Rattle.syntax.specs.declared.tokens.Tokens.{Tokens}
use Rattle.index.specs.Indexed.{Walkable}
use Rattle.index.specs.Mapped.{Mapped, both}
use Rattle.lists.specs.Code as Code
use Rattle.lists.specs.Fault.{Fault, fault, earlier, first}
use Rattle.lists.specs.Best.{meant}
use Rattle.lists.specs.Names.{is_among}
use Rattle.lists.specs.Reading.{is_some}
use Rattle.lists.specs.ListRules.{bad_default}
use Rattle.lists.specs.Masks.{mask_of, is_required}
use Rattle.lists.specs.Directory.{first_parameter, operation_words, operation_word, parameter_words, DefaultAt, ParametersAt, OperationAt, OperationsAt}
use Rattle.lists.specs.Found.{found}
use Rattle.lists.specs.Lists.{header_faults, lookup_from}
use Rattle.lists.specs.Walks.{when}
use Rattle.lists.specs.declared.headers.Row.{Row}
use Rattle.lists.specs.declared.headers.Default.{Default}
use Rattle.lists.specs.declared.headers.Ruled.{Ruled}
use Rattle.lists.specs.declared.best.Best.{Best}
use Rattle.lists.specs.declared.types.TypeAt.{TypeAt}
use Rattle.lists.specs.Types.{TypeIs}
use Rattle.std.specs.Prelude.{Option as Maybe, Some, None, is_some as is_there, unwrap_or}

-- ---- what the walk relies on

-- a reader reads something at a place
pub record Reads {A : Type 0} (read : Reader A) (text table : List ℕ) (n at : ℕ) : Type 0 where
  pub tree : A
  pub left : List Token
  pub is : read (toks text table n at) ≡ ok tree left

-- parameters and results up to the closing bracket
abbrev pub param_row : Reader (List Param)
param_row = row plain (commas right_round) (param max_brackets)

abbrev pub result_row : Reader (List Result)
result_row = row plain (commas right_round) (typed_name max_brackets)

-- the words have room for the records of all operations, and for those of parameters of four tokens each
pub record Roomy (words : List ℕ) (n : ℕ) : Type 0 where
  pub room : first_parameter + n / 4 * parameter_words ≤ length words

-- the walk may go on at the place of a row: each parameter has taken four tokens, each item of the row and each of the k headers one, and the names entered
-- stand before it
pub record Ready (text index : List ℕ) (n k : ℕ) (r : Row) : Type 0 where
  pub short : length text ≤ max_text
  pub small : n ≤ max_tokens
  pub inside : r.at ≤ n
  pub few : 4 * r.params ≤ r.at
  pub counted : r.index ≤ r.at
  pub numbered : k ≤ r.at
  pub names : Walkable index r.at n

-- a row of which nothing is met yet
abbrev pub empty_row : Best → ℕ → ℕ → ℕ → Row
empty_row best at params required = record { best = best; at = at; index = 0; params = params; required = required }

-- a row one place on
abbrev pub onward_row : Row → Row
onward_row r = record { best = r.best; at = r.at + 1; index = r.index; params = r.params; required = r.required }

-- ---- faults

-- how the items of a row are judged: their size, where the first beyond it has its fault, their names, and their own faults
pub record Judge (A : Type 0) : Type 0 where
  pub size : ℕ
  pub place : A → ℕ
  pub name_of : A → Token
  pub own : A → List Fault

-- the faults of an item after the names ss of its row and the names qs before the row: 12, 13, and its own
abbrev pub item_faults : {A : Type 0} → Judge A → List Token → List Token → A → List Fault
item_faults j qs ss x =
    when (eqb (length ss) j.size) (fault Code.over_size (j.place x))
    ++ (when (is_among (qs ++ ss) (j.name_of x)) (fault Code.repeated_name (j.name_of x).start) ++ j.own x)

-- those of a row
unfoldable pub row_faults : {A : Type 0} → Judge A → List Token → List Token → List A → List Fault
row_faults j qs ss [] = []
row_faults j qs ss (x ∷ xs) = item_faults j qs ss x ++ row_faults j qs (ss ++ (j.name_of x ∷ [])) xs

-- parameters, 14 being their own fault; results; headers, 12 being at the word `fragment`
abbrev pub of_params : Judge Param
of_params = record { size = max_parameters; place = λ p. p.name.start; name_of = λ p. p.name; own = λ p. bad_default p.ty p.default }

abbrev pub of_results : Judge Result
of_results = record { size = max_results; place = λ r. r.name.start; name_of = λ r. r.name; own = λ r. [] }

abbrev pub of_headers : Judge Header
of_headers = record { size = max_operations; place = λ h. h.keyword.start; name_of = λ h. h.name; own = header_faults }

-- ---- names

-- a number for what a look-up answers, counted from 1
abbrev pub lookup_number : Maybe ℕ → ℕ
lookup_number (Some k) = suc k
lookup_number None = 0

-- an index of names that stand before a place: the number of a name is that of the first of the operations named so, its mark is that of a header up to k
pub record Numbered (text table index : List ℕ) (at k : ℕ) (ops : List Token) : Type 0 where
  pub below : ℕ
  pub low : below ≤ at
  pub number : List ℕ → ℕ
  pub mark : List ℕ → ℕ
  pub mapped : Mapped text table index below (both number mark)
  pub numbered : (t : Token) → number t.bytes ≡ lookup_number (lookup_from 0 ops t)
  pub older : (w : List ℕ) → mark w ≤ k

-- r is the number of the operation of a list that a token names, by an index of the names of all its operations
abbrev pub FindsIn : Tokens → List ℕ → Token → Maybe ℕ → Type 0
FindsIn list index t r =
    (k : ℕ) (hs : List Header) → Numbered list.text.now list.table.now index list.count k (map (λ (h : Header). h.name) hs) → r ≡ found hs t

-- and it is k for the names ss
pub record Names (text table index : List ℕ) (at k : ℕ) (ops ss : List Token) : Type 0 where
  pub all : Numbered text table index at k ops
  pub marked : (t : Token) → eqb (all.mark t.bytes) k ≡ is_among ss t

-- r says whether the name at place i is among those of header k, among which it then is
pub record Marks (text table index index' : List ℕ) (i k : ℕ) (r : Bool) : Type 0 where
  pub again : (ops ss : List Token) → Names text table index i k ops ss → r ≡ is_among ss (token_at text table i)
  pub names : (ops ss : List Token) → Names text table index i k ops ss → Names text table index' (i + 1) k ops (ss ++ (token_at text table i ∷ []))

-- r says whether the name at place i is among those of the k operations, to which it is added; the names of the next header start
pub record Numbers (text table index index' : List ℕ) (i k : ℕ) (r : Bool) : Type 0 where
  pub again : (ops : List Token) → Numbered text table index i k ops → r ≡ is_among ops (token_at text table i)
  pub names : (ops : List Token) → Numbered text table index i k ops → length ops ≡ k
      → Names text table index' (i + 1) (k + 1) (ops ++ (token_at text table i ∷ [])) []

-- ---- rows

-- what a row of items xs comes to, from one state of the walk to another, with the names of the header numbered k
pub record Judged {A : Type 0} (j : Judge A) (text table index index' : List ℕ) (k : ℕ) (r r' : Row) (xs : List A) : Type 0 where
  pub count : r'.index ≡ r.index + length xs
  pub names : (ops qs ss : List Token) → Names text table index r.at k ops (qs ++ ss) → length ss ≡ r.index
      → Names text table index' r'.at k ops (qs ++ (ss ++ map j.name_of xs))
  pub faulted : (ops qs ss : List Token) → Names text table index r.at k ops (qs ++ ss) → length ss ≡ r.index
      → meant r'.best ≡ earlier (meant r.best) (first (row_faults j qs ss xs))

-- the records of parameters that it stores: those of ps behind the others, which stay
pub record ParamsStored (text table words words' : List ℕ) (n : ℕ) (r r' : Row) (ps : List Param) : Type 0 where
  pub count : r'.params ≡ r.params + length ps
  pub records : ParametersAt text table words' n r.params ps
  pub kept : (i : ℕ) → i < first_parameter + r.params * parameter_words → get_or words' i 0 ≡ get_or words i 0
  pub flags : (bs : List Bool) → r.required ≡ mask_of bs → length bs ≡ r.index → r.index + length ps ≤ max_parameters
      → r'.required ≡ mask_of (bs ++ map is_required ps)

-- the default o, which leaves us, of a parameter of type u
pub record DefaultIs (text table : List ℕ) (n : ℕ) (u : Ty) (o : Option Value) (us : List Token) (r : Default) : Type 0 where
  pub left : us ≡ toks text table n r.end
  pub given : is_there r.at ≡ is_some o
  pub place : DefaultAt text table n (unwrap_or r.at 0) o
  pub faulted : meant r.best ≡ first (bad_default u o)

abbrev pub OfDefault : List ℕ → List ℕ → ℕ → ℕ → TypeAt → Default → Type 0
OfDefault text table n t ty r =
    (u : Ty) (ws : List Token) (o : Option Value) (us : List Token) → type max_brackets (toks text table n t) ≡ ok u ws → TypeIs text table n u ws ty
    → default max_brackets ws ≡ ok o us → DefaultIs text table n u o us r

-- one parameter, and a row of them up to the bracket that closes it
pub record ParametersRead (text table index index' words words' : List ℕ) (n k : ℕ) (r r' : Row) (ps : List Param) (us : List Token) : Type 0 where
  pub left : us ≡ toks text table n r'.at
  pub judged : Judged of_params text table index index' k r r' ps
  pub stored : ParamsStored text table words words' n r r' ps

abbrev pub OfParameter : List ℕ → List ℕ → List ℕ → List ℕ → List ℕ → List ℕ → ℕ → ℕ → Row → Row → Type 0
OfParameter text table index index' words words' n k r r' =
    (p : Param) (us : List Token) → param max_brackets (toks text table n r.at) ≡ ok p us
    → ParametersRead text table index index' words words' n k r r' (p ∷ []) us

abbrev pub OfParameters : List ℕ → List ℕ → List ℕ → List ℕ → List ℕ → List ℕ → ℕ → ℕ → Row → Row → Type 0
OfParameters text table index index' words words' n k r r' =
    (ps : List Param) (us : List Token) → param_row (toks text table n r.at) ≡ ok ps us
    → ParametersRead text table index index' words words' n k r r' ps us

-- one result, and a row of them up to the bracket that closes it
pub record ResultsRead (text table index index' : List ℕ) (n k : ℕ) (r r' : Row) (rs : List Result) (us : List Token) : Type 0 where
  pub left : us ≡ toks text table n r'.at
  pub judged : Judged of_results text table index index' k r r' rs

abbrev pub OfResult : List ℕ → List ℕ → List ℕ → List ℕ → ℕ → ℕ → Row → Row → Type 0
OfResult text table index index' n k r r' =
    (x : Result) (us : List Token) → typed_name max_brackets (toks text table n r.at) ≡ ok x us → ResultsRead text table index index' n k r r' (x ∷ []) us

abbrev pub OfResults : List ℕ → List ℕ → List ℕ → List ℕ → ℕ → ℕ → Row → Row → Type 0
OfResults text table index index' n k r r' =
    (xs : List Result) (us : List Token) → result_row (toks text table n r.at) ≡ ok xs us → ResultsRead text table index index' n k r r' xs us

-- results leave what is said of parameters as it was
pub record Carried (r r' : Row) : Type 0 where
  pub params : r'.params ≡ r.params
  pub required : r'.required ≡ r.required

-- ---- headers

-- the words of the operations below k, and of the parameters below p, stay
pub record WordsKept (words words' : List ℕ) (k p : ℕ) : Type 0 where
  pub operations : (i : ℕ) → i < k * operation_words → i < first_parameter → get_or words' i 0 ≡ get_or words i 0
  pub parameters : (i : ℕ) → first_parameter ≤ i → i < first_parameter + p * parameter_words → get_or words' i 0 ≡ get_or words i 0

-- header k, which leaves us
pub record HeaderRead (text table index index' words words' : List ℕ) (n k : ℕ) (r r' : Row) (h : Header) (us : List Token) : Type 0 where
  pub left : us ≡ toks text table n r'.at
  pub count : r'.params ≡ r.params + length h.params
  pub names : (ops : List Token) → Numbered text table index r.at k ops → length ops ≡ k
      → Numbered text table index' r'.at (k + 1) (ops ++ (h.name ∷ []))
  pub faulted : (ops : List Token) → Numbered text table index r.at k ops → length ops ≡ k
      → meant r'.best ≡ earlier (meant r.best) (first (item_faults of_headers [] ops h))
  pub kept : WordsKept words words' k r.params
  pub stored : k < max_operations → length h.params ≤ max_parameters → OperationAt text table words' n k h
  pub last : k < max_operations → operation_word words' k 2 ≡ r'.params

abbrev pub OfHeader : List ℕ → List ℕ → List ℕ → List ℕ → List ℕ → List ℕ → ℕ → ℕ → Row → Row → Type 0
OfHeader text table index index' words words' n k r r' =
    (h : Header) (us : List Token) → header max_brackets (toks text table n r.at) ≡ ok h us → HeaderRead text table index index' words words' n k r r' h us

-- the headers hs from number k on, up to the end
pub record HeadersRead (text table index index' words words' : List ℕ) (n k : ℕ) (r : Row) (r' : Ruled) (hs : List Header) : Type 0 where
  pub count : r'.count ≡ k + length hs
  pub names : (ops : List Token) → Numbered text table index r.at k ops → length ops ≡ k
      → Numbered text table index' n r'.count (ops ++ map (λ (h : Header). h.name) hs)
  pub faulted : (ops : List Token) → Numbered text table index r.at k ops → length ops ≡ k
      → meant r'.best ≡ earlier (meant r.best) (first (row_faults of_headers [] ops hs))
  pub kept : WordsKept words words' k r.params
  pub stored : k + length hs ≤ max_operations → first (flat_map header_faults hs) ≡ nothing → OperationsAt text table words' n k hs

abbrev pub OfHeaders : List ℕ → List ℕ → List ℕ → List ℕ → List ℕ → List ℕ → ℕ → ℕ → Row → Ruled → Type 0
OfHeaders text table index index' words words' n k r r' =
    (hs : List Header) → operations max_brackets (toks text table n r.at) ≡ ok hs [] → HeadersRead text table index index' words words' n k r r' hs
