-- The directory of an operation list, as the code keeps it: a record for each operation and, behind all of these, one for each parameter of the list. What
-- its words say of the headers; only inner contracts cite it.
use Rattle.std.specs.Prelude.{ℕ, suc, ◌+◌, ◌*◌, ◌<◌, ◌≤◌, ◌≡◌, List, [], ◌∷◌, map, length, get_or}
use Rattle.std.proofs.Math.Option.{Option, some, none as nothing}
use Rattle.lexis.specs.Sizes.{max_operations, max_brackets}
use Rattle.lexis.specs.Lexer.{Token}
use Rattle.lexis.specs.Symbol.{right_round}
use Rattle.syntax.specs.Tree.{Value, Param, Header}
use Rattle.syntax.specs.Grammar.{literals}
use Rattle.syntax.specs.Parser.{plain, commas, row, value, type, typed_name}
use Rattle.syntax.specs.Parser.Parse.{ok}
use Rattle.syntax.specs.Table.{token_at, toks}
use Rattle.lists.specs.Masks.{mask_of, is_required}
use Rattle.lists.specs.Types.{type_code, result_code}

-- ---- layout

-- the words of an operation's record: the place of its name, the number of its first parameter and that after its last, the mask of its parameters
-- without a default, the place of its first result, the number of that result's type or `several`
abbrev pub operation_words : ℕ
operation_words = 6

-- the words of a parameter's record: the place of its name, the number of its type, the place of its default or 0
abbrev pub parameter_words : ℕ
parameter_words = 3

-- the records of parameters begin here
abbrev pub first_parameter : ℕ
first_parameter = max_operations * operation_words

-- word f of operation k, and of parameter j
abbrev pub operation_word : List ℕ → ℕ → ℕ → ℕ
operation_word words k f = get_or words (k * operation_words + f) 0

abbrev pub parameter_word : List ℕ → ℕ → ℕ → ℕ
parameter_word words j f = get_or words (first_parameter + j * parameter_words + f) 0

-- ---- parameters

-- the default that stands at a place, 0 for none
pub data DefaultAt (text table : List ℕ) (n : ℕ) : ℕ → Option Value → Type 0 where
  no_default : DefaultAt text table n 0 nothing
  a-default : {d : ℕ} {v : Value} {us : List Token} → 0 < d → value literals max_brackets (toks text table n d) ≡ ok v us → DefaultAt text table n d (some v)

-- parameter j of the directory is p; its type is read two tokens after its name
pub record ParameterAt (text table words : List ℕ) (n j : ℕ) (p : Param) : Type 0 where
  pub inside : parameter_word words j 0 + 2 < n
  pub name : token_at text table (parameter_word words j 0) ≡ p.name
  pub after : List Token
  pub typed : type max_brackets (toks text table n (parameter_word words j 0 + 2)) ≡ ok p.ty after
  pub code : parameter_word words j 1 ≡ type_code p.ty
  pub default : DefaultAt text table n (parameter_word words j 2) p.default

-- those from number j on are ps
pub data ParametersAt (text table words : List ℕ) (n : ℕ) : ℕ → List Param → Type 0 where
  no-parameter : {j : ℕ} → ParametersAt text table words n j []
  a-parameter : {j : ℕ} {p : Param} {ps : List Param} → ParameterAt text table words n j p → ParametersAt text table words n (suc j) ps
      → ParametersAt text table words n j (p ∷ ps)

-- ---- operations

-- operation k of the directory is h; the parameters up to its last have four tokens each
pub record OperationAt (text table words : List ℕ) (n k : ℕ) (h : Header) : Type 0 where
  pub inside : operation_word words k 0 < n
  pub name : token_at text table (operation_word words k 0) ≡ h.name
  pub params : ParametersAt text table words n (operation_word words k 1) h.params
  pub ends : operation_word words k 2 ≡ operation_word words k 1 + length h.params
  pub tokens : 4 * operation_word words k 2 ≤ n
  pub required : operation_word words k 3 ≡ mask_of (map is_required h.params)
  pub after : List Token
  pub results : row plain (commas right_round) (typed_name max_brackets) (toks text table n (operation_word words k 4)) ≡ ok h.results after
  pub code : operation_word words k 5 ≡ result_code h.results

-- those from number k on are hs
pub data OperationsAt (text table words : List ℕ) (n : ℕ) : ℕ → List Header → Type 0 where
  no-operation : {k : ℕ} → OperationsAt text table words n k []
  an-operation : {k : ℕ} {h : Header} {hs : List Header} → OperationAt text table words n k h → OperationsAt text table words n (suc k) hs
      → OperationsAt text table words n k (h ∷ hs)
