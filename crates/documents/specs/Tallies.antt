-- What only the contracts of the code that binds arguments cite: the operation of a call as the directory gives it, a parameter sought by name, what an
-- argument is for, and what the arguments before a place amount to.
use Rattle.std.specs.Prelude.{◌≡◌, ℕ, zero, suc, ◌+◌, ◌-◌, ◌*◌, ◌<◌, ◌≤◌, min, Bool, true, false, ◌&&◌, List, [], ◌∷◌, ◌++◌, ltb, length, set, Result, Ok, Err, IfOk}
use Rattle.std.proofs.Math.Option.{Option, some}
use Rattle.spellings.specs.Comparison.{same_bytes}
use Rattle.lexis.specs.Refusal.{refusal_number}
use Rattle.lexis.specs.declared.refusal.Refusal.{Refusal}
use Rattle.lexis.specs.Sizes.{max_brackets, max_parameters}
use Rattle.lexis.specs.Lexer.{Token}
use Rattle.syntax.specs.Tree.{Value, Param, Arg}
use Rattle.syntax.specs.Grammar.{both}
use Rattle.syntax.specs.Parser.{value}
use Rattle.syntax.specs.Parser.Parse.{ok}
use Rattle.syntax.specs.Table.{token_at, toks}
use Rattle.lists.specs.Fault.{Fault, fault, earlier, first}
use Rattle.lists.specs.Best.{meant}
use Rattle.lists.specs.Names.{repeats}
use Rattle.lists.specs.ListRules.{param_names}
use Rattle.lists.specs.Masks.{mask_of}
use Rattle.lists.specs.Directory.{operation_word, parameter_word, first_parameter, parameter_words, ParametersAt}
use Rattle.documents.specs.declared.operation.Operation.{Operation}
use Rattle.documents.specs.declared.arguments.Tally.{Tally}
use Rattle.documents.specs.declared.arguments.Aim.{Aim}
use Rattle.documents.specs.Binding.{misfit}
use Rattle.documents.specs.Arguments.{bound, leads, tally_faults}

-- ---- the operation of a call

-- that of record k of the directory
abbrev pub operation_in : List ℕ → ℕ → Operation
operation_in words k = record {
  first = operation_word words k 1;
  count = operation_word words k 2 - operation_word words k 1;
  required = operation_word words k 3;
  results = operation_word words k 4;
  code = operation_word words k 5;
}

-- its parameters have their records in the directory, and are no more than may be
pub record ParamsRecorded (words : List ℕ) (o : Operation) : Type 0 where
  pub few : o.count ≤ max_parameters
  pub room : first_parameter + (o.first + o.count) * parameter_words ≤ length words

-- their names stand in a table of n tokens
pub record NamesBelow (words : List ℕ) (n : ℕ) (o : Operation) : Type 0 where
  pub below : (i : ℕ) → i < o.count → parameter_word words (o.first + i) 0 < n

-- its parameters are ps: as many as may be, and no name twice
pub record Declares (text table words : List ℕ) (n : ℕ) (o : Operation) (ps : List Param) : Type 0 where
  pub params : ParametersAt text table words n o.first ps
  pub count : o.count ≡ length ps
  pub few : length ps ≤ max_parameters
  pub apart : repeats (param_names ps) ≡ []

-- ---- parameters

-- parameter number j of a list is p
pub data Nth : ℕ → Param → List Param → Type 0 where
  nth-first : {p : Param} {ps : List Param} → Nth zero p (p ∷ ps)
  after : {j : ℕ} {p q : Param} {ps : List Param} → Nth j p ps → Nth (suc j) p (q ∷ ps)

-- parameter j of the directory is spelt w
abbrev pub spelt_at : List ℕ → List ℕ → List ℕ → ℕ → List ℕ → Bool
spelt_at text table words j w = same_bytes (token_at text table (parameter_word words j 0)).bytes w

-- the guess is the number of a parameter of the operation that is spelt w
unfoldable pub is_guessed : List ℕ → List ℕ → List ℕ → Operation → List ℕ → ℕ → Bool
is_guessed text table words o w guess = ltb guess o.count && spelt_at text table words (o.first + guess) w

-- r is the number of a parameter of the operation that is spelt w, or their count where none is
pub record NumberOf (text table words : List ℕ) (o : Operation) (w : List ℕ) (r : ℕ) : Type 0 where
  pub within : r ≤ o.count
  pub spelt : r < o.count → spelt_at text table words (o.first + r) w ≡ true
  pub none : o.count ≤ r → (i : ℕ) → i < o.count → spelt_at text table words (o.first + i) w ≡ false

-- ---- one argument more

-- an argument x after xs adds the fault o, where there is one, and leaves the flags bs
pub record Turned (ps : List Param) (xs : List Arg) (x : Arg) (o : Option Fault) (bs : List Bool) : Type 0 where
  pub faulted : first (tally_faults ps (xs ++ (x ∷ []))) ≡ earlier (first (tally_faults ps xs)) o
  pub flags : bound ps (xs ++ (x ∷ [])) ≡ bs

-- the argument x, of value v, binds parameter i
pub record Binds (ps : List Param) (xs : List Arg) (x : Arg) (v : Value) (i : ℕ) : Type 0 where
  pub param : Param
  pub nth : Nth i param ps
  pub turned : Turned ps xs x (first (misfit param.ty (some v))) (set (bound ps xs) i true)

-- what the argument x, of value v, is for: it binds a parameter, or it is refused with a fault at this place
abbrev pub Serves : List Param → List Arg → Arg → Value → ℕ → Result ℕ Refusal → Type 0
Serves ps xs x v place (Ok i) = Binds ps xs x v i
Serves ps xs x v place (Err r) = Turned ps xs x (some (fault (refusal_number r) place)) (bound ps xs)

-- a is that, and says whether neither it nor an argument before it is named
pub record Aimed (ps : List Param) (xs : List Arg) (x : Arg) (v : Value) (place : ℕ) (a : Aim) : Type 0 where
  pub unnamed : a.leads ≡ leads (xs ++ (x ∷ []))
  pub serves : Serves ps xs x v place a.parameter

-- the same of the argument x that stands at place i, with us after it
pub record AimedAt (text table : List ℕ) (n i : ℕ) (ps : List Param) (xs : List Arg) (x : Arg) (us : List Token) (a : Aim) : Type 0 where
  pub inside : i < n
  pub tree : Value
  pub reads : value both max_brackets (toks text table n a.value) ≡ ok tree us
  pub aimed : Aimed ps xs x tree (token_at text table i).start a

-- whatever stands at place i, what it is for lies in the directory, and its value does not stand before it
pub record AimInside (o : Operation) (i : ℕ) (a : Aim) : Type 0 where
  pub number : IfOk a.parameter (λ k. k < o.count)
  pub value : i ≤ a.value

-- ---- the tally of arguments

-- s is the tally of the arguments xs: their first fault, the parameters that they bind, whether none of them is named, and how many there are
pub record Tallies (ps : List Param) (xs : List Arg) (s : Tally) : Type 0 where
  pub faulted : meant s.best ≡ first (tally_faults ps xs)
  pub flags : s.bound ≡ mask_of (bound ps xs)
  pub unnamed : s.leads ≡ leads xs
  pub count : s.index ≡ length xs

-- r is the tally s with one argument more, which has the fault m, leaves this mask and this flag, and ends at place j
pub record Grown (s : Tally) (m : Option Fault) (mask : ℕ) (lead : Bool) (j : ℕ) (r : Tally) : Type 0 where
  pub best : meant r.best ≡ earlier (meant s.best) m
  pub bound : r.bound ≡ mask
  pub leads : r.leads ≡ lead
  pub index : r.index ≡ s.index + 1
  pub at : r.at ≡ j

-- the tally of xs, with us after them
pub record TalliesTo (text table : List ℕ) (n : ℕ) (ps : List Param) (xs : List Arg) (us : List Token) (s : Tally) : Type 0 where
  pub tally : Tallies ps xs s
  pub after : us ≡ toks text table n s.at

-- whatever was read, r goes on past place i, and not beyond the end, with one argument more than s
pub record Onward (n i : ℕ) (s r : Tally) : Type 0 where
  pub past : min (i + 1) n ≤ r.at
  pub inside : r.at ≤ n
  pub index : r.index ≡ s.index + 1

-- ---- the value of an argument

-- the place after the value at place v
abbrev pub EndsAt : List ℕ → List ℕ → ℕ → ℕ → ℕ → Type 0
EndsAt text table n v r = (x : Value) (us : List Token) → value both max_brackets (toks text table n v) ≡ ok x us → us ≡ toks text table n r
