-- The value of a tree at a type, as a plan holds it. A value fits a type when it has a value there, and a left side matches the type of
-- the results in the same way.
use Rattle.std.specs.Prelude.{ℕ, ◌-◌, Bool, true, false, cond, ◌&&◌, ◌||◌, List, [], ◌∷◌, eqb, length, take, drop, ℤ, pos, negsuc}
use Rattle.std.proofs.Math.Option.{Option, some, none as nothing}
use Rattle.std.specs.Int.Signed.{le_z}
use Rattle.lexis.specs.Sizes.{max_extent}
use Rattle.lexis.specs.Kind as Kind
use Rattle.lexis.specs.Number.{Reduced, parts_of, reduced_of, signed, value_from}
use Rattle.syntax.specs.Tree.{Value, Values, Ty, Tys, Result}
use Rattle.syntax.specs.Tree.Value.{name, literal, array, tuple}
use Rattle.syntax.specs.Tree.Values.{none, more}
use Rattle.syntax.specs.Tree.Ty.{tensor, extent, scalar, logical, string, array_of, tuple_of}
use Rattle.syntax.specs.Tree.Tys.{no-type, a-type}

-- ---- signed numbers

-- a number of a plan: a signed mantissa, times ten to the exponent
pub record SignedNumber : Type 0 where
  pub mantissa : ℤ
  pub exponent : ℤ

-- a reduced number, with a sign or without one; zero has none
abbrev pub with_sign : Bool → Reduced → SignedNumber
with_sign negative r = record { mantissa = signed negative r.mantissa; exponent = r.exponent }

-- extent runs from -2,147,483,648 to 2,147,483,647 (`negsuc n` is the number -1 - n)
unfoldable pub is_extent : ℤ → Bool
is_extent z = le_z (negsuc max_extent) z && le_z z (pos max_extent)

-- ---- plan values

-- A value of a plan, free of places: a name; a number at scalar or tensor, reduced; a number at extent; a string's content; a truth
-- value; an array; a tuple.
mutual
  pub data Val : Type 0 where
    v_name : List ℕ → Val
    v_number : SignedNumber → Val
    v_extent : ℤ → Val
    v_string : List ℕ → Val
    v_logical : Bool → Val
    v_array : Vals → Val
    v_tuple : Vals → Val

  pub data Vals : Type 0 where
    no-val : Vals
    a-val : Val → Vals → Vals

-- ---- leaves

-- a value where the test holds
abbrev pub where-true : Bool → Val → Option Val
where-true true v = some v
where-true false v = nothing

-- a name fits tensor
abbrev pub name_at : Ty → List ℕ → Option Val
name_at tensor w = some (v_name w)
name_at extent w = nothing
name_at scalar w = nothing
name_at logical w = nothing
name_at string w = nothing
name_at (array_of u) w = nothing
name_at (tuple_of us) w = nothing

-- a number, whole or real
abbrev pub is_number : ℕ → Bool
is_number k = eqb k Kind.whole || eqb k Kind.real

-- what stands between a string's quotes
abbrev pub content_of : List ℕ → List ℕ
content_of w = take (length w - 2) (drop 1 w)

abbrev pub number_of : Bool → List ℕ → Val
number_of negative w = v_number (with_sign negative (reduced_of w (parts_of w)))

-- `true` has four bytes, `false` five
abbrev pub truth_of : List ℕ → Val
truth_of w = v_logical (eqb (length w) 4)

-- A literal of kind k and bytes w, with a sign or without one: any number fits scalar and tensor, a whole number that extent reaches
-- fits extent; true and false fit logical and tensor; a string fits string. Only numbers have signs.
abbrev pub literal_at : Ty → Bool → ℕ → List ℕ → Option Val
literal_at tensor negative k w = cond (eqb k Kind.truth) (some (truth_of w)) (where-true (is_number k) (number_of negative w))
literal_at extent negative k w =
    where-true (eqb k Kind.whole && is_extent (signed negative (value_from 0 w))) (v_extent (signed negative (value_from 0 w)))
literal_at scalar negative k w = where-true (is_number k) (number_of negative w)
literal_at logical negative k w = where-true (eqb k Kind.truth) (truth_of w)
literal_at string negative k w = where-true (eqb k Kind.string) (v_string (content_of w))
literal_at (array_of u) negative k w = nothing
literal_at (tuple_of us) negative k w = nothing

-- ---- arrays and tuples

abbrev pub bind : {A B : Type 0} → Option A → (A → Option B) → Option B
bind nothing k = nothing
bind (some a) k = k a

-- an array fits T[] when every item fits T; a tuple fits a tuple type of the same count, item by item
unfoldable mutual
  pub read_at : Value → Ty → Option Val
  read_at (name t) u = name_at u t.bytes
  read_at (literal l) u = literal_at u l.negative l.token.kind l.token.bytes
  read_at (array t vs) (array_of u) = bind (read_all vs u) (λ ws. some (v_array ws))
  read_at (array t vs) tensor = nothing
  read_at (array t vs) extent = nothing
  read_at (array t vs) scalar = nothing
  read_at (array t vs) logical = nothing
  read_at (array t vs) string = nothing
  read_at (array t vs) (tuple_of us) = nothing
  read_at (tuple t vs) (tuple_of us) = bind (read_each vs us) (λ ws. some (v_tuple ws))
  read_at (tuple t vs) tensor = nothing
  read_at (tuple t vs) extent = nothing
  read_at (tuple t vs) scalar = nothing
  read_at (tuple t vs) logical = nothing
  read_at (tuple t vs) string = nothing
  read_at (tuple t vs) (array_of u) = nothing

  pub read_all : Values → Ty → Option Vals
  read_all none u = some no-val
  read_all (more v vs) u = bind (read_at v u) (λ w. bind (read_all vs u) (λ ws. some (a-val w ws)))

  pub read_each : Values → Tys → Option Vals
  read_each none no-type = some no-val
  read_each none (a-type u us) = nothing
  read_each (more v vs) no-type = nothing
  read_each (more v vs) (a-type u us) = bind (read_at v u) (λ w. bind (read_each vs us) (λ ws. some (a-val w ws)))

-- ---- fitting

abbrev pub is_some : {A : Type 0} → Option A → Bool
is_some nothing = false
is_some (some a) = true

-- a value fits a type; a left side matches it
unfoldable pub fits : Value → Ty → Bool
fits v u = is_some (read_at v u)

-- all tensor: tensor, arrays of such, tuples of only such
unfoldable mutual
  pub all_tensor : Ty → Bool
  all_tensor tensor = true
  all_tensor extent = false
  all_tensor scalar = false
  all_tensor logical = false
  all_tensor string = false
  all_tensor (array_of u) = all_tensor u
  all_tensor (tuple_of us) = all_tensors us

  pub all_tensors : Tys → Bool
  all_tensors no-type = true
  all_tensors (a-type u us) = all_tensor u && all_tensors us

-- several results are one tuple
unfoldable pub types_of : List Result → Tys
types_of [] = no-type
types_of (r ∷ rs) = a-type r.ty (types_of rs)

unfoldable pub result_type : List Result → Ty
result_type [] = tuple_of no-type
result_type (r ∷ []) = r.ty
result_type (r ∷ s ∷ rs) = tuple_of (types_of (r ∷ s ∷ rs))
