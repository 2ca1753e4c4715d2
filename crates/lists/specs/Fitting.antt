-- What only the contracts of `types` and `fitting` cite: leaves by their kinds, the base of a type and its pairs of square brackets, types in
-- a row, a flat walk over a tuple type, and what an answer of the walks over two tables says.
use Rattle.std.specs.Prelude.{◌≡◌, ℕ, zero, suc, ◌+◌, ◌-◌, ◌*◌, ◌<◌, ◌≤◌, Bool, true, false, cond, ◌&&◌, ◌||◌, List, [], ◌∷◌, eqb, leb, ltb, drop}
use Rattle.lexis.specs.Number.{value_from, signed}
use Rattle.lexis.specs.Lexer.{Token}
use Rattle.lexis.specs.Symbol.{sym_of, left_round, right_round, left_square, right_square, equal, comma, minus, a_name, a_literal, extent_word}
use Rattle.syntax.specs.Tree.{Value, Values, Ty, Tys, Result}
use Rattle.syntax.specs.Tree.Values.{none}
use Rattle.syntax.specs.Tree.Ty.{array_of, tuple_of}
use Rattle.syntax.specs.Tree.Tys.{no-type, a-type}
use Rattle.syntax.specs.Grammar.{Leaves, Spells, Items, IsTypeName, Dims, IsType, IsTypes, IsLeft}
use Rattle.syntax.specs.Parser.{plain, commas, row, value, type, typed_name, left}
use Rattle.syntax.specs.Parser.Parse.{ok}
use Rattle.syntax.specs.Table.{token_at, toks}
use Rattle.syntax.specs.Inner.{lookahead}
use Rattle.lists.specs.Reading.{is_extent, is_some, read_all, read_each, fits, all_tensor, result_type}
use Rattle.lists.specs.Types.{extent_kinds, takes, kinds_of, pairs_of, result_code}
use Rattle.lists.specs.declared.types.Span.{Span}
use Rattle.std.specs.Prelude.{Option as Maybe, Some, None, is_some as is_there}

-- ---- leaves

-- a leaf of kind k and bytes w, with a sign before it or without one, fits a type word that takes these kinds: at extent it must be small besides
unfoldable pub leaf_fits : ℕ → Bool → ℕ → List ℕ → Bool
leaf_fits kinds negative k w = takes kinds k && cond (eqb kinds extent_kinds) (is_extent (signed negative (value_from 0 w))) true

-- the one at a place of a table does
abbrev pub leaf_fits_at : List ℕ → List ℕ → ℕ → ℕ → Bool → Bool
leaf_fits_at text table i kinds negative = leaf_fits kinds negative (token_at text table i).kind (token_at text table i).bytes

-- the terminal s is a leaf
abbrev pub is_leaf_symbol : ℕ → Bool
is_leaf_symbol s = cond (ltb s a_name) false (leb s a_literal)

-- it begins one: it is a leaf, or a sign
abbrev pub starts_leaf : ℕ → Bool
starts_leaf s = is_leaf_symbol s || eqb s minus

-- ---- types

-- k pairs of square brackets after the type u
unfoldable pub stacked : ℕ → Ty → Ty
stacked zero u = u
stacked (suc k) u = array_of (stacked k u)

-- at least two types
pub data Several : Tys → Type 0 where
  two-or-more : {u w : Ty} {us : Tys} → Several (a-type u (a-type w us))

-- a type without its pairs of square brackets
pub data IsBase : ℕ → List Token → Ty → List Token → Type 0 where
  a_word : {b : ℕ} {t : Token} {ts : List Token} {w : Ty} → IsTypeName (sym_of t) w → IsBase b (t ∷ ts) w ts
  a-tuple-base : {b : ℕ} {o : Token} {ts us : List Token} {vs : Tys} → sym_of o ≡ left_round → Several vs → IsTypes b ts vs us
      → IsBase (suc b) (o ∷ ts) (tuple_of vs) us

-- no further pair of square brackets follows
abbrev pub NoPair : List Token → Type 0
NoPair us = lookahead us ≡ left_square → ⊥

-- the type u stands there with a base and k pairs
pub record Shaped (b : ℕ) (ts : List Token) (u : Ty) (k : ℕ) : Type 0 where
  pub base : Ty
  pub after : List Token
  pub is_base : IsBase b ts base after
  pub under : u ≡ stacked k base

-- whatever base stands at place i, where the terminal s was seen, r is its end and whether tensor is its only word
abbrev pub OfBase : List ℕ → List ℕ → ℕ → ℕ → ℕ → Span → Type 0
OfBase text table n i s r =
    s ≡ lookahead (toks text table n i) → (b : ℕ) (w : Ty) (us : List Token) → IsBase b (toks text table n i) w us
    → (us ≡ toks text table n r.at) × (r.tensor ≡ all_tensor w)

-- whatever pairs stand from place i on, there are k
abbrev pub OfPairs : List ℕ → List ℕ → ℕ → ℕ → ℕ → Type 0
OfPairs text table n i k =
    (b : ℕ) (w u : Ty) (us : List Token) → Dims b (toks text table n i) w u us → NoPair us → (u ≡ stacked k w) × (us ≡ toks text table n (i + 2 * k))

-- whatever type stands at place i, it has k pairs and ends at place e
abbrev pub OfShape : List ℕ → List ℕ → ℕ → ℕ → ℕ → ℕ → Type 0
OfShape text table n i k e =
    (b : ℕ) (u : Ty) (us : List Token) → IsType b (toks text table n i) u us → NoPair us → Shaped b (toks text table n i) u k × (us ≡ toks text table n e)

-- types parted by commas, each after `lead` tokens of its own, and the closing bracket
pub data Columns (lead b : ℕ) : List Token → Tys → List Token → Type 0 where
  last-column : {c : Token} {ts us : List Token} {u : Ty} → IsType b (drop lead ts) u (c ∷ us) → sym_of c ≡ right_round → Columns lead b ts (a-type u no-type) us
  next-column : {c : Token} {ts us ws : List Token} {u : Ty} {vs : Tys} → IsType b (drop lead ts) u (c ∷ us) → sym_of c ≡ comma → Columns lead b us vs ws
      → Columns lead b ts (a-type u vs) ws

-- ---- the flat walk over a tuple type

-- how many round brackets the terminal s opens, and closes
unfoldable pub rounds_opened : ℕ → ℕ
rounds_opened s = cond (eqb s left_round) 1 0

unfoldable pub rounds_closed : ℕ → ℕ
rounds_closed s = cond (eqb s right_round) 1 0

-- of the terminals of a type only the words other than tensor are no less than `extent`
unfoldable pub still : ℕ → Bool → Bool
still s x = cond (ltb s extent_word) x false

-- the tokens that are left, and whether no word other than tensor was met
pub record TypeWalk : Type 0 where
  pub left : List Token
  pub tensor : Bool

-- up to the bracket that closes the first of d open ones
unfoldable pub type_walk : ℕ → Bool → List Token → TypeWalk
type_walk d x [] = record { left = []; tensor = x }
type_walk d x (t ∷ ts) =
    let e = (d + rounds_opened (sym_of t)) - rounds_closed (sym_of t) in
    let y = still (sym_of t) x in
    cond (eqb e 0) (record { left = ts; tensor = y }) (type_walk e y ts)

-- ---- arrays

-- what follows the bracket of an array: the closing bracket, or items
pub data InArray (m : Leaves) (b : ℕ) : List Token → Values → List Token → Type 0 where
  no_items : {c : Token} {ts : List Token} → sym_of c ≡ right_square → InArray m b (c ∷ ts) none ts
  some-items : {ts us : List Token} {vs : Values} → Items m right_square b ts vs us → InArray m b ts vs us

-- ---- answers

-- the items fit: all the type u, or each its own type
unfoldable pub fits_all : Values → Ty → Bool
fits_all vs u = is_some (read_all vs u)

unfoldable pub fits_each : Values → Tys → Bool
fits_each vs us = is_some (read_each vs us)

-- an answer lies past i and not past n
pub record Within (n i : ℕ) (r : Maybe ℕ) : Type 0 where
  pub past : {j : ℕ} → r ≡ Some j → i < j
  pub inside : {j : ℕ} → r ≡ Some j → j ≤ n

-- an answer to a question p about what stands before the tokens us: none where it does not hold, and the place after it where it does
pub record Fitted (text table : List ℕ) (n : ℕ) (p : Bool) (us : List Token) (r : Maybe ℕ) : Type 0 where
  pub misfit : r ≡ None → p ≡ false
  pub fit : {j : ℕ} → r ≡ Some j → p ≡ true
  pub ends : {j : ℕ} → r ≡ Some j → us ≡ toks text table n j

-- there is an answer; there is, and `=` follows
abbrev pub is_fit : Maybe ℕ → Bool
is_fit r = is_there r

abbrev pub is_whole : List ℕ → List ℕ → ℕ → Maybe ℕ → Bool
is_whole text table n None = false
is_whole text table n (Some r) = eqb (lookahead (toks text table n r)) equal

-- the answer for the leaf at place i, with a sign before it or without one, against a word of these kinds under k pairs
abbrev pub leaf_answer : List ℕ → List ℕ → ℕ → ℕ → ℕ → Bool → Maybe ℕ
leaf_answer text table i kinds k negative = cond (eqb k 0) (cond (leaf_fits_at text table i kinds negative) (Some (i + 1)) None) None

-- the answer for what begins at place i with the terminal s: a leaf, or a sign and the number after it
abbrev pub signed_answer : List ℕ → List ℕ → ℕ → ℕ → ℕ → ℕ → ℕ → Maybe ℕ
signed_answer text table n i s kinds k =
    cond (eqb s minus) (cond (leb n (i + 1)) None (leaf_answer text table (i + 1) kinds k true)) (leaf_answer text table i kinds k false)

-- whatever value and type are read at place i and before ts, of these kinds and pairs, r answers whether the one fits the other
abbrev pub OfItem : List ℕ → List ℕ → ℕ → ℕ → List Token → ℕ → ℕ → Maybe ℕ → Type 0
OfItem text table n i ts kinds pairs r =
    (m : Leaves) (b : ℕ) (v : Value) (us : List Token) (c : ℕ) (u : Ty) (ws : List Token) → value m b (toks text table n i) ≡ ok v us → type c ts ≡ ok u ws
    → kinds ≡ kinds_of u → pairs ≡ pairs_of u → Fitted text table n (fits v u) us r

-- a base that takes these kinds begins ts
pub record BaseOf (kinds c : ℕ) (ts : List Token) (w : Ty) (ws : List Token) : Type 0 where
  pub is_base : IsBase c ts w ws
  pub takes : kinds ≡ kinds_of w

-- the value at place i fits the base that begins ts, under k pairs
abbrev pub OfValue : List ℕ → List ℕ → ℕ → ℕ → List Token → ℕ → ℕ → Maybe ℕ → Type 0
OfValue text table n i ts kinds k r =
    (m : Leaves) (b : ℕ) (v : Value) (us : List Token) (c : ℕ) (w : Ty) (ws : List Token) → Spells m b (toks text table n i) v us → BaseOf kinds c ts w ws
    → Fitted text table n (fits v (stacked k w)) us r

-- the items of an array from place i on fit it
abbrev pub OfArray : List ℕ → List ℕ → ℕ → ℕ → List Token → ℕ → ℕ → Maybe ℕ → Type 0
OfArray text table n i ts kinds k r =
    (m : Leaves) (b : ℕ) (vs : Values) (us : List Token) (c : ℕ) (w : Ty) (ws : List Token) → InArray m b (toks text table n i) vs us → BaseOf kinds c ts w ws
    → Fitted text table n (fits_all vs (stacked k w)) us r

-- the items from place i on, up to the terminal `close`, fit the columns that begin ts
abbrev pub OfEach : List ℕ → List ℕ → ℕ → ℕ → ℕ → List Token → ℕ → Maybe ℕ → Type 0
OfEach text table n i close ts lead r =
    (m : Leaves) (b : ℕ) (vs : Values) (us : List Token) (c : ℕ) (cs : Tys) (ws : List Token) → Items m close b (toks text table n i) vs us
    → Columns lead c ts cs ws
    → Fitted text table n (fits_each vs cs) us r

-- the left side at place i, up to its `=`, matches the type u
abbrev pub OfLeft : List ℕ → List ℕ → ℕ → ℕ → Ty → Bool → Type 0
OfLeft text table n i u r = (b : ℕ) (v : Value) (us : List Token) → IsLeft b (toks text table n i) v us → r ≡ fits v u

-- the value at place i is the whole left side, and matches the type u
abbrev pub OfWhole : List ℕ → List ℕ → ℕ → ℕ → Ty → Bool → Type 0
OfWhole text table n i u r =
    (m : Leaves) (b : ℕ) (v : Value) (e : Token) (us : List Token) → Spells m b (toks text table n i) v (e ∷ us) → r ≡ (fits v u && eqb (sym_of e) equal)

-- whatever left side and results are read at place i and before ts, with this number for the results, the one matches the other
abbrev pub MatchesResults : List ℕ → List ℕ → ℕ → ℕ → List Token → ℕ → Bool → Type 0
MatchesResults text table n i ts code r =
    (b : ℕ) (v : Value) (us : List Token) (c : ℕ) (rs : List Result) (ws : List Token) → left b (toks text table n i) ≡ ok v us
    → row plain (commas right_round) (typed_name c) ts ≡ ok rs ws → code ≡ result_code rs → r ≡ fits v (result_type rs)
