-- Values of a plan that a type takes: every name is a name token, every number reduced and in range, every string one that canonical text
-- can quote, and no more brackets open at once than may be. In order: runs of bytes, words, numbers, strings; values.
use Rattle.std.specs.Prelude.{◌≡◌, Bool, true, List, [], ◌∷◌, ℕ, suc, ◌≤◌, ◌%◌, ℤ, pos, length, get_or}
use Rattle.lexis.specs.Sizes.{max_name, max_string}
use Rattle.lexis.specs.Class as Class
use Rattle.lexis.specs.Kind as Kind
use Rattle.lexis.specs.Bytes.{class_of, is_name_part, is_content}
use Rattle.lexis.specs.Words.{kind_of_word}
use Rattle.lexis.specs.Number.{Reduced, is_small}
use Rattle.syntax.specs.Tree.{Ty, Tys}
use Rattle.syntax.specs.Tree.Ty.{tensor, extent, scalar, logical, string, array_of, tuple_of}
use Rattle.syntax.specs.Tree.Tys.{no-type, a-type}
use Rattle.syntax.specs.Grammar.{Leaves, takes_names, takes_literals}
use Rattle.lists.specs.Reading.{SignedNumber, is_extent, Val, Vals, v_name, v_number, v_extent, v_string, v_logical, v_array, v_tuple, no-val, a-val}
use Rattle.writing.specs.Spelling.{quote_for}
use Rattle.writing.specs.Layout.{unsigned_of}

-- ---- leaves

-- every byte passes the test
pub data All (f : ℕ → Bool) : List ℕ → Type 0 where
  none : All f []
  more : {c : ℕ} {s : List ℕ} → f c ≡ true → All f s → All f (c ∷ s)

-- a letter or an underscore, then letters, digits and underscores, at most 64 bytes; and no keyword or truth value
pub record IsWord (w : List ℕ) : Type 0 where
  pub first : class_of (get_or w 0 0) ≡ Class.letter
  pub parts : All is_name_part w
  pub short : length w ≤ max_name

pub record IsName (w : List ℕ) : Type 0 where
  pub word : IsWord w
  pub kind : kind_of_word w ≡ Kind.name

-- zero is 0 and 0, and ten divides no other mantissa; at most 18 digits and a near exponent
pub data Lowest : Reduced → Type 0 where
  nought : Lowest (record { mantissa = 0; exponent = pos 0 })
  odd : {m : ℕ} {e : ℤ} → (m % 10 ≡ 0 → ⊥) → Lowest (record { mantissa = m; exponent = e })

pub record IsNumber (n : Reduced) : Type 0 where
  pub lowest : Lowest n
  pub small : is_small n ≡ true

-- a string's content: bytes from 32 to 126, none of them the quote that canonical text puts around it, at most 128
pub record IsText (s : List ℕ) : Type 0 where
  pub clean : All (is_content (quote_for s)) s
  pub short : length s ≤ max_string

-- ---- values

-- a value of a type, with these leaves, and at most b brackets open at once
mutual
  pub data Fits (m : Leaves) : ℕ → Ty → Val → Type 0 where
    fit-name : {b : ℕ} {w : List ℕ} → takes_names m ≡ true → IsName w → Fits m b tensor (v_name w)
    fit-number : {b : ℕ} {n : SignedNumber} → takes_literals m ≡ true → IsNumber (unsigned_of n) → Fits m b tensor (v_number n)
    fit-scalar : {b : ℕ} {n : SignedNumber} → takes_literals m ≡ true → IsNumber (unsigned_of n) → Fits m b scalar (v_number n)
    fit-extent : {b : ℕ} {z : ℤ} → takes_literals m ≡ true → is_extent z ≡ true → Fits m b extent (v_extent z)
    fit-string : {b : ℕ} {s : List ℕ} → takes_literals m ≡ true → IsText s → Fits m b string (v_string s)
    fit-logical : {b : ℕ} {x : Bool} → takes_literals m ≡ true → Fits m b logical (v_logical x)
    fit-truth : {b : ℕ} {x : Bool} → takes_literals m ≡ true → Fits m b tensor (v_logical x)
    fit-array : {b : ℕ} {u : Ty} {vs : Vals} → FitsAll m b u vs → Fits m (suc b) (array_of u) (v_array vs)
    fit-tuple : {b : ℕ} {u t : Ty} {us : Tys} {v w : Val} {vs : Vals}
        → Fits m b u v → Fits m b t w → FitsEach m b us vs → Fits m (suc b) (tuple_of (a-type u (a-type t us))) (v_tuple (a-val v (a-val w vs)))

  pub data FitsAll (m : Leaves) : ℕ → Ty → Vals → Type 0 where
    all_none : {b : ℕ} {u : Ty} → FitsAll m b u no-val
    all_more : {b : ℕ} {u : Ty} {v : Val} {vs : Vals} → Fits m b u v → FitsAll m b u vs → FitsAll m b u (a-val v vs)

  pub data FitsEach (m : Leaves) : ℕ → Tys → Vals → Type 0 where
    each_none : {b : ℕ} → FitsEach m b no-type no-val
    each_more : {b : ℕ} {u : Ty} {us : Tys} {v : Val} {vs : Vals} → Fits m b u v → FitsEach m b us vs → FitsEach m b (a-type u us) (a-val v vs)
