-- One argument more: what it adds to the leading values, to the labels, and to the value of a name. Assumes nothing.
use mathlib.Core.Path.{◌≡◌, refl, ap}
use mathlib.Core.Bool.{Bool, true, false, cond, ◌||◌, true≢false, false≢true}
use mathlib.Core.List.{List, [], ◌∷◌, ◌++◌}
use mathlib.Core.Option.{Option, some}
use mathlib.Core.Option.{none as nothing}
use Prim.Native.Nat.{suc}
use lib.ListN.{length}
use Rattle.spellings.specs.Comparison.{same_bytes}
use Rattle.lexis.specs.Lexer.{Token}
use Rattle.syntax.specs.Tree.{Value, Arg}
use Rattle.syntax.specs.Tree.Arg.{positional, named}
use Rattle.lists.specs.Reading.{is_some}
use Rattle.documents.specs.Binding.{leading, labels, named_value, or_else}
use Rattle.documents.specs.Arguments.{leads}

-- ---- values and labels

pub leading-named : (xs : List Arg) (t : Token) (v : Value) → leading (xs ++ (named t v ∷ [])) ≡ leading xs
unfolding leading
leading-named [] t v = refl
leading-named (positional w ∷ xs) t v = ap (λ (r : List Value). w ∷ r) (leading-named xs t v)
leading-named (named s w ∷ xs) t v = refl

pub leading-more : (xs : List Arg) (v : Value) → leads xs ≡ true → leading (xs ++ (positional v ∷ [])) ≡ leading xs ++ (v ∷ [])
unfolding leading leads
leading-more [] v h = refl
leading-more (positional w ∷ xs) v h = ap (λ (r : List Value). w ∷ r) (leading-more xs v h)
leading-more (named s w ∷ xs) v h = absurd (false≢true h)

pub leading-same : (xs : List Arg) (v : Value) → leads xs ≡ false → leading (xs ++ (positional v ∷ [])) ≡ leading xs
unfolding leading leads
leading-same [] v h = absurd (true≢false h)
leading-same (positional w ∷ xs) v h = ap (λ (r : List Value). w ∷ r) (leading-same xs v h)
leading-same (named s w ∷ xs) v h = refl

pub leading_length : (xs : List Arg) → leads xs ≡ true → length (leading xs) ≡ length xs
unfolding leading leads
leading_length [] h = refl
leading_length (positional w ∷ xs) h = ap suc (leading_length xs h)
leading_length (named s w ∷ xs) h = absurd (false≢true h)

pub labels-named : (xs : List Arg) (t : Token) (v : Value) → labels (xs ++ (named t v ∷ [])) ≡ labels xs ++ (t ∷ [])
unfolding labels
labels-named [] t v = refl
labels-named (positional w ∷ xs) t v = labels-named xs t v
labels-named (named s w ∷ xs) t v = ap (λ (r : List Token). s ∷ r) (labels-named xs t v)

pub labels-same : (xs : List Arg) (v : Value) → labels (xs ++ (positional v ∷ [])) ≡ labels xs
unfolding labels
labels-same [] v = refl
labels-same (positional w ∷ xs) v = labels-same xs v
labels-same (named s w ∷ xs) v = ap (λ (r : List Token). s ∷ r) (labels-same xs v)

pub labels-none : (xs : List Arg) → leads xs ≡ true → labels xs ≡ []
unfolding labels leads
labels-none [] h = refl
labels-none (positional w ∷ xs) h = labels-none xs h
labels-none (named s w ∷ xs) h = absurd (false≢true h)

pub leads-named : (xs : List Arg) (t : Token) (v : Value) → leads (xs ++ (named t v ∷ [])) ≡ false
unfolding leads
leads-named [] t v = refl
leads-named (positional w ∷ xs) t v = leads-named xs t v
leads-named (named s w ∷ xs) t v = refl

pub leads-same : (xs : List Arg) (v : Value) → leads (xs ++ (positional v ∷ [])) ≡ leads xs
unfolding leads
leads-same [] v = refl
leads-same (positional w ∷ xs) v = leads-same xs v
leads-same (named s w ∷ xs) v = refl

-- ---- values of names

pub or_else_none : {A : Type 0} (x : Option A) → or_else x nothing ≡ x
or_else_none nothing = refl
or_else_none (some a) = refl

pub or-else-assoc : {A : Type 0} (x y z : Option A) → or_else x (or_else y z) ≡ or_else (or_else x y) z
or-else-assoc nothing y z = refl
or-else-assoc (some a) y z = refl

pub or-else-kept : {A : Type 0} (x y : Option A) → is_some x ≡ true → or_else x y ≡ x
or-else-kept nothing y h = absurd (false≢true h)
or-else-kept (some a) y h = refl

pub is_none : {A : Type 0} (x : Option A) → is_some x ≡ false → x ≡ nothing
is_none nothing h = refl
is_none (some a) h = absurd (true≢false h)

pub is-some-or : {A : Type 0} (x y : Option A) → is_some (or_else x y) ≡ (is_some x || is_some y)
is-some-or nothing y = refl
is-some-or (some a) y = refl

-- the value under a label
abbrev pub given : Token → Token → Value → Option Value
given n t v = cond (same_bytes n.bytes t.bytes) (some v) nothing

pub by_name-more : (n : Token) (xs : List Arg) (t : Token) (v : Value) → named_value n (xs ++ (named t v ∷ [])) ≡ or_else (named_value n xs) (given n t v)
unfolding named_value
by_name-more n [] t v = refl
by_name-more n (positional w ∷ xs) t v = by_name-more n xs t v
by_name-more n (named s w ∷ xs) t v = go (same_bytes n.bytes s.bytes) (by_name-more n xs t v)
  where
    go : (b : Bool) → named_value n (xs ++ (named t v ∷ [])) ≡ or_else (named_value n xs) (given n t v)
        → cond b (some w) (named_value n (xs ++ (named t v ∷ []))) ≡ or_else (cond b (some w) (named_value n xs)) (given n t v)
    go true ih = refl
    go false ih = ih

pub by_name-same : (n : Token) (xs : List Arg) (v : Value) → named_value n (xs ++ (positional v ∷ [])) ≡ named_value n xs
unfolding named_value
by_name-same n [] v = refl
by_name-same n (positional w ∷ xs) v = by_name-same n xs v
by_name-same n (named s w ∷ xs) v = ap (λ (r : Option Value). cond (same_bytes n.bytes s.bytes) (some w) r) (by_name-same n xs v)

pub by_name-none : (n : Token) (xs : List Arg) → leads xs ≡ true → named_value n xs ≡ nothing
unfolding named_value leads
by_name-none n [] h = refl
by_name-none n (positional w ∷ xs) h = by_name-none n xs h
by_name-none n (named s w ∷ xs) h = absurd (false≢true h)
