-- Lists that are empty where others are: two of them in a row, then any number. At the end empty lists in a row.
use mathlib.Core.Path.{◌≡◌, refl}
use mathlib.Core.List.{List, [], ◌∷◌, ◌++◌, flatten, cons≢nil}

-- the second is empty where the first is
abbrev pub EmptyToo : {A : Type 0} → List A → List A → Type 0
EmptyToo xs ys = xs ≡ [] → ys ≡ []

pub both-keep : {A : Type 0} (xs ys : List A) {us ws : List A} → EmptyToo xs us → EmptyToo ys ws → EmptyToo (xs ++ ys) (us ++ ws)
both-keep [] ys f g h = rw (f refl, g h)
both-keep (x ∷ xs) ys f g h = absurd (cons≢nil h)

-- part by part
pub data Row {A : Type 0} : List (List A) → List (List A) → Type 0 where
  no_part : Row [] []
  a-part : {xs ys : List A} {xss yss : List (List A)} → EmptyToo xs ys → Row xss yss → Row (xs ∷ xss) (ys ∷ yss)

pub row_keeps : {A : Type 0} {xss yss : List (List A)} → Row xss yss → EmptyToo (flatten xss) (flatten yss)
unfolding flatten
row_keeps no_part h = h
row_keeps (a-part {xs} {xss = xss} f r) h = both-keep xs (flatten xss) f (row_keeps r) h

-- empty lists in a row
pub data AllEmpty {A : Type 0} : List (List A) → Type 0 where
  no-list : AllEmpty []
  a-list : {xs : List A} {xss : List (List A)} → xs ≡ [] → AllEmpty xss → AllEmpty (xs ∷ xss)

pub all-empty : {A : Type 0} {xss : List (List A)} → AllEmpty xss → flatten xss ≡ []
unfolding flatten
all-empty no-list = refl
all-empty (a-list e h) = rw (e, all-empty h)
