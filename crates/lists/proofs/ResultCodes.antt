-- The number of the type of the only result. Relies on `HeaderParses`.
use mathlib.Core.Path.{◌≡◌, refl, sym, ap, ◌∙◌}
use mathlib.Core.List.{List, [], ◌∷◌}
use Prim.Native.Nat.{ℕ, ◌+◌}
use native.Mathlib.Omega.{arith}
use lib.ListN.{length}
use Rattle.lexis.specs.Sizes.{max_brackets}
use Rattle.lexis.specs.Lexer.{Token}
use Rattle.lexis.specs.Symbol.{right_round}
use Rattle.syntax.specs.Tree.{Ty, Result}
use Rattle.syntax.specs.Parser.{type, typed_name, rest}
use Rattle.syntax.specs.Parser.Parse.{ok}
use Rattle.syntax.specs.Table.{toks}
use Rattle.syntax.proofs.Shrinks.{result-shrinks}
use Rattle.syntax.proofs.Table.{toks-rest}
use Rattle.lists.specs.Reading.{all_tensor}
use Rattle.lists.specs.Types.{kinds_of, pairs_of, type_code, several, result_code, OfType}
use Rattle.lists.specs.Headers.{result_row}
use Rattle.lists.specs.declared.types.TypeAt.{TypeAt}
use Rattle.lists.proofs.HeaderParses.{Rowed, row_ok, result_ok}
use Rattle.lists.proofs.HeaderParses.Rowed.{last, next}
use Rattle.lists.proofs.Parts.{first_of}

pub several-are : (rs : List Result) → (length rs ≡ 1 → ⊥) → several ≡ result_code rs
unfolding result_code
several-are [] h = refl
several-are (r ∷ []) h = absurd (h refl)
several-are (r ∷ s ∷ rs) h = refl

module _ (text table : List ℕ) (n from : ℕ) where
  -- its type stands two places on
  typed : {r : Result} {us : List Token} → typed_name max_brackets (toks text table n from) ≡ ok r us
      → type max_brackets (toks text table n (from + 2)) ≡ ok r.ty us
  typed {r} {us} h =
      let i = result_ok max_brackets (toks text table n from) h in
      let f = first_of text table n from r.name (i.colon ∷ i.typed) i.is in
      let two : from + 2 ≡ from + 1 + 1 = omega arith in
      ap (type max_brackets) (ap (λ (m : ℕ). toks text table n m) two ∙ sym (toks-rest text table n (from + 1)) ∙ ap rest f.rest) ∙ i.a-type

  pub one-is : {rs : List Result} {us : List Token} {ty : TypeAt} {code : ℕ} → result_row (toks text table n from) ≡ ok rs us → length rs ≡ 1
      → OfType text table n (from + 2) ty → ((u : Ty) → ty.kinds ≡ kinds_of u → ty.pairs ≡ pairs_of u → ty.tensor ≡ all_tensor u → code ≡ type_code u)
      → code ≡ result_code rs
  unfolding result_code
  one-is {rs} {us} {ty} {code} h l of coded = go (row_ok right_round (typed_name max_brackets) (result-shrinks max_brackets) (toks text table n from) h) l
    where
      by : {r : Result} {ws : List Token} → typed_name max_brackets (toks text table n from) ≡ ok r ws → code ≡ type_code r.ty
      by {r} {ws} e = let i = of max_brackets r.ty ws (typed e) in coded r.ty i.kinds i.pairs i.tensor

      only : (r : Result) (qs : List Result) → length (r ∷ qs) ≡ 1 → qs ≡ []
      only r [] e = refl
      only r (q ∷ qs) e = absurd (omega arith)

      go : {qs : List Result} → Rowed right_round (typed_name max_brackets) (toks text table n from) us qs → length qs ≡ 1 → code ≡ result_code qs
      go (last e s) m = by e
      go (next {a = a} {xs = zs} e s r) m = by e ∙ ap (λ (l : List Result). result_code (a ∷ l)) (sym (only a zs m))
