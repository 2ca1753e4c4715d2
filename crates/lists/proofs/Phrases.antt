-- What a reader has read is a phrase of the grammar: values, types, left sides and rows of results. Assumes nothing.
use mathlib.Core.Path.{◌≡◌, subst}
use mathlib.Core.Bool.{Bool, true, false}
use mathlib.Core.List.{List, [], ◌∷◌}
use Prim.Native.Nat.{ℕ, zero, suc}
use native.Mathlib.Nat.{le_refl}
use native.Mathlib.Omega.{arith}
use lib.Dec.{eqb}
use borrow.Author.Tests.{eqb-false}
use Rattle.lexis.specs.Lexer.{Token}
use Rattle.lexis.specs.Symbol.{sym_of, left_square, right_square, right_round, comma}
use Rattle.syntax.specs.Tree.{Value, Ty, Tys, Result}
use Rattle.syntax.specs.Tree.Ty.{array_of}
use Rattle.syntax.specs.Tree.Tys.{no-type, a-type}
use Rattle.syntax.specs.Grammar.{Leaves, Separated, Spells, IsType, IsTypes, IsResult, IsLeft}
use Rattle.syntax.specs.Grammar.Separated.{last, next}
use Rattle.syntax.specs.Grammar.IsTypes.{last-type, next-type}
use Rattle.syntax.specs.Grammar.IsResult.{a-result}
use Rattle.syntax.specs.Parser.{Parse, then, row, plain, commas, value, dims, tuple_types, base_step, type, typed_name, left}
use Rattle.syntax.specs.Parser.Parse.{ok, bad}
use Rattle.syntax.proofs.Row.{cond_has}
use Rattle.syntax.proofs.Symbols.{end-not}
use Rattle.syntax.proofs.Shrinks.{result-shrinks}
use Rattle.syntax.proofs.Right.{Phrase, Right, choice}
use Rattle.syntax.proofs.Right.Right.{good}
use Rattle.syntax.proofs.Sound.{separated-reads, value-reads, type_reads, result-reads, left-reads}
use Rattle.lists.specs.Reading.{types_of}
use Rattle.lists.specs.Fitting.{NoPair, Columns}
use Rattle.lists.specs.Fitting.Columns.{last-column, next-column}

read : {A : Type 0} {R : Phrase A} {b : ℕ} {ts us : List Token} {a : A} → Right R b ts (ok a us) → R b ts a us
read {b = b} (good p e h) = rw e (h b _ (le_refl b))

has-read : {A : Type 0} {R : Phrase A} {b : ℕ} {ts us : List Token} {a : A} {x : Parse A} → Right R b ts x → x ≡ ok a us → R b ts a us
has-read {R = R} {b = b} {ts = ts} h e = read (subst (λ (x : Parse _). Right R b ts x) e h)

pub value-is : (m : Leaves) (b : ℕ) (ts : List Token) {v : Value} {us : List Token} → value m b ts ≡ ok v us → Spells m b ts v us
value-is m b ts e = has-read ((value-reads m b).each ts) e

pub type-is : (b : ℕ) (ts : List Token) {u : Ty} {us : List Token} → type b ts ≡ ok u us → IsType b ts u us
type-is b ts e = has-read ((type_reads b).each ts) e

pub left_is : (b : ℕ) (ts : List Token) {v : Value} {us : List Token} → left b ts ≡ ok v us → IsLeft b ts v us
left_is b ts e = has-read ((left-reads b).each ts) e

pub results-are : (b : ℕ) (ts : List Token) {rs : List Result} {us : List Token} → row plain (commas right_round) (typed_name b) ts ≡ ok rs us
    → Separated (IsResult b) right_round ts rs us
results-are b ts e = has-read ((separated-reads IsResult right_round (result-shrinks b) (result-reads b)).each ts) e

-- ---- after a type no pair of square brackets is left

data Stops : Parse Ty → Type 0 where
  stops : {u : Ty} {us : List Token} → NoPair us → Stops (ok u us)
  faults : {c : ℕ} {us : List Token} → Stops (bad c us)

end-no-pair : NoPair []
end-no-pair z = end-not left_square (omega arith) z

dims-stops : (may : Bool) (u : Ty) (ts : List Token) → Stops (dims may u ts)
unfolding dims
dims-stops may u [] = stops end-no-pair
dims-stops may u (o ∷ []) = choice Stops (eqb (sym_of o) left_square) (λ e. cond_has Stops may faults faults) (λ e. stops (eqb-false (sym_of o) left_square e))
dims-stops may u (o ∷ c ∷ ts) =
    choice Stops (eqb (sym_of o) left_square) (λ e. cond_has Stops may (cond_has Stops (eqb (sym_of c) right_square) (dims-stops may (array_of u) ts) faults)
    faults) (λ e. stops (eqb-false (sym_of o) left_square e))

then-stops : (p : Parse Ty) (may : Bool) → Stops (then p (dims may))
then-stops (ok u us) may = dims-stops may u us
then-stops (bad c us) may = faults

type-stops : (b : ℕ) (ts : List Token) → Stops (type b ts)
unfolding type
type-stops zero ts = then-stops (base_step (λ t us. bad 10 (t ∷ us)) ts) false
type-stops (suc b) ts = then-stops (base_step (λ t us. tuple_types (λ ws. type b ws) us) ts) true

stopped : {u : Ty} {us : List Token} → Stops (ok u us) → NoPair us
stopped (stops h) = h

pub type-ends : (b : ℕ) (ts : List Token) {u : Ty} {us : List Token} → type b ts ≡ ok u us → NoPair us
type-ends b ts e = stopped (subst Stops e (type-stops b ts))

-- ---- results as columns

one-column : {b : ℕ} {ts us : List Token} {c : Token} {r : Result} → IsResult b ts r (c ∷ us) → sym_of c ≡ right_round
    → Columns 2 b ts (a-type r.ty no-type) us
one-column (a-result f g t) e = last-column t e

more-columns : {b : ℕ} {ts us ws : List Token} {c : Token} {r : Result} {vs : Tys} → IsResult b ts r (c ∷ us) → sym_of c ≡ comma → Columns 2 b us vs ws
    → Columns 2 b ts (a-type r.ty vs) ws
more-columns (a-result f g t) e s = next-column t e s

pub columns : {b : ℕ} {ts us : List Token} {rs : List Result} → Separated (IsResult b) right_round ts rs us → Columns 2 b ts (types_of rs) us
unfolding types_of
columns (last h e) = one-column h e
columns (next h e s) = more-columns h e (columns s)

pub tuple-columns : {b : ℕ} {ts us : List Token} {vs : Tys} → IsTypes b ts vs us → Columns 0 b ts vs us
tuple-columns (last-type t e) = last-column t e
tuple-columns (next-type t e s) = next-column t e (tuple-columns s)
