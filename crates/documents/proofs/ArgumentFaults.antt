-- Faults of arguments as the code holds them: a fault at the place of a token, and that of a value that does not fit.
use mathlib.Core.Path.{◌≡◌, sym, ap, ◌∙◌}
use mathlib.Core.Bool.{true, false}
use mathlib.Core.List.{List}
use mathlib.Core.Option.{Option, some}
use Prim.Native.Nat.{ℕ, ◌<◌}
use Rattle.lexis.specs.Lexer.{Token}
use Rattle.syntax.specs.Tree.{Value, Ty}
use Rattle.syntax.specs.Grammar.{both}
use Rattle.syntax.specs.Parser.{value}
use Rattle.syntax.specs.Parser.Parse.{ok}
use Rattle.syntax.specs.Table.{token_at, toks}
use Rattle.lists.specs.declared.best.Best.{Best}
use Rattle.lists.specs.Fault.{Fault, fault, first}
use Rattle.lists.specs.Best.{clean, meant}
use Rattle.lists.specs.Names.{start_of}
use Rattle.lists.specs.Reading.{fits}
use Rattle.documents.specs.Binding.{misfit}
use Rattle.documents.proofs.ArgumentCalls.{value-starts}

module _ (text table : List ℕ) (n i b : ℕ) {x : Value} {us : List Token} (h : value both b (toks text table n i) ≡ ok x us) {m : Option Fault} where
  -- a fault at a value's place
  pub starts-at : (code : ℕ) → (i < n → m ≡ some (fault code (token_at text table i).start)) → m ≡ some (fault code (start_of x))
  starts-at code f = let s = value-starts text table n i b h in f s.within ∙ ap (λ (t : Token). some (fault code t.start)) (sym s.first)

  pub misfit-no : (u : Ty) → fits x u ≡ false → (i < n → m ≡ some (fault 18 (token_at text table i).start)) → m ≡ first (misfit u (some x))
  unfolding first
  misfit-no u e f = starts-at 18 f ∙ simp e

pub misfit-yes : (x : Value) (u : Ty) {r : Best} → fits x u ≡ true → r ≡ clean → meant r ≡ first (misfit u (some x))
unfolding first meant
misfit-yes x u e f = ap meant f ∙ simp e
