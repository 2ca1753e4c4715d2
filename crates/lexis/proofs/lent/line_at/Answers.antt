-- The bytes 10 are counted.
use mathlib.Core.Path.{◌≡◌, ap}
use mathlib.Core.Bool.{cond}
use mathlib.Core.List.{List}
use Prim.Native.Nat.{ℕ, suc, ◌+◌}
use native.Mathlib.Omega.{arith}
use Rattle.std.proofs.Common.{eqb, refl, rules}
use Rattle.std.proofs.lemmas.List.Recursion.{is_count_by}
use Rattle.lexis.specs.Line.{line_feeds}
use Rattle.lexis.proofs.lent.line_at.Goals as goal

pub returns : goal.returns
unfolding line_feeds
returns c = search (rules, is_count_by line_feeds (λ x. eqb x 10) refl more)
  where
    more : (x : ℕ) (s : List ℕ) → cond (eqb x 10) (suc (line_feeds s)) (line_feeds s) ≡ cond (eqb x 10) (1 + line_feeds s) (line_feeds s)
    more x s = let one : suc (line_feeds s) ≡ 1 + line_feeds s = omega arith in ap (λ (n : ℕ). cond (eqb x 10) n (line_feeds s)) one
