use Rattle.lists.specs.Scans.{from_symbol}
use Rattle.syntax.specs.Tokens.{from}
use Prim.Native.Nat.{◌≤◌}
use mathlib.Core.Path.{◌≡◌}
use Rattle.documents.proofs.calls.find.Given as goal

abbrev pub invariant-loop-i : goal.invariant-loop-i
invariant-loop-i l = (l.at ≤ l.i) × (from_symbol l.s (from l.tokens l.at) ≡ from_symbol l.s (from l.tokens l.i))
