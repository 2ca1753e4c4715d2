-- What the calls passed come to.
use mathlib.Core.Path.{◌≡◌}
use mathlib.Core.List.{List, []}
use Prim.Native.Nat.{◌-◌, ◌≤◌}
use lib.ListN.{length}
use Rattle.lexis.specs.Sizes.{max_brackets}
use Rattle.lexis.specs.Lexer.{Token}
use Rattle.syntax.specs.Tree.{Header, Call}
use Rattle.syntax.specs.Tokens.{from}
use Rattle.index.specs.Indexed.{Walkable}
use Rattle.documents.specs.Calls.{Calls}
use Rattle.documents.specs.Naming.{headed, Naming}
use Rattle.documents.specs.Directories.{Lists}
use Rattle.documents.proofs.BodyWalks.{Going}
use Rattle.documents.proofs.body.body.Given as goal

abbrev pub invariant-loop-walk : goal.invariant-loop-walk
invariant-loop-walk l = (l.walk.calls ≤ l.walk.at) × (l.walk.assigned ≤ l.walk.at) × (l.walk.uses ≤ l.walk.at) × Walkable l.index l.walk.at l.source.tokens.count × Walkable l.index l.source.tokens.count l.source.tokens.count
    × (length l.records ≡ length l.initial.records) × (length l.index ≡ length l.initial.index)
    × ((hs : List Header) (ins outs : List Token) (cs : List Call) → Lists l.directory hs
    → Calls max_brackets (from l.source.tokens l.graph.body) cs (from l.source.tokens l.graph.end)
    → Naming l.source.tokens.text.now l.source.tokens.table.now l.initial.index l.graph.body (headed ins outs) [] → Going l.source.tokens.text.now l.source.tokens.table.now l.source.tokens.count l.graph.body l.graph.end hs ins outs cs l.index l.records l.walk)

abbrev pub decreases-loop-walk : goal.decreases-loop-walk
decreases-loop-walk l = l.graph.end - l.walk.at
