-- The call table and the wire table of an accepted document.
use Rattle.std.specs.Prelude.{ℕ, suc, cond, length}
use mathlib.Core.List.{List, [], ◌∷◌, flat_map}
use Rattle.lexis.specs.Lexer.{Token}
use Rattle.syntax.specs.Tree.{Header, Call, Document}
use Rattle.lists.specs.Names.{is_among, assigned, used, all_used}
use Rattle.lists.specs.Found.{index_of}

-- for each call: operation index, byte position of its name, identifiers assigned, identifiers used
unfoldable pub call_record : List Header → Call → List ℕ
call_record hs c = index_of hs c.op ∷ c.op.start ∷ length (assigned c) ∷ length (used c) ∷ []

unfoldable pub call_table : List Header → Document → List ℕ
call_table hs d = flat_map (call_record hs) d.calls

-- the index of the first call that assigns an identifier
unfoldable pub assigner : List Call → Token → ℕ
assigner [] t = 0
assigner (c ∷ cs) t = let r = suc (assigner cs t) in cond (is_among (assigned c) t) 0 r

-- for each use in reading order: position, index of the assigning call
unfoldable pub wire_table : Document → List ℕ
wire_table d = flat_map (λ (t : Token). t.start ∷ assigner d.calls t ∷ []) (all_used d.calls)
