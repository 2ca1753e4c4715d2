-- What the walks over the names of a document do, for whatever names the index has: the names of the header, of left sides, of arguments.
use Rattle.std.specs.Prelude.{ℕ, suc, ◌≡◌, Bool, List, ◌++◌, length}
use Rattle.lexis.specs.Lexer.{Token}
use Rattle.syntax.specs.Tree.{Call}
use Rattle.lists.specs.Fault.{faults, starts, earlier, first}
use Rattle.lists.specs.Best.{meant}
use Rattle.lists.specs.Names.{all_assigned}
use Rattle.lists.specs.declared.best.Best.{Best}
use Rattle.documents.specs.Wiring.{strangers}
use Rattle.documents.specs.Walks.{listing, assigning, consuming, Turn}
use Rattle.documents.specs.Naming.{Entry, numbered, input_word, headed, assigners, Naming}
use Rattle.documents.specs.Records.{wires_stored}
use Rattle.documents.specs.declared.wiring.Tally.{Tally}

-- between the places i and j the names ts are listed with this number: 12 and 13
abbrev pub ListsNames : List ℕ → List ℕ → List ℕ → List ℕ → ℕ → ℕ → ℕ → ℕ → List Token → Tally → Tally → Type 0
ListsNames text table index index' i j size which ts tally r =
    (before ss : List Token) (made : List Entry) → Naming text table index i (numbered input_word before ++ numbered which ss) made → tally.count ≡ length ss
    → Turn (listing size before) ss ts tally r (Naming text table index' j (numbered input_word before ++ numbered which (ss ++ ts)) made)

-- between the places i and j call number k assigns the names ts: 12, 21 and 23
abbrev pub Assigns : List ℕ → List ℕ → List ℕ → List ℕ → ℕ → ℕ → ℕ → Bool → List Token → Tally → Tally → Type 0
Assigns text table index index' i j k external ts tally r =
    (ins outs : List Token) (ds : List Call) (ss : List Token) → k ≡ length ds
    → Naming text table index i (headed ins outs) (assigners ds ++ numbered (suc k) ss) → tally.count ≡ length (all_assigned ds ++ ss)
    → Turn (assigning ins external) (all_assigned ds ++ ss) ts tally r
    (Naming text table index' j (headed ins outs) (assigners ds ++ numbered (suc k) (ss ++ ts)))

-- call number k, whose left side assigns ls, uses the names ts, whose wires are stored: 12 and 22
abbrev pub Uses : List ℕ → List ℕ → List ℕ → List ℕ → List ℕ → ℕ → List Token → Tally → Tally → Type 0
Uses text table index records records' k ts tally r =
    (i : ℕ) (es : List Entry) (ds : List Call) (ls ss : List Token) → k ≡ length ds
    → Naming text table index i es (assigners ds ++ numbered (suc k) ls) → tally.count ≡ length ss
    → Turn (consuming (all_assigned ds)) ss ts tally r (records' ≡ wires_stored (assigners ds ++ numbered (suc k) ls) k records tally.count ts)

-- those of the names ts that no call assigns are faults of this code
abbrev pub Unassigned : List ℕ → List ℕ → List ℕ → ℕ → List Token → Best → Best → Type 0
Unassigned text table index code ts best r =
    (i : ℕ) (es : List Entry) (cs : List Call) → Naming text table index i es (assigners cs)
    → meant r ≡ earlier (meant best) (first (faults code (starts (strangers (all_assigned cs) ts))))
