-- What only the contracts of the rules of a document under its list cite: the faults of a call that need the list.
use Rattle.std.specs.Prelude.{List, ◌++◌}
use Rattle.syntax.specs.Tree.{Header, Call}
use Rattle.lists.specs.Fault.{Fault}
use Rattle.documents.specs.DocumentRules.{undeclared, argument_faults, unmatched}

-- the faults of a call that need the list: 15 to 20
unfoldable pub operation_faults : List Header → Call → List Fault
operation_faults hs c = undeclared hs c ++ (argument_faults hs c ++ unmatched hs c)
