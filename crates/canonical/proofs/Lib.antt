-- The demands, the theorems of canon and the worked cases, the pages to read first; then what the first of them cites.
pub mod Demands
pub mod Theorems
pub mod Cases
pub mod Answers
pub mod InTables
-- The trees of canonical text.
pub mod Shape
-- The plan of an accepted document fits: values, documents.
pub mod Fitted
pub mod PlanFitted
-- Canonical text is lexed back: digits, numbers, pieces, the document.
pub mod Digits
pub mod Numbers
pub mod Lexing
pub mod CanonicalTokens
-- It is read back, and planned back.
pub mod Reread
pub mod RereadDocument
pub mod Replan
-- Its tree has no faults: empty lists, names by their bytes, names in values, defaults, uses, named arguments, documents of one plan.
pub mod Clean
pub mod Spelt
pub mod ValueNames
pub mod Defaults
pub mod Uses
pub mod BoundUses
pub mod NamedArguments
pub mod Alike
pub mod CanonicalFaults
-- Lawful plans are the plans of texts: names by their bytes, values and operations, rules, the theorems.
pub mod PlanNames
pub mod LawfulFits
pub mod LawfulRules
pub mod Lawful
-- Calls in another order: lists arranged; the lines of a text; rows of names and their wires; those of plans;
-- documents of one plan; the theorems.
pub mod Arrangement
pub mod CallLines
pub mod RowWires
pub mod PlanRows
pub mod OnePlan
pub mod Arranged
-- canon, and what the program shows.
pub mod CanonStages
pub mod Shown
