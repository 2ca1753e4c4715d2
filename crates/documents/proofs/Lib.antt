-- The theorems, the page to read first.
pub mod Theorems
-- Documents that pass; wires.
pub mod Acceptance
pub mod Members
pub mod Wired
-- Binding: masks; the slots and the faults of one argument more; readers over the two tables; the tally of a call's arguments.
pub mod Masks
pub mod Labels
pub mod Sought
pub mod Slots
pub mod Turns
pub mod RowParses
pub mod Items
pub mod ArgumentCalls
pub mod ArgumentFaults
pub mod DirectoryEntries
pub mod Aims
pub mod Tallying
-- Names, calls and documents.
pub mod CallParses
pub mod Bodies
pub mod Flat
pub mod CallPlaces
pub mod Scanning
pub mod Lookups
pub mod Entries
pub mod NameTurns
pub mod Walking
pub mod DocumentFaults
pub mod Sums
pub mod Recording
pub mod BodyWalks
pub mod Documents
pub mod DocumentWalks
-- Documents under a list.
pub mod Lines
pub mod Refusals
pub mod Declared
pub mod CallUsage
pub mod Judgements
pub mod BothStages
pub mod Checks
pub mod RefusalNumbers
