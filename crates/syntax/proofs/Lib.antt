-- The theorems, the page to read first.
pub mod Theorems
-- The parser and the grammar: rows without fuel, what is left, locality, the bracket limit, soundness with viability, completeness.
pub mod Row
pub mod Shrinks
pub mod Local
pub mod LocalReaders
pub mod Limit
pub mod Stable
pub mod Samples
pub mod Right
pub mod Sound
pub mod Complete
pub mod Whole
-- The code and the parser: tokens in a table, one reader after another, and a file of laws for each module of the code.
pub mod Tails
pub mod Table
pub mod Decode
pub mod Chain
pub mod Symbols
pub mod Rows
pub mod Values
pub mod TypeSpecs
pub mod Lists
pub mod Headers
pub mod Graphs
pub mod Reading
