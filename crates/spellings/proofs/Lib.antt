-- The theorems, the page to read first.
pub mod Theorems
-- The laws: when two spellings are the same, after how many pairs, and how a comparison ends.
pub mod Spellings
pub mod Pairs
pub mod Outcomes
