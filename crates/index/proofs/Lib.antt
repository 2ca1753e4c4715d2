-- The theorems, the page to read first.
pub mod Theorems
-- The laws: the hash, the search along a chain, and one more name entered.
pub mod Hashes
pub mod Chains
pub mod Steps
