-- The theorems, the page to read first.
pub mod Theorems
-- Permutations; the faults of places; orders without a fault, and the first one.
pub mod Permutations
pub mod Places
pub mod InOrder
-- The work areas: marks; needs as records have them; codes by both; the walk.
pub mod Marks
pub mod Rows
pub mod Codes
pub mod Walked
-- The records of an accepted document; the answer.
pub mod Recorded
pub mod Judged
