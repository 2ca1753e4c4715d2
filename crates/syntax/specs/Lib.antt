-- The definitions that the contracts cite, in the order in which to read them (the terminals are those of `lexis`): trees, the grammar, the parser, what
-- the place of a fault means, and a whole text. A reader who believes the grammar and `Fault` need not read the parser:
-- `proofs/Theorems` says what it answers.
pub mod Code
pub mod Tree
pub mod Grammar
pub mod Parser
pub mod Fault
pub mod Read
-- Only the contracts of the inner functions cite these: tokens in a table, and parts of what is read.
pub mod Table
pub mod Tokens
pub mod Inner
