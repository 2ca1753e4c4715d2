-- Orders of the calls of a document, in the order in which to read them.
pub mod Code
pub mod Order
pub mod Answer
pub mod InOrder
-- What only the contracts of the code cite.
pub mod Scratch
