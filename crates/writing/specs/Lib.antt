-- The plan of a document, how its values are spelt, its canonical text, and which plans are lawful, in the order in which to read them.
pub mod Plan
pub mod Spelling
pub mod Pieces
pub mod Layout
pub mod Fit
pub mod Lawful
-- What only the contracts of the code cite.
pub mod Writing
