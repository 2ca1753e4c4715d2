-- The plan of an accepted document exists: plans that fit, runs of bytes, good tokens, no faults, what a plan says of a document.
pub mod Fit
pub mod Runs
pub mod Good
pub mod PlanExists
pub mod Planned
pub mod Found
-- The code that puts the pieces into the output: parts one after the other, and whole texts.
pub mod Putting
pub mod Measures
-- Spellings, values, arguments, names and left sides.
pub mod Spelled
pub mod Signs
pub mod Leaves
pub mod ReadParts
pub mod ValuePuts
pub mod Arguments
pub mod ArgumentPlaces
pub mod ArgumentPuts
pub mod NameRows
pub mod Patterns
-- Calls and the document.
pub mod Titles
pub mod CallWrites
