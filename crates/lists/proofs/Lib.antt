-- The theorems, the page to read first.
pub mod Theorems
-- The order of faults; texts that pass.
pub mod First
pub mod Acceptance
pub mod Guards
pub mod Members
-- Fitting: numbers at extent, leaves, trees, the numbers and the tokens of types.
pub mod Extents
pub mod Leaves
pub mod Fits
pub mod TypeCodes
pub mod Phrases
pub mod TypeTokens
pub mod Answers
pub mod Matching
-- Names: parts of a table, rules of single names.
pub mod Parts
pub mod Rules
pub mod NameScans
pub mod Bests
pub mod Masks
-- Operation lists: flat scans, headers, the directory, the stages.
pub mod HeaderScans
pub mod HeaderParses
pub mod Defaults
pub mod ListFaults
pub mod RowFaults
pub mod NameMarks
pub mod Records
pub mod RowParses
pub mod GivenDefaults
pub mod RowWalks
pub mod ResultCodes
pub mod HeaderReads
pub mod Faultless
pub mod Directories
pub mod ListStages
-- What a list is refused for, and what is answered.
pub mod Lines
pub mod Refusals
pub mod ListAnswers
