-- The definitions that the contracts cite.
pub mod Comparison
-- What only the contracts of the code cite: bytes as one number.
pub mod Packed
