-- Definitions that only code and proofs cite: how many of the lists are not empty.
pub mod NonEmpty
