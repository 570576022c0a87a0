-- Cited by code and proofs only: a tally under extension, and how a batch keeps its entries.
pub mod Storages
pub mod Tallies
