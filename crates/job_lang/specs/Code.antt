-- What only the code and its proofs cite: no public contract speaks of it.
pub mod Numbered
pub mod Orders
pub mod Pruning
pub mod Ranges
pub mod Scoped
pub mod Searches
