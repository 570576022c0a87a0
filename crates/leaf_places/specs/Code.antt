-- What only the code and its proofs cite: no public contract speaks of it.
pub mod Walk
