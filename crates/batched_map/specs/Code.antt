-- What only the code and its proofs cite: the ranges of a map, and the pieces of a batch.
pub mod Ranges
pub mod Pieces
